use Rattle.std.proofs.Common.{◌∙◌, ap, refl, sym, subst}
use Rattle.std.specs.Prelude.{option_map}
use Rattle.reception.specs.Answer.{IsAnswer}
use Rattle.reception.proofs.Looks.{length_look}
use Rattle.receiver.specs.Fed.{HoldsFor}
use Rattle.receiver.specs.Putting.{IsPutFault}
use Rattle.receiver.specs.Receiving.{with_datagram}
use Rattle.receiver.specs.Stands.{StandsWith}
use Rattle.receiver.specs.declared.receiver.FeedFault.TheVariants.{Full, Early}
use Rattle.receiver.specs.declared.receiving.Receiving.{Receiving}
use Rattle.receiver.proofs.Begun.{begins}
use Rattle.receiver.proofs.Fed.{faulty, fti_was, store_fti, held, accepted, passed_over, refused, refusal_told, if_refused, not_refused, none_before, not_early_fault, not_early_other, not_early_packet, comes_early}
use Rattle.receiver.proofs.Told.{unless, is_broken, err_then, err_is}
use Rattle.receiver.proofs.receiving.Receiving.feed.Goals as goal

pub returns-in-Some-clause-fault : goal.returns-in-Some-clause-fault
returns-in-Some-clause-fault g c = λ ds stands.
    let bad = rw c.in-Some.is at c.fault_at.ensures.fault in
    subst (λ v. IsAnswer c.args.self.now.identity (with_datagram ds c.args.datagram.now) v) (sym bad.2)
    (faulty c.args.self.now (g.B.BlockBytes.kept c.args.bytes.now) ds stands c.args.datagram.now c.are_bytes.ensures c.scope-scope.result c.look-look.new.self (c.scope-scope.ensures.scope (g.B.BlockBytes.kept c.args.bytes.now) ds stands) c.look-look.result bad.0 c.look-look.ensures bad.1)

pub put-requires-clause-symbol : goal.put-requires-clause-symbol
put-requires-clause-symbol g c =
    length_look c.args.datagram.now c.scope-scope.result c.look-look.new.self c.in-Ok-InRange.packet (rw (c.in-Ok-InRange.is, c.in-Ok-InRange.field-0-is) at c.look-look.ensures) c.unwrap-fti.result c.unwrap-fti.ensures

pub put-requires-clause-fti : goal.put-requires-clause-fti
put-requires-clause-fti g c =
    let look = (rw (c.in-Ok-InRange.is, c.in-Ok-InRange.field-0-is) at c.look-look.ensures) in
    store_fti c.args.self.now.store c.unwrap-fti.result
    (λ h e. fti_was c.args.datagram.now c.scope-scope.result c.look-look.new.self c.in-Ok-InRange.packet look c.unwrap-fti.result c.unwrap-fti.ensures h (c.scope-scope.ensures.fti ∙ e))

pub returns-in_err-put-clause-refused : goal.returns-in_err-put-clause-refused
returns-in_err-put-clause-refused g c = λ ds stands.
    let look = (rw (c.in-Ok-InRange.is, c.in-Ok-InRange.field-0-is) at c.look-look.ensures) in
    let h = held c.args.self.now (g.B.BlockBytes.kept c.args.bytes.now) ds stands c.args.datagram.now c.are_bytes.ensures c.scope-scope.result c.look-look.new.self (c.scope-scope.ensures.scope (g.B.BlockBytes.kept c.args.bytes.now) ds stands) c.in-Ok-InRange.packet look c.unwrap-fti.result c.unwrap-fti.ensures in
    let now = g.B.BlockBytes.kept c.put.new.bytes in
    let k = c.in-Ok-InRange.packet in
    let receiving : Receiving = record { identity = c.args.self.now.identity; store = c.put.new.store; accepted = c.args.self.now.accepted } in
    err_then c.from_residual.result c.in_err-put.field-0.0 _ c.from_residual.ensures.1
    (if_refused (StandsWith receiving now ds) (g.B.BlockBytes.failed c.put.new.bytes) c.in_err-put.field-0.0
    (unless (g.B.BlockBytes.failed c.put.new.bytes) c.in_err-put.field-0.0 (IsPutFault c.unwrap-fti.result c.args.self.now.accepted k (h.0 k.sbn) c.in_err-put.field-0.0 × HoldsFor c.unwrap-fti.result now c.put.new.store h.0) (StandsWith receiving now ds)
    (λ o. refused c.args.self.now (g.B.BlockBytes.kept c.args.bytes.now) ds stands c.args.datagram.now c.are_bytes.ensures c.scope-scope.result c.look-look.new.self (c.scope-scope.ensures.scope (g.B.BlockBytes.kept c.args.bytes.now) ds stands) c.in-Ok-InRange.packet look c.unwrap-fti.result c.unwrap-fti.ensures
    h.0 h.1 now (g.B.BlockBytes.all_told c.put.new.bytes) c.put.new.store c.put.ensures.sound o.1 c.in_err-put.ensures.none)
    (c.in_err-put.ensures.outcome h.0 h.2).1))

pub returns-in_err-put-clause-fault : goal.returns-in_err-put-clause-fault
returns-in_err-put-clause-fault g c = λ ds stands.
    let look = (rw (c.in-Ok-InRange.is, c.in-Ok-InRange.field-0-is) at c.look-look.ensures) in
    let h = held c.args.self.now (g.B.BlockBytes.kept c.args.bytes.now) ds stands c.args.datagram.now c.are_bytes.ensures c.scope-scope.result c.look-look.new.self (c.scope-scope.ensures.scope (g.B.BlockBytes.kept c.args.bytes.now) ds stands) c.in-Ok-InRange.packet look c.unwrap-fti.result c.unwrap-fti.ensures in
    let k = c.in-Ok-InRange.packet in
    err_then c.from_residual.result c.in_err-put.field-0.0 _ c.from_residual.ensures.1
    (refusal_told c.args.self.now (g.B.BlockBytes.kept c.args.bytes.now) ds stands c.args.datagram.now c.are_bytes.ensures c.scope-scope.result c.look-look.new.self (c.scope-scope.ensures.scope (g.B.BlockBytes.kept c.args.bytes.now) ds stands) c.in-Ok-InRange.packet look c.unwrap-fti.result c.unwrap-fti.ensures
    h.0 h.1 c.is_valid.ensures h.2 (g.B.BlockBytes.failed c.put.new.bytes) c.in_err-put.field-0.0
    (unless (g.B.BlockBytes.failed c.put.new.bytes) c.in_err-put.field-0.0 (IsPutFault c.unwrap-fti.result c.args.self.now.accepted k (h.0 k.sbn) c.in_err-put.field-0.0 × HoldsFor c.unwrap-fti.result (g.B.BlockBytes.kept c.put.new.bytes) c.put.new.store h.0)
    (IsPutFault c.unwrap-fti.result c.args.self.now.accepted k (h.0 k.sbn) c.in_err-put.field-0.0) (λ o. o.0) (c.in_err-put.ensures.outcome h.0 h.2).1))

-- reading or writing has failed where that is told
pub returns-in_err-put-clause-fails : goal.returns-in_err-put-clause-fails
returns-in_err-put-clause-fails g c = λ ds stands is.
    let look = (rw (c.in-Ok-InRange.is, c.in-Ok-InRange.field-0-is) at c.look-look.ensures) in
    let h = held c.args.self.now (g.B.BlockBytes.kept c.args.bytes.now) ds stands c.args.datagram.now c.are_bytes.ensures c.scope-scope.result c.look-look.new.self (c.scope-scope.ensures.scope (g.B.BlockBytes.kept c.args.bytes.now) ds stands) c.in-Ok-InRange.packet look c.unwrap-fti.result c.unwrap-fti.ensures in
    is_broken (g.B.BlockBytes.failed c.put.new.bytes) c.in_err-put.field-0.0 _ (c.in_err-put.ensures.outcome h.0 h.2).1 (err_is c.from_residual.result c.in_err-put.field-0.0 _ c.from_residual.ensures.1 is)

pub returns-in_err-put-clause-full : goal.returns-in_err-put-clause-full
returns-in_err-put-clause-full g c = λ ds stands.
    let look = (rw (c.in-Ok-InRange.is, c.in-Ok-InRange.field-0-is) at c.look-look.ensures) in
    let h = held c.args.self.now (g.B.BlockBytes.kept c.args.bytes.now) ds stands c.args.datagram.now c.are_bytes.ensures c.scope-scope.result c.look-look.new.self (c.scope-scope.ensures.scope (g.B.BlockBytes.kept c.args.bytes.now) ds stands) c.in-Ok-InRange.packet look c.unwrap-fti.result c.unwrap-fti.ensures in
    let k = c.in-Ok-InRange.packet in (
      λ is. absurd
          (not_refused Full (g.B.BlockBytes.failed c.put.new.bytes) c.in_err-put.field-0.0 c.unwrap-fti.result c.args.self.now.accepted k (h.0 k.sbn) _ (λ none. none.0) (c.in_err-put.ensures.outcome h.0 h.2).1
          (err_is c.from_residual.result c.in_err-put.field-0.0 _ c.from_residual.ensures.1 is)),
      λ full. absurd (c.if-self.false (stands.count ∙ full)),
    )

pub returns-in_err-put-clause-memory : goal.returns-in_err-put-clause-memory
returns-in_err-put-clause-memory g c = λ ds stands is i e answer.
    let look = (rw (c.in-Ok-InRange.is, c.in-Ok-InRange.field-0-is) at c.look-look.ensures) in
    none_before c.args.self.now (g.B.BlockBytes.kept c.args.bytes.now) ds stands c.args.datagram.now c.are_bytes.ensures c.scope-scope.result c.look-look.new.self (c.scope-scope.ensures.scope (g.B.BlockBytes.kept c.args.bytes.now) ds stands) c.in-Ok-InRange.packet look c.unwrap-fti.result c.unwrap-fti.ensures i e answer

pub returns-clause-accepted : goal.returns-clause-accepted
returns-clause-accepted g c = λ ds stands.
    let look = (rw (c.in-Ok-InRange.is, c.in-Ok-InRange.field-0-is) at c.look-look.ensures) in
    let h = held c.args.self.now (g.B.BlockBytes.kept c.args.bytes.now) ds stands c.args.datagram.now c.are_bytes.ensures c.scope-scope.result c.look-look.new.self (c.scope-scope.ensures.scope (g.B.BlockBytes.kept c.args.bytes.now) ds stands) c.in-Ok-InRange.packet look c.unwrap-fti.result c.unwrap-fti.ensures in
    let o = (c.in_ok-put.ensures.outcome h.0 h.2).0 in
    let now = accepted c.args.self.now (g.B.BlockBytes.kept c.args.bytes.now) ds stands c.args.datagram.now c.are_bytes.ensures c.scope-scope.result c.look-look.new.self (c.scope-scope.ensures.scope (g.B.BlockBytes.kept c.args.bytes.now) ds stands) c.in-Ok-InRange.packet look c.unwrap-fti.result c.unwrap-fti.ensures
    h.0 h.1 o.0 (g.B.BlockBytes.kept c.put.new.bytes) c.put.new.store c.put.ensures.sound o.1 c.in_ok-put.ensures.some in
    rw c.accept-2.ensures.accepted now

pub returns-clause-progress : goal.returns-clause-progress
returns-clause-progress g c = λ ds stands.
    let look = (rw (c.in-Ok-InRange.is, c.in-Ok-InRange.field-0-is) at c.look-look.ensures) in
    let h = held c.args.self.now (g.B.BlockBytes.kept c.args.bytes.now) ds stands c.args.datagram.now c.are_bytes.ensures c.scope-scope.result c.look-look.new.self (c.scope-scope.ensures.scope (g.B.BlockBytes.kept c.args.bytes.now) ds stands) c.in-Ok-InRange.packet look c.unwrap-fti.result c.unwrap-fti.ensures in
    let o = (c.in_ok-put.ensures.outcome h.0 h.2).0 in
    let now = accepted c.args.self.now (g.B.BlockBytes.kept c.args.bytes.now) ds stands c.args.datagram.now c.are_bytes.ensures c.scope-scope.result c.look-look.new.self (c.scope-scope.ensures.scope (g.B.BlockBytes.kept c.args.bytes.now) ds stands) c.in-Ok-InRange.packet look c.unwrap-fti.result c.unwrap-fti.ensures
    h.0 h.1 o.0 (g.B.BlockBytes.kept c.put.new.bytes) c.put.new.store c.put.ensures.sound o.1 c.in_ok-put.ensures.some in
    (rw c.accept-2.ensures.accepted at c.accept-2.ensures.progress) (g.B.BlockBytes.kept c.put.new.bytes) (with_datagram ds c.args.datagram.now) now

pub returns-clause-sound_answer : goal.returns-clause-sound_answer
returns-clause-sound_answer g c = λ ds stands.
    let look = (rw (c.in-Ok-InRange.is, c.in-Ok-InRange.field-0-is) at c.look-look.ensures) in
    let h = held c.args.self.now (g.B.BlockBytes.kept c.args.bytes.now) ds stands c.args.datagram.now c.are_bytes.ensures c.scope-scope.result c.look-look.new.self (c.scope-scope.ensures.scope (g.B.BlockBytes.kept c.args.bytes.now) ds stands) c.in-Ok-InRange.packet look c.unwrap-fti.result c.unwrap-fti.ensures in
    let o = (c.in_ok-put.ensures.outcome h.0 h.2).0 in
    let now = accepted c.args.self.now (g.B.BlockBytes.kept c.args.bytes.now) ds stands c.args.datagram.now c.are_bytes.ensures c.scope-scope.result c.look-look.new.self (c.scope-scope.ensures.scope (g.B.BlockBytes.kept c.args.bytes.now) ds stands) c.in-Ok-InRange.packet look c.unwrap-fti.result c.unwrap-fti.ensures
    h.0 h.1 o.0 (g.B.BlockBytes.kept c.put.new.bytes) c.put.new.store c.put.ensures.sound o.1 c.in_ok-put.ensures.some in
    (rw c.accept-2.ensures.accepted at c.accept-2.ensures.sound) (g.B.BlockBytes.kept c.put.new.bytes) (with_datagram ds c.args.datagram.now) now

pub returns-in-Ok-Other-clause-accepted : goal.returns-in-Ok-Other-clause-accepted
returns-in-Ok-Other-clause-accepted g c = λ ds stands.
    let now = passed_over c.args.self.now (g.B.BlockBytes.kept c.args.bytes.now) ds stands c.args.datagram.now c.are_bytes.ensures c.scope-scope.result c.look-look.new.self (c.scope-scope.ensures.scope (g.B.BlockBytes.kept c.args.bytes.now) ds stands)
    (rw (c.in-Ok-Other.is, c.in-Ok-Other.field-0-is) at c.look-look.ensures) in
    rw c.accept.ensures.accepted now

pub returns-in-Ok-Other-clause-progress : goal.returns-in-Ok-Other-clause-progress
returns-in-Ok-Other-clause-progress g c = λ ds stands.
    let now = passed_over c.args.self.now (g.B.BlockBytes.kept c.args.bytes.now) ds stands c.args.datagram.now c.are_bytes.ensures c.scope-scope.result c.look-look.new.self (c.scope-scope.ensures.scope (g.B.BlockBytes.kept c.args.bytes.now) ds stands)
    (rw (c.in-Ok-Other.is, c.in-Ok-Other.field-0-is) at c.look-look.ensures) in
    (rw c.accept.ensures.accepted at c.accept.ensures.progress) (g.B.BlockBytes.kept c.args.bytes.now) (with_datagram ds c.args.datagram.now) now

pub returns-in-Ok-Other-clause-sound_answer : goal.returns-in-Ok-Other-clause-sound_answer
returns-in-Ok-Other-clause-sound_answer g c = λ ds stands.
    let now = passed_over c.args.self.now (g.B.BlockBytes.kept c.args.bytes.now) ds stands c.args.datagram.now c.are_bytes.ensures c.scope-scope.result c.look-look.new.self (c.scope-scope.ensures.scope (g.B.BlockBytes.kept c.args.bytes.now) ds stands)
    (rw (c.in-Ok-Other.is, c.in-Ok-Other.field-0-is) at c.look-look.ensures) in
    (rw c.accept.ensures.accepted at c.accept.ensures.sound) (g.B.BlockBytes.kept c.args.bytes.now) (with_datagram ds c.args.datagram.now) now

-- ---- early packets

pub returns-in-Ok-Early-clause-early : goal.returns-in-Ok-Early-clause-early
returns-in-Ok-Early-clause-early g c = λ ds stands. (
  λ is. (
    λ full. c.if-self.false (stands.count ∙ full),
    comes_early c.args.self.now (g.B.BlockBytes.kept c.args.bytes.now) ds stands c.args.datagram.now c.are_bytes.ensures c.scope-scope.result c.look-look.new.self (c.scope-scope.ensures.scope (g.B.BlockBytes.kept c.args.bytes.now) ds stands)
        (rw (c.in-Ok-Early.is, c.in-Ok-Early.field-0-is) at c.look-look.ensures),
  ),
  λ comes. refl,
)

pub returns-in-Ok-Other-clause-early : goal.returns-in-Ok-Other-clause-early
returns-in-Ok-Other-clause-early g c = λ ds stands. (
  λ is. absurd (cc),
  λ comes. absurd
      (not_early_other c.args.self.now (g.B.BlockBytes.kept c.args.bytes.now) ds stands c.args.datagram.now c.are_bytes.ensures c.scope-scope.result c.look-look.new.self (c.scope-scope.ensures.scope (g.B.BlockBytes.kept c.args.bytes.now) ds stands)
      (rw (c.in-Ok-Other.is, c.in-Ok-Other.field-0-is) at c.look-look.ensures) comes.1),
)

pub returns-in-Some-clause-early : goal.returns-in-Some-clause-early
returns-in-Some-clause-early g c = λ ds stands. (
  λ is. absurd (cc),
  λ comes.
      let bad = rw c.in-Some.is at c.fault_at.ensures.fault in
      absurd
      (not_early_fault c.args.self.now (g.B.BlockBytes.kept c.args.bytes.now) ds stands c.args.datagram.now c.are_bytes.ensures c.scope-scope.result c.look-look.new.self (c.scope-scope.ensures.scope (g.B.BlockBytes.kept c.args.bytes.now) ds stands)
      c.look-look.result bad.0 c.look-look.ensures bad.1 comes.1),
)

pub returns-in_err-put-clause-early : goal.returns-in_err-put-clause-early
returns-in_err-put-clause-early g c = λ ds stands.
    let look = (rw (c.in-Ok-InRange.is, c.in-Ok-InRange.field-0-is) at c.look-look.ensures) in
    let h = held c.args.self.now (g.B.BlockBytes.kept c.args.bytes.now) ds stands c.args.datagram.now c.are_bytes.ensures c.scope-scope.result c.look-look.new.self (c.scope-scope.ensures.scope (g.B.BlockBytes.kept c.args.bytes.now) ds stands) c.in-Ok-InRange.packet look c.unwrap-fti.result c.unwrap-fti.ensures in
    let k = c.in-Ok-InRange.packet in (
      λ is. absurd
          (not_refused Early (g.B.BlockBytes.failed c.put.new.bytes) c.in_err-put.field-0.0 c.unwrap-fti.result c.args.self.now.accepted k (h.0 k.sbn) _ (λ none. none.0) (c.in_err-put.ensures.outcome h.0 h.2).1
          (err_is c.from_residual.result c.in_err-put.field-0.0 _ c.from_residual.ensures.1 is)),
      λ comes. absurd
          (not_early_packet c.args.self.now (g.B.BlockBytes.kept c.args.bytes.now) ds stands c.args.datagram.now c.are_bytes.ensures c.scope-scope.result c.look-look.new.self (c.scope-scope.ensures.scope (g.B.BlockBytes.kept c.args.bytes.now) ds stands)
          c.in-Ok-InRange.packet look comes.1),
    )

pub returns-clause-early : goal.returns-clause-early
returns-clause-early g c = λ ds stands. (
  λ is. absurd (cc),
  λ comes. absurd
      (not_early_packet c.args.self.now (g.B.BlockBytes.kept c.args.bytes.now) ds stands c.args.datagram.now c.are_bytes.ensures c.scope-scope.result c.look-look.new.self (c.scope-scope.ensures.scope (g.B.BlockBytes.kept c.args.bytes.now) ds stands)
      c.in-Ok-InRange.packet (rw (c.in-Ok-InRange.is, c.in-Ok-InRange.field-0-is) at c.look-look.ensures) comes.1),
)

-- ---- where no FTI was known

pub returns-in_err-put-clause-waits : goal.returns-in_err-put-clause-waits
returns-in_err-put-clause-waits g c = λ none not_begun.
    absurd
    (not_begun
    (begins c.args.self.now.identity c.args.datagram.now c.scope-scope.result c.look-look.new.self c.in-Ok-InRange.packet c.scope-scope.ensures.identity
    (c.scope-scope.ensures.fti ∙ ap (option_map (λ s. s.fti)) none) (rw (c.in-Ok-InRange.is, c.in-Ok-InRange.field-0-is) at c.look-look.ensures)))

pub returns-clause-waits : goal.returns-clause-waits
returns-clause-waits g c = λ none not_begun.
    absurd
    (not_begun
    (begins c.args.self.now.identity c.args.datagram.now c.scope-scope.result c.look-look.new.self c.in-Ok-InRange.packet c.scope-scope.ensures.identity
    (c.scope-scope.ensures.fti ∙ ap (option_map (λ s. s.fti)) none) (rw (c.in-Ok-InRange.is, c.in-Ok-InRange.field-0-is) at c.look-look.ensures)))
