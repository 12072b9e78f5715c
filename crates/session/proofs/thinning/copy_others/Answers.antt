use Rattle.std.proofs.Common.{◌≡◌, ◌+◌, ◌∙◌, refl, sym, inr, arith}
use Rattle.std.proofs.lemmas.Result.{err_from_is_err_and}
use Rattle.session.proofs.Thinned.{begins, at_end, unread, some, passed_over, written, unwritten, no_room}
use Rattle.session.proofs.PlaceRanges.{none_begun, still_begun}
use Rattle.session.proofs.thinning.copy_others.Goals as goal
use Rattle.session.proofs.thinning.copy_others.Goals.{then-not-has+in_ok-write_one, else-not-has}

pub loop-datagram-init : goal.loop-datagram-init
loop-datagram-init g c = record {
  copied = λ ranges same. begins ranges (g.R.Read.remaining c.args.reader.now) (g.W.Write.contents c.args.writer.now) (g.W.Write.room c.args.writer.now);
  few = omega arith;
  stays = refl;
  begun = none_begun c.args.lost.now c.requires;
}

pub returns-in_err-datagram-clause-fault : goal.returns-in_err-datagram-clause-fault
returns-in_err-datagram-clause-fault g c = λ ranges same.
    let p = err_from_is_err_and c.from_residual.result c.from_residual.ensures.1 in
    rw (p.1, p.2)
    (unread ranges _ _ _ _ _ _ _ _ (c.loop-datagram.invariant.copied ranges same) c.in_err-datagram.field-0.0 _ _ _ _ c.in_err-datagram.ensures.fault
    (λ io. sym c.loop-datagram.invariant.stays ∙ c.in_err-datagram.ensures.unsound io))

pub returns-in_err-datagram-clause-some : goal.returns-in_err-datagram-clause-some
returns-in_err-datagram-clause-some g c = λ ranges same.
    let p = err_from_is_err_and c.from_residual.result c.from_residual.ensures.1 in
    rw p.1 (some ranges _ _ _ _ _ _ _ _ (c.loop-datagram.invariant.copied ranges same))

pub returns-in_default-clause-copied : goal.returns-in_default-clause-copied
returns-in_default-clause-copied g c = λ ranges same.
    at_end ranges _ _ _ _ _ _ _ _ (c.loop-datagram.invariant.copied ranges same) _ (c.in_ok-datagram.ensures.nothing c.in_default.is)

pub returns-in_default-checked_add-clause-some : goal.returns-in_default-checked_add-clause-some
returns-in_default-checked_add-clause-some g c = λ ranges same.
    some ranges _ _ _ _ _ _ _ _ (c.loop-datagram.invariant.copied ranges same)

pub returns-in_err-write_one-clause-fault : goal.returns-in_err-write_one-clause-fault
returns-in_err-write_one-clause-fault g c = λ ranges same.
    let p = err_from_is_err_and c.from_residual-in_err-write_one.result c.from_residual-in_err-write_one.ensures.1 in
    let one = rw c.in-Some.is at c.in_ok-datagram.ensures.some in
    let stays = sym (same c.loop-datagram.counts.read) ∙ c.meet-begun.ensures.value ∙ sym c.has.ensures ∙ c.if-not-has.true in
    let short = rw c.in-Some.is at c.in_ok-datagram.ensures.short in
    let full = rw c.as_slice.ensures.value at c.in_err-write_one.ensures.full in
    rw (p.1, p.2, c.in_err-write_one.ensures.io.0)
    (inr (c.in_err-write_one.ensures.io.1, no_room ranges _ _ _ _ _ _ _ _ (c.loop-datagram.invariant.copied ranges same) _ c.in-Some.datagram.items one stays short full))

pub returns-in_err-write_one-clause-some : goal.returns-in_err-write_one-clause-some
returns-in_err-write_one-clause-some g c = λ ranges same.
    let p = err_from_is_err_and c.from_residual-in_err-write_one.result c.from_residual-in_err-write_one.ensures.1 in
    let one = rw c.in-Some.is at c.in_ok-datagram.ensures.some in
    let stays = sym (same c.loop-datagram.counts.read) ∙ c.meet-begun.ensures.value ∙ sym c.has.ensures ∙ c.if-not-has.true in
    let short = rw c.in-Some.is at c.in_ok-datagram.ensures.short in
    let begun = rw c.as_slice.ensures.value at c.in_err-write_one.ensures.err in
    rw p.1 (unwritten ranges _ _ _ _ _ _ _ _ (c.loop-datagram.invariant.copied ranges same) _ c.in-Some.datagram.items one stays _ short begun)

pub overflow_add-counts : goal.overflow_add-counts
overflow_add-counts g c =
    let few = c.loop-datagram.invariant.few in
    let next = c.in-Some-checked_add.ensures in
    omega (arith, few, next)

pub loop-datagram-preserved : goal.loop-datagram-preserved
loop-datagram-preserved g c =
    let one = rw c.in-Some.is at c.in_ok-datagram.ensures.some in
    let short = rw c.in-Some.is at c.in_ok-datagram.ensures.short in
    let next = c.in-Some-checked_add.ensures in
    let up : c.loop-datagram.counts.read + 1 ≡ c.in-Some-checked_add.read = omega (arith, next) in
    let few = c.loop-datagram.invariant.few in
    let stays = c.read_next.ensures.stays ∙ c.loop-datagram.invariant.stays in
    let begun = still_begun c.args.lost.now c.meet-begun.result.count c.meet-begun.result.last c.loop-datagram.counts.read c.in-Some-checked_add.read c.meet-begun.ensures.begun (omega (arith, up)) in
    elim c.if-not-has.branch [
      | then-not-has+in_ok-write_one w ↦
          rw (w.writer-is, w.counts-is) record {
            copied = λ ranges same.
                let kept = sym (same c.loop-datagram.counts.read) ∙ c.meet-begun.ensures.value ∙ sym c.has.ensures ∙ w.if-not-has.true in
                written ranges _ _ _ _ _ _ _ _ (c.loop-datagram.invariant.copied ranges same) _ c.in-Some.datagram.items one kept _ _ _ up short
                (rw w.as_slice.ensures.value at w.in_ok-write_one.ensures.ok) (rw w.as_slice.ensures.value at w.in_ok-write_one.ensures.fills);
            few = omega (arith, few, up);
            stays = stays;
            begun = begun;
          }
      | else-not-has w ↦
          rw (w.writer-is, w.counts-is) record {
            copied = λ ranges same.
                let lost = sym (same c.loop-datagram.counts.read) ∙ c.meet-begun.ensures.value ∙ sym c.has.ensures ∙ w.if-not-has.false in
                passed_over ranges _ _ _ _ _ _ _ _ (c.loop-datagram.invariant.copied ranges same) _ c.in-Some.datagram.items one lost _ up short;
            few = omega (arith, few, up);
            stays = stays;
            begun = begun;
          }
    ]
