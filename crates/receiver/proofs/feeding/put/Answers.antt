use Rattle.std.proofs.Common.{Option, Some, None, Ok, Err, sym, subst, rules}
use Rattle.receiver.specs.Fed.{HoldsFor}
use Rattle.receiver.specs.Putting.{IsPutFault, UnlessFailed, bytes_now}
use Rattle.receiver.specs.declared.store.Store.{Store}
use Rattle.receiver.proofs.Holding.{fed_some, fed_none}
use Rattle.receiver.proofs.Told.{unless}
use Rattle.receiver.proofs.feeding.put.Goals as goal

pub returns-in-Some-clause-outcome : goal.returns-in-Some-clause-outcome
returns-in-Some-clause-outcome g c = λ at h.
    let own : HoldsFor c.args.fti (g.B.BlockBytes.kept c.args.bytes.now) (Some c.in-Some.store) at = (rw c.in-Some.is at h) in
    fed_some c.args.fti c.args.place (g.B.BlockBytes.kept c.args.bytes.now) (bytes_now g.B.BlockBytes c.put.new.bytes) c.in-Some.store c.put.new.self own.0 c.put.ensures.fti c.args.packet.now c.put.result
    c.put.ensures.outcome at own.1

pub returns-in_err-put-clause-outcome : goal.returns-in_err-put-clause-outcome
returns-in_err-put-clause-outcome g c = λ at h.
    let k = c.args.packet.now in
    let now = bytes_now g.B.BlockBytes c.put-2.new.bytes in
    let own : HoldsFor c.args.fti (g.B.BlockBytes.kept c.args.bytes.now) None at = (rw c.in_default.is at h) in
    let d : UnlessFailed now.failed c.in_err-put.field-0.0 (IsPutFault c.args.fti c.args.place k (at k.sbn) c.in_err-put.field-0.0 × HoldsFor c.args.fti now.told c.args.store.now at) =
    unless now.failed c.in_err-put.field-0.0 _ _ (λ o. (o.0, subst (λ (s : Option Store). HoldsFor c.args.fti now.told s at) (sym c.in_default.is) o.1))
    (fed_none c.args.fti c.args.place (g.B.BlockBytes.kept c.args.bytes.now) now c.in_ok-new.new c.put-2.new.self c.in_ok-new.ensures.fti c.in_err-put.ensures.fti k (Err c.in_err-put.field-0.0)
    c.in_err-put.ensures.outcome at c.in_ok-new.ensures.holds own).1 in
    (search rules, search rules)

pub returns-clause-outcome : goal.returns-clause-outcome
returns-clause-outcome g c = λ at h.
    let own : HoldsFor c.args.fti (g.B.BlockBytes.kept c.args.bytes.now) None at = (rw c.in_default.is at h) in
    fed_none c.args.fti c.args.place (g.B.BlockBytes.kept c.args.bytes.now) (bytes_now g.B.BlockBytes c.put-2.new.bytes) c.in_ok-new.new c.put-2.new.self c.in_ok-new.ensures.fti c.in_ok-put.ensures.fti c.args.packet.now (Ok tt)
    c.in_ok-put.ensures.outcome at c.in_ok-new.ensures.holds own
