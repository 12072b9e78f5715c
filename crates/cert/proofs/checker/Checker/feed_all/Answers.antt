use Rattle.std.proofs.Common.{◌∙◌, ◌++◌, ◌∷◌, [], refl}
use Rattle.session.specs.Frames.{IsDatagram}
use Rattle.session.proofs.Sessions.{datagrams_push}
use Rattle.cert.specs.declared.fault.CheckFault.TheVariants.{Frame}
use Rattle.cert.specs.Fed.{IsWalkOver}
use Rattle.certificate.proofs.Results.{passed_on}
use Rattle.cert.proofs.Feeding.{all_clean, goes_on, now_no, own_form, own_gives, own_name}
use Rattle.cert.proofs.FromReader.{after_place, consumes_one, not_read}
use Rattle.cert.proofs.checker.Checker.feed_all.Goals as goal

pub returns-in_err-datagram-clause-fault : goal.returns-in_err-datagram-clause-fault
returns-in_err-datagram-clause-fault g c = λ who object z fed. (
    let at = c.loop-datagram.self in
    let inv = c.loop-datagram.invariant in
    let read = c.loop-datagram.invariant.read in
    let first = goes_on c.args.self.now who object z [] c.requires.going fed in
    let over : IsWalkOver c.loop-datagram.self who object z c.loop-datagram.invariant.read.0 = record {
      identity = inv.identity ∙ first.identity;
      certificate = inv.certificate ∙ first.certificate;
      object_is = inv.object ∙ first.object_is;
      walked = read.2;
    } in
    passed_on c.from_residual.result (Frame c.in_err-datagram.field-0.0) _ c.from_residual.ensures.1
    (not_read who z object (own_name at who object z read.0 over) (own_form at who object z read.0 over) (own_gives at who object z read.0 over)
    (g.R.Read.remaining c.args.reader.now) (g.R.Read.remaining c.loop-datagram.reader) read.0 read.1 read.3 (all_clean at who object z read.0 over) (g.R.Read.failed c.read_next_into.new.reader)
    (g.R.Read.remaining c.read_next_into.new.reader) c.in_err-datagram.field-0.0 c.in_err-datagram.ensures.fault))

pub returns-in-Some-2-clause-read : goal.returns-in-Some-2-clause-read
returns-in-Some-2-clause-read g c = λ who object z fed. (
    let at = c.loop-datagram.self in
    let inv = c.loop-datagram.invariant in
    let read = c.loop-datagram.invariant.read in
    let first = goes_on c.args.self.now who object z [] c.requires.going fed in
    let over : IsWalkOver c.loop-datagram.self who object z c.loop-datagram.invariant.read.0 = record {
      identity = inv.identity ∙ first.identity;
      certificate = inv.certificate ∙ first.certificate;
      object_is = inv.object ∙ first.object_is;
      walked = read.2;
    } in
    let d = c.in-Some.datagram.items in
    let some = rw c.in-Some.is at c.in_ok-datagram.ensures.some in
    let short = rw c.in-Some.is at c.in_ok-datagram.ensures.short in
    let here : IsDatagram d = record { short = short; bytes = rw c.as_slice-bytes.ensures.value at c.are_bytes.ensures } in
    let left = g.R.Read.remaining c.read_next_into.new.reader in
    let ds = read.0 ++ d ∷ [] in
    let each = datagrams_push read.0 d read.1 here in
    let against = rw c.as_slice-bytes.ensures.value at (rw c.in-Some-2.is at (c.in_ok-reason.ensures.against read.0 read.2)) in
    record {
      datagrams = ds;
      fed = record { each = each; stands = now_no who object z read.0 d here at over read.1 c.in-Some-2.reason against };
      consumed = consumes_one (g.R.Read.remaining c.args.reader.now) (g.R.Read.remaining c.loop-datagram.reader) left read.0 d read.3 some;
      stops = after_place who z object (own_name at who object z read.0 over) (own_form at who object z read.0 over) (own_gives at who object z read.0 over)
          ds each left c.in-Some-2.reason (rw (over.identity, over.certificate) at against);
    })

pub loop-datagram-preserved : goal.loop-datagram-preserved
loop-datagram-preserved g c =
    let read = c.loop-datagram.invariant.read in
    let d = c.in-Some.datagram.items in
    let some = rw c.in-Some.is at c.in_ok-datagram.ensures.some in
    let short = rw c.in-Some.is at c.in_ok-datagram.ensures.short in
    let here : IsDatagram d = record { short = short; bytes = rw c.as_slice-bytes.ensures.value at c.are_bytes.ensures } in
    let left = g.R.Read.remaining c.read_next_into.new.reader in
    record {
      identity = c.step.ensures.identity ∙ c.loop-datagram.invariant.identity;
      certificate = c.step.ensures.certificate ∙ c.loop-datagram.invariant.certificate;
      object = c.step.ensures.object ∙ c.loop-datagram.invariant.object;
      going = c.step.ensures.ended ∙ c.loop-datagram.invariant.going;
      read = (
        read.0 ++ d ∷ [],
        datagrams_push read.0 d read.1 here,
        rw c.as_slice-bytes.ensures.value at (c.in_ok-reason.ensures.passed read.0 read.2 (rw c.in_default-2.is refl)),
        consumes_one (g.R.Read.remaining c.args.reader.now) (g.R.Read.remaining c.loop-datagram.reader) left read.0 d read.3 some,
      );
      stays = c.read_next_into.ensures.stays ∙ c.loop-datagram.invariant.stays;
    }
