use Rattle.std.proofs.Common.{◌∙◌, ◌++◌, ◌∷◌, [], refl, sym}
use Rattle.session.specs.Frames.{IsDatagram}
use Rattle.session.proofs.Copies.{consumes_more, nothing_read, session_fault}
use Rattle.session.proofs.Passing.{frames_end}
use Rattle.session.proofs.Sessions.{datagrams_push}
use Rattle.commands.proofs.Passing.{no_datagrams, unframed_by}
use Rattle.commands.proofs.frames.pass_rest.Goals as goal

pub loop-datagram-init : goal.loop-datagram-init
loop-datagram-init g c = record { read = ([], nothing_read (g.R.Read.remaining c.args.frames.now), no_datagrams); stays = refl }

pub loop-datagram-preserved : goal.loop-datagram-preserved
loop-datagram-preserved g c =
    let read = c.loop-datagram.invariant.read in
    let d = c.in-Ok-Some.datagram.items in
    let some = rw c.in-Ok-Some.field-0-is at c.in-Ok-Some.ensures.some in
    let short = rw c.in-Ok-Some.field-0-is at c.in-Ok-Some.ensures.short in
    let here : IsDatagram d = record { short = short; bytes = rw c.as_slice.ensures.value at c.are_bytes.ensures } in
    record {
      read = (read.0 ++ d ∷ [], consumes_more _ _ _ read.0 d read.1 some, datagrams_push read.0 d read.2 here);
      stays = c.read_next_into.ensures.stays ∙ c.loop-datagram.invariant.stays;
    }

pub returns-in-Ok-None-clause-framed : goal.returns-in-Ok-None-clause-framed
returns-in-Ok-None-clause-framed g c =
    let read = c.loop-datagram.invariant.read in
    let end = (rw c.in-Ok-None.field-0-is at c.in-Ok-None.ensures.none) refl in
    frames_end _ _ read.0 read.1 (λ i. (read.2 i).short) read.2 end.0

pub returns-in-Err-clause-fault : goal.returns-in-Err-clause-fault
returns-in-Err-clause-fault g c =
    let read = c.loop-datagram.invariant.read in
    unframed_by c.in-Err.fault _ _ _ (session_fault c.in-Err.fault _ _ _ _ read.0 read.1 (λ i. (read.2 i).short) c.in-Err.ensures.fault)
    (λ e. sym c.loop-datagram.invariant.stays ∙ c.in-Err.ensures.unsound e)
