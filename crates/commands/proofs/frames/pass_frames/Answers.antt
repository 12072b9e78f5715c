use Rattle.std.proofs.Common.{ap}
use Rattle.streams.proofs.AtOffsets.{cursor_start}
use Rattle.commands.proofs.Passing.{framed_told, unframed_told}
use Rattle.commands.proofs.frames.pass_frames.Goals as goal

pub returns-clause-framed : goal.returns-clause-framed
returns-clause-framed g c =
    let cursor = c.new-frames.result in
    framed_told (g.F.ReadAt.content c.args.file.now) _ (λ x told. cursor_start _ _ cursor.next cursor.end cursor.at (ap g.F.ReadAt.content c.new-frames.ensures.file) c.new-frames.ensures.next x told)
    c.pass_rest.result c.pass_rest.ensures.framed

pub returns-clause-fault : goal.returns-clause-fault
returns-clause-fault g c =
    let cursor = c.new-frames.result in
    unframed_told (g.F.ReadAt.content c.args.file.now) _ (λ x told. cursor_start _ _ cursor.next cursor.end cursor.at (ap g.F.ReadAt.content c.new-frames.ensures.file) c.new-frames.ensures.next x told)
    _ _ (ap g.F.ReadAt.reliable c.new-frames.ensures.file) c.pass_rest.result c.pass_rest.ensures.fault
