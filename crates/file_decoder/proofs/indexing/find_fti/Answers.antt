use Rattle.std.proofs.Common.{ap}
use Rattle.streams.proofs.AtOffsets.{cursor_start}
use Rattle.file_decoder.proofs.indexing.find_fti.Goals as goal

pub returns-clause-carrier : goal.returns-clause-carrier
returns-clause-carrier g c = λ x ds told framed.
    let cursor = c.new-cursor.result in
    c.first_fti.ensures.carrier x ds (cursor_start _ _ cursor.next cursor.end cursor.at (ap g.F.ReadAt.content c.new-cursor.ensures.file) c.new-cursor.ensures.next x told) framed
