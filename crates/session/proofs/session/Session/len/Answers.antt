use Rattle.std.proofs.Common.{arith}
use Rattle.session.proofs.Places.{length_pieces}
use Rattle.session.proofs.session.Session.len.Goals as goal

pub returns-clause-value : goal.returns-clause-value
returns-clause-value c =
    let many = length_pieces 0 c.self.inside.ends.items c.self.inside.bytes.items in
    rw (← c.self.view_is) (omega (arith, many, c.len.ensures))
