use Rattle.std.proofs.Common.{◌<◌}
use Rattle.elim.proofs.Places.{set_other, set_here}
use Rattle.elim.proofs.matrix.Matrix.set.Goals as goal

pub returns-clause-entry : goal.returns-clause-entry
returns-clause-entry g c = rw (← c.self.view_is) (
    let li : c.args.i < c.self.inside.rows = rw (← c.self.view_is) at c.requires.row in
    let lj : c.args.j < c.self.inside.cols = rw (← c.self.view_is) at c.requires.column in record {
      here = set_here c.self.inside.entries.items c.self.inside.rows c.self.inside.cols c.args.i c.args.j c.args.value g.F.Field.ZERO c.self.invariant.whole li lj;
      others = λ a b lb apart. set_other c.self.inside.entries.items c.self.inside.cols c.args.i c.args.j a b c.args.value g.F.Field.ZERO lj lb apart;
    })
