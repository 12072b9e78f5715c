use Rattle.std.proofs.Common.{◌≡◌, map}
use Rattle.std.specs.Prelude.{filter}
use Rattle.gf256.specs.Arithmetic.{point}
use Rattle.lists.specs.Selection.{is_among}
use Rattle.lists.specs.Below.{below}
use Rattle.cert.proofs.twins.points_of.Given as goal

abbrev pub invariant-loop-esi : goal.invariant-loop-esi
invariant-loop-esi l = l.points.items ≡ map point (filter (is_among l.arrived_esis) (below l.esi-counter))
