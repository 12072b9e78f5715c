use Rattle.std.proofs.Common.{◌≡◌, map, take}
use Rattle.elim.specs.Lagrange.{differences}
use Rattle.elim.proofs.lagrange.differences_at.Given as goal

abbrev pub invariant-loop-x : goal.invariant-loop-x
invariant-loop-x l = l.products.items ≡ map (differences l.points) (take l.x-index l.xs)
