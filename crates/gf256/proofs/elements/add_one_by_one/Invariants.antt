use Rattle.gf256.specs.Arithmetic.{sum_of, product}
use Rattle.gf256.proofs.RowLoop.{IsAddedTo}
use Rattle.gf256.proofs.elements.add_one_by_one.Given as goal

abbrev pub invariant-loop-i : goal.invariant-loop-i
invariant-loop-i l = IsAddedTo sum_of product 0 l.c l.other l.i l.initial.row l.row
