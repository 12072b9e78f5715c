use Rattle.std.proofs.Common.{◌≡◌, take, map}
use Rattle.lists.specs.Below.{below}
use Rattle.certificate.specs.Certificate.{coefficient}
use Rattle.certificate.proofs.column_text.put_polynomial.Given as goal

abbrev pub invariant-loop-i : goal.invariant-loop-i
invariant-loop-i l = take l.i l.out ≡ map (coefficient l.certificate l.b l.c) (below l.i)
