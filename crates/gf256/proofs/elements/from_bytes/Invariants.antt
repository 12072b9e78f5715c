use Rattle.gf256.proofs.RowLoop.{IsCopiedTo}
use Rattle.gf256.proofs.elements.from_bytes.Given as goal

abbrev pub invariant-loop-i : goal.invariant-loop-i
invariant-loop-i l = IsCopiedTo l.bytes l.i l.elements
