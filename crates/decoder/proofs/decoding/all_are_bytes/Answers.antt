use Rattle.std.proofs.Common.{arith, subst, inl, inr}
use Rattle.std.proofs.lemmas.Bool.{cases_eq}
use Rattle.lists.specs.Bytes.{AreBytes}
use Rattle.reception.proofs.Heard.{borrowed_at}
use Rattle.decoder.proofs.decoding.all_are_bytes.Goals as goal

pub loop-i-preserved : goal.loop-i-preserved
loop-i-preserved c = λ i li. elim (cases_eq i c.loop-i.i) [
  | inl e ↦ rw e (subst AreBytes (borrowed_at c.args.datagrams.now c.loop-i.i _ (omega arith)) c.are_bytes.ensures)
  | inr ne ↦ c.loop-i.invariant i (omega (arith, li, ne))
]
