use Rattle.std.proofs.Common.{ℕ, length-set, ◌∙◌, inl, inr, arith}
use Rattle.std.proofs.lemmas.Bool.{cases_eq}
use Rattle.std.proofs.lemmas.Simd.{get_or-replicate}
use Rattle.evaluation.proofs.Weights.{written, kept}
use Rattle.evaluation.proofs.values.clear_rows.Goals as goal

pub loop-p-preserved : goal.loop-p-preserved
loop-p-preserved c = record {
  long = length-set c.loop-p.tile c.loop-p.p _ ∙ c.loop-p.invariant.long;
  zeros = λ p t from lp lt. elim (cases_eq p c.loop-p.p) [
    | inl e ↦
        let long = c.loop-p.invariant.long in
        rw e (written c.loop-p.tile c.loop-p.p t _ (omega (arith, long)) ∙ get_or-replicate {A = ℕ} 64 t 0 0 lt)
    | inr ne ↦ kept c.loop-p.tile c.loop-p.p p t _ ne ∙ c.loop-p.invariant.zeros p t from (omega (arith, lp, ne)) lt
  ];
}
