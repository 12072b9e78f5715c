use Rattle.std.proofs.Common.{ℕ, cond, sym, ap, ◌∙◌}
use Rattle.std.proofs.lemmas.Simd.{get_or-replicate}
use Rattle.evaluation.specs.Multiples.{half}
use Rattle.evaluation.proofs.multiples.halves_if.Goals as goal

pub returns : goal.returns
returns c = λ t lt. get_or-replicate {A = ℕ} 32 t 0 0 lt ∙ sym (ap (λ b. cond b (half t) 0) c.if-odd.false)
