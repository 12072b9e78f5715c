use Rattle.std.proofs.Common.{◌≡◌, ◌+◌, ◌*◌, ◌/◌, ◌%◌, cond, ap, ◌∙◌, inl, inr, arith}
use Rattle.std.specs.Prelude.{◌==◌}
use Rattle.std.proofs.lemmas.Bool.{cases_lt}
use Rattle.gf256.specs.Arithmetic.{sum_of, doubled}
use Rattle.evaluation.specs.Multiples.{half}
use Rattle.evaluation.proofs.Halves.{from_half, half_byte}
use Rattle.evaluation.proofs.multiples.put_products.Goals as goal

pub returns : goal.returns
returns c = λ d t ld lt. elim (cases_lt d c.args.c) [
  | inl l ↦ c.put_entry.ensures.below (d * 32 + t) (omega arith) ∙ c.requires.before d t l lt
  | inr g ↦
      (let same : d ≡ c.args.c = omega arith in
      rw same (c.put_entry.ensures.within t lt ∙ c.next-products.ensures t lt
      ∙ ap (λ v. sum_of (doubled v) (cond (c.args.c % 2 == 1) (half t) 0)) (c.entry_at.ensures t lt ∙ c.requires.before (c.args.c / 2) t (omega arith) lt)
      ∙ from_half c.args.c (half t) (omega arith) (half_byte t lt)))
]
