use Rattle.std.proofs.Common.{◌≡◌, ◌+◌, ◌*◌, ℕ, sym, ap, ◌∙◌, arith}
use Rattle.std.proofs.lemmas.Simd.{get_or-replicate}
use Rattle.gf256.specs.Arithmetic.{product}
use Rattle.gf256.specs.ProductLaws.{zero_product}
use Rattle.evaluation.specs.Multiples.{half}
use Rattle.evaluation.proofs.Halves.{half_byte}
use Rattle.evaluation.proofs.multiples.Multiples.new.Goals as goal

pub loop-c-init : goal.loop-c-init
loop-c-init c = λ d t ld lt.
    let none : d ≡ 0 = omega arith in
    get_or-replicate {A = ℕ} 8192 (d * 32 + t) 0 0 (omega arith)
    ∙ sym (ap (λ n. product n (half t)) none ∙ zero_product (half t) (half_byte t lt))
