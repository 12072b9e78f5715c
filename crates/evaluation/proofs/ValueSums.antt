-- What a byte of a sum of powers times coefficients is worth.
use Rattle.std.proofs.Common.{◌≡◌, ℕ, ◌+◌, ◌*◌, ◌<◌, List, get_or, sym, ap, ◌∙◌, inl, inr, arith}
use Rattle.std.proofs.lemmas.Bool.{cases_lt}
use Rattle.std.proofs.lemmas.List.{get_or_past}
use Rattle.std.proofs.lemmas.Nat.{xor_comm}
use Rattle.std.specs.Int.Bits.{xor_zero_r}
use Rattle.gf256.specs.Arithmetic.{sum_of, product, alpha_to}
use Rattle.gf256.specs.ByteSums.{byte_sum}
use Rattle.gf256.proofs.SliceSums.{sum_same}
use Rattle.poly.specs.Polynomial.{value}
use Rattle.evaluation.specs.Columns.{IsColumn}
use Rattle.evaluation.specs.Sums.{coefficient, sum_at}
use Rattle.evaluation.proofs.ByteSums.{value_is_sum}

pub value_from_sum : (rows p : List ℕ) (k width c e : ℕ) → ((i : ℕ) → get_or rows i 0 < 256) → IsColumn rows k width c p → sum_at rows k width c e ≡ value p (alpha_to e)
value_from_sum rows p k width c e bytes column =
    let here = column.bytes in
    let small : (i : ℕ) → get_or p i 0 < 256 = λ i. elim (cases_lt i k) [
      | inl lt ↦ rw (here i lt) (bytes (i * width + c))
      | inr le ↦ rw (get_or_past p i 0 (omega (arith, column.count, le))) (omega arith)
    ] in
    sum_same k (λ i. product (alpha_to (i * e)) (coefficient rows width c i)) (λ i. product (alpha_to (i * e)) (get_or p i 0)) (λ i lt. ap (product (alpha_to (i * e))) (sym (here i lt)))
    ∙ ap (λ n. byte_sum n (λ i. product (alpha_to (i * e)) (get_or p i 0))) (sym column.count)
    ∙ sym (value_is_sum p e small)

-- a byte of a sum of products
pub by_products : (powers rows : List ℕ) (k width c first step j new old : ℕ)
    → new ≡ sum_of old (byte_sum k (λ i. product (get_or powers (j * k + i) 0) (get_or rows (i * width + c) 0))) → old ≡ 0
    → ((i : ℕ) → i < k → get_or powers (j * k + i) 0 ≡ alpha_to (i * (first + j * step)))
    → new ≡ sum_at rows k width c (first + j * step)
by_products powers rows k width c first step j new old e none is =
    e
    ∙ ap (λ v. sum_of v (byte_sum k (λ i. product (get_or powers (j * k + i) 0) (get_or rows (i * width + c) 0)))) none
    ∙ xor_comm 0 (byte_sum k (λ i. product (get_or powers (j * k + i) 0) (get_or rows (i * width + c) 0)))
    ∙ xor_zero_r (byte_sum k (λ i. product (get_or powers (j * k + i) 0) (get_or rows (i * width + c) 0)))
    ∙ sum_same k (λ i. product (get_or powers (j * k + i) 0) (get_or rows (i * width + c) 0)) (λ i. product (alpha_to (i * (first + j * step))) (coefficient rows width c i))
    (λ i lt. ap (λ a. product a (get_or rows (i * width + c) 0)) (is i lt))
