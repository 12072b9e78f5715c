-- Rows of bytes that are added up.
use Rattle.std.proofs.Common.{◌≡◌, ℕ, ◌+◌, ◌-◌, ◌<◌, ◌≤◌, List, ◌++◌, length, get_or, take, drop, arith, ap, ◌∙◌, sym, inl, inr, length-take-le, get_or-take}
use Rattle.std.proofs.lemmas.Bool.{cases_lt}
use Rattle.std.proofs.lemmas.List.{get_or_append_left, get_or-append_right, get_or-drop, get_or_past}
use Rattle.std.proofs.lemmas.Simd.{get_or-zip2, length-zip2}
use Rattle.std.specs.Int.Bits.{xor_zero_r}
use Rattle.gf256.specs.Arithmetic.{sum_of, product}
use Rattle.gf256.specs.ProductLaws.{product_zero}
use Rattle.gf256.specs.Rows.{plus_scaled}

-- a multiple of a row, added to the front of another
pub plus_front : (scale : ℕ) (out row new : List ℕ) → length row ≤ length out → new ≡ plus_scaled scale (take (length row) out) row → (i : ℕ)
    → get_or (new ++ drop (length row) out) i 0 ≡ sum_of (get_or out i 0) (product scale (get_or row i 0))
plus_front scale out row new le is i =
    let front : length (take (length row) out) ≡ length row = length-take-le (length row) out le in
    let long : length new ≡ length row = ap length is ∙ length-zip2 (λ x y. sum_of x (product scale y)) (take (length row) out) row front ∙ front in
    elim (cases_lt i (length row)) [
      | inl lt ↦
          (let here : i < length new = omega arith in
          let there : i < length (take (length row) out) = omega arith in
          get_or_append_left new (drop (length row) out) 0 i here
          ∙ ap (λ (l : List ℕ). get_or l i 0) is
          ∙ get_or-zip2 (λ x y. sum_of x (product scale y)) (take (length row) out) row i 0 0 0 there lt
          ∙ ap (λ (v : ℕ). sum_of v (product scale (get_or row i 0))) (get_or-take (length row) out i 0 lt))
      | inr past ↦
          (let none : get_or row i 0 ≡ 0 = get_or_past row i 0 past in
          let back : length row + (i - length row) ≡ i = omega arith in
          get_or-append_right new (drop (length row) out) (length row) i 0 long past
          ∙ get_or-drop (length row) out (i - length row) 0
          ∙ ap (λ (n : ℕ). get_or out n 0) back
          ∙ sym (xor_zero_r (get_or out i 0))
          ∙ ap (λ (v : ℕ). sum_of (get_or out i 0) v) (sym (ap (product scale) none ∙ product_zero scale)))
    ]
