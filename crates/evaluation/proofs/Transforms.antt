-- The matrices of the transforms, computed by planes: after a transform of unit rows each row has
-- the powers of its point.
use Rattle.std.proofs.Common.{◌≡◌, ℕ, zero, suc, ◌+◌, ◌-◌, ◌*◌, ◌/◌, ◌%◌, ◌^◌, ◌<◌, ◌≤◌, Bool, true, List, ◌∷◌, map, replicate, get_or, refl, sym, ap, subst, ◌∙◌, inl, inr, arith}
use Rattle.std.specs.Prelude.{◌==◌, ◌&&◌}
use Rattle.std.specs.Int.{bit_at}
use Rattle.std.specs.List.{range_with_len}
use Rattle.std.proofs.lemmas.Bool.{and_parts, cases_eq}
use Rattle.std.proofs.lemmas.Bool.Decides.{Decides-eqb}
use Rattle.std.proofs.lemmas.Nat.Bits.{bit_at_lowest, bit_at-suc, bit_at_cat_low, same_from_bits_below}
use Rattle.std.proofs.Math.Pow.{split}
use Rattle.gf256.specs.Arithmetic.{product, doubled, alpha_to}
use Rattle.gf256.specs.Computing.{all_under, passes}
use Rattle.gf256.specs.Powers.{doublings, doublings_are_powers, alpha_to_sum, one_is_power}
use Rattle.gf256.specs.ProductLaws.{product_byte}
use Rattle.evaluation.specs.Transform.{chosen, element, row, row_added, rows_added, group_expanded, groups_expanded, expanded, all_expanded, places}
use Rattle.evaluation.proofs.Planes.{HasPlanes, no_planes, planes_doubled, planes_over, planes_scaled_added, planes_butterflies, planes_joined, planes_all_joined, planes_transformed, product_planes}

-- the planes of the unit matrix of 256 columns
unfoldable pub unit_planes : ℕ → List ℕ
unit_planes p = 2 ^ p ∷ replicate 7 0

unfoldable pub all_unit_planes : List (List ℕ)
all_unit_planes = map unit_planes (range_with_len 0 256)

-- whether column 0 has a one
unfoldable pub begins_with_one : List ℕ → Bool
begins_with_one r = all_under 8 (λ d. get_or r d 0 % 2 == bit_at 1 d)

-- whether each of so many columns behind column 0 has what stands in the column before it in
-- another row
unfoldable pub follows : ℕ → List ℕ → List ℕ → Bool
follows n r before = all_under 8 (λ d. get_or r d 0 / 2 % 2 ^ n == get_or before d 0 % 2 ^ n)

-- whether each column but the first is the one before it times c
unfoldable pub is_rising : ℕ → ℕ → List ℕ → Bool
is_rising n c r = begins_with_one r && follows n r (planes_over 8 c r)

-- whether the row of each point has its powers in n + 1 columns
unfoldable pub are_powers : ℕ → List ℕ → List (List ℕ) → Bool
are_powers n points u = all_under 255 (λ j. is_rising n (get_or points j 0) (row u (get_or places j 0)))

test_6 : are_powers 63 (doublings 255 1) (planes_transformed 6 all_unit_planes) ≡ true
unfolding chosen element row_added rows_added group_expanded groups_expanded expanded all_expanded doubled doublings places no_planes planes_doubled planes_over planes_scaled_added planes_butterflies planes_joined planes_all_joined unit_planes all_unit_planes begins_with_one follows is_rising are_powers
test_6 = refl

test_7 : are_powers 127 (doublings 255 1) (planes_transformed 7 all_unit_planes) ≡ true
unfolding chosen element row_added rows_added group_expanded groups_expanded expanded all_expanded doubled doublings places no_planes planes_doubled planes_over planes_scaled_added planes_butterflies planes_joined planes_all_joined unit_planes all_unit_planes begins_with_one follows is_rising are_powers
test_7 = refl

test_8 : are_powers 255 (doublings 255 1) (planes_transformed 8 all_unit_planes) ≡ true
unfolding chosen element row_added rows_added group_expanded groups_expanded expanded all_expanded doubled doublings places no_planes planes_doubled planes_over planes_scaled_added planes_butterflies planes_joined planes_all_joined unit_planes all_unit_planes begins_with_one follows is_rising are_powers
test_8 = refl

-- ---- what the tests say

-- the lowest bits of a number
low_bit : (a k i : ℕ) → i < k → bit_at (a % 2 ^ k) i ≡ bit_at a i
low_bit a k i lt = sym (bit_at_cat_low (a / 2 ^ k) k (a % 2 ^ k) i lt) ∙ ap (λ v. bit_at v i) (split a k)

same_low_bit : (a b k i : ℕ) → i < k → a % 2 ^ k ≡ b % 2 ^ k → bit_at a i ≡ bit_at b i
same_low_bit a b k i lt e = sym (low_bit a k i lt) ∙ ap (λ v. bit_at v i) e ∙ low_bit b k i lt

module _ (x : ℕ → ℕ) (r : List ℕ) (n c : ℕ) (has : HasPlanes x r) (small : (i : ℕ) → i < 256 → x i < 256) (few : n < 256) (rises : is_rising n c r ≡ true) where
  first_is_one : x 0 ≡ 1
  unfolding is_rising begins_with_one
  first_is_one =
      let begins = (and_parts (begins_with_one r) (follows n r (planes_over 8 c r)) rises).0 in
      same_from_bits_below 8 (x 0) 1 (small 0 (omega arith)) (omega arith) (λ d ld.
      sym (has.bits d 0 ld (omega arith)) ∙ bit_at_lowest (get_or r d 0)
      ∙ (Decides-eqb _ _).0 (passes 8 (λ d. get_or r d 0 % 2 == bit_at 1 d) begins d ld))

  next_is : (i : ℕ) → i < n → x (suc i) ≡ product c (x i)
  unfolding is_rising follows
  next_is i lt =
      let goes_on = (and_parts (begins_with_one r) (follows n r (planes_over 8 c r)) rises).1 in
      let times = product_planes c x r has small in
      same_from_bits_below 8 (x (suc i)) (product c (x i)) (small (suc i) (omega arith)) (product_byte c (x i) (small i (omega arith))) (λ d ld.
      sym (has.bits d (suc i) ld (omega arith)) ∙ bit_at-suc (get_or r d 0) i
      ∙ same_low_bit (get_or r d 0 / 2) (get_or (planes_over 8 c r) d 0) n i lt
      ((Decides-eqb _ _).0 (passes 8 (λ d. get_or r d 0 / 2 % 2 ^ n == get_or (planes_over 8 c r) d 0 % 2 ^ n) goes_on d ld))
      ∙ times.bits d i ld (omega arith))

-- a row that rises by a power of alpha has its powers
pub powers_rise : (x : ℕ → ℕ) (r : List ℕ) (n j : ℕ) → HasPlanes x r → ((i : ℕ) → i < 256 → x i < 256) → n < 256 → is_rising n (alpha_to j) r ≡ true
    → (i : ℕ) → i ≤ n → x i ≡ alpha_to (i * j)
powers_rise x r n j has small few rises zero le =
    first_is_one x r n (alpha_to j) has small few rises ∙ one_is_power ∙ (let e : 0 ≡ 0 * j = omega arith in ap alpha_to e)
powers_rise x r n j has small few rises (suc i) le =
    next_is x r n (alpha_to j) has small few rises i (omega arith)
    ∙ ap (product (alpha_to j)) (powers_rise x r n j has small few rises i (omega arith))
    ∙ alpha_to_sum j (i * j) ∙ (let e : j + i * j ≡ suc i * j = grind arith in ap alpha_to e)

-- 2^b coefficients
tests : (b : ℕ) → 6 ≤ b → b ≤ 8 → are_powers (2 ^ b - 1) (doublings 255 1) (planes_transformed b all_unit_planes) ≡ true
tests b least most = elim (cases_eq b 6) [
  | inl e ↦ subst (λ b. are_powers (2 ^ b - 1) (doublings 255 1) (planes_transformed b all_unit_planes) ≡ true) (sym e) test_6
  | inr n6 ↦ elim (cases_eq b 7) [
    | inl e ↦ subst (λ b. are_powers (2 ^ b - 1) (doublings 255 1) (planes_transformed b all_unit_planes) ≡ true) (sym e) test_7
    | inr n7 ↦
        let e : b ≡ 8 = omega (arith, least, most, n6, n7) in
        subst (λ b. are_powers (2 ^ b - 1) (doublings 255 1) (planes_transformed b all_unit_planes) ≡ true) (sym e) test_8
  ]
]

pub passed : (b j : ℕ) → 6 ≤ b → b ≤ 8 → j < 255 → is_rising (2 ^ b - 1) (alpha_to j) (row (planes_transformed b all_unit_planes) (get_or places j 0)) ≡ true
unfolding are_powers
passed b j least most lj =
    let u = planes_transformed b all_unit_planes in
    subst (λ c. is_rising (2 ^ b - 1) c (row u (get_or places j 0)) ≡ true)
    (ap (λ v. get_or (doublings 255 v) j 0) one_is_power ∙ doublings_are_powers 255 0 j lj ∙ (let e : 0 + j ≡ j = omega arith in ap alpha_to e))
    (passes 255 (λ j. is_rising (2 ^ b - 1) (get_or (doublings 255 1) j 0) (row u (get_or places j 0))) (tests b least most) j lj)
