-- Sums over a round of the powers of alpha, and the coefficients that they pick from values at all
-- points.
use Rattle.std.proofs.Common.{◌≡◌, ◌≢◌, ℕ, zero, suc, ◌+◌, ◌-◌, ◌*◌, ◌<◌, ◌≤◌, List, get_or, refl, sym, ap, ◌∙◌, inl, inr, arith}
use Rattle.std.proofs.lemmas.Bool.{cases_eq, cases_lt}
use Rattle.std.proofs.lemmas.Nat.{xor_comm}
use Rattle.std.specs.Int.Bits.{xor_assoc, xor_self, xor_zero_r}
use Rattle.gf256.specs.Arithmetic.{sum_of, product, alpha_to}
use Rattle.gf256.specs.ProductLaws.{product_one, product_zero, product_byte, product_assoc, product_comm, inverse_of, inverse_byte, product_inverse}
use Rattle.gf256.specs.Powers.{alpha_to_byte, alpha_to_sum, alpha_to_apart, one_is_power}
use Rattle.gf256.specs.ByteSums.{byte_sum}
use Rattle.gf256.proofs.SliceSums.{sum_fits, sum_same, sum_zero, sum_parts}
use Rattle.poly.specs.Polynomial.{value, IsPolynomial}
use Rattle.evaluation.proofs.ByteSums.{sum_scaled, sums_swapped, alpha_to_rounds, powers_times, value_is_sum}

-- ---- sums of powers over a round

ones_test : byte_sum 255 (λ i. 1) ≡ 1
ones_test = refl

-- the power at a number of whole rounds is one
whole_rounds : (n : ℕ) → alpha_to (255 * n) ≡ 1
whole_rounds n = (let e : 255 * n ≡ 0 + 255 * n = omega arith in ap alpha_to e) ∙ alpha_to_rounds 0 n ∙ sym one_is_power

pub round_sum : byte_sum 255 (λ i. alpha_to (i * 255)) ≡ 1
round_sum =
    sum_same 255 (λ i. alpha_to (i * 255)) (λ i. 1) (λ i lt. (let e : i * 255 ≡ 255 * i = omega arith in ap alpha_to e) ∙ whole_rounds i) ∙ ones_test

-- the same element added on both sides
one_twice : (a : ℕ) → sum_of (sum_of a 1) 1 ≡ a
one_twice a = xor_assoc a 1 1 ∙ ap (sum_of a) (xor_self 1) ∙ xor_zero_r a

without_one : (a b : ℕ) → sum_of a 1 ≡ sum_of 1 b → a ≡ b
without_one a b e = sym (one_twice a) ∙ ap (λ v. sum_of v 1) (e ∙ xor_comm 1 b) ∙ one_twice b

-- a round's sum times the power is the sum again
turned : (m : ℕ) → byte_sum 255 (λ i. alpha_to (i * m)) ≡ product (alpha_to m) (byte_sum 255 (λ i. alpha_to (i * m)))
turned m =
    let f : ℕ → ℕ = λ i. alpha_to (i * m) in
    let last : alpha_to (255 * m) ≡ 1 = whole_rounds m in
    let first : alpha_to (0 * m) ≡ 1 = (let e : 0 * m ≡ 0 = omega arith in ap alpha_to e) ∙ sym one_is_power in
    let shifted : byte_sum 255 (λ i. alpha_to ((1 + i) * m)) ≡ product (alpha_to m) (byte_sum 255 f) =
    sym (sum_scaled (alpha_to m) 255 f (λ i. alpha_to_byte (i * m))
    ∙ sum_same 255 (λ i. product (alpha_to m) (f i)) (λ i. alpha_to ((1 + i) * m)) (λ i lt. alpha_to_sum m (i * m) ∙ (let e : m + i * m ≡ (1 + i) * m = grind arith in ap alpha_to e))) in
    let both : sum_of (byte_sum 255 f) (alpha_to (255 * m)) ≡ sum_of (sum_of 0 (alpha_to (0 * m))) (byte_sum 255 (λ i. alpha_to ((1 + i) * m))) = sum_parts 255 1 f in
    without_one (byte_sum 255 f) (product (alpha_to m) (byte_sum 255 f))
    (ap (sum_of (byte_sum 255 f)) (sym last) ∙ both
    ∙ ap (λ v. sum_of (sum_of 0 v) (byte_sum 255 (λ i. alpha_to ((1 + i) * m)))) first
    ∙ ap (sum_of 1) shifted)

-- what is the same times an element other than one is nothing
only_none : (x s : ℕ) → x < 256 → s < 256 → x ≢ 1 → s ≡ product x s → s ≡ 0
only_none x s hx hs ne same = elim (cases_eq s 0) [
  | inl e ↦ e
  | inr some ↦
      let inverse = product_inverse s (omega (arith, some)) hs in
      absurd (ne (sym (product_one x hx) ∙ ap (product x) (sym inverse) ∙ sym (product_assoc x s (inverse_of s) hx hs (inverse_byte s hs))
      ∙ ap (λ v. product v (inverse_of s)) (sym same) ∙ inverse))
]

-- below two rounds only the whole round's power is one
apart_from_one : (m : ℕ) → 0 < m → m < 510 → m ≢ 255 → alpha_to m ≢ 1
apart_from_one m some few ne one = elim (cases_lt m 255) [
  | inl lt ↦ (let none : m ≡ 0 = alpha_to_apart m 0 lt (omega arith) (one ∙ one_is_power) in omega (arith, none, some))
  | inr ge ↦
      let e : m ≡ m - 255 + 255 * 1 = omega arith in
      let none : m - 255 ≡ 0 = alpha_to_apart (m - 255) 0 (omega arith) (omega arith) (sym (alpha_to_rounds (m - 255) 1) ∙ ap alpha_to (sym e) ∙ one ∙ one_is_power) in
      absurd (ne (omega (arith, none, ge)))
]

pub no_sum : (m : ℕ) → 0 < m → m < 510 → m ≢ 255 → byte_sum 255 (λ i. alpha_to (i * m)) ≡ 0
no_sum m some few ne =
    only_none (alpha_to m) (byte_sum 255 (λ i. alpha_to (i * m))) (alpha_to_byte m) (sum_fits 255 (λ i. alpha_to (i * m)) (λ i. alpha_to_byte (i * m)))
    (apart_from_one m some few ne) (turned m)

-- ---- the coefficient that is picked

-- a sum with one item alone
pub sum_one : (n t : ℕ) (f : ℕ → ℕ) → t < n → ((i : ℕ) → i < n → i ≢ t → f i ≡ 0) → byte_sum n f ≡ f t
sum_one zero t f lt zeros = absurd (omega arith)
sum_one (suc n) t f lt zeros = elim (cases_eq t n) [
  | inl e ↦
      ap (λ v. sum_of v (f n)) (sum_zero n f (λ i li. zeros i (omega arith) (λ h. omega (arith, h, e, li))))
      ∙ xor_comm 0 (f n) ∙ xor_zero_r (f n) ∙ ap f (sym e)
  | inr ne ↦
      ap (λ v. sum_of v (f n)) (sum_one n t f (omega (arith, lt, ne)) (λ i li. zeros i (omega arith)))
      ∙ ap (sum_of (f t)) (zeros n (omega arith) (λ h. ne (sym h))) ∙ xor_zero_r (f t)
]

-- the values times the powers of one exponent, for one coefficient
one_coefficient : (m x : ℕ) → x < 256 → byte_sum 255 (λ i. product (alpha_to (i * m)) x) ≡ product x (byte_sum 255 (λ i. alpha_to (i * m)))
one_coefficient m x h =
    sum_same 255 (λ i. product (alpha_to (i * m)) x) (λ i. product x (alpha_to (i * m))) (λ i lt. product_comm (alpha_to (i * m)) x (alpha_to_byte (i * m)) h)
    ∙ sym (sum_scaled x 255 (λ i. alpha_to (i * m)) (λ i. alpha_to_byte (i * m)))

-- the values as coefficients have at point 256 - k + j the value of coefficient k - 1 - j
pub picked : (p : List ℕ) (f : ℕ → ℕ) (k j : ℕ) → IsPolynomial k p → k ≤ 255 → j < k → ((i : ℕ) → i < 255 → f i ≡ value p (alpha_to i))
    → byte_sum 255 (λ i. product (alpha_to (i * (256 - k + j))) (f i)) ≡ get_or p (k - 1 - j) 0
picked p f k j form few lt is =
    let small : (t : ℕ) → get_or p t 0 < 256 = form.bytes in
    let w : ℕ = 256 - k + j in
    let t : ℕ = k - 1 - j in
    let term : ℕ → ℕ → ℕ = λ i t. product (alpha_to (i * (256 - k + j + t))) (get_or p t 0) in
    let whole : 256 - k + j + (k - 1 - j) ≡ 255 = omega (arith, few, lt) in
    sum_same 255 (λ i. product (alpha_to (i * (256 - k + j))) (f i)) (λ i. byte_sum k (λ t. term i t)) (λ i li.
    ap (product (alpha_to (i * (256 - k + j)))) (is i li ∙ value_is_sum p i small ∙ ap (λ n. byte_sum n (λ t. product (alpha_to (t * i)) (get_or p t 0))) form.count)
    ∙ sum_scaled (alpha_to (i * (256 - k + j))) k (λ t. product (alpha_to (t * i)) (get_or p t 0)) (λ t. product_byte (alpha_to (t * i)) (get_or p t 0) (small t))
    ∙ sum_same k (λ t. product (alpha_to (i * (256 - k + j))) (product (alpha_to (t * i)) (get_or p t 0))) (λ t. term i t) (λ t lt.
    let e : i * (256 - k + j) + t * i ≡ i * (256 - k + j + t) = grind arith in
    powers_times (i * (256 - k + j)) (t * i) (get_or p t 0) (small t) ∙ ap (λ n. product (alpha_to n) (get_or p t 0)) e))
    ∙ sums_swapped 255 k term
    ∙ sum_one k (k - 1 - j) (λ t. byte_sum 255 (λ i. term i t)) (omega (arith, lt)) (λ t lk ne.
    one_coefficient (256 - k + j + t) (get_or p t 0) (small t)
    ∙ ap (product (get_or p t 0)) (no_sum (256 - k + j + t) (omega (arith, few)) (omega (arith, few, lt, lk)) (λ h. ne (omega (arith, h, few, lt))))
    ∙ product_zero (get_or p t 0))
    ∙ one_coefficient (256 - k + j + (k - 1 - j)) (get_or p (k - 1 - j) 0) (small (k - 1 - j))
    ∙ ap (product (get_or p (k - 1 - j) 0)) (ap (λ m. byte_sum 255 (λ i. alpha_to (i * m))) whole ∙ round_sum)
    ∙ product_one (get_or p (k - 1 - j) 0) (small (k - 1 - j))

-- the power 254 * t is as the power 255 - t
pub turned_back : (i t k : ℕ) → t < k → k ≤ 255 → alpha_to (i * (0 + t * 254)) ≡ alpha_to (i * (256 - k + (k - 1 - t)))
turned_back i t k lt few =
    let rest : 256 - k + (k - 1 - t) ≡ 255 - t = omega (arith, lt, few) in
    let s : 0 + t * 254 + 255 ≡ 255 - t + 255 * t = omega (arith, lt, few) in
    let left : i * (0 + t * 254 + 255) ≡ i * (0 + t * 254) + 255 * i = grind arith in
    let right : i * (255 - t + 255 * t) ≡ i * (255 - t) + 255 * (i * t) = grind arith in
    sym (alpha_to_rounds (i * (0 + t * 254)) i)
    ∙ ap alpha_to (sym left ∙ ap (λ n. i * n) s ∙ right)
    ∙ alpha_to_rounds (i * (255 - t)) (i * t)
    ∙ ap (λ n. alpha_to (i * n)) (sym rest)
