-- Products looked up by the halves of bytes, and the tables of them.
use Rattle.std.proofs.Common.{◌≡◌, ℕ, zero, suc, ◌+◌, ◌-◌, ◌*◌, ◌/◌, ◌%◌, ◌^◌, ◌<◌, Bool, true, false, cond, leb, List, map, length, get_or, replicate, bit_xor, refl, sym, ap, ◌∙◌, arith, w8}
use Rattle.std.specs.Prelude.{◌==◌, nat_lt}
use Rattle.std.proofs.lemmas.Simd.{length-zip2, get_or-zip2, length-replicate, get_or-replicate, tops_compared, length-sel_l, get_or-sel_l}
use lib.Lanes.{zip2, sel_l, top}
use mir.Val.{bits, hbits}
use Rattle.gf256.specs.Arithmetic.{sum_of, product, product_over, doubled}
use Rattle.gf256.specs.Computing.{all_under, same_under, small_under}
use Rattle.gf256.specs.ProductLaws.{product_sum, product_comm, product_swap, product_zero, product_one, product_two, product_byte}
use Rattle.gf256.proofs.SliceLanes.{Block, lane_fits, zip_long, zip_lane}
use Rattle.evaluation.specs.Multiples.{half, AreMultiples}

-- ---- doubling

double_test : all_under 256 (λ x. bit_xor ((x + x) % 2 ^ 8) (cond (leb 128 x) 29 0) == doubled x) ≡ true
unfolding doubled
double_test = refl

double_is : (x : ℕ) → x < 256 → bit_xor ((x + x) % 2 ^ 8) (cond (leb 128 x) 29 0) ≡ doubled x
double_is = same_under 256 (λ y. bit_xor ((y + y) % 2 ^ 8) (cond (leb 128 y) 29 0)) doubled double_test

pub doubled_lane : (v : List ℕ) → Block 32 v → (t : ℕ) → t < 32
    → get_or (zip2 bit_xor (zip2 (λ a b. (a + b) % 2 ^ 8) v v) (sel_l (map (top (hbits w8)) (zip2 (λ a b. cond (leb a b) (2 ^ bits w8 - 1) 0) (replicate 32 128) v)) (replicate 32 29) (replicate 32 0))) t 0 ≡ doubled (get_or v t 0)
doubled_lane v fits t lt =
    let ms : List Bool = zip2 leb (replicate 32 128) v in
    let ms_long : length (zip2 leb (replicate 32 128) v) ≡ 32 = length-zip2 leb (replicate 32 128) v (sym fits.0) in
    let picked : List ℕ = sel_l (zip2 leb (replicate 32 128) v) (replicate 32 29) (replicate 32 0) in
    let is_high : get_or (zip2 leb (replicate 32 128) v) t false ≡ leb 128 (get_or v t 0) = get_or-zip2 leb (replicate 32 128) v t 0 0 false (omega (arith, length-replicate {A = ℕ} 32 128)) (omega arith) ∙ ap (λ k. leb k (get_or v t 0)) (get_or-replicate 32 t 128 0 lt) in
    ap (λ m. get_or (zip2 bit_xor (zip2 (λ a b. (a + b) % 2 ^ 8) v v) (sel_l m (replicate 32 29) (replicate 32 0))) t 0) (tops_compared w8 leb (replicate 32 128) v)
    ∙ zip_lane bit_xor 32 (zip2 (λ a b. (a + b) % 2 ^ 8) v v) picked t (zip_long (λ a b. (a + b) % 2 ^ 8) 32 v v fits.0 fits.0) (length-sel_l ms (replicate 32 29) (replicate 32 0) ms_long ms_long ∙ ms_long) lt
    ∙ ap (λ k. bit_xor k (get_or picked t 0)) (zip_lane (λ a b. (a + b) % 2 ^ 8) 32 v v t fits.0 fits.0 lt)
    ∙ ap (bit_xor ((get_or v t 0 + get_or v t 0) % 2 ^ 8)) (get_or-sel_l ms (replicate 32 29) (replicate 32 0) t 0 (omega arith) (omega (arith, length-replicate {A = ℕ} 32 29)) (omega (arith, length-replicate {A = ℕ} 32 0))
    ∙ ap (λ m. cond m (get_or (replicate 32 29) t 0) (get_or (replicate 32 0) t 0)) is_high
    ∙ ap (λ k. cond (leb 128 (get_or v t 0)) k (get_or (replicate 32 0) t 0)) (get_or-replicate 32 t 29 0 lt)
    ∙ ap (cond (leb 128 (get_or v t 0)) 29) (get_or-replicate 32 t 0 0 lt))
    ∙ double_is (get_or v t 0) (lane_fits v t fits.1)

-- ---- an element's products from those of its half

odd_test : all_under 256 (λ c. sum_of (product 2 (c / 2)) (c % 2) == c) ≡ true
unfolding product product_over doubled
odd_test = refl

half_test : all_under 32 (λ t. nat_lt (half t) 256) ≡ true
half_test = refl

pub half_byte : (t : ℕ) → t < 32 → half t < 256
half_byte = small_under 32 256 half half_test

-- a bit times an element
bit_times : (b y : ℕ) → y < 256 → b < 2 → product y b ≡ cond (b == 1) y 0
bit_times zero y h small = product_zero y
bit_times (suc a) y h small = let one : a ≡ 0 = omega arith in rw one (product_one y h)

pub from_half : (c y : ℕ) → c < 256 → y < 256 → sum_of (doubled (product (c / 2) y)) (cond (c % 2 == 1) y 0) ≡ product c y
from_half c y hc hy =
    let h : ℕ = c / 2 in
    let small : c / 2 < 256 = omega arith in
    let low : c % 2 < 256 = omega arith in
    sym (product_comm c y hc hy
    ∙ ap (product y) (sym (same_under 256 (λ c. sum_of (product 2 (c / 2)) (c % 2)) (λ c. c) odd_test c hc))
    ∙ product_sum y (product 2 (c / 2)) (c % 2) (product_byte 2 (c / 2) small) low
    ∙ ap (λ v. sum_of v (product y (c % 2)))
    (product_swap y 2 (c / 2) small ∙ product_comm 2 (product y (c / 2)) (omega arith) (product_byte y (c / 2) small)
    ∙ product_two (product y (c / 2)) (product_byte y (c / 2) small) ∙ ap doubled (product_comm y (c / 2) hy small))
    ∙ ap (sum_of (doubled (product (c / 2) y))) (bit_times (c % 2) y hy (omega arith)))

-- ---- a byte from its halves

halves_test : all_under 256 (λ x. sum_of (x % 16) (16 * (x / 16)) == x) ≡ true
halves_test = refl

pub of_halves : (c x : ℕ) → x < 256 → sum_of (product c (x % 16)) (product c (16 * (x / 16))) ≡ product c x
of_halves c x h =
    sym (product_sum c (x % 16) (16 * (x / 16)) (omega arith) (omega arith))
    ∙ ap (product c) (same_under 256 (λ x. sum_of (x % 16) (16 * (x / 16))) (λ x. x) halves_test x h)

-- ---- a byte's product in the tables

half_low : (n : ℕ) → n < 16 → half n ≡ n
half_low = same_under 16 half (λ n. n) refl

half_high : (n : ℕ) → n < 16 → half (16 + n) ≡ 16 * n
half_high = same_under 16 (λ n. half (16 + n)) (λ n. 16 * n) refl

pub tabled : (bytes : List ℕ) (c x : ℕ) → AreMultiples bytes 256 → c < 256 → x < 256
    → sum_of (get_or bytes (c * 32 + x % 16) 0) (get_or bytes (c * 32 + 16 + x / 16) 0) ≡ product c x
tabled bytes c x are hc hx =
    let place : c * 32 + 16 + x / 16 ≡ c * 32 + (16 + x / 16) = omega arith in
    ap (λ v. sum_of v (get_or bytes (c * 32 + 16 + x / 16) 0)) (are c (x % 16) hc (omega arith) ∙ ap (product c) (half_low (x % 16) (omega arith)))
    ∙ ap (sum_of (product c (x % 16))) (ap (λ p. get_or bytes p 0) place ∙ are c (16 + x / 16) hc (omega arith) ∙ ap (product c) (half_high (x / 16) (omega arith)))
    ∙ of_halves c x hx
