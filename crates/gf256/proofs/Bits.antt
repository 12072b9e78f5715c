use Rattle.std.proofs.Common.{ℕ, zero, suc, ◌≡◌, ◌<◌, ◌≤◌, ◌+◌, ◌-◌, ◌*◌, ◌/◌, ◌%◌, ◌^◌, true, refl, sym, subst, ◌∙◌, ap, arith, bit_xor}
use Rattle.std.specs.Prelude.{◌==◌}
use Rattle.std.specs.Int.Bits.{xor_zero_r}
use Rattle.std.proofs.lemmas.Nat.{shr_high}
use Rattle.std.proofs.lemmas.Bool.Decides.{Decides-eqb}
use Rattle.std.proofs.Math.Nat.{div-eq_of_lt, div-div-eq-div-mul, pow-succ', two-pow-succ}
use Rattle.std.proofs.Math.Pow.{pow_mono}
use Rattle.gf256.specs.Computing.{all_under, passes}
use Rattle.gf256.specs.ByteSums.{byte_sum}
use Rattle.gf256.specs.Slices.{pick, bit, choice_sum, IsEightfold}
use Rattle.gf256.proofs.SliceSums.{sum_same}

bit_above : (x p : ℕ) → p < 2 ^ x → bit x p ≡ 0
bit_above x p h = ap (λ v. v % 2) (div-eq_of_lt h)

bit_top : (x c : ℕ) → c < 2 ^ x → bit x (2 ^ x + c) ≡ 1
bit_top x c h =
    let e : 2 ^ x + c ≡ 1 * 2 ^ x + c = omega arith in
    ap (bit x) e ∙ ap (λ v. v % 2) (shr_high 1 x c h)

low_test : all_under 6 (λ y. all_under 6 (λ d. all_under 64 (λ c. bit y (2 ^ (y + 1 + d) + c) == bit y c))) ≡ true
low_test = refl

bit_low : (x y c : ℕ) → x ≤ 6 → y < x → c < 64 → bit y (2 ^ x + c) ≡ bit y c
bit_low x y c lx ly lc =
    let e : x ≡ y + 1 + (x - y - 1) = omega arith in
    ap (λ k. bit y (2 ^ k + c)) e
    ∙ (Decides-eqb _ _).0 (passes 64 (λ c. bit y (2 ^ (y + 1 + (x - y - 1)) + c) == bit y c)
    (passes 6 (λ d. all_under 64 (λ c. bit y (2 ^ (y + 1 + d) + c) == bit y c))
    (passes 6 (λ y. all_under 6 (λ d. all_under 64 (λ c. bit y (2 ^ (y + 1 + d) + c) == bit y c))) low_test y (omega arith))
    (x - y - 1) (omega arith)) c lc)

-- one more bit
pub bit_first : (s l : ℕ) → l < 2 → bit 0 (2 * s + l) ≡ l
bit_first s l h = omega arith

pub bit_next : (y s l : ℕ) → l < 2 → bit (suc y) (2 * s + l) ≡ bit y s
bit_next y s l h =
    let half : (2 * s + l) / 2 ≡ s = omega arith in
    ap (λ k. ((2 * s + l) / k) % 2) (pow-succ' 2 y)
    ∙ ap (λ v. v % 2) (sym (div-div-eq-div-mul (2 * s + l) 2 (2 ^ y)) ∙ ap (λ v. v / 2 ^ y) half)

-- one more source: the sums without it stay, and those with it stand behind them
pub choice_low : (x p : ℕ) (f : ℕ → ℕ) → p < 2 ^ x → choice_sum (suc x) p f ≡ choice_sum x p f
choice_low x p f h = ap (λ b. bit_xor (choice_sum x p f) (pick b (f x))) (bit_above x p h) ∙ xor_zero_r (choice_sum x p f)

pub choice_high : (x c : ℕ) (f : ℕ → ℕ) → x ≤ 6 → c < 2 ^ x → choice_sum (suc x) (2 ^ x + c) f ≡ bit_xor (choice_sum x c f) (f x)
choice_high x c f lx h =
    let most : 2 ^ x ≤ 2 ^ 6 = pow_mono lx in
    ap (λ b. bit_xor (choice_sum x (2 ^ x + c) f) (pick b (f x))) (bit_top x c h)
    ∙ ap (λ v. bit_xor v (f x)) (sum_same x _ _ (λ y l. ap (λ b. pick b (f y)) (bit_low x y c lx l (omega arith))))

-- a choice by a number with the same bits
pub choice_same : (n p : ℕ) (b f : ℕ → ℕ) → ((x : ℕ) → x < n → bit x p ≡ b x) → choice_sum n p f ≡ byte_sum n (λ x. pick (b x) (f x))
choice_same n p b f h = sum_same n _ _ (λ x l. ap (λ v. pick v (f x)) (h x l))

-- a number with one more bit below its own
pub number_is : (n s l v : ℕ) → n < 6 → s < 2 ^ n → l < 2 → v ≡ (2 * s + l) % 256 → v ≡ 2 * s + l
number_is n s l v ln ls ll ev =
    let most : 2 ^ n ≤ 2 ^ 5 = pow_mono {i = n} {j = 5} (omega arith) in
    omega arith

pub number_small : (n s l v : ℕ) → n < 6 → s < 2 ^ n → l < 2 → v ≡ (2 * s + l) % 256 → v < 2 ^ suc n
number_small n s l v ln ls ll ev =
    let is = number_is n s l v ln ls ll ev in
    let twice = two-pow-succ n in
    omega arith

pub number_bits : (n s l v : ℕ) (b : ℕ → ℕ) → n < 6 → s < 2 ^ n → l < 2 → v ≡ (2 * s + l) % 256 → l ≡ b 0 → ((y : ℕ) → y < n → bit y s ≡ b (suc y)) → (y : ℕ) → y < suc n → bit y v ≡ b y
number_bits n s l v b ln ls ll ev e0 es zero ly = ap (bit 0) (number_is n s l v ln ls ll ev) ∙ bit_first s l ll ∙ e0
number_bits n s l v b ln ls ll ev e0 es (suc y) ly = ap (bit (suc y)) (number_is n s l v ln ls ll ev) ∙ bit_next y s l ll ∙ es y (omega arith)

-- a list's number
pub eightfold_same : (n m size : ℕ) (b : ℕ → ℕ) → n ≡ m → IsEightfold m size b → IsEightfold n size b
eightfold_same n m size b e h = subst (λ k. IsEightfold k size b) (sym e) h

pub eightfold_of : (n v size : ℕ) (b : ℕ → ℕ) → n ≡ 8 * v → ((x : ℕ) → x < size → bit x v ≡ b x) → IsEightfold n size b
eightfold_of n v size b e h =
    let back : n / 8 ≡ v = omega arith in
    record { whole = omega arith; each = λ x l. ap (bit x) back ∙ h x l }
