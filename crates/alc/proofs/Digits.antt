-- Numbers as bytes, the highest first.
use Rattle.std.proofs.Common.{◌≡◌, ℕ, zero, suc, ◌+◌, ◌*◌, ◌/◌, ◌%◌, ◌^◌, ◌<◌, ◌≤◌, List, [], ◌∷◌, length, take, arith, refl, ap, sym, ◌∙◌}
use Rattle.std.proofs.lemmas.List.{append-nil, length-take-le}
use Rattle.std.proofs.Math.Nat.{add-mul-div_right, div-eq_of_lt, mul_assoc, pow-succ', div-one, one-le-pow}
use Rattle.std.specs.Int.{byte_at}
use Rattle.byteorder.specs.Endian.{big_from, big_bytes}
use Rattle.byteorder.specs.Numbers.{big_from-cons, big_from-lt, big_from-take, big_number-reads_back, length-bytes_high_first}
use Rattle.lists.specs.Bytes.{AreBytes}
use Rattle.alc.specs.Computed.{number_of}

-- a byte of a number, by its place from the end
pub byte_at-pow : (k x : ℕ) → byte_at k x ≡ x / 256 ^ k % 256
byte_at-pow zero x = ap (λ (y : ℕ). y % 256) (sym (div-one x))
byte_at-pow (suc k) x = refl

pow_pos256 : (n : ℕ) → 0 < 256 ^ n
pow_pos256 n = let h = one-le-pow n 256 (omega arith) in omega arith

-- the number in the first bytes of a longer list
pub number_is : (n : ℕ) (xs : List ℕ) → n ≤ length xs → number_of (take n xs) ≡ big_from 0 n xs
unfolding number_of
number_is n xs h = rw (length-take-le n xs h) (big_from-take 0 n n xs (omega arith))

-- a number that fits is read again
pub number_again : (n v : ℕ) → v < 256 ^ n → number_of (big_bytes n v) ≡ v
unfolding number_of
number_again n v h = rw (length-bytes_high_first n v) (ap (big_from 0 n) (sym (append-nil (big_bytes n v))) ∙ big_number-reads_back n v [] h)

pub number_below : (xs : List ℕ) → AreBytes xs → number_of xs < 256 ^ length xs
unfolding number_of
number_below xs h = big_from-lt 0 (length xs) xs h

-- the bytes above don't matter
low_bytes : (n a k : ℕ) → big_bytes n (a + k * 256 ^ n) ≡ big_bytes n a
low_bytes zero a k = refl
low_bytes (suc n) a k =
    let up : a + k * 256 ^ suc n ≡ a + k * 256 * 256 ^ n = ap (λ (x : ℕ). a + x) (ap (λ (x : ℕ). k * x) (pow-succ' 256 n) ∙ sym (mul_assoc k 256 (256 ^ n))) in
    let top : (a + k * 256 * 256 ^ n) / 256 ^ n ≡ a / 256 ^ n + k * 256 = add-mul-div_right a (k * 256) (pow_pos256 n) in
    let byte : (a + k * 256 * 256 ^ n) / 256 ^ n % 256 ≡ a / 256 ^ n % 256 = rw top (omega arith) in
    rw (byte_at-pow n (a + k * 256 ^ suc n), byte_at-pow n a, up, byte, low_bytes n a (k * 256)) refl

AreBytes-rest : (x : ℕ) (xs : List ℕ) → AreBytes (x ∷ xs) → AreBytes xs
AreBytes-rest x xs h i = h (suc i)

-- bytes that are read are written again
pub bytes_again : (xs : List ℕ) → AreBytes xs → big_bytes (length xs) (number_of xs) ≡ xs
unfolding number_of
bytes_again [] h = refl
bytes_again (x ∷ xs) h =
    let n : ℕ = length xs in
    let v : ℕ = number_of xs in
    let byte : x < 256 = h 0 in
    let below : v < 256 ^ n = number_below xs (AreBytes-rest x xs h) in
    let all : number_of (x ∷ xs) ≡ v + x * 256 ^ n = ap (λ (r : ℕ). x * 256 ^ n + r) (big_from-cons 0 n x xs) ∙ omega arith in
    let top : (v + x * 256 ^ n) / 256 ^ n ≡ v / 256 ^ n + x = add-mul-div_right v x (pow_pos256 n) in
    let none : v / 256 ^ n ≡ 0 = div-eq_of_lt below in
    let first : (v + x * 256 ^ n) / 256 ^ n % 256 ≡ x = rw (top, none) (omega arith) in
    ap (big_bytes (suc n)) all ∙ (rw (byte_at-pow n (v + x * 256 ^ n), first, low_bytes n v x, bytes_again xs (AreBytes-rest x xs h)) refl)
