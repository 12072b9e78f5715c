-- Lists of bytes, and parts of lists.
use Rattle.std.proofs.Common.{◌≡◌, ℕ, zero, suc, ◌+◌, ◌-◌, ◌<◌, ◌≤◌, ltb, true, inl, inr, List, [], ◌∷◌, ◌++◌, length, take, drop, get_or, arith, refl, ap, sym, subst, ◌∙◌}
use Rattle.std.specs.List.{list_all}
use Rattle.std.proofs.lemmas.Bool.{and_parts, cases_lt, ltb-true}
use Rattle.std.proofs.lemmas.List.{get_or-drop, get_or-take, get_or_past, get_or_append_left, get_or-append_right, length-take, length-drop, take-append-drop, drop-drop, take_at, drop_at}
use Rattle.byteorder.specs.Endian.{big_bytes}
use Rattle.lists.specs.Bytes.{AreBytes}
use Rattle.alc.specs.Computed.{part}
use Rattle.alc.proofs.Digits.{byte_at-pow}

pub AreBytes-cons : (x : ℕ) (xs : List ℕ) → x < 256 → AreBytes xs → AreBytes (x ∷ xs)
AreBytes-cons x xs hx h zero = hx
AreBytes-cons x xs hx h (suc i) = h i

pub AreBytes-append : (xs ys : List ℕ) → AreBytes xs → AreBytes ys → AreBytes (xs ++ ys)
AreBytes-append xs ys hx hy i =
    elim (cases_lt i (length xs)) [
      | inl lt ↦ rw (get_or_append_left xs ys 0 i lt) (hx i)
      | inr le ↦ rw (get_or-append_right xs ys (length xs) i 0 refl le) (hy (i - length xs))
    ]

pub AreBytes-drop : (n : ℕ) (xs : List ℕ) → AreBytes xs → AreBytes (drop n xs)
AreBytes-drop n xs h i = rw get_or-drop (h (n + i))

pub AreBytes-take : (n : ℕ) (xs : List ℕ) → AreBytes xs → AreBytes (take n xs)
AreBytes-take n xs h i =
    elim (cases_lt i n) [
      | inl lt ↦ rw (get_or-take n xs i 0 lt) (h i)
      | inr le ↦ rw (get_or_past (take n xs) i 0 (omega (arith, length-take n xs))) (omega arith)
    ]

pub AreBytes-part : (from size : ℕ) (xs : List ℕ) → AreBytes xs → AreBytes (part from size xs)
AreBytes-part from size xs h = AreBytes-take size (drop from xs) (AreBytes-drop from xs h)

-- a list that a test finds to be of bytes
pub AreBytes-test : (xs : List ℕ) → list_all (λ x. ltb x 256) xs ≡ true → AreBytes xs
AreBytes-test [] h i = omega arith
AreBytes-test (x ∷ xs) h i =
    let p = and_parts (ltb x 256) (list_all (λ y. ltb y 256) xs) h in
    AreBytes-cons x xs (ltb-true x 256 p.0) (AreBytes-test xs p.1) i

pub AreBytes-big_bytes : (n v : ℕ) → AreBytes (big_bytes n v)
AreBytes-big_bytes zero v = AreBytes-test [] refl
AreBytes-big_bytes (suc n) v = AreBytes-cons _ (big_bytes n v) (rw (byte_at-pow n v) (omega arith)) (AreBytes-big_bytes n v)

pub length-part : (from size : ℕ) (xs : List ℕ) → from + size ≤ length xs → length (part from size xs) ≡ size
length-part from size xs h = omega (arith, length-take size (drop from xs), length-drop from xs)

-- a part, and what follows it
pub cut : (from size : ℕ) (xs : List ℕ) → drop from xs ≡ part from size xs ++ drop (from + size) xs
cut from size xs = sym (take-append-drop size (drop from xs)) ∙ ap (λ (r : List ℕ). take size (drop from xs) ++ r) (drop-drop size from xs)

-- the part that stands there
pub part_at : (p q r : List ℕ) (from size : ℕ) → length p ≡ from → length q ≡ size → part from size (p ++ (q ++ r)) ≡ q
part_at p q r from size hp hq = ap (take size) (drop_at p (q ++ r) from hp) ∙ take_at q r size hq

-- a part of bytes
pub AreBytes-inside : (p q r xs : List ℕ) → xs ≡ p ++ (q ++ r) → AreBytes xs → AreBytes q
AreBytes-inside p q r xs e h =
    let is : part (length p) (length q) xs ≡ q = ap (λ (x : List ℕ). part (length p) (length q) x) e ∙ part_at p q r (length p) (length q) refl refl in
    subst (λ (x : List ℕ). AreBytes x) is (AreBytes-part (length p) (length q) xs h)

pub four : (xs : List ℕ) → 4 ≤ length xs → xs ≡ get_or xs 0 0 ∷ get_or xs 1 0 ∷ get_or xs 2 0 ∷ get_or xs 3 0 ∷ drop 4 xs
four [] h = absurd (omega arith)
four (a ∷ []) h = absurd (omega arith)
four (a ∷ b ∷ []) h = absurd (omega arith)
four (a ∷ b ∷ c ∷ []) h = absurd (omega arith)
four (a ∷ b ∷ c ∷ e ∷ xs) h = refl
