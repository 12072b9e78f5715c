-- The first points of the code, and their powers.
use Rattle.std.proofs.Common.{◌≡◌, ℕ, zero, suc, ◌+◌, ◌*◌, ◌<◌, ◌≤◌, List, [], ◌∷◌, ◌++◌, length, get_or, take, arith, ap, subst, ◌∙◌, sym, refl, inl, inr, length-append, length-take, get_or-take}
use Rattle.std.specs.List.{AllByRecursion}
use Rattle.std.proofs.lemmas.Bool.{cases_eq}
use Rattle.std.proofs.lemmas.List.{get_or_append_left, get_or_push, get_or_read}
use Rattle.lists.specs.Bytes.{IsByte}
use Rattle.gf256.specs.Arithmetic.{product, point, alpha_to}
use Rattle.gf256.specs.Powers.{alpha_to_sum}
use Rattle.gf256.specs.ByteField.{point_byte, point_apart}
use Rattle.poly.specs.Polynomial.{power_over, AreDifferent}
use Rattle.poly.proofs.Lists.{all_from_places, different_from_places}
use Rattle.elim.specs.Generator.{power_entry}
use Rattle.elim.specs.CodePoints.{ArePoints}

pub points_bytes : (n : ℕ) (xs : List ℕ) → ArePoints n xs → AllByRecursion IsByte xs
points_bytes n xs h = all_from_places IsByte 0 xs (λ i lt. let inside : i < n = rw h.count at lt in rw (h.at i inside) (point_byte i))

pub points_different : (n : ℕ) (xs : List ℕ) → n ≤ 255 → ArePoints n xs → AreDifferent xs
points_different n xs few h = different_from_places 0 xs (λ i j lt lj e.
    let inside : j < n = rw h.count at lj in
    let inside2 : i < n = omega arith in
    let low : j < 255 = omega arith in
    let low2 : i < 255 = omega arith in
    let same : j ≡ i = point_apart j i low low2 (sym (h.at j inside) ∙ e ∙ h.at i inside2) in
    omega arith)

pub points_front : (k n : ℕ) (xs : List ℕ) → k ≤ n → ArePoints n xs → ArePoints k (take k xs)
points_front k n xs le h = record {
  count = (let c = h.count in simp length-take (omega arith));
  at = λ j lj. (let inside : j < n = omega arith in get_or-take k xs j 0 lj ∙ h.at j inside);
}

-- what is read of them
pub point_read : (xs : List ℕ) (i x : ℕ) → ArePoints (length xs) xs → i < length xs → x ≡ get_or xs i x → x ≡ point i
point_read xs i x h lt is = get_or_read xs i x lt is 0 ∙ h.at i lt

pub byte_read : (xs : List ℕ) (i x : ℕ) → ArePoints (length xs) xs → i < length xs → x ≡ get_or xs i x → IsByte x
byte_read xs i x h lt is = subst IsByte (sym (point_read xs i x h lt is)) (point_byte i)

pub points_none : ArePoints 0 []
points_none = record { count = refl; at = λ j lt. absurd (omega arith) }

pub points_more : (n : ℕ) (xs : List ℕ) (v : ℕ) → v ≡ point n → ArePoints n xs → ArePoints (n + 1) (xs ++ v ∷ [])
points_more n xs v e h = record {
  count = (let c = h.count in simp length-append (omega arith));
  at = λ j lj. elim (cases_eq j n) [
    | inl e2 ↦ rw e2 (get_or_push xs v 0 n h.count ∙ e)
    | inr ne ↦ (let low : j < n = omega arith in let inside : j < length xs = rw h.count low in get_or_append_left xs (v ∷ []) 0 j inside ∙ h.at j low)
  ];
}

pub power_of_point : (i j : ℕ) → power_over product 1 (point j) i ≡ power_entry i j
unfolding power_over alpha_to
power_of_point zero j = let e : 0 ≡ 0 * j = omega arith in ap alpha_to e
power_of_point (suc i) j =
    let e : j + i * j ≡ suc i * j = grind arith in
    ap (product (point j)) (power_of_point i j) ∙ alpha_to_sum j (i * j) ∙ ap alpha_to e
