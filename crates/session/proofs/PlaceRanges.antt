-- Ranges, by their first places, gone over place by place.
use Rattle.std.specs.Prelude.{Bool, true, false, ◌&&◌, ◌||◌, nat_lt, nat_le}
use Rattle.std.proofs.Common.{◌≡◌, ◌<◌, ◌≤◌, ◌+◌, ℕ, suc, List, [], ◌∷◌, length, length-drop, take, drop, get_or, refl, sym, ap, subst, ◌∙◌, arith}
use Rattle.std.specs.List.Sorted.{IsPermutation}
use Rattle.std.proofs.lemmas.List.{take-append-drop, get_or-drop}
use Rattle.std.proofs.lemmas.List.Folds.{list_any-append}
use Rattle.std.proofs.lemmas.List.Sorted.{list_any-IsPermutation}
use Rattle.std.proofs.lemmas.Bool.{lt-leb}
use Rattle.session.specs.Ranges.{has_place, is_in_some}
use Rattle.session.specs.RangeSteps.{AreByFirst, HaveSamePlaces, HaveBegun}
use Rattle.session.specs.declared.range.PlaceRange.{PlaceRange}

-- ---- a sorted copy

pub same_places : (ranges sorted : List PlaceRange) → IsPermutation ranges sorted → HaveSamePlaces ranges sorted
same_places ranges sorted moved place = sym (list_any-IsPermutation (λ range. has_place range place) ranges sorted moved)

-- ---- one range more

pub none_begun : (ranges : List PlaceRange) → AreByFirst ranges → HaveBegun ranges 0 0 0
none_begun ranges rising = record {
  rising = rising;
  within = omega arith;
  none = λ e. refl;
  over = λ q l. refl;
}

-- a place before all of the ranges
before_all : (ranges : List PlaceRange) (place : ℕ) → ((i : ℕ) (d : PlaceRange) → i < length ranges → place < (get_or ranges i d).first) → is_in_some ranges place ≡ false
before_all [] place before = refl
before_all (r ∷ rs) place before =
    let here : place < r.first = before 0 r (omega arith) in
    ap (λ (v : Bool). (v && nat_le place r.last) || is_in_some rs place) (lt-leb r.first place here)
    ∙ before_all rs place (λ i d l. before (suc i) d (omega arith))

-- no other range has the place
pub all_begun : (ranges : List PlaceRange) (k last place : ℕ) → HaveBegun ranges k last place → ((d : PlaceRange) → k < length ranges → place < (get_or ranges k d).first)
    → is_in_some ranges place ≡ (nat_lt 0 k && nat_le place last)
all_begun ranges k last place h next =
    ap (λ (rs : List PlaceRange). is_in_some rs place) (sym (take-append-drop k ranges))
    ∙ list_any-append (λ range. has_place range place) (take k ranges) (drop k ranges)
    ∙ ap (λ (v : Bool). v || is_in_some (drop k ranges) place) (h.over place (omega arith))
    ∙ ap (λ (v : Bool). (nat_lt 0 k && nat_le place last) || v) (before_all (drop k ranges) place later)
    ∙ or_false (nat_lt 0 k && nat_le place last)
  where
    or_false : (v : Bool) → (v || false) ≡ v
    or_false true = refl
    or_false false = refl

    later : (i : ℕ) (d : PlaceRange) → i < length (drop k ranges) → place < (get_or (drop k ranges) i d).first
    later i d l =
        let many = length-drop k ranges in
        let rises = h.rising k (k + i) d (omega arith) (omega (arith, many)) in
        let first = next d (omega (arith, many)) in
        subst (λ (r : PlaceRange). place < r.first) (sym (get_or-drop k ranges i d)) (omega (arith, rises, first))

-- at a later place
pub still_begun : (ranges : List PlaceRange) (k last place up : ℕ) → HaveBegun ranges k last place → place ≤ up → HaveBegun ranges k last up
still_begun ranges k last place up h l = record {
  rising = h.rising;
  within = h.within;
  none = h.none;
  over = λ q above. h.over q (omega arith);
}
