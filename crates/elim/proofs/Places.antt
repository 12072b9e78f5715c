-- Places of entries in the list of all.
use Rattle.std.proofs.Common.{◌≡◌, ℕ, ◌+◌, ◌-◌, ◌*◌, ◌<◌, List, length, get_or, set, inl, inr, get_or-set_same, get_or-set_other}
use Rattle.std.proofs.lemmas.Bool.{cases_lt}
use Rattle.std.proofs.lemmas.Nat.{mul-add-lt, same_from_place}
use Rattle.std.proofs.lemmas.List.{get_or-replicate, length-replicate, get_or_past, get_or-drop, length-drop}
use Rattle.std.proofs.lemmas.Nat.{row_fits}
use Rattle.gf256.specs.FieldLaws.{IsField}
use Rattle.elim.specs.Steps.{IsRowSet}
use Rattle.std.proofs.Math.Nat.{mul_comm}
use Rattle.std.specs.Prelude.{replicate, ◌≤◌}
use Rattle.std.proofs.Common.{arith, take, drop, get_or-take, length-take-le, ◌∙◌}

pub place_below : (rows cols i j : ℕ) → i < rows → j < cols → i * cols + j < rows * cols
place_below rows cols i j hi hj = rw (mul_comm rows cols) (mul-add-lt i cols j rows hi hj)

pub set_here : {F : Type 0} (l : List F) (rows cols i j : ℕ) (v none : F) → length l ≡ rows * cols → i < rows → j < cols → get_or (set l (i * cols + j) v) (i * cols + j) none ≡ v
set_here l rows cols i j v none len hi hj = get_or-set_same l (i * cols + j) v none (rw len (place_below rows cols i j hi hj))

pub set_other : {F : Type 0} (l : List F) (cols i j a b : ℕ) (v none : F) → j < cols → b < cols → (a ≡ i → b ≡ j → ⊥)
    → get_or (set l (i * cols + j) v) (a * cols + b) none ≡ get_or l (a * cols + b) none
set_other l cols i j a b v none hj hb apart =
    get_or-set_other l (i * cols + j) (a * cols + b) v none (λ e. let s = same_from_place a b i j cols hb hj e in apart s.0 s.1)

pub none_everywhere : {F : Type 0} (n : ℕ) (none : F) (i : ℕ) → get_or (replicate n none) i none ≡ none
none_everywhere n none i = elim (cases_lt i n) [
  | inl lt ↦ get_or-replicate n i none none lt
  | inr le ↦ get_or_past (replicate n none) i none (rw (length-replicate n none) le)
]

pub elements_none : {F : Type 0} (element : F → Type 0) (n : ℕ) (none : F) → element none → (i : ℕ) → element (get_or (replicate n none) i none)
elements_none element n none e i = rw (none_everywhere n none i) e

pub place_before : (cols r i j : ℕ) → i < r → j < cols → i * cols + j < r * cols
place_before cols r i j lt lj = place_below r cols i j lt lj

pub place_after : (cols r i j : ℕ) → r < i → r * cols + cols ≤ i * cols + j
place_after cols r i j lt = let h : r * cols + cols ≤ i * cols = row_fits r cols i cols lt (omega arith) in omega arith

pub added_row : {F : Type 0} (add mul : F → F → F) (none c : F) (rows cols r p : ℕ) (old new : List F)
    → ((j : ℕ) → j < cols → get_or new (r * cols + j) none ≡ add (get_or old (r * cols + j) none) (mul c (get_or old (p * cols + j) none)))
    → ((i : ℕ) → i < r * cols → get_or new i none ≡ get_or old i none)
    → ((i : ℕ) → r * cols + cols ≤ i → get_or new i none ≡ get_or old i none)
    → IsRowSet rows cols r (λ j. add (get_or old (r * cols + j) none) (mul c (get_or old (p * cols + j) none))) (λ i j. get_or old (i * cols + j) none) (λ i j. get_or new (i * cols + j) none)
added_row add mul none c rows cols r p old new here before after = record {
  here = here;
  others = λ i j li lj ne. elim (cases_lt i r) [
    | inl lt ↦ before (i * cols + j) (place_before cols r i j lt lj)
    | inr le ↦ (let lt : r < i = omega arith in after (i * cols + j) (place_after cols r i j lt))
  ];
}

pub added_elements : {F : Type 0} (element : F → Type 0) (add mul : F → F → F) (none one : F) → IsField element add mul none one
    → (c : F) (from cols other : ℕ) (old new : List F) → element c → ((i : ℕ) → element (get_or old i none))
    → ((j : ℕ) → j < cols → get_or new (from + j) none ≡ add (get_or old (from + j) none) (mul c (get_or old (other + j) none)))
    → ((i : ℕ) → i < from → get_or new i none ≡ get_or old i none)
    → ((i : ℕ) → from + cols ≤ i → get_or new i none ≡ get_or old i none)
    → (i : ℕ) → element (get_or new i none)
added_elements element add mul none one field c from cols other old new ec eo here before after i = elim (cases_lt i from) [
  | inl lt ↦ rw (before i lt) (eo i)
  | inr le ↦ elim (cases_lt i (from + cols)) [
    | inl lt ↦ (let e : from + (i - from) ≡ i = omega arith in
        let inside : i - from < cols = omega arith in
        rw (← e) (rw (here (i - from) inside) (field.add_element _ _ (eo (from + (i - from))) (field.mul_element _ _ ec (eo (other + (i - from)))))))
    | inr past ↦ rw (after i past) (eo i)
  ]
]

pub row_added : {F : Type 0} (add mul : F → F → F) (none c : F) (rows cols r : ℕ) (row : ℕ → F) (old new : List F)
    → ((j : ℕ) → j < cols → get_or new (r * cols + j) none ≡ add (get_or old (r * cols + j) none) (mul c (row j)))
    → ((i : ℕ) → i < r * cols → get_or new i none ≡ get_or old i none)
    → ((i : ℕ) → r * cols + cols ≤ i → get_or new i none ≡ get_or old i none)
    → IsRowSet rows cols r (λ j. add (get_or old (r * cols + j) none) (mul c (row j))) (λ i j. get_or old (i * cols + j) none) (λ i j. get_or new (i * cols + j) none)
row_added add mul none c rows cols r row old new here before after = record {
  here = here;
  others = λ i j li lj ne. elim (cases_lt i r) [
    | inl lt ↦ before (i * cols + j) (place_before cols r i j lt lj)
    | inr le ↦ (let lt : r < i = omega arith in after (i * cols + j) (place_after cols r i j lt))
  ];
}

pub row_added_elements : {F : Type 0} (element : F → Type 0) (add mul : F → F → F) (none one : F) → IsField element add mul none one
    → (c : F) (from cols : ℕ) (row : ℕ → F) (old new : List F) → element c → ((i : ℕ) → element (get_or old i none)) → ((j : ℕ) → element (row j))
    → ((j : ℕ) → j < cols → get_or new (from + j) none ≡ add (get_or old (from + j) none) (mul c (row j)))
    → ((i : ℕ) → i < from → get_or new i none ≡ get_or old i none)
    → ((i : ℕ) → from + cols ≤ i → get_or new i none ≡ get_or old i none)
    → (i : ℕ) → element (get_or new i none)
row_added_elements element add mul none one field c from cols row old new ec eo er here before after i = elim (cases_lt i from) [
  | inl lt ↦ rw (before i lt) (eo i)
  | inr le ↦ elim (cases_lt i (from + cols)) [
    | inl lt ↦ (let e : from + (i - from) ≡ i = omega arith in
        let inside : i - from < cols = omega arith in
        rw (← e) (rw (here (i - from) inside) (field.add_element _ _ (eo (from + (i - from))) (field.mul_element _ _ ec (er (i - from))))))
    | inr past ↦ rw (after i past) (eo i)
  ]
]

-- a row of a list, as a slice
pub part_at : {F : Type 0} (none : F) (from cols j : ℕ) (xs : List F) → j < cols → get_or (take (from + cols - from) (drop from xs)) j none ≡ get_or xs (from + j) none
part_at none from cols j xs lt = get_or-take (from + cols - from) (drop from xs) j none (omega arith) ∙ get_or-drop from xs j none

pub part_length : {F : Type 0} (from cols : ℕ) (xs : List F) → from + cols ≤ length xs → length (take (from + cols - from) (drop from xs)) ≡ cols
part_length from cols xs le = length-take-le (from + cols - from) (drop from xs) (omega (arith, le, length-drop from xs)) ∙ omega arith
