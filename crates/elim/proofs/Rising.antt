-- Lists of rising numbers.
use Rattle.std.proofs.Common.{◌≡◌, ℕ, zero, suc, ◌+◌, ◌<◌, ◌≤◌, List, [], ◌∷◌, ◌++◌, length, get_or, arith, inl, inr, length-append}
use Rattle.std.proofs.lemmas.Bool.{cases_eq, cases_lt}
use Rattle.std.proofs.lemmas.List.{get_or_append_left, get_or_push}
use Rattle.elim.specs.Erasures.{AreRising}

-- a greater number more
pub rising_more : (xs : List ℕ) (v : ℕ) → ((i : ℕ) → i < length xs → get_or xs i 0 < v) → AreRising xs → AreRising (xs ++ v ∷ [])
rising_more xs v greater rise i j lt lj =
    let whole : j < length xs + 1 = (let c = length-append xs (v ∷ []) in omega arith) in
    let inside : i < length xs = omega arith in
    let first = get_or_append_left xs (v ∷ []) 0 i inside in
    elim (cases_eq j (length xs)) [
      | inl last ↦ (let second = get_or_push xs v 0 j (omega arith) in omega (arith, greater i inside))
      | inr before ↦ (let inside2 : j < length xs = omega arith in
          let second = get_or_append_left xs (v ∷ []) 0 j inside2 in
          omega (arith, rise i j lt inside2))
    ]

-- places of rising numbers that are the same
pub place_same : (xs : List ℕ) → AreRising xs → (a b : ℕ) → a < length xs → b < length xs → get_or xs a 0 ≡ get_or xs b 0 → a ≡ b
place_same xs rise a b la lb e = elim (cases_lt a b) [
  | inl lt ↦ absurd (omega (arith, rise a b lt lb))
  | inr le ↦ elim (cases_lt b a) [
    | inl lt ↦ absurd (omega (arith, rise b a lt la))
    | inr le2 ↦ omega arith
  ]
]

-- rising numbers are no less than their places
pub place_at_most : (xs : List ℕ) → AreRising xs → (i : ℕ) → i < length xs → i ≤ get_or xs i 0
place_at_most xs rise zero lt = omega arith
place_at_most xs rise (suc i) lt =
    let before : i ≤ get_or xs i 0 = place_at_most xs rise i (omega arith) in
    let step : get_or xs i 0 < get_or xs (suc i) 0 = rise i (suc i) (omega arith) lt in
    omega arith
