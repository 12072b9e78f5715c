-- The places of the members that pass, as a loss.
use Rattle.std.specs.Prelude.{◌≡◌, ℕ, suc, ◌+◌, ◌<◌, ◌≤◌, Bool, true, false, ◌||◌, ◌==◌, not, cond, List, [], ◌∷◌, length, filter, refl}
use Rattle.std.specs.List.{AllByRecursion}
use Rattle.std.proofs.Common.{◌∙◌, ap, arith}
use Rattle.std.proofs.lemmas.Bool.{eqb-true, eq-eqb}
use Rattle.lists.specs.Selection.{is_among, lost_from, rest_from}
use Rattle.losses.specs.Costs.{count}
use Rattle.losses.specs.Losses.{places_from}
use Rattle.lists.specs.Places.{IsRising}

-- a loss of just the members that pass
abbrev pub Marks : {X : Type 0} → (X → Bool) → (ℕ → Bool) → ℕ → List X → Type 0
Marks g lost i [] = Unit {0}
Marks g lost i (x ∷ xs) = (lost i ≡ g x) × Marks g lost (i + 1) xs

other : (a b : ℕ) → (a ≡ b → ⊥) → (a == b) ≡ false
other a b ne = elim (a == b) as (λ v. (a == b) ≡ v → v ≡ false) [ true ↦ λ e. absurd (ne (eqb-true a b e)) | false ↦ λ e. refl ] refl

module _ {X : Type 0} (g : X → Bool) where
  pub marks_rest : (lost : ℕ → Bool) (i : ℕ) (xs : List X) → Marks g lost i xs → rest_from i lost xs ≡ filter (λ x. not (g x)) xs
  marks_rest lost i [] h = refl
  marks_rest lost i (x ∷ xs) h =
      let e = marks_rest lost (i + 1) xs h.1 in
      let d = h.0 in
      rw d
      (elim (g x) as (λ v. cond v (rest_from (i + 1) lost xs) (x ∷ rest_from (i + 1) lost xs) ≡ cond (not v) (x ∷ filter (λ y. not (g y)) xs) (filter (λ y. not (g y)) xs)) [
        | true ↦ e
        | false ↦ ap (λ ys. x ∷ ys) e
      ])

  pub marks_size : (lost : ℕ → Bool) (i : ℕ) (xs : List X) → Marks g lost i xs → lost_from i lost (length xs) ≡ count g xs
  marks_size lost i [] h = refl
  marks_size lost i (x ∷ xs) h =
      let e = marks_size lost (i + 1) xs h.1 in
      let d = ap (λ (v : Bool). cond {A = ℕ} v 1 0) h.0 in
      omega (arith, e, d)

  marks_same : (lost lost2 : ℕ → Bool) (i : ℕ) (xs : List X) → ((k : ℕ) → i ≤ k → lost2 k ≡ lost k) → Marks g lost i xs → Marks g lost2 i xs
  marks_same lost lost2 i [] same h = tt
  marks_same lost lost2 i (x ∷ xs) same h =
      (same i (omega arith) ∙ h.0, marks_same lost lost2 (i + 1) xs (λ k l. same k (omega arith)) h.1)

  pub places_above : (i j : ℕ) (xs : List X) → j ≤ i → AllByRecursion (λ p. j ≤ p) (places_from g i xs)
  places_above i j [] l = tt
  places_above i j (x ∷ xs) l =
      let e = places_above (i + 1) j xs (omega arith) in
      elim (g x) as (λ v. AllByRecursion (λ p. j ≤ p) (cond v (i ∷ places_from g (i + 1) xs) (places_from g (i + 1) xs))) [
        | true ↦ (l, e)
        | false ↦ e
      ]

  pub places_below : (i j : ℕ) (xs : List X) → i + length xs ≤ j → AllByRecursion (λ p. p < j) (places_from g i xs)
  places_below i j [] l = tt
  places_below i j (x ∷ xs) l =
      let e = places_below (i + 1) j xs (omega arith) in
      elim (g x) as (λ v. AllByRecursion (λ p. p < j) (cond v (i ∷ places_from g (i + 1) xs) (places_from g (i + 1) xs))) [
        | true ↦ (omega arith, e)
        | false ↦ e
      ]

  pub places_rise : (i : ℕ) (xs : List X) → IsRising (places_from g i xs)
  places_rise i [] = tt
  places_rise i (x ∷ xs) =
      let e = places_rise (i + 1) xs in
      let a = places_above (i + 1) (suc i) xs (omega arith) in
      elim (g x) as (λ v. IsRising (cond v (i ∷ places_from g (i + 1) xs) (places_from g (i + 1) xs))) [
        | true ↦ (a, e)
        | false ↦ e
      ]

  pub places_count : (i : ℕ) (xs : List X) → length (places_from g i xs) ≡ count g xs
  places_count i [] = refl
  places_count i (x ∷ xs) =
      let e = places_count (i + 1) xs in
      elim (g x) as (λ v. length (cond v (i ∷ places_from g (i + 1) xs) (places_from g (i + 1) xs)) ≡ cond v 1 0 + count g xs) [
        | true ↦ omega (arith, e)
        | false ↦ omega (arith, e)
      ]

  not_among : (i : ℕ) (ps : List ℕ) → AllByRecursion (λ p. suc i ≤ p) ps → is_among ps i ≡ false
  not_among i [] h = refl
  not_among i (p ∷ ps) h = let a = h.0 in let e : (p == i) ≡ false = other p i (λ x. omega arith) in rw e (not_among i ps h.1)

  pub marks_places : (i : ℕ) (xs : List X) → Marks g (is_among (places_from g i xs)) i xs
  marks_places i [] = tt
  marks_places i (x ∷ xs) =
      let ih = marks_places (i + 1) xs in
      let a = places_above (i + 1) (suc i) xs (omega arith) in
      elim (g x) as (λ v. (is_among (cond v (i ∷ places_from g (i + 1) xs) (places_from g (i + 1) xs)) i ≡ v) × Marks g (is_among (cond v (i ∷ places_from g (i + 1) xs) (places_from g (i + 1) xs))) (i + 1) xs) [
        | true ↦ (
          ap (λ v. v || is_among (places_from g (i + 1) xs) i) (eq-eqb i i refl),
          marks_same (is_among (places_from g (i + 1) xs)) (is_among (i ∷ places_from g (i + 1) xs)) (i + 1) xs
              (λ k l. ap (λ v. v || is_among (places_from g (i + 1) xs) k) (other i k (λ e. omega arith))) ih,
        )
        | false ↦ (not_among i (places_from g (i + 1) xs) a, ih)
      ]
