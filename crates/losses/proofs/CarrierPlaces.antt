-- The carriers' places stand for the carriers: what a loss leaves of the one it leaves of the
-- other.
use Rattle.std.specs.Prelude.{◌≡◌, ℕ, ◌+◌, ◌<◌, ◌≤◌, Bool, true, false, ◌||◌, cond, List, [], ◌∷◌, length, refl}
use Rattle.std.specs.List.{list_any}
use Rattle.std.proofs.Common.{◌∙◌, ap, arith}
use Rattle.lists.specs.Selection.{rest_from, is_among}
use Rattle.losses.specs.Losses.{places_from}
use Rattle.losses.specs.Groups.{places, AreCarriers}
use Rattle.losses.proofs.Places.{Marks, marks_places}
use Rattle.losses.specs.Ordered.{ArePlacesFrom}
use Rattle.losses.proofs.Ordering.{carriers_told}

-- a loss of just the members that pass, over places
marked_any : {X : Type 0} (g : X → Bool) (marks lost : ℕ → Bool) (i : ℕ) (xs : List X) → Marks g marks i xs → list_any marks (rest_from i lost (places i (length xs))) ≡ list_any g (rest_from i lost xs)
marked_any g marks lost i [] h = refl
marked_any g marks lost i (x ∷ xs) h =
    let ih = marked_any g marks lost (i + 1) xs h.1 in
    elim (lost i) as (λ v. list_any marks (cond v (rest_from (i + 1) lost (places (i + 1) (length xs))) (i ∷ rest_from (i + 1) lost (places (i + 1) (length xs)))) ≡ list_any g (cond v (rest_from (i + 1) lost xs) (x ∷ rest_from (i + 1) lost xs))) [
      | true ↦ ih
      | false ↦ ap (λ (v : Bool). v || list_any marks (rest_from (i + 1) lost (places (i + 1) (length xs)))) h.0 ∙ ap (λ (v : Bool). g x || v) ih
    ]

marked_places : {X : Type 0} (g : X → Bool) (marks : ℕ → Bool) (i : ℕ) (xs : List X) → Marks g marks i xs → places_from marks i (places i (length xs)) ≡ places_from g i xs
marked_places g marks i [] h = refl
marked_places g marks i (x ∷ xs) h =
    let ih = marked_places g marks (i + 1) xs h.1 in
    ap (λ (v : Bool). cond v (i ∷ places_from marks (i + 1) (places (i + 1) (length xs))) (places_from marks (i + 1) (places (i + 1) (length xs)))) h.0
    ∙ ap (λ (ps : List ℕ). cond (g x) (i ∷ ps) ps) ih

module _ {X : Type 0} (g : X → Bool) (xs : List X) where
  -- a loss leaves a carrier where it leaves a carrier's place
  pub carriers_left : (lost : ℕ → Bool) → list_any (is_among (places_from g 0 xs)) (rest_from 0 lost (places 0 (length xs))) ≡ list_any g (rest_from 0 lost xs)
  carriers_left lost = marked_any g (is_among (places_from g 0 xs)) lost 0 xs (marks_places g 0 xs)

  -- and the places are the same
  pub carriers_same : places_from (is_among (places_from g 0 xs)) 0 (places 0 (length xs)) ≡ places_from g 0 xs
  carriers_same = marked_places g (is_among (places_from g 0 xs)) 0 xs (marks_places g 0 xs)

-- the places of members that pass are places of the list
pub are_places : {X : Type 0} (g : X → Bool) (i n : ℕ) (xs : List X) → i + length xs ≤ n → ArePlacesFrom i n (places_from g i xs)
are_places g i n [] l = tt
are_places g i n (x ∷ xs) l =
    let later = are_places g (i + 1) n xs (omega (arith, l)) in
    elim (g x) as (λ v. ArePlacesFrom i n (cond v (i ∷ places_from g (i + 1) xs) (places_from g (i + 1) xs))) [
      | true ↦ (omega arith, omega (arith, l), later)
      | false ↦ wider i n (places_from g (i + 1) xs) later
    ]
  where
    wider : (k m : ℕ) (ps : List ℕ) → ArePlacesFrom (k + 1) m ps → ArePlacesFrom k m ps
    wider k m [] h = tt
    wider k m (p ∷ ps) h = (let a = h.0 in omega (arith, a), h.1, h.2)

some_place : {X : Type 0} (g : X → Bool) (i : ℕ) (xs : List X) → list_any g xs ≡ true → 0 < length (places_from g i xs)
some_place g i [] h = absurd (cc)
some_place g i (x ∷ xs) h =
    elim (g x) as (λ v. (v || list_any g xs) ≡ true → 0 < length (cond v (i ∷ places_from g (i + 1) xs) (places_from g (i + 1) xs))) [
      | true ↦ λ k. omega arith
      | false ↦ λ k. some_place g (i + 1) xs k
    ] h

-- the carriers' places of a list that has one
pub are_carriers : {X : Type 0} (g : X → Bool) (xs : List X) → list_any g xs ≡ true → AreCarriers (places_from g 0 xs) (length xs)
are_carriers g xs h =
    carriers_told (places_from g 0 xs) (length xs) (record { some = some_place g 0 xs h; places = are_places g 0 (length xs) xs (omega arith) })
