-- The places of the carriers: with one reading more, and how many they are.
use Rattle.std.proofs.Common.{◌≡◌, ℕ, ◌+◌, Bool, true, false, ◌&&◌, ◌||◌, cond, List, [], ◌∷◌, ◌++◌, Option, Some, None, Ok, Err, length, refl, sym, ap, ◌∙◌, arith}
use Rattle.std.specs.Prelude.{count_by, is_some, nat_lt}
use Rattle.std.specs.List.{list_any}
use Rattle.std.proofs.lemmas.Bool.{lt-ltb}
use Rattle.std.proofs.lemmas.List.{append-nil}
use Rattle.std.proofs.lemmas.List.Sums.{sum_by-cons}
use Rattle.partition.specs.Fti.{Fti}
use Rattle.alc.specs.Packet.{Packet}
use Rattle.alc.specs.Reading.{Reading}
use Rattle.losses.specs.Losses.{places_from}
use Rattle.reception.specs.declared.scope.Identity.{Identity}
use Rattle.reception.specs.Reception.{is_of_identity, counts, is_carrier}
use Rattle.cert.specs.Scan.{with_carrier}

module _ {X : Type 0} (g : X → Bool) where
  pub places_more : (i : ℕ) (xs : List X) (x : X) → places_from g i (xs ++ x ∷ []) ≡ places_from g i xs ++ cond (g x) ((i + length xs) ∷ []) []
  places_more i [] x = let e : i ≡ i + 0 = omega arith in ap (λ (k : ℕ). cond (g x) (k ∷ []) []) e
  places_more i (y ∷ ys) x =
      let n : (i + 1) + length ys ≡ i + length (y ∷ ys) = omega arith in
      let ih : places_from g (i + 1) (ys ++ x ∷ []) ≡ places_from g (i + 1) ys ++ cond (g x) ((i + length (y ∷ ys)) ∷ []) [] =
      places_more (i + 1) ys x ∙ ap (λ (k : ℕ). places_from g (i + 1) ys ++ cond (g x) (k ∷ []) []) n in
      elim (g y) as (λ v. cond v (i ∷ places_from g (i + 1) (ys ++ x ∷ [])) (places_from g (i + 1) (ys ++ x ∷ []))
      ≡ cond v (i ∷ places_from g (i + 1) ys) (places_from g (i + 1) ys) ++ cond (g x) ((i + length (y ∷ ys)) ∷ []) []) [
        | true ↦ ap (λ (ps : List ℕ). i ∷ ps) ih
        | false ↦ ih
      ]

  pub places_counted : (i : ℕ) (xs : List X) → length (places_from g i xs) ≡ count_by g xs
  places_counted i [] = refl
  places_counted i (x ∷ xs) =
      let ih = places_counted (i + 1) xs in
      (elim (g x) as (λ v. length (cond v (i ∷ places_from g (i + 1) xs) (places_from g (i + 1) xs)) ≡ cond v 1 0 + count_by g xs) [
        | true ↦ omega (arith, ih)
        | false ↦ omega (arith, ih)
      ])
      ∙ sym (sum_by-cons (λ y. cond (g y) 1 0) x xs)

  pub any_place : (i : ℕ) (xs : List X) → list_any g xs ≡ nat_lt 0 (length (places_from g i xs))
  any_place i [] = refl
  any_place i (x ∷ xs) =
      let ih = any_place (i + 1) xs in
      elim (g x) as (λ v. (v || list_any g xs) ≡ nat_lt 0 (length (cond v (i ∷ places_from g (i + 1) xs) (places_from g (i + 1) xs)))) [
        | true ↦ sym (lt-ltb 0 (length (i ∷ places_from g (i + 1) xs)) (omega arith))
        | false ↦ ih
      ]

-- what doesn't count is no carrier
passed_by : (who : Identity) (r : Reading) → counts who r ≡ false → is_carrier who r ≡ false
passed_by who (Ok p) h = ap (λ (v : Bool). v && is_some p.fti) h
passed_by who (Err e) h = absurd (cc)

module _ (who : Identity) (rs : List Reading) where
  -- a packet of another identity adds none
  pub places_passed : (r : Reading) → counts who r ≡ false → places_from (is_carrier who) 0 (rs ++ r ∷ []) ≡ places_from (is_carrier who) 0 rs
  places_passed r h =
      places_more (is_carrier who) 0 rs r
      ∙ ap (λ (v : Bool). places_from (is_carrier who) 0 rs ++ cond v ((0 + length rs) ∷ []) []) (passed_by who r h)
      ∙ append-nil (places_from (is_carrier who) 0 rs)

  with_is : (place : ℕ) (fti : Option Fti) → places_from (is_carrier who) 0 rs ++ cond (is_some fti) (place ∷ []) [] ≡ with_carrier (places_from (is_carrier who) 0 rs) place fti
  with_is place (Some f) = refl
  with_is place None = append-nil (places_from (is_carrier who) 0 rs)

  -- one of the identity adds its place where it carries an FTI
  pub places_with : (p : Packet) → is_of_identity who p ≡ true → places_from (is_carrier who) 0 (rs ++ Ok p ∷ []) ≡ with_carrier (places_from (is_carrier who) 0 rs) (length rs) p.fti
  places_with p mine =
      let n : 0 + length rs ≡ length rs = omega arith in
      places_more (is_carrier who) 0 rs (Ok p)
      ∙ ap (λ (v : Bool). places_from (is_carrier who) 0 rs ++ cond (v && is_some p.fti) ((0 + length rs) ∷ []) []) mine
      ∙ ap (λ (k : ℕ). places_from (is_carrier who) 0 rs ++ cond (is_some p.fti) (k ∷ []) []) n
      ∙ with_is (length rs) p.fti
