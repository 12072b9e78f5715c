-- The walk over a list of readings, one more at its end.
use Rattle.std.specs.Prelude.{◌≡◌, ℕ, ◌+◌, true, false, cond, List, [], ◌∷◌, ◌++◌, length, Option, Some, None, refl}
use Rattle.std.specs.List.{AllByRecursion}
use Rattle.std.proofs.Common.{◌∙◌, sym, ap, arith}
use Rattle.std.proofs.lemmas.List.{append_assoc, append-nil}
use Rattle.alc.specs.Reading.{Reading}
use Rattle.reception.specs.declared.scope.Scope.{Scope}
use Rattle.reception.specs.declared.scope.Identity.{Identity}
use Rattle.reception.specs.Symbols.{Symbol}
use Rattle.std.specs.Option.{option_or}
use Rattle.reception.specs.Reception.{Judge, Placed, counts, placed_at, counted_from, counted, symbols, symbols_in, learned, scope_from, reading_wrong, wrong_after}
use Rattle.reception.specs.Walks.{at_place, Found}

pub counted_more : (who : Identity) (i : ℕ) (rs ss : List Reading) → counted_from who i (rs ++ ss) ≡ counted_from who i rs ++ counted_from who (i + length rs) ss
counted_more who i [] ss = let e : i + 0 ≡ i = omega arith in ap (λ (n : ℕ). counted_from who n ss) (sym e)
counted_more who i (r ∷ rs) ss =
    let n : (i + 1) + length rs ≡ i + length (r ∷ rs) = omega arith in
    ap (λ (xs : List Placed). placed_at who i r ++ xs)
    (counted_more who (i + 1) rs ss ∙ ap (λ (k : ℕ). counted_from who (i + 1) rs ++ counted_from who k ss) n)
    ∙ sym (append_assoc (placed_at who i r) (counted_from who (i + 1) rs) (counted_from who (i + length (r ∷ rs)) ss))

pub counted_one_more : (who : Identity) (rs : List Reading) (r : Reading) → counted who (rs ++ r ∷ []) ≡ counted who rs ++ placed_at who (length rs) r
counted_one_more who rs r =
    let n : 0 + length rs ≡ length rs = omega arith in
    counted_more who 0 rs (r ∷ []) ∙ ap (λ (k : ℕ). counted who rs ++ counted_from who k (r ∷ [])) n
    ∙ ap (λ (xs : List Placed). counted who rs ++ xs) (append-nil (placed_at who (length rs) r))

-- all that is counted counts
pub each_counts : (who : Identity) (i : ℕ) (rs : List Reading) → AllByRecursion (λ x. counts who x.reading ≡ true) (counted_from who i rs)
each_counts who i [] = tt
each_counts who i (r ∷ rs) =
    let later = each_counts who (i + 1) rs in
    elim (counts who r) as (λ v. counts who r ≡ v → AllByRecursion (λ x. counts who x.reading ≡ true) (cond v (record { place = i; reading = r } ∷ []) [] ++ counted_from who (i + 1) rs)) [
      | true ↦ λ e. (e, later)
      | false ↦ λ e. later
    ] refl

pub symbols_more : (xs ys : List Placed) → symbols (xs ++ ys) ≡ symbols xs ++ symbols ys
symbols_more [] ys = refl
symbols_more (x ∷ xs) ys =
    ap (λ (ss : List Symbol). symbols_in x.reading ++ ss) (symbols_more xs ys)
    ∙ sym (append_assoc (symbols_in x.reading) (symbols xs) (symbols ys))

pub scope_more : (known : Scope) (xs ys : List Placed) → scope_from known (xs ++ ys) ≡ scope_from (scope_from known xs) ys
scope_more known [] ys = refl
scope_more known (x ∷ xs) ys = scope_more (learned known x.reading) xs ys

-- the identity that is asked for stays
pub identity_stays : (known : Scope) (xs : List Placed) → (scope_from known xs).identity ≡ known.identity
identity_stays known [] = refl
identity_stays known (x ∷ xs) = identity_stays (learned known x.reading) xs

or_else_assoc : {X : Type 0} (a b c : Option X) → option_or (option_or a b) c ≡ option_or a (option_or b c)
or_else_assoc None b c = refl
or_else_assoc (Some x) b c = refl

pub or_else_none : {X : Type 0} (a : Option X) → option_or a None ≡ a
or_else_none None = refl
or_else_none (Some x) = refl

module _ {R : Type 0} (judge : Judge R) (scope : Scope) where
  pub wrong_more : (earlier : List Symbol) (xs ys : List Placed)
      → wrong_after judge scope earlier (xs ++ ys)
      ≡ option_or (wrong_after judge scope earlier xs) (wrong_after judge scope (earlier ++ symbols xs) ys)
  wrong_more earlier [] ys = ap (λ (ss : List Symbol). wrong_after judge scope ss ys) (sym (append-nil earlier))
  wrong_more earlier (x ∷ xs) ys =
      let here = at_place x.place (reading_wrong judge scope earlier x.reading) in
      let e = wrong_more (earlier ++ symbols_in x.reading) xs ys in
      let a = append_assoc earlier (symbols_in x.reading) (symbols xs) in
      ap (λ (o : Found R). option_or here o)
      (e ∙ ap (λ (ss : List Symbol). option_or (wrong_after judge scope (earlier ++ symbols_in x.reading) xs) (wrong_after judge scope ss ys)) a)
      ∙ sym (or_else_assoc here (wrong_after judge scope (earlier ++ symbols_in x.reading) xs) (wrong_after judge scope (earlier ++ symbols (x ∷ xs)) ys))
