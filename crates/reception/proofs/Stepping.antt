-- One step is one reading more.
use Rattle.std.specs.Prelude.{◌≡◌, ℕ, Bool, true, false, if◌then◌else◌, cond, List, [], ◌∷◌, ◌++◌, length, ◌+◌, Option, Some, None, Ok, Err, refl}
use Rattle.std.proofs.Common.{◌∙◌, sym, ap}
use Rattle.std.proofs.lemmas.List.{append-nil}
use Rattle.partition.specs.Fti.{Fti}
use Rattle.alc.specs.Reading.{Reading}
use Rattle.reception.specs.declared.scope.Identity.{Identity}
use Rattle.reception.specs.declared.scope.Scope.{Scope}
use Rattle.reception.specs.Symbols.{Symbol}
use Rattle.std.specs.Option.{option_or}
use Rattle.reception.specs.Reception.{Judge, Placed, Reception, counts, counted_from, counted, symbols, symbols_in, learned, scope_from, reading_wrong, wrong_after, reception_with}
use Rattle.reception.specs.Walks.{step, Timely, at_place, told, first_wrong, Found}
use Rattle.reception.proofs.Walk.{counted_more, counted_one_more, symbols_more, scope_more, identity_stays, or_else_none, wrong_more}

came_is : {R : Type 0} (a b : Found R) (f g : Scope) (s t : List Symbol) → a ≡ b → f ≡ g → s ≡ t
    → ◌≡◌ {A = Reception R} (record { wrong = a; scope = f; symbols = s }) (record { wrong = b; scope = g; symbols = t })
came_is a b f g s t h k l = cc

-- ---- what is known stays known

abbrev pub scope : Identity → Option Fti → Scope
scope who f = record { identity = who; fti = f }

pub stays : (who : Identity) (f : Fti) (xs : List Placed) → scope_from (scope who (Some f)) xs ≡ scope who (Some f)
stays who f [] = refl
stays who f (x ∷ xs) = stays who f xs

-- what holds in the end of a list holds already before it where an FTI is known
pub known_stays : (known : Scope) (f : Fti) (xs : List Placed) → known.fti ≡ Some f → scope_from known xs ≡ known
known_stays known f xs e =
    let is : known ≡ scope known.identity (Some f) = ap (λ (o : Option Fti). scope known.identity o) e in
    ap (λ (s : Scope). scope_from s xs) is ∙ stays known.identity f xs ∙ sym is

-- where none is known in the end, none was before
pub none_before : (known : Scope) (xs : List Placed) → (scope_from known xs).fti ≡ None → known.fti ≡ None
none_before known xs h = by known.fti refl
  where
    by : (o : Option Fti) → known.fti ≡ o → known.fti ≡ None
    by None e = e
    by (Some f) e = absurd (let s = ap (λ (k : Scope). k.fti) (known_stays known f xs e) ∙ e in (cc))

-- a second walk, by one who knows what holds in the end, learns nothing
pub settled : (known : Scope) (xs : List Placed) → scope_from (scope_from known xs) xs ≡ scope_from known xs
settled known xs = by (scope_from known xs).fti refl
  where
    learns_nothing : (k : Scope) (ys : List Placed) → (scope_from k ys).fti ≡ None → scope_from k ys ≡ k
    learns_nothing k [] h = refl
    learns_nothing k (y ∷ ys) h =
        let later = learns_nothing (learned k y.reading) ys h in
        let none : (learned k y.reading).fti ≡ None = none_before (learned k y.reading) ys h in
        let first : k.fti ≡ None = none_before k (y ∷ ys) h in
        later ∙ ap (λ (o : Option Fti). scope k.identity o) (none ∙ sym first)

    by : (o : Option Fti) → (scope_from known xs).fti ≡ o → scope_from (scope_from known xs) xs ≡ scope_from known xs
    by (Some f) e = known_stays (scope_from known xs) f xs e
    by None e = ap (λ (k : Scope). scope_from k xs) (learns_nothing known xs e)

-- ---- what comes to be known changes nothing of what came before

module _ {R : Type 0} (judge : Judge R) where
  -- where no symbol came, the scope says nothing
  pub no_symbols : (f g : Scope) (earlier : List Symbol) (xs : List Placed) → symbols xs ≡ []
      → wrong_after judge f earlier xs ≡ wrong_after judge g earlier xs
  no_symbols f g earlier [] h = refl
  no_symbols f g earlier (x ∷ xs) h = by x.reading h
    where
      by : (r : Reading) → symbols_in r ++ symbols xs ≡ []
          → option_or (at_place x.place (reading_wrong judge f earlier r)) (wrong_after judge f (earlier ++ symbols_in r) xs)
          ≡ option_or (at_place x.place (reading_wrong judge g earlier r)) (wrong_after judge g (earlier ++ symbols_in r) xs)
      by (Err e) k = refl
      by (Ok p) k = absurd (cc)

  same_before : (s : Scope) (r : Reading) (xs : List Placed) → Timely s.fti (symbols xs)
      → wrong_after judge (learned s r) [] xs ≡ wrong_after judge s [] xs
  same_before s r xs h = by s.fti h
    where
      by : (f : Option Fti) → Timely f (symbols xs) → wrong_after judge (learned (scope s.identity f) r) [] xs ≡ wrong_after judge (scope s.identity f) [] xs
      by (Some f) k = refl
      by None k = no_symbols (learned (scope s.identity None) r) (scope s.identity None) [] xs k

  -- what is known, of the readings that count
  abbrev of_counted : Scope → List Placed → Reception R
  of_counted known ys = record { wrong = first_wrong judge (scope_from known ys) ys; scope = scope_from known ys; symbols = symbols ys }

  one_counted : (known : Scope) (rs : List Reading) (r : Reading)
      → Timely (scope_from known (counted known.identity rs)).fti (symbols (counted known.identity rs))
      → of_counted known (counted known.identity rs ++ record { place = length rs; reading = r } ∷ []) ≡ told judge (length rs) (reception_with judge known rs) r
  one_counted known rs r timely =
      let xs = counted known.identity rs in
      let x : Placed = record { place = length rs; reading = r } in
      let f : scope_from known (xs ++ x ∷ []) ≡ learned (scope_from known xs) r = scope_more known xs (x ∷ []) in
      came_is _ _ _ _ _ _
      (ap (λ (s : Scope). first_wrong judge s (xs ++ x ∷ [])) f
      ∙ wrong_more judge (learned (scope_from known xs) r) [] xs (x ∷ [])
      ∙ ap (λ (o : Found R). option_or o (option_or (at_place (length rs) (reading_wrong judge (learned (scope_from known xs) r) ([] ++ symbols xs) r)) None))
      (same_before (scope_from known xs) r xs timely)
      ∙ ap (λ (o : Found R). option_or (first_wrong judge (scope_from known xs) xs) o)
      (or_else_none (at_place (length rs) (reading_wrong judge (learned (scope_from known xs) r) (symbols xs) r))))
      f
      (symbols_more xs (x ∷ []) ∙ ap (λ (ss : List Symbol). symbols xs ++ ss) (append-nil (symbols_in r)))

  -- whether a reading counts is the same before and after others
  pub counts_still : (known : Scope) (rs : List Reading) (r : Reading) → counts (reception_with judge known rs).scope.identity r ≡ counts known.identity r
  counts_still known rs r = ap (λ (w : Identity). counts w r) (identity_stays known (counted known.identity rs))

  -- what holds with one reading more is a step from what held before, where no symbol came before
  -- an FTI was known
  pub one_more : (known : Scope) (rs : List Reading) (r : Reading) → Timely (scope_from known (counted known.identity rs)).fti (symbols (counted known.identity rs))
      → reception_with judge known (rs ++ r ∷ []) ≡ step judge (length rs) (reception_with judge known rs) r
  one_more known rs r timely =
      let c = reception_with judge known rs in
      let x : Placed = record { place = length rs; reading = r } in
      ap (λ (ys : List Placed). of_counted known ys) (counted_one_more known.identity rs r)
      ∙ elim (counts known.identity r) as (λ v. of_counted known (counted known.identity rs ++ cond v (x ∷ []) [])
      ≡ (if v then told judge (length rs) (reception_with judge known rs) r else reception_with judge known rs)) [
        | true ↦ one_counted known rs r timely
        | false ↦ ap (λ (ys : List Placed). of_counted known ys) (append-nil (counted known.identity rs))
      ]
      ∙ ap (λ (v : Bool). if v then told judge (length rs) (reception_with judge known rs) r else reception_with judge known rs) (sym (counts_still known rs r))

  -- where an FTI is known, what is wrong in the beginning of a list is wrong in the list
  pub stays_wrong : (who : Identity) (f : Fti) (rs ss : List Reading) (x : ℕ × _) → (reception_with judge (scope who (Some f)) rs).wrong ≡ Some x
      → (reception_with judge (scope who (Some f)) (rs ++ ss)).wrong ≡ Some x
  stays_wrong who f rs ss x h =
      let known = scope who (Some f) in
      let more : counted who (rs ++ ss) ≡ counted who rs ++ counted_from who (0 + length rs) ss = counted_more who 0 rs ss in
      let here : first_wrong judge known (counted who rs) ≡ Some x = ap (λ (s : Scope). first_wrong judge s (counted who rs)) (sym (stays who f (counted who rs))) ∙ h in
      ap (λ (s : Scope). first_wrong judge s (counted who (rs ++ ss))) (stays who f (counted who (rs ++ ss)))
      ∙ ap (λ (xs : List Placed). first_wrong judge known xs) more
      ∙ wrong_more judge known [] (counted who rs) (counted_from who (0 + length rs) ss)
      ∙ ap (λ (o : Found R). option_or o (wrong_after judge known ([] ++ symbols (counted who rs)) (counted_from who (0 + length rs) ss))) here

  -- a second walk, by one who knows what holds in the end, finds the same
  pub second_walk : (known : Scope) (rs : List Reading) → reception_with judge (scope_from known (counted known.identity rs)) rs ≡ reception_with judge known rs
  second_walk known rs =
      let xs = counted known.identity rs in
      let same : counted (scope_from known xs).identity rs ≡ xs = ap (λ (w : Identity). counted w rs) (identity_stays known xs) in
      ap (λ (ys : List Placed). of_counted (scope_from known xs) ys) same
      ∙ ap (λ (s : Scope). record { wrong = first_wrong judge s xs; scope = s; symbols = symbols xs }) (settled known xs)
