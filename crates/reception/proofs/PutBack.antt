-- The answer to a list is the answer to the identity's part of it, with places put back.
use Rattle.std.specs.Prelude.{◌≡◌, ℕ, zero, suc, ◌+◌, ◌-◌, ◌≤◌, Bool, true, false, cond, List, [], ◌∷◌, ◌++◌, length, map, slice_index, slice_get, Option, Some, None, refl}
use Rattle.std.specs.Option.{option_to_list}
use Rattle.std.specs.List.{AllByRecursion}
use Rattle.std.proofs.Common.{◌∙◌, sym, ap, subst, arith, append_assoc, length-append}
use Rattle.std.proofs.lemmas.List.{length-map}
use Rattle.alc.specs.Reading.{Reading}
use Rattle.alc.specs.Computed.{read_of}
use Rattle.alc.proofs.Again.{exact}
use Rattle.lists.specs.Selection.{chosen}
use Rattle.reception.specs.declared.scope.Identity.{Identity}
use Rattle.reception.specs.declared.scope.Scope.{Scope}
use Rattle.reception.specs.Symbols.{Symbol}
use Rattle.std.specs.Option.{option_or}
use Rattle.reception.specs.Reception.{ReadAll, Placed, counts, counted_from, counted, symbols, symbols_in, learned, scope_from, asked, Judge, Wrong, Reception, reading_wrong, wrong_after, reception_with}
use Rattle.reception.specs.Walks.{at_place, first_wrong, Found}
use Rattle.reception.specs.Readings.{readings_of}
use Rattle.reception.specs.Answer.{Clash, Answer, Empty, Fault, NotCode, Missing, Object, AnswerTo, IsAnswer, clash, reception_of}
use Rattle.reception.specs.Isolation.{places_of, put_back, IsIsolated}
use Rattle.reception.proofs.OneAnswer.{same_readings}

-- the datagrams that count, in their order: where each is a packet, the identity's packets
abbrev part_of : Identity → List (List ℕ) → List (List ℕ)
part_of who [] = []
part_of who (d ∷ ds) = cond (counts who (read_of d)) (d ∷ []) [] ++ part_of who ds

-- all readings, with their places from i on
abbrev placed_from : ℕ → List Reading → List Placed
placed_from i [] = []
placed_from i (r ∷ rs) = record { place = i; reading = r } ∷ placed_from (i + 1) rs

abbrev mine : Identity → List Reading → List Reading
mine who [] = []
mine who (r ∷ rs) = cond (counts who r) (r ∷ []) [] ++ mine who rs

abbrev found_back : {R : Type 0} → List ℕ → ℕ → Found R → Found R
found_back places n None = None
found_back places n (Some x) = Some (slice_index places (x.0 - n), x.1)

abbrev zipped : List ℕ → List Reading → List Placed
zipped [] rs = []
zipped (p ∷ ps) [] = []
zipped (p ∷ ps) (r ∷ rs) = record { place = p; reading = r } ∷ zipped ps rs

filter_idle : (who : Identity) (i : ℕ) (rs : List Reading) → AllByRecursion (λ r. counts who r ≡ true) rs → counted_from who i rs ≡ placed_from i rs
filter_idle who i [] h = refl
filter_idle who i (r ∷ rs) h =
    ap (λ (v : Bool). cond v (record { place = i; reading = r } ∷ []) [] ++ counted_from who (i + 1) rs) h.0
    ∙ ap (λ (xs : List Placed). record { place = i; reading = r } ∷ xs) (filter_idle who (i + 1) rs h.1)

unzip : (xs : List Placed) → zipped (map (λ (x : Placed). x.place) xs) (map (λ (x : Placed). x.reading) xs) ≡ xs
unzip [] = refl
unzip (x ∷ xs) = ap (λ (ys : List Placed). x ∷ ys) (unzip xs)

mine_is : (who : Identity) (i : ℕ) (rs : List Reading) → map (λ (x : Placed). x.reading) (counted_from who i rs) ≡ mine who rs
mine_is who i [] = refl
mine_is who i (r ∷ rs) =
    let ih = mine_is who (i + 1) rs in
    elim (counts who r) as (λ v. map (λ (x : Placed). x.reading) (cond v (record { place = i; reading = r } ∷ []) [] ++ counted_from who (i + 1) rs) ≡ cond v (r ∷ []) [] ++ mine who rs) [
      | true ↦ ap (λ (ys : List Reading). r ∷ ys) ih
      | false ↦ ih
    ]

mine_counts : (who : Identity) (rs : List Reading) → AllByRecursion (λ r. counts who r ≡ true) (mine who rs)
mine_counts who [] = tt
mine_counts who (r ∷ rs) =
    let ih = mine_counts who rs in
    elim (counts who r) as (λ v. counts who r ≡ v → AllByRecursion (λ x. counts who x ≡ true) (cond v (r ∷ []) [] ++ mine who rs)) [
      | true ↦ λ e. (e, ih)
      | false ↦ λ e. ih
    ] refl

scope_zipped : (known : Scope) (n : ℕ) (ps : List ℕ) (rs : List Reading) → length ps ≡ length rs → scope_from known (zipped ps rs) ≡ scope_from known (placed_from n rs)
scope_zipped known n [] [] e = refl
scope_zipped known n [] (r ∷ rs) e = absurd (omega (arith, e))
scope_zipped known n (p ∷ ps) [] e = absurd (omega (arith, e))
scope_zipped known n (p ∷ ps) (r ∷ rs) e = scope_zipped (learned known r) (n + 1) ps rs (omega (arith, e))

symbols_zipped : (n : ℕ) (ps : List ℕ) (rs : List Reading) → length ps ≡ length rs → symbols (zipped ps rs) ≡ symbols (placed_from n rs)
symbols_zipped n [] [] e = refl
symbols_zipped n [] (r ∷ rs) e = absurd (omega (arith, e))
symbols_zipped n (p ∷ ps) [] e = absurd (omega (arith, e))
symbols_zipped n (p ∷ ps) (r ∷ rs) e = ap (λ (ss : List Symbol). symbols_in r ++ ss) (symbols_zipped (n + 1) ps rs (omega (arith, e)))

module _ {R : Type 0} (judge : Judge R) (f : Scope) where
  -- no place below the first
  low : (n : ℕ) (earlier : List Symbol) (rs : List Reading) (i : ℕ) (w : Wrong R) → wrong_after judge f earlier (placed_from n rs) ≡ Some (i, w) → n ≤ i
  low n earlier [] i w h = absurd (cc)
  low n earlier (r ∷ rs) i w h = by (reading_wrong judge f earlier r) h (λ k. low (n + 1) (earlier ++ symbols_in r) rs i w k)
    where
      first : (p q : ℕ × Wrong R) → Some p ≡ Some q → p.0 ≡ q.0
      first p q e = let s : p ≡ q = cc in ap (λ (t : ℕ × Wrong R). t.0) s

      by : (o : Option (Wrong R)) → option_or (at_place n o) (wrong_after judge f (earlier ++ symbols_in r) (placed_from (n + 1) rs)) ≡ Some (i, w)
          → (wrong_after judge f (earlier ++ symbols_in r) (placed_from (n + 1) rs) ≡ Some (i, w) → n + 1 ≤ i) → n ≤ i
      by (Some v) e ih = let s = first (n, v) (i, w) e in omega (arith, s)
      by None e ih = let l = ih e in omega (arith, l)

  put_later : (p : ℕ) (ps : List ℕ) (n : ℕ) (o : Found R) → ((i : ℕ) (w : Wrong R) → o ≡ Some (i, w) → n + 1 ≤ i) → found_back ps (n + 1) o ≡ found_back (p ∷ ps) n o
  put_later p ps n None h = refl
  put_later p ps n (Some x) h =
      let l : n + 1 ≤ x.0 = h x.0 x.1 refl in
      let e : x.0 - n ≡ suc (x.0 - (n + 1)) = omega (arith, l) in
      ap (λ (k : ℕ). Some (k, x.1)) (sym (ap (λ (k : ℕ). slice_index (p ∷ ps) k) e))

  put_all : (earlier : List Symbol) (n : ℕ) (ps : List ℕ) (rs : List Reading) → length ps ≡ length rs
      → wrong_after judge f earlier (zipped ps rs) ≡ found_back ps n (wrong_after judge f earlier (placed_from n rs))
  put_all earlier n [] [] e = refl
  put_all earlier n [] (r ∷ rs) e = absurd (omega (arith, e))
  put_all earlier n (p ∷ ps) [] e = absurd (omega (arith, e))
  put_all earlier n (p ∷ ps) (r ∷ rs) e =
      by (reading_wrong judge f earlier r) (put_all (earlier ++ symbols_in r) (n + 1) ps rs (omega (arith, e)))
      (put_later p ps n (wrong_after judge f (earlier ++ symbols_in r) (placed_from (n + 1) rs)) (λ i w k. low (n + 1) (earlier ++ symbols_in r) rs i w k))
    where
      by : (o : Option (Wrong R)) → wrong_after judge f (earlier ++ symbols_in r) (zipped ps rs) ≡ found_back ps (n + 1) (wrong_after judge f (earlier ++ symbols_in r) (placed_from (n + 1) rs))
          → found_back ps (n + 1) (wrong_after judge f (earlier ++ symbols_in r) (placed_from (n + 1) rs)) ≡ found_back (p ∷ ps) n (wrong_after judge f (earlier ++ symbols_in r) (placed_from (n + 1) rs))
          → option_or (at_place p o) (wrong_after judge f (earlier ++ symbols_in r) (zipped ps rs))
          ≡ found_back (p ∷ ps) n (option_or (at_place n o) (wrong_after judge f (earlier ++ symbols_in r) (placed_from (n + 1) rs)))
      by (Some w) ih later = let z : zero ≡ n - n = omega arith in ap (λ (k : ℕ). Some (slice_index (p ∷ ps) k, w)) z
      by None ih later = ih ∙ later

-- ---- what a list says

abbrev placed_back : {R : Type 0} → List ℕ → Reception R → Reception R
placed_back places c = record { wrong = found_back places 0 c.wrong; scope = c.scope; symbols = c.symbols }

reception_is : {R : Type 0} (a b : Found R) (f g : Scope) (s t : List Symbol) → a ≡ b → f ≡ g → s ≡ t
    → ◌≡◌ {A = Reception R} (record { wrong = a; scope = f; symbols = s }) (record { wrong = b; scope = g; symbols = t })
reception_is a b f g s t h k l = cc

-- is what the identity's part says, with the places put back
isolated : {R : Type 0} (judge : Judge R) (known : Scope) (rs : List Reading)
    → reception_with judge known rs ≡ placed_back (map (λ (x : Placed). x.place) (counted known.identity rs)) (reception_with judge known (mine known.identity rs))
isolated judge known rs =
    let who = known.identity in
    let ps = map (λ (x : Placed). x.place) (counted who rs) in
    let n : length ps ≡ length (mine who rs) =
    length-map (counted who rs) (λ (x : Placed). x.place) ∙ sym (length-map (counted who rs) (λ (x : Placed). x.reading)) ∙ ap (λ (ys : List Reading). length ys) (mine_is who 0 rs) in
    let whole : counted who rs ≡ zipped ps (mine who rs) = sym (unzip (counted who rs)) ∙ ap (λ (ys : List Reading). zipped ps ys) (mine_is who 0 rs) in
    let part : counted who (mine who rs) ≡ placed_from 0 (mine who rs) = filter_idle who 0 (mine who rs) (mine_counts who rs) in
    let f : scope_from known (counted who rs) ≡ scope_from known (counted who (mine who rs)) =
    ap (λ (xs : List Placed). scope_from known xs) whole ∙ scope_zipped known 0 ps (mine who rs) n ∙ ap (λ (xs : List Placed). scope_from known xs) (sym part) in
    let s : symbols (counted who rs) ≡ symbols (counted who (mine who rs)) =
    ap (λ (xs : List Placed). symbols xs) whole ∙ symbols_zipped 0 ps (mine who rs) n ∙ ap (λ (xs : List Placed). symbols xs) (sym part) in
    reception_is _ _ _ _ _ _
    (ap (λ (g : Scope). first_wrong judge g (counted who rs)) f
    ∙ ap (λ (xs : List Placed). first_wrong judge (scope_from known (counted who (mine who rs))) xs) whole
    ∙ put_all judge (scope_from known (counted who (mine who rs))) [] 0 ps (mine who rs) n
    ∙ ap (λ (xs : List Placed). found_back ps 0 (first_wrong judge (scope_from known (counted who (mine who rs))) xs)) (sym part))
    f
    s

-- ---- answers

part_readings : (who : Identity) (ds : List (List ℕ)) → readings_of (part_of who ds) ≡ mine who (readings_of ds)
part_readings who [] = refl
part_readings who (d ∷ ds) =
    let ih = part_readings who ds in
    elim (counts who (read_of d)) as (λ v. readings_of (cond v (d ∷ []) [] ++ part_of who ds) ≡ cond v (read_of d ∷ []) [] ++ mine who (readings_of ds)) [
      | true ↦ ap (λ (ys : List Reading). read_of d ∷ ys) ih
      | false ↦ ih
    ]

part_read : (who : Identity) (ds : List (List ℕ)) → ReadAll ds (readings_of ds) → ReadAll (part_of who ds) (readings_of (part_of who ds))
part_read who [] read = tt
part_read who (d ∷ ds) read =
    let ih = part_read who ds read.1 in
    elim (counts who (read_of d)) as (λ v. ReadAll (cond v (d ∷ []) [] ++ part_of who ds) (readings_of (cond v (d ∷ []) [] ++ part_of who ds))) [
      | true ↦ (read.0, ih)
      | false ↦ ih
    ]

answers_back : (places : List ℕ) (c : Reception Clash) (a : Answer) → AnswerTo c a → AnswerTo (placed_back places c) (put_back places a)
answers_back places c Empty h = (ap (λ (o : Found Clash). found_back places 0 o) h.0, h.1)
answers_back places c (Fault i wrong) h =
    let z : i - 0 ≡ i = omega arith in
    ap (λ (o : Found Clash). found_back places 0 o) h ∙ ap (λ (k : ℕ). Some (slice_index places k, wrong)) z
answers_back places c (NotCode b) h = (h.0, record { clean = ap (λ (o : Found Clash). found_back places 0 o) h.1.clean; some = h.1.some }, h.2)
answers_back places c (Missing b have need) h = (h.0, record { clean = ap (λ (o : Found Clash). found_back places 0 o) h.1.clean; some = h.1.some }, h.2, h.3, h.4, h.5)
answers_back places c (Object object) h = (h.0, record { clean = ap (λ (o : Found Clash). found_back places 0 o) h.1.clean; some = h.1.some }, h.2, h.3, h.4)

-- they are those at the places of the readings that count
part_chosen : (who : Identity) (front ds : List (List ℕ)) (i : ℕ) → length front ≡ i
    → chosen (front ++ ds) (map (λ (x : Placed). x.place) (counted_from who i (readings_of ds))) ≡ part_of who ds
part_chosen who front [] i e = refl
part_chosen who front (d ∷ ds) i e =
    let moved : (front ++ d ∷ []) ++ ds ≡ front ++ d ∷ ds = append_assoc front (d ∷ []) ds in
    let long : length (front ++ d ∷ []) ≡ i + 1 = (let l = length-append front (d ∷ []) in omega (arith, l, e)) in
    let places : List ℕ = map (λ (x : Placed). x.place) (counted_from who (i + 1) (readings_of ds)) in
    let later : chosen (front ++ d ∷ ds) places ≡ part_of who ds =
    ap (λ (xs : List (List ℕ)). chosen xs places) (sym moved) ∙ part_chosen who (front ++ d ∷ []) ds (i + 1) long in
    let here : slice_get (front ++ d ∷ ds) i ≡ Some d = at_front front d ds i e in
    elim (counts who (read_of d)) as (λ v. chosen (front ++ d ∷ ds) (map (λ (x : Placed). x.place) (cond v (record { place = i; reading = read_of d } ∷ []) [] ++ counted_from who (i + 1) (readings_of ds))) ≡ cond v (d ∷ []) [] ++ part_of who ds) [
      | true ↦ ap (λ (o : Option (List ℕ)). option_to_list o ++ chosen (front ++ d ∷ ds) places) here ∙ ap (λ (xs : List (List ℕ)). d ∷ xs) later
      | false ↦ later
    ]
  where
    at_front : (xs : List (List ℕ)) (y : List ℕ) (ys : List (List ℕ)) (n : ℕ) → length xs ≡ n → slice_get (xs ++ y ∷ ys) n ≡ Some y
    at_front [] y ys zero k = refl
    at_front [] y ys (suc n) k = absurd (omega (arith, k))
    at_front (x ∷ xs) y ys zero k = absurd (omega (arith, k))
    at_front (x ∷ xs) y ys (suc n) k = at_front xs y ys n (omega (arith, k))

-- the readings are what is computed
pub readings_are : (ds : List (List ℕ)) (rs : List Reading) → ReadAll ds rs → readings_of ds ≡ rs
readings_are [] [] h = refl
readings_are [] (r ∷ rs) h = absurd h
readings_are (d ∷ ds) [] h = absurd h
readings_are (d ∷ ds) (r ∷ rs) h =
    ap (λ (x : Reading). x ∷ readings_of ds) (exact d r h.0) ∙ ap (λ (xs : List Reading). r ∷ xs) (readings_are ds rs h.1)

isolated_part : (who : Identity) (ds : List (List ℕ)) → ReadAll ds (readings_of ds) → IsIsolated who ds (readings_of ds)
isolated_part who ds read answer whole =
    let h = subst (λ (xs : List (List ℕ)). IsAnswer who xs answer) (part_chosen who [] ds 0 refl) whole in
    let part = same_readings (part_of who ds) h.readings (readings_of (part_of who ds)) h.read (part_read who ds read) in
    let here : AnswerTo (reception_of who (mine who (readings_of ds))) answer =
    subst (λ (rs : List Reading). AnswerTo (reception_of who rs) answer) (part ∙ part_readings who ds) h.answers in
    record {
      readings = readings_of ds;
      read = read;
      answers = subst (λ (c : Reception Clash). AnswerTo c (put_back (places_of who (readings_of ds)) answer)) (sym (isolated clash (asked who) (readings_of ds)))
          (answers_back (places_of who (readings_of ds)) (reception_of who (mine who (readings_of ds))) answer here);
    }

pub is_isolated : (who : Identity) (ds : List (List ℕ)) (rs : List Reading) → ReadAll ds rs → IsIsolated who ds rs
is_isolated who ds rs read =
    let are = readings_are ds rs read in
    subst (λ (xs : List Reading). IsIsolated who ds xs) are (isolated_part who ds (subst (λ (xs : List Reading). ReadAll ds xs) (sym are) read))
