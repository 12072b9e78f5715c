-- One block: what leaves it short costs at least its cheapest symbols, and the loss of these does
-- leave it short.
use Rattle.std.specs.Prelude.{◌≡◌, ℕ, zero, suc, ◌+◌, ◌<◌, ◌≤◌, Bool, true, false, ◌&&◌, ◌||◌, ◌==◌, not, cond, List, [], ◌∷◌, ◌++◌, length, filter, refl}
use Rattle.std.specs.List.{AllByRecursion, list_any}
use Rattle.std.proofs.Common.{◌∙◌, sym, ap, arith}
use Rattle.std.proofs.lemmas.Bool.{eqb-true, eq-eqb}
use Rattle.std.proofs.lemmas.List.Filters.{length-filter_both}
use Rattle.lists.specs.Selection.{is_among, loss_size, rest, rest_from}
use Rattle.losses.proofs.Copies.{HasByteEsi, copies_total, filter_filter, is_of_those, lost_at_least, total_none, total_same}
use Rattle.losses.proofs.Exchange.{before_costs, cheapest}
use Rattle.lists.proofs.Lists.{all_of, all_to, filter_all, filter_same}
use Rattle.losses.proofs.Places.{marks_places, marks_rest, marks_size}
use Rattle.losses.specs.Costs.{copies, count, is_cheap, total}
use Rattle.losses.specs.Losses.{IsBefore, places_from}
use Rattle.lists.specs.Below.{below}
use Rattle.losses.specs.Numbers.{has, is_number, present}
use Rattle.losses.specs.Number.{Number}
use Rattle.lists.specs.Places.{IsRising}

pub any_count : {X : Type 0} (p : X → Bool) (xs : List X) → list_any p xs ≡ true → 1 ≤ count p xs
any_count p [] h = absurd (cc)
any_count p (x ∷ xs) h =
    elim (p x) as (λ v. (v || list_any p xs) ≡ true → 1 ≤ cond v 1 0 + count p xs) [
      | true ↦ λ e. omega arith
      | false ↦ λ e. (let ih = any_count p xs e in omega (arith, ih))
    ] h

or_right : (a b : Bool) → b ≡ true → (a || b) ≡ true
or_right true b h = refl
or_right false b h = h

-- what is left was there
pub any_rest : {X : Type 0} (p : X → Bool) (lost : ℕ → Bool) (i : ℕ) (xs : List X) → list_any p (rest_from i lost xs) ≡ true → list_any p xs ≡ true
any_rest p lost i [] h = h
any_rest p lost i (x ∷ xs) h =
    elim (lost i) as (λ v. list_any p (cond v (rest_from (i + 1) lost xs) (x ∷ rest_from (i + 1) lost xs)) ≡ true → (p x || list_any p xs) ≡ true) [
      | true ↦ λ e. or_right (p x) (list_any p xs) (any_rest p lost (i + 1) xs e)
      | false ↦
          elim (p x) as (λ w. (w || list_any p (rest_from (i + 1) lost xs)) ≡ true → (w || list_any p xs) ≡ true) [
            | true ↦ λ e. refl
            | false ↦ λ e. any_rest p lost (i + 1) xs e
          ]
    ] h

-- each number of a block is there
pub has_each : (b : ℕ) (ps : List Number) → AllByRecursion (λ p. (p.block == b) ≡ true → has b ps p.esi ≡ true) ps
has_each b [] = tt
has_each b (p ∷ ps) = (
  (λ e. (let d = eq-eqb p.esi p.esi refl in rw (e, d) refl)),
  all_to (λ q. (q.block == b) ≡ true → has b ps q.esi ≡ true) _ (λ q h e. or_right (p.block == b && p.esi == q.esi) (has b ps q.esi) (h e)) ps (has_each b ps),
)

any_cond : {X : Type 0} (q : X → Bool) (c : Bool) (p : X) (ps : List X) → list_any q (cond c (p ∷ ps) ps) ≡ ((c && q p) || list_any q ps)
any_cond q true p ps = refl
any_cond q false p ps = refl

and_off : (a : Bool) → (a && false) ≡ false
and_off true = refl
and_off false = refl

left_bits : (a w e vj x y : Bool) → x ≡ (y && not vj) → (e ≡ true → w ≡ vj) → ((not (a && w) && (a && e)) || x) ≡ (((a && e) || y) && not vj)
left_bits false w e vj x y h g = h
left_bits true w false vj x y h g = let d = and_off (not w) in rw d h
left_bits true w true true x y h g = let d = g refl in rw d (h ∙ and_off y)
left_bits true w true false x y h g = let d = g refl in rw d refl

-- without the symbols that pass
pub has_left : (b : ℕ) (v : ℕ → Bool) (j : ℕ) (ps : List Number) → has b (filter (λ p. not (is_of_those b v p)) ps) j ≡ (has b ps j && not (v j))
has_left b v j [] = refl
has_left b v j (p ∷ ps) =
    any_cond (is_number b j) (not (is_of_those b v p)) p (filter (λ q. not (is_of_those b v q)) ps)
    ∙ left_bits (p.block == b) (v p.esi) (p.esi == j) (v j) _ (has b ps j) (has_left b v j ps) (λ e. ap v (eqb-true p.esi j e))

implied : (a c : Bool) → (c ≡ true → a ≡ true) → (a && c) ≡ c
implied true c h = refl
implied false true h = let e = h refl in absurd (cc)
implied false false h = refl

-- the members of a block that a loss takes away wholly
abbrev pub is_taken : (ℕ → Bool) → List Number → ℕ → ℕ → Bool
is_taken lost ps b j = not (has b (rest lost ps) j)

abbrev pub taken : (ℕ → Bool) → List Number → ℕ → List ℕ
taken lost ps b = filter (is_taken lost ps b) (present b ps)

pub present_rest : (b : ℕ) (lost : ℕ → Bool) (ps : List Number) → filter (has b (rest lost ps)) (present b ps) ≡ present b (rest lost ps)
present_rest b lost ps =
    filter_filter (has b ps) (has b (rest lost ps)) (below 256)
    ∙ filter_same _ _ (below 256) (all_of _ (λ j. implied (has b ps j) (has b (rest lost ps) j) (any_rest (is_number b j) lost 0 ps)) (below 256))

-- what is left and what is taken wholly are all
pub taken_count : (b : ℕ) (lost : ℕ → Bool) (ps : List Number) → length (present b (rest lost ps)) + length (taken lost ps b) ≡ length (present b ps)
taken_count b lost ps =
    ap (λ (xs : List ℕ). length xs + length (taken lost ps b)) (sym (present_rest b lost ps))
    ∙ length-filter_both (has b (rest lost ps)) (is_taken lost ps b) (λ j. refl) (present b ps)

gone : (a h u : Bool) → (a ≡ true → u ≡ true) → ◌≡◌ {A = ℕ} (cond (a && (h && not u)) 1 0) 0
gone false h u g = refl
gone true false u g = refl
gone true true true g = refl
gone true true false g = let e = g refl in absurd (cc)

-- a loss is at least all copies of what it takes wholly
pub taken_costs : (b : ℕ) (lost : ℕ → Bool) (ps : List Number) → AllByRecursion HasByteEsi ps → total (copies b ps) (taken lost ps b) ≤ loss_size lost ps
taken_costs b lost ps small =
    let g = is_of_those b (λ j. has b ps j && is_taken lost ps b j) in
    let e = ap (total (copies b ps)) (filter_filter (has b ps) (is_taken lost ps b) (below 256)) ∙ copies_total b (λ j. has b ps j && is_taken lost ps b j) ps small in
    let l = lost_at_least (is_of_those b (λ j. has b ps j && is_taken lost ps b j)) lost ps 0 in
    let z : count (is_of_those b (λ j. has b ps j && is_taken lost ps b j)) (rest lost ps) ≡ 0 =
    total_none _ (rest lost ps) (all_to (λ p. (p.block == b) ≡ true → has b (rest lost ps) p.esi ≡ true) _ (λ p h. gone (p.block == b) (has b ps p.esi) (has b (rest lost ps) p.esi) h) (rest lost ps) (has_each b (rest lost ps))) in
    omega (arith, e, l, z)

filter_pass : {X : Type 0} (t : X → Bool) (xs : List X) → AllByRecursion (λ x. t x ≡ true) (filter t xs)
filter_pass t [] = tt
filter_pass t (x ∷ xs) =
    elim (t x) as (λ v. t x ≡ v → AllByRecursion (λ y. t y ≡ true) (cond v (x ∷ filter t xs) (filter t xs))) [
      | true ↦ λ e. (e, filter_pass t xs)
      | false ↦ λ e. filter_pass t xs
    ] refl

pub rising_filter : (t : ℕ → Bool) (xs : List ℕ) → IsRising xs → IsRising (filter t xs)
rising_filter t [] h = tt
rising_filter t (x ∷ xs) h =
    elim (t x) as (λ v. IsRising (cond v (x ∷ filter t xs) (filter t xs))) [
      | true ↦ (filter_all _ t xs h.0, rising_filter t xs h.1)
      | false ↦ rising_filter t xs h.1
    ]

all_end : (P : ℕ → Type 0) (xs : List ℕ) (y : ℕ) → AllByRecursion P xs → P y → AllByRecursion P (xs ++ y ∷ [])
all_end P [] y h g = (g, tt)
all_end P (x ∷ xs) y h g = (h.0, all_end P xs y h.1 g)

rising_end : (xs : List ℕ) (y : ℕ) → IsRising xs → AllByRecursion (λ x. x < y) xs → IsRising (xs ++ y ∷ [])
rising_end [] y h g = (tt, tt)
rising_end (x ∷ xs) y h g = (all_end (λ z. x < z) xs y h.0 g.0, rising_end xs y h.1 g.1)

pub below_all : (n m : ℕ) → n ≤ m → AllByRecursion (λ x. x < m) (below n)
unfolding below
below_all zero m l = tt
below_all (suc n) m l = all_end (λ x. x < m) (below n) n (below_all n m (omega arith)) (omega arith)

pub rising_below : (n : ℕ) → IsRising (below n)
unfolding below
rising_below zero = tt
rising_below (suc n) = rising_end (below n) n (rising_below n) (below_all n n (omega arith))

pub rising_present : (b : ℕ) (ps : List Number) → IsRising (present b ps)
rising_present b ps = rising_filter (has b ps) (below 256) (rising_below 256)

pub some_copies : (b : ℕ) (ps : List Number) → AllByRecursion (λ j. 1 ≤ copies b ps j) (present b ps)
some_copies b ps = all_to _ (λ j. 1 ≤ copies b ps j) (λ j h. any_count (is_number b j) ps h) (present b ps) (filter_pass (has b ps) (below 256))

-- the symbols of block b whose (copy count, ESI) is at most (t, last)
abbrev pub cheap : ℕ → ℕ → ℕ → List Number → List ℕ
cheap b t last ps = filter (is_cheap (copies b ps) t last) (present b ps)

-- their copies
abbrev pub cost : ℕ → ℕ → ℕ → List Number → ℕ
cost b t last ps = total (copies b ps) (cheap b t last ps)

abbrev pub is_doomed : ℕ → ℕ → ℕ → List Number → Number → Bool
is_doomed b t last ps = is_of_those b (is_cheap (copies b ps) t last)

-- all their places
abbrev pub doomed : ℕ → ℕ → ℕ → List Number → List ℕ
doomed b t last ps = places_from (is_doomed b t last ps) 0 ps

had : (a h v : Bool) → (a ≡ true → h ≡ true) → ◌≡◌ {A = ℕ} (cond (a && (h && v)) 1 0) (cond (a && v) 1 0)
had false h v g = refl
had true h v g = let e = g refl in rw e refl

back : (h v : Bool) → h ≡ true → not (h && not v) ≡ v
back true true e = refl
back true false e = refl
back false v e = absurd (cc)

pub some_total : (f : ℕ → ℕ) (xs : List ℕ) → AllByRecursion (λ x. 1 ≤ f x) xs → 1 ≤ length xs → 1 ≤ total f xs
some_total f [] h l = absurd (omega (arith, l))
some_total f (x ∷ xs) h l = let e = h.0 in omega (arith, e)

-- t and last are such that one symbol more is cheap than the block can spare
module _ (b k t last : ℕ) (ps : List Number) (small : AllByRecursion HasByteEsi ps) (cut : length (cheap b t last ps) + k ≡ suc (length (present b ps))) where
  -- a loss that leaves the block short costs that much
  pub short_costs : (lost : ℕ → Bool) → length (present b (rest lost ps)) < k → cost b t last ps ≤ loss_size lost ps
  short_costs lost short =
      let n = taken_count b lost ps in
      let l = taken_costs b lost ps small in
      let c = cheapest (copies b ps) t last (is_taken lost ps b) (present b ps) (omega (arith, n, cut, short)) in
      omega (arith, l, c)

  -- and if it costs no more, no such loss is earlier in the dictionary
  pub short_first : (lost : ℕ → Bool) → length (present b (rest lost ps)) < k → loss_size lost ps ≤ cost b t last ps → ¬ IsBefore (taken lost ps b) (cheap b t last ps)
  short_first lost short few before =
      let n = taken_count b lost ps in
      let l = taken_costs b lost ps small in
      let c = before_costs (copies b ps) t last (is_taken lost ps b) (present b ps) (rising_present b ps) (some_copies b ps) (omega (arith, n, cut, short)) before in
      omega (arith, l, c, few)

  pub doomed_size : loss_size (is_among (doomed b t last ps)) ps ≡ cost b t last ps
  doomed_size =
      let v = is_cheap (copies b ps) t last in
      marks_size (is_doomed b t last ps) (is_among (doomed b t last ps)) 0 ps (marks_places (is_doomed b t last ps) 0 ps)
      ∙ sym (ap (total (copies b ps)) (filter_filter (has b ps) v (below 256))
      ∙ copies_total b (λ j. has b ps j && is_cheap (copies b ps) t last j) ps small
      ∙ total_same (λ p. cond (p.block == b && (has b ps p.esi && is_cheap (copies b ps) t last p.esi)) 1 0) (λ p. cond (p.block == b && is_cheap (copies b ps) t last p.esi) 1 0) ps
      (all_to (λ p. (p.block == b) ≡ true → has b ps p.esi ≡ true) _ (λ p h. had (p.block == b) (has b ps p.esi) (is_cheap (copies b ps) t last p.esi) h) ps (has_each b ps)))

  pub doomed_taken : taken (is_among (doomed b t last ps)) ps b ≡ cheap b t last ps
  doomed_taken =
      let v = is_cheap (copies b ps) t last in
      let e = marks_rest (is_doomed b t last ps) (is_among (doomed b t last ps)) 0 ps (marks_places (is_doomed b t last ps) 0 ps) in
      filter_same (is_taken (is_among (doomed b t last ps)) ps b) v (present b ps)
      (all_to (λ j. has b ps j ≡ true) _ (λ j h.
      ap (λ (qs : List Number). not (has b qs j)) e
      ∙ ap not (has_left b v j ps)
      ∙ back (has b ps j) (v j) h) (present b ps) (filter_pass (has b ps) (below 256)))

  pub doomed_short : length (present b (rest (is_among (doomed b t last ps)) ps)) < k
  doomed_short =
      let n = taken_count b (is_among (doomed b t last ps)) ps in
      let e = ap (λ (xs : List ℕ). length xs) doomed_taken in
      omega (arith, n, e, cut)
