-- The carriers as one group more, behind the others: what it weighs, and what the list can lose
-- with it.
use Rattle.std.specs.Prelude.{◌≡◌, ℕ, zero, suc, ◌+◌, ◌-◌, ◌<◌, ◌≤◌, Bool, true, false, ◌&&◌, ◌||◌, ◌==◌, nat_lt, nat_le, cond, List, [], ◌∷◌, ◌++◌, length, filter, map, count_by, take, drop, slice_index_or, Some, None, refl}
use Rattle.std.specs.List.{list_any}
use Rattle.std.proofs.Common.{◌∙◌, sym, ap, subst, arith, length-append}
use Rattle.std.proofs.lemmas.Bool.{lt-ltb, le-ltb, ltb-false, eqb-true, eq-eqb}
use Rattle.lists.specs.Below.{below}
use Rattle.lists.specs.Selection.{rest, is_among, is_run}
use Rattle.lists.proofs.Lists.{filter_same, all_of, at_old, at_end}
use Rattle.losses.specs.declared.groups.Member.{Member}
use Rattle.losses.specs.Members.{has_esi, outside, different_outside}
use Rattle.losses.specs.Windows.{IsLeastGap, IsShortWindow, member, place_at}
use Rattle.losses.specs.Costs.{IsWeighed, cheap_esis, cheap_places, esi_copies, esis, is_cheap, total}
use Rattle.losses.specs.Losses.{IsMargin, IsBurst, IsKill, is_enough}
use Rattle.losses.specs.Groups.{Group, no_group, group_at, places, is_at, blocks_of_groups}
use Rattle.losses.proofs.BlockLosses.{IsBlockMargin, IsBlockBurst, IsBlockKill}
use Rattle.losses.proofs.Carried.{carried, margin_with_carriers, burst_with_carriers, kill_with_block, kill_with_carriers}
use Rattle.losses.proofs.Transfer.{block_margin_same, block_burst_same, block_kill_same}
use Rattle.losses.proofs.Grouping.{count_cons}
use Rattle.losses.proofs.Gathered.{last_or}
use Rattle.losses.specs.Lightest.{IsHeavyGroup, IsWideGroup, IsNarrowGroup}
use Rattle.losses.proofs.GroupFigures.{heavy_new, heavy_same, wide_new, wide_same, margin_of_groups, kill_of_groups, burst_of_groups, window_short, short_window_of}
use Rattle.losses.specs.Ordered.{AreMembersFrom, ArePlacesFrom, AreOrdered, AreOrderedCarriers}

abbrev pub carrier_members : List ℕ → List Member
carrier_members ps = map (λ p. member p 0) ps

abbrev pub carrier_group : List ℕ → Group
carrier_group ps = record { need = 1; members = carrier_members ps }

abbrev pub with_carriers : List Group → List ℕ → List Group
with_carriers groups ps = groups ++ carrier_group ps ∷ []

-- ---- what it weighs

-- all members have ESI 0
all_zero : (ps : List ℕ) → count_by (has_esi 0) (carrier_members ps) ≡ length ps
all_zero [] = refl
all_zero (p ∷ ps) = let e = all_zero ps in let d = count_cons (has_esi 0) (member p 0) (carrier_members ps) in omega (arith, e, d)

none_else : (j : ℕ) (ps : List ℕ) → (0 == j) ≡ false → count_by (has_esi j) (carrier_members ps) ≡ 0
none_else j [] h = refl
none_else j (p ∷ ps) h =
    let e = none_else j ps h in
    let d = count_cons (has_esi j) (member p 0) (carrier_members ps) in
    let b : cond {A = ℕ} (0 == j) 1 0 ≡ 0 = rw h refl in
    omega (arith, e, d, b)

copies_are : (j : ℕ) (ps : List ℕ) → count_by (has_esi j) (carrier_members ps) ≡ cond (0 == j) (length ps) 0
copies_are j ps =
    elim (0 == j) as (λ v. (0 == j) ≡ v → count_by (has_esi j) (carrier_members ps) ≡ cond v (length ps) 0) [
      | true ↦ λ e. (let z = eqb-true 0 j e in subst (λ (x : ℕ). count_by (has_esi x) (carrier_members ps) ≡ length ps) z (all_zero ps))
      | false ↦ λ e. none_else j ps e
    ] refl

only_zero : filter (λ j. 0 == j) (below 256) ≡ 0 ∷ []
unfolding below
only_zero = refl

is_there : (v : Bool) (n : ℕ) → 0 < n → nat_lt 0 (cond v n 0) ≡ v
is_there true n l = lt-ltb 0 n l
is_there false n l = le-ltb 0 0 (omega arith)

module _ (ps : List ℕ) (some : 0 < length ps) where
  esis_are : esis (carrier_members ps) ≡ 0 ∷ []
  esis_are =
      filter_same (λ j. nat_lt 0 (esi_copies (carrier_members ps) j)) (λ j. 0 == j) (below 256)
      (all_of _ (λ j. ap (nat_lt 0) (copies_are j ps) ∙ is_there (0 == j) (length ps) some) (below 256))
      ∙ only_zero

  is_cheapest : is_cheap (esi_copies (carrier_members ps)) (length ps) 0 0 ≡ true
  is_cheapest = rw (all_zero ps, le-ltb (length ps) (length ps) (omega arith), eq-eqb (length ps) (length ps) refl) refl

  cheap_are : cheap_esis (carrier_members ps) (length ps) 0 ≡ 0 ∷ []
  cheap_are = ap (filter (is_cheap (esi_copies (carrier_members ps)) (length ps) 0)) esis_are ∙ (rw is_cheapest refl)

  one_symbol : different_outside (carrier_members ps) 0 0 ≡ 1
  unfolding different_outside
  one_symbol = ap length (
      filter_same (λ j. nat_lt 0 (outside (carrier_members ps) 0 0 j)) (λ j. 0 == j) (below 256)
      (all_of _ (λ j. ap (nat_lt 0) (let e : outside (carrier_members ps) 0 0 j ≡ count_by (has_esi j) (carrier_members ps) = omega arith in e ∙ copies_are j ps) ∙ is_there (0 == j) (length ps) some) (below 256))
      ∙ only_zero)

  pub carriers_weighed : IsWeighed (carrier_members ps) 1 (length ps) (length ps) 0
  carriers_weighed = record {
    count = (let e = ap length cheap_are in omega (arith, e, one_symbol));
    price = (let e = ap (total (esi_copies (carrier_members ps))) cheap_are in let z = all_zero ps in omega (arith, e, z));
  }

all_cheap : (v : Member → Bool) (ps : List ℕ) → ((p : ℕ) → v (member p 0) ≡ true) → map (λ (q : Member). q.place) (filter v (carrier_members ps)) ≡ ps
all_cheap v [] h = refl
all_cheap v (p ∷ ps) h = let e = all_cheap v ps h in rw (h p) (ap (λ (xs : List ℕ). p ∷ xs) e)

-- its cheapest places are all of them
pub carriers_cheap : (ps : List ℕ) → 0 < length ps → cheap_places (carrier_members ps) (length ps) 0 ≡ ps
carriers_cheap ps some = all_cheap (λ q. is_cheap (esi_copies (carrier_members ps)) (length ps) 0 q.esi) ps (λ p. is_cheapest ps some)

-- ---- its narrowest window is from the first to the last

take_zero : (x : ℕ) (ps : List ℕ) → x ≤ length ps → count_by (has_esi 0) (take x (carrier_members ps)) ≡ x
take_zero zero ps l = refl
take_zero (suc x) [] l = absurd (omega arith)
take_zero (suc x) (p ∷ ps) l = let e = take_zero x ps (omega arith) in let d = count_cons (has_esi 0) (member p 0) (take x (carrier_members ps)) in omega (arith, e, d)

drop_zero : (y : ℕ) (ps : List ℕ) → y ≤ length ps → count_by (has_esi 0) (drop y (carrier_members ps)) + y ≡ length ps
drop_zero zero ps l = let z = all_zero ps in omega (arith, z)
drop_zero (suc y) [] l = absurd (omega arith)
drop_zero (suc y) (p ∷ ps) l = let e = drop_zero y ps (omega arith) in omega (arith, e)

none_taken : (x j : ℕ) (ps : List ℕ) → (0 == j) ≡ false → count_by (has_esi j) (take x (carrier_members ps)) ≡ 0
none_taken zero j ps h = refl
none_taken (suc x) j [] h = refl
none_taken (suc x) j (p ∷ ps) h =
    let e = none_taken x j ps h in
    let d = count_cons (has_esi j) (member p 0) (take x (carrier_members ps)) in
    let b : cond {A = ℕ} (0 == j) 1 0 ≡ 0 = rw h refl in
    omega (arith, e, d, b)

none_dropped : (y j : ℕ) (ps : List ℕ) → (0 == j) ≡ false → count_by (has_esi j) (drop y (carrier_members ps)) ≡ 0
none_dropped zero j ps h = none_else j ps h
none_dropped (suc y) j [] h = refl
none_dropped (suc y) j (p ∷ ps) h = none_dropped y j ps h

outside_is : (x y j : ℕ) (ps : List ℕ) → x ≤ length ps → y ≤ length ps → outside (carrier_members ps) x y j ≡ cond (0 == j) (x + (length ps - y)) 0
outside_is x y j ps lx ly =
    elim (0 == j) as (λ v. (0 == j) ≡ v → outside (carrier_members ps) x y j ≡ cond v (x + (length ps - y)) 0) [
      | true ↦ λ e.
          (let z = eqb-true 0 j e in
          let a = take_zero x ps lx in
          let b = drop_zero y ps ly in
          let here : outside (carrier_members ps) x y 0 ≡ x + (length ps - y) = omega (arith, a, b) in
          subst (λ (i : ℕ). outside (carrier_members ps) x y i ≡ x + (length ps - y)) z here)
      | false ↦ λ e. (let a = none_taken x j ps e in let b = none_dropped y j ps e in omega (arith, a, b))
    ] refl

one_or_none : (v : Bool) → length (filter (λ j. 0 == j && v) (below 256)) ≡ cond v 1 0
unfolding below
one_or_none true = refl
one_or_none false = refl

is_one : (u : Bool) (m : ℕ) → nat_lt 0 (cond u m 0) ≡ (u && nat_lt 0 m)
is_one true m = refl
is_one false m = le-ltb 0 0 (omega arith)

different_is : (x y : ℕ) (ps : List ℕ) → x ≤ length ps → y ≤ length ps → different_outside (carrier_members ps) x y ≡ cond (nat_lt 0 (x + (length ps - y))) 1 0
unfolding different_outside
different_is x y ps lx ly =
    ap length (filter_same (λ j. nat_lt 0 (outside (carrier_members ps) x y j)) (λ j. 0 == j && nat_lt 0 (x + (length ps - y))) (below 256)
    (all_of _ (λ j. ap (nat_lt 0) (outside_is x y j ps lx ly) ∙ is_one (0 == j) (x + (length ps - y))) (below 256)))
    ∙ one_or_none (nat_lt 0 (x + (length ps - y)))

count_of_members : (ps : List ℕ) → length (carrier_members ps) ≡ length ps
count_of_members [] = refl
count_of_members (p ∷ ps) = ap suc (count_of_members ps)

place_is : (i : ℕ) (ps : List ℕ) → place_at (carrier_members ps) i ≡ slice_index_or ps i 0
place_is i [] = refl
place_is zero (p ∷ ps) = refl
place_is (suc i) (p ∷ ps) = place_is i ps

place_above : (i n k : ℕ) (ps : List ℕ) → ArePlacesFrom i n ps → k < length ps → i ≤ slice_index_or ps k 0
place_above i n k [] h l = absurd (omega arith)
place_above i n zero (p ∷ ps) h l = h.0
place_above i n (suc k) (p ∷ ps) h l = let a = h.0 in let e = place_above (p + 1) n k ps h.2 (omega arith) in omega (arith, a, e)

first_le : (i n k : ℕ) (ps : List ℕ) → ArePlacesFrom i n ps → k < length ps → slice_index_or ps 0 0 ≤ slice_index_or ps k 0
first_le i n k [] h l = absurd (omega arith)
first_le i n zero (p ∷ ps) h l = omega arith
first_le i n (suc k) (p ∷ ps) h l = let e = place_above (p + 1) n k ps h.2 (omega arith) in omega (arith, e)

-- from the first place to the last
abbrev pub span : List ℕ → ℕ
span ps = slice_index_or ps (length ps - 1) 0 - slice_index_or ps 0 0

-- so the subtraction is one
pub span_fits : (n : ℕ) (ps : List ℕ) → AreOrderedCarriers ps n → slice_index_or ps 0 0 ≤ slice_index_or ps (length ps - 1) 0
span_fits n ps are = let s = are.some in first_le 0 n (length ps - 1) ps are.places (omega (arith, s))

below_end : (i n k : ℕ) (ps : List ℕ) → ArePlacesFrom i n ps → k < length ps → slice_index_or ps k 0 < n
below_end i n k [] h l = absurd (omega arith)
below_end i n zero (p ∷ ps) h l = h.1
below_end i n (suc k) (p ∷ ps) h l = below_end (p + 1) n k ps h.2 (omega arith)

pub last_below : (n : ℕ) (ps : List ℕ) → AreOrderedCarriers ps n → slice_index_or ps (length ps - 1) 0 < n
last_below n ps are = let s = are.some in below_end 0 n (length ps - 1) ps are.places (omega (arith, s))

whole_short : (ps : List ℕ) → different_outside (carrier_members ps) 0 (length ps) < 1
whole_short ps =
    let e = different_is 0 (length ps) ps (omega arith) (omega arith) in
    let z : nat_lt 0 (0 + (length ps - length ps)) ≡ false = le-ltb _ _ (omega arith) in
    let d : cond {A = ℕ} (nat_lt 0 (0 + (length ps - length ps))) 1 0 ≡ 0 = rw z refl in
    omega (arith, e, d)

all_inside : (x y : ℕ) (ps : List ℕ) → x ≤ length ps → y ≤ length ps → different_outside (carrier_members ps) x y < 1 → (x ≡ 0) × (y ≡ length ps)
all_inside x y ps lx ly h =
    elim (nat_lt 0 (x + (length ps - y))) as (λ v. nat_lt 0 (x + (length ps - y)) ≡ v → (x ≡ 0) × (y ≡ length ps)) [
      | true ↦ λ e.
          (let d = different_is x y ps lx ly in
          let one : cond {A = ℕ} (nat_lt 0 (x + (length ps - y))) 1 0 ≡ 1 = rw e refl in
          absurd (omega (arith, h, d, one)))
      | false ↦ λ e. (let l = ltb-false _ _ e in (omega (arith, l), omega (arith, l, ly)))
    ] refl

module _ (n : ℕ) (ps : List ℕ) (are : AreOrderedCarriers ps n) where
  least_window : (x y : ℕ) → IsShortWindow (carrier_members ps) 1 x y → place_at (carrier_members ps) x + span ps ≤ place_at (carrier_members ps) (y - 1)
  least_window x y w =
      let c = count_of_members ps in
      let s = w.some in
      let i = w.within in
      let both = all_inside x y ps (omega (arith, s, i, c)) (omega (arith, i, c)) w.short in
      let fits = span_fits n ps are in
      let a : place_at (carrier_members ps) x ≡ slice_index_or ps 0 0 = ap (place_at (carrier_members ps)) both.0 ∙ place_is 0 ps in
      let b : place_at (carrier_members ps) (y - 1) ≡ slice_index_or ps (length ps - 1) 0 = ap (λ (k : ℕ). place_at (carrier_members ps) (k - 1)) both.1 ∙ place_is (length ps - 1) ps in
      omega (arith, a, b, fits)

  pub carriers_gap : IsLeastGap (carrier_members ps) 1 (span ps)
  carriers_gap =
      let c = count_of_members ps in
      let a = place_is 0 ps in
      let b = place_is (length ps - 1) ps in
      let fits = span_fits n ps are in
      record {
        start = 0;
        end = length ps;
        is = record { some = are.some; within = omega (arith, c); short = whole_short ps };
        size = omega (arith, a, b, fits);
        least = least_window;
      }

-- ---- it stands behind the others

are_members : (i n : ℕ) (ps : List ℕ) → ArePlacesFrom i n ps → AreMembersFrom i n (carrier_members ps)
are_members i n [] h = tt
are_members i n (p ∷ ps) h = (h.0, h.1, omega arith, are_members (p + 1) n ps h.2)

equal_both : (p x : ℕ) → (p == x) ≡ (x == p)
equal_both p x =
    elim (x == p) as (λ v. (x == p) ≡ v → (p == x) ≡ v) [
      | true ↦ λ e. eq-eqb p x (sym (eqb-true x p e))
      | false ↦ λ e. elim (p == x) as (λ v. (p == x) ≡ v → v ≡ false) [
        | true ↦ λ d. (let s = eq-eqb x p (sym (eqb-true p x d)) in absurd (cc))
        | false ↦ λ d. refl
      ] refl
    ] refl

mixed : (a b c d : Bool) → ((a || b) || (c || d)) ≡ ((a || c) || (b || d))
mixed true b c d = refl
mixed false true true d = refl
mixed false true false d = refl
mixed false false c d = refl

one_place : (p : ℕ) (ps left : List ℕ) → list_any (is_among (p ∷ ps)) left ≡ (is_among left p || list_any (is_among ps) left)
one_place p ps [] = refl
one_place p ps (x ∷ left) =
    ap (λ (v : Bool). ((p == x) || is_among ps x) || v) (one_place p ps left)
    ∙ mixed (p == x) (is_among ps x) (is_among left p) (list_any (is_among ps) left)
    ∙ ap (λ (v : Bool). (v || is_among left p) || (is_among ps x || list_any (is_among ps) left)) (equal_both p x)

spread : (u v w : Bool) → ((u && v) || (v && w)) ≡ (v && (u || w))
spread true true w = refl
spread true false w = refl
spread false true w = refl
spread false false w = refl

any_none : (left : List ℕ) → list_any (is_among []) left ≡ false
any_none [] = refl
any_none (x ∷ left) = any_none left

and_false : (v : Bool) → (v && false) ≡ false
and_false true = refl
and_false false = refl

-- a carrier at a place that is left is a carrier that is left
symbol_left : (left : List ℕ) (j : ℕ) (ps : List ℕ) → list_any (is_at left j) (carrier_members ps) ≡ (0 == j && list_any (is_among ps) left)
symbol_left left j [] = sym (ap (λ (v : Bool). 0 == j && v) (any_none left) ∙ and_false (0 == j))
symbol_left left j (p ∷ ps) =
    ap (λ (v : Bool). (is_among left p && 0 == j) || v) (symbol_left left j ps)
    ∙ spread (is_among left p) (0 == j) (list_any (is_among ps) left)
    ∙ ap (λ (v : Bool). 0 == j && v) (sym (one_place p ps left))

-- so what is left is enough for their group where a carrier is left
carriers_enough : (ps left : List ℕ) → is_enough (blocks_of_groups (carrier_group ps ∷ []) []) left 0 ≡ list_any (is_among ps) left
carriers_enough ps left =
    ap (λ (js : List ℕ). nat_le 1 (length js))
    (filter_same (λ j. list_any (is_at left j) (carrier_members ps)) (λ j. 0 == j && list_any (is_among ps) left) (below 256) (all_of _ (λ j. symbol_left left j ps) (below 256)))
    ∙ ap (λ (m : ℕ). nat_le 1 m) (one_or_none (list_any (is_among ps) left)) ∙ at_least_one (list_any (is_among ps) left)
  where
    at_least_one : (v : Bool) → nat_le 1 (cond v 1 0) ≡ v
    at_least_one true = refl
    at_least_one false = refl

module _ (groups : List Group) (ps : List ℕ) where
  pub count_with : length (with_carriers groups ps) ≡ length groups + 1
  count_with = length-append groups (carrier_group ps ∷ [])

  pub at_group : (b : ℕ) → b < length groups → group_at (with_carriers groups ps) b ≡ group_at groups b
  at_group b l = at_old groups (carrier_group ps) no_group b l

  pub at_carriers : group_at (with_carriers groups ps) (length groups) ≡ carrier_group ps
  at_carriers = at_end groups (carrier_group ps) no_group (length groups) refl

  need_with : (b : ℕ) → b < length groups + 1 → cond (nat_lt b (length groups)) (group_at groups b).need 1 ≡ (group_at (with_carriers groups ps) b).need
  need_with =
      last_or (λ b. cond (nat_lt b (length groups)) (group_at groups b).need 1 ≡ (group_at (with_carriers groups ps) b).need) (length groups)
      (λ b l. ap (λ (v : Bool). cond v (group_at groups b).need 1) (lt-ltb b (length groups) l) ∙ sym (ap (λ (g : Group). g.need) (at_group b l)))
      (ap (λ (v : Bool). cond v (group_at groups (length groups)).need 1) (le-ltb (length groups) (length groups) (omega arith)) ∙ sym (ap (λ (g : Group). g.need) at_carriers))

  symbol_with : (left : List ℕ) (j b : ℕ) → b < length groups + 1
      → cond (nat_lt b (length groups)) (list_any (is_at left j) (group_at groups b).members) (0 == j && list_any (is_among ps) left) ≡ list_any (is_at left j) (group_at (with_carriers groups ps) b).members
  symbol_with left j =
      last_or (λ b. cond (nat_lt b (length groups)) (list_any (is_at left j) (group_at groups b).members) (0 == j && list_any (is_among ps) left) ≡ list_any (is_at left j) (group_at (with_carriers groups ps) b).members) (length groups)
      (λ b l. ap (λ (v : Bool). cond v (list_any (is_at left j) (group_at groups b).members) (0 == j && list_any (is_among ps) left)) (lt-ltb b (length groups) l) ∙ sym (ap (λ (g : Group). list_any (is_at left j) g.members) (at_group b l)))
      (ap (λ (v : Bool). cond v (list_any (is_at left j) (group_at groups (length groups)).members) (0 == j && list_any (is_among ps) left)) (le-ltb (length groups) (length groups) (omega arith))
      ∙ sym (symbol_left left j ps) ∙ sym (ap (λ (g : Group). list_any (is_at left j) g.members) at_carriers))

  module _ (n : ℕ) (are : AreOrdered groups n) (carriers : AreOrderedCarriers ps n) where
    pub are_with : AreOrdered (with_carriers groups ps) n
    are_with = record {
      some = λ b l. last_or (λ b. 0 < (group_at (with_carriers groups ps) b).need) (length groups)
          (λ b l. subst (λ (g : Group). 0 < g.need) (sym (at_group b l)) (are.some b l))
          (subst (λ (g : Group). 0 < g.need) (sym at_carriers) (omega arith)) b (let c = count_with in omega (arith, l, c));
      members = λ b l. last_or (λ b. AreMembersFrom 0 n (group_at (with_carriers groups ps) b).members) (length groups)
          (λ b l. subst (λ (g : Group). AreMembersFrom 0 n g.members) (sym (at_group b l)) (are.members b l))
          (subst (λ (g : Group). AreMembersFrom 0 n g.members) (sym at_carriers) (are_members 0 n ps carriers.places)) b (let c = count_with in omega (arith, l, c));
      enough = λ b l. last_or (λ b. (group_at (with_carriers groups ps) b).need ≤ different_outside (group_at (with_carriers groups ps) b).members 0 0) (length groups)
          (λ b l. subst (λ (g : Group). g.need ≤ different_outside g.members 0 0) (sym (at_group b l)) (are.enough b l))
          (subst (λ (g : Group). g.need ≤ different_outside g.members 0 0) (sym at_carriers) (let o = one_symbol ps carriers.some in omega (arith, o))) b (let c = count_with in omega (arith, l, c));
    }

    count_to : suc (length groups) ≡ length (with_carriers groups ps)
    count_to = let c = count_with in omega (arith, c)

    need_to : (b : ℕ) → b < length (with_carriers groups ps) → cond (nat_lt b (length groups)) (group_at groups b).need 1 ≡ (group_at (with_carriers groups ps) b).need
    need_to b l = need_with b (let c = count_with in omega (arith, l, c))

    left_to : (lost : ℕ → Bool) (b j : ℕ) → b < length (with_carriers groups ps)
        → cond (nat_lt b (length groups)) (list_any (is_at (rest lost (places 0 n)) j) (group_at groups b).members) (0 == j && list_any (is_among ps) (rest lost (places 0 n))) ≡ list_any (is_at (rest lost (places 0 n)) j) (group_at (with_carriers groups ps) b).members
    left_to lost b j l = symbol_with (rest lost (places 0 n)) j b (let c = count_with in omega (arith, l, c))

    whole_to : (b j : ℕ) → b < length (with_carriers groups ps)
        → cond (nat_lt b (length groups)) (list_any (is_at (places 0 n) j) (group_at groups b).members) (0 == j && list_any (is_among ps) (places 0 n)) ≡ list_any (is_at (places 0 n) j) (group_at (with_carriers groups ps) b).members
    whole_to b j l = symbol_with (places 0 n) j b (let c = count_with in omega (arith, l, c))

    margin_to : (m : ℕ) → IsBlockMargin (blocks_of_groups (with_carriers groups ps) []) (places 0 n) m → IsBlockMargin (carried (blocks_of_groups groups ps)) (places 0 n) m
    margin_to = block_margin_same (blocks_of_groups (with_carriers groups ps) []) (carried (blocks_of_groups groups ps)) (places 0 n) (places 0 n) count_to need_to refl whole_to left_to

    burst_to : (m : ℕ) → IsBlockBurst (blocks_of_groups (with_carriers groups ps) []) (places 0 n) m → IsBlockBurst (carried (blocks_of_groups groups ps)) (places 0 n) m
    burst_to = block_burst_same (blocks_of_groups (with_carriers groups ps) []) (carried (blocks_of_groups groups ps)) (places 0 n) (places 0 n) count_to need_to refl whole_to left_to

    kill_to : (m at : ℕ) (qs : List ℕ) → IsBlockKill (blocks_of_groups (with_carriers groups ps) []) (places 0 n) m at qs → IsBlockKill (carried (blocks_of_groups groups ps)) (places 0 n) m at qs
    kill_to = block_kill_same (blocks_of_groups (with_carriers groups ps) []) (carried (blocks_of_groups groups ps)) (places 0 n) (places 0 n) count_to need_to refl whole_to left_to

    -- the figures where a group of this price is the least of all, the carriers' group among them
    module _ (at price t last : ℕ) (within : at < length (with_carriers groups ps))
        (weighed : IsWeighed (group_at (with_carriers groups ps) at).members (group_at (with_carriers groups ps) at).need price t last)
        (heavy : (b : ℕ) → b < length (with_carriers groups ps) → IsHeavyGroup b (group_at (with_carriers groups ps) b) price at) where
      margin_of_all : IsMargin (blocks_of_groups groups ps) (places 0 n) (price - 1)
      margin_of_all = margin_with_carriers (blocks_of_groups groups ps) (places 0 n) (price - 1) (margin_to (price - 1) (margin_of_groups (with_carriers groups ps) n are_with at price t last within weighed heavy))

      kill_of_all : IsBlockKill (carried (blocks_of_groups groups ps)) (places 0 n) (price - 1 + 1) at (cheap_places (group_at (with_carriers groups ps) at).members t last)
      kill_of_all = kill_to (price - 1 + 1) at _ (kill_of_groups (with_carriers groups ps) n are_with at price t last within weighed heavy)

      kill_of_block : at < length groups → IsKill (blocks_of_groups groups ps) (places 0 n) (price - 1 + 1) (cheap_places (group_at (with_carriers groups ps) at).members t last) (Some at)
      kill_of_block below = kill_with_block (blocks_of_groups groups ps) (places 0 n) (price - 1 + 1) at _ below kill_of_all

      kill_of_carriers : at ≡ length groups → IsKill (blocks_of_groups groups ps) (places 0 n) (price - 1 + 1) (cheap_places (group_at (with_carriers groups ps) at).members t last) None
      kill_of_carriers same =
          kill_with_carriers (blocks_of_groups groups ps) (places 0 n) (price - 1) _
          (margin_to (price - 1) (margin_of_groups (with_carriers groups ps) n are_with at price t last within weighed heavy))
          (subst (λ (b : ℕ). IsBlockKill (carried (blocks_of_groups groups ps)) (places 0 n) (price - 1 + 1) b (cheap_places (group_at (with_carriers groups ps) at).members t last)) same kill_of_all)

    burst_of_all : (at gap : ℕ) → at < length (with_carriers groups ps) → IsLeastGap (group_at (with_carriers groups ps) at).members (group_at (with_carriers groups ps) at).need gap
        → ((b : ℕ) → b < length (with_carriers groups ps) → IsWideGroup (group_at (with_carriers groups ps) b) gap) → IsBurst (blocks_of_groups groups ps) (places 0 n) gap
    burst_of_all at gap within narrow wide = burst_with_carriers (blocks_of_groups groups ps) (places 0 n) gap (burst_to gap (burst_of_groups (with_carriers groups ps) n are_with at gap within narrow wide))

    -- from the weights of the groups, as they are computed
    module _ (at price t last : ℕ) (within : at < length groups) (weighed : IsWeighed (group_at groups at).members (group_at groups at).need price t last)
        (heavy : (b : ℕ) → b < length groups → IsHeavyGroup b (group_at groups b) price at) where
      here : at < length (with_carriers groups ps)
      here = let c = count_with in omega (arith, within, c)

      weighed_with : IsWeighed (group_at (with_carriers groups ps) at).members (group_at (with_carriers groups ps) at).need price t last
      weighed_with = subst (λ (g : Group). IsWeighed g.members g.need price t last) (sym (at_group at within)) weighed

      heavy_with : (b : ℕ) → b < length groups → IsHeavyGroup b (group_at (with_carriers groups ps) b) price at
      heavy_with b l = subst (λ (g : Group). IsHeavyGroup b g price at) (sym (at_group b l)) (heavy b l)

      weighed_last : IsWeighed (group_at (with_carriers groups ps) (length groups)).members (group_at (with_carriers groups ps) (length groups)).need (length ps) (length ps) 0
      weighed_last = subst (λ (g : Group). IsWeighed g.members g.need (length ps) (length ps) 0) (sym at_carriers) (carriers_weighed ps carriers.some)

      -- the blocks' loss is the least
      heavy_blocks : price ≤ length ps → (b : ℕ) → b < length (with_carriers groups ps) → IsHeavyGroup b (group_at (with_carriers groups ps) b) price at
      heavy_blocks few b l = heavy_same (with_carriers groups ps) (length groups) at price (length ps) (length ps) 0 few within heavy_with weighed_last b (let c = count_with in omega (arith, l, c))

      pub margin_blocks : price ≤ length ps → IsMargin (blocks_of_groups groups ps) (places 0 n) (price - 1)
      margin_blocks few = margin_of_all at price t last here weighed_with (heavy_blocks few)

      pub kill_blocks : price ≤ length ps → IsKill (blocks_of_groups groups ps) (places 0 n) (price - 1 + 1) (cheap_places (group_at groups at).members t last) (Some at)
      kill_blocks few = subst (λ (g : Group). IsKill (blocks_of_groups groups ps) (places 0 n) (price - 1 + 1) (cheap_places g.members t last) (Some at)) (at_group at within) (kill_of_block at price t last here weighed_with (heavy_blocks few) within)

      -- the carriers' loss is the least
      heavy_carriers : length ps < price → (b : ℕ) → b < length (with_carriers groups ps) → IsHeavyGroup b (group_at (with_carriers groups ps) b) (length ps) (length groups)
      heavy_carriers few b l = heavy_new (with_carriers groups ps) (length groups) at price (length ps) (length ps) 0 few heavy_with weighed_last b (let c = count_with in omega (arith, l, c))

      last_here : length groups < length (with_carriers groups ps)
      last_here = let c = count_with in omega (arith, c)

      pub margin_carriers : length ps < price → IsMargin (blocks_of_groups groups ps) (places 0 n) (length ps - 1)
      margin_carriers few = margin_of_all (length groups) (length ps) (length ps) 0 last_here weighed_last (heavy_carriers few)

      pub kill_carriers : length ps < price → IsKill (blocks_of_groups groups ps) (places 0 n) (length ps - 1 + 1) ps None
      kill_carriers few =
          subst (λ (qs : List ℕ). IsKill (blocks_of_groups groups ps) (places 0 n) (length ps - 1 + 1) qs None)
          (ap (λ (g : Group). cheap_places g.members (length ps) 0) at_carriers ∙ carriers_cheap ps carriers.some)
          (kill_of_carriers (length groups) (length ps) (length ps) 0 last_here weighed_last (heavy_carriers few) refl)

    module _ (burst : ℕ) (narrow : IsNarrowGroup groups (length groups) burst) (wide : (b : ℕ) → b < length groups → IsWideGroup (group_at groups b) burst) where
      wide_with : (b : ℕ) → b < length groups → IsWideGroup (group_at (with_carriers groups ps) b) burst
      wide_with b l = subst (λ (g : Group). IsWideGroup g burst) (sym (at_group b l)) (wide b l)

      gap_last : IsLeastGap (group_at (with_carriers groups ps) (length groups)).members (group_at (with_carriers groups ps) (length groups)).need (span ps)
      gap_last = subst (λ (g : Group). IsLeastGap g.members g.need (span ps)) (sym at_carriers) (carriers_gap n ps carriers)

      pub burst_blocks : burst ≤ span ps → IsBurst (blocks_of_groups groups ps) (places 0 n) burst
      burst_blocks few =
          burst_of_all narrow.at burst (let w = narrow.within in let c = count_with in omega (arith, w, c))
          (subst (λ (g : Group). IsLeastGap g.members g.need burst) (sym (at_group narrow.at narrow.within)) narrow.is)
          (λ b l. wide_same (with_carriers groups ps) (length groups) burst (span ps) few wide_with gap_last b (let c = count_with in omega (arith, l, c)))

      pub burst_carriers : span ps ≤ burst → IsBurst (blocks_of_groups groups ps) (places 0 n) (span ps)
      burst_carriers few =
          burst_of_all (length groups) (span ps) (let c = count_with in omega (arith, c)) gap_last
          (λ b l. wide_new (with_carriers groups ps) (length groups) burst (span ps) few wide_with gap_last b (let c = count_with in omega (arith, l, c)))

-- ---- the runs that take all of them

module _ (n : ℕ) (ps : List ℕ) (came : AreOrderedCarriers ps n) where
  alone : AreOrdered (carrier_group ps ∷ []) n
  alone = are_with [] ps n (record { some = λ b l. absurd (omega (arith, l)); members = λ b l. absurd (omega (arith, l)); enough = λ b l. absurd (omega (arith, l)) }) came

  pub run_takes : (a m : ℕ) → a ≤ slice_index_or ps 0 0 → slice_index_or ps (length ps - 1) 0 < a + m → list_any (is_among ps) (rest (is_run a m) (places 0 n)) ≡ false
  run_takes a m l g =
      let first = place_is 0 ps in
      let last = place_is (length ps - 1) ps in
      let c = count_of_members ps in
      let some = came.some in
      sym (carriers_enough ps (rest (is_run a m) (places 0 n)))
      ∙ window_short (carrier_group ps ∷ []) n alone 0 a m (slice_index_or ps (length ps - 1) 0) (omega arith)
      (record { start = 0; end = length ps; is = record { some = some; within = omega (arith, c); short = whole_short ps }; from = omega (arith, first, l); to = omega (arith, last) }) g

  pub taken_run : (a m : ℕ) → list_any (is_among ps) (rest (is_run a m) (places 0 n)) ≡ false → (a ≤ slice_index_or ps 0 0) × (slice_index_or ps (length ps - 1) 0 < a + m)
  taken_run a m h =
      let w : (x : ℕ) × (y : ℕ) × IsShortWindow (carrier_members ps) 1 x y × (a ≤ place_at (carrier_members ps) x) × (place_at (carrier_members ps) (y - 1) < a + m) =
      short_window_of (carrier_group ps ∷ []) n alone 0 a m (omega arith) (carriers_enough ps (rest (is_run a m) (places 0 n)) ∙ h) in
      let c = count_of_members ps in
      let is : IsShortWindow (carrier_members ps) 1 w.0 w.1 = w.2 in
      let s = is.some in
      let i = is.within in
      let both = all_inside w.0 w.1 ps (omega (arith, s, i, c)) (omega (arith, i, c)) is.short in
      let x : place_at (carrier_members ps) w.0 ≡ slice_index_or ps 0 0 = ap (place_at (carrier_members ps)) both.0 ∙ place_is 0 ps in
      let y : place_at (carrier_members ps) (w.1 - 1) ≡ slice_index_or ps (length ps - 1) 0 = ap (λ (k : ℕ). place_at (carrier_members ps) (k - 1)) both.1 ∙ place_is (length ps - 1) ps in
      let from = w.3 in
      let to = w.4 in
      (omega (arith, x, from), omega (arith, y, to))
