-- From counts to members to the list of numbers.
use Rattle.std.proofs.Common.{◌≡◌, ℕ, zero, suc, ◌+◌, ◌-◌, ◌<◌, ◌≤◌, Bool, true, false, ◌&&◌, ◌||◌, ◌==◌, cond, List, get_or, nat_lt, [], ◌∷◌, ◌++◌, take, length, map, refl, ap, sym, ◌∙◌, arith, subst}
use Rattle.std.specs.Prelude.{filter, slice_index, nat_le}
use Rattle.std.specs.List.{AllByRecursion}
use Rattle.std.proofs.lemmas.Bool.{eqb-true}
use Rattle.losses.proofs.Block.{below_all, cheap, cost, doomed, rising_below, rising_filter}
use Rattle.losses.proofs.Copies.{is_of_those, total_same, total_sum}
use Rattle.losses.proofs.Filled.{same_count}
use Rattle.losses.proofs.Grouping.{any_is, count_cons, has_members}
use Rattle.losses.proofs.Link.{copies_are}
use Rattle.lists.proofs.Lists.{all_of, all_to, filter_all, filter_same}
use Rattle.losses.specs.Costs.{IsWeighed, present_esis, cheap_esis, cheap_places, cheapest_of, copies, cost_of, esi_copies, esis, is_cheap, total}
use Rattle.losses.specs.Losses.{places_from}
use Rattle.losses.specs.Members.{different_outside, has_esi, outside}
use Rattle.losses.specs.Windows.{filled, member, members}
use Rattle.lists.specs.Below.{below}
use Rattle.losses.specs.Numbers.{has, present}
use Rattle.losses.specs.declared.groups.Member.{Member}
use Rattle.losses.specs.Number.{Number}
use Rattle.lists.specs.Places.{IsRising}

module _ (counts : List ℕ) (qs : List Member) (known : (j : ℕ) → j < 256 → get_or counts j 0 ≡ esi_copies qs j) where
  pub came_is : present_esis counts ≡ esis qs
  came_is = filter_same (λ j. nat_lt 0 (slice_index counts j)) (λ j. nat_lt 0 (esi_copies qs j)) (below 256) (all_to (λ j. j < 256) _ (λ j l. ap (nat_lt 0) (known j l)) (below 256) (below_all 256 256 (omega arith)))

  pub esis_small : AllByRecursion (λ j. j < 256) (esis qs)
  esis_small = filter_all (λ j. j < 256) (λ j. nat_lt 0 (esi_copies qs j)) (below 256) (below_all 256 256 (omega arith))

  pub cheapest_is : (t last : ℕ) → cheapest_of counts t last ≡ cheap_esis qs t last
  cheapest_is t last =
      ap (filter (is_cheap (slice_index counts) t last)) came_is
      ∙ filter_same (is_cheap (slice_index counts) t last) (is_cheap (esi_copies qs) t last) (esis qs)
      (all_to (λ j. j < 256) _ (λ j l. ap (λ (n : ℕ). nat_lt n t || (n == t && nat_le j last)) (known j l)) (esis qs) esis_small)

  pub cost_is : (js : List ℕ) → AllByRecursion (λ j. j < 256) js → cost_of counts js ≡ total (esi_copies qs) js
  cost_is js small = total_same (slice_index counts) (esi_copies qs) js (all_to (λ j. j < 256) _ (λ j l. known j l) js small)

  pub filled_all : filled counts ≡ different_outside qs 0 0
  unfolding filled different_outside
  filled_all = same_count (λ j. nat_lt 0 (outside qs 0 0 j)) (λ j. nat_lt 0 (get_or counts j 0)) 256 (λ j l. ap (nat_lt 0) (let e = known j l in omega (arith, e)))

  pub weighed : (k came_count price t last : ℕ) → k ≤ came_count → came_count ≡ filled counts → length (cheapest_of counts t last) ≡ came_count - k + 1 → price ≡ cost_of counts (cheapest_of counts t last)
      → IsWeighed qs k price t last
  weighed k came_count price t last l is n p =
      let c = cheapest_is t last in
      let f = filled_all in
      let e = ap (λ (js : List ℕ). length js) c in
      record {
        count = omega (arith, l, is, n, f, e);
        price = p ∙ ap (cost_of counts) c ∙ cost_is (cheap_esis qs t last) (filter_all (λ j. j < 256) (is_cheap (esi_copies qs) t last) (esis qs) esis_small);
      }

-- copies of different ESIs are no more than the members
bits_above : (e : ℕ) (hs : List ℕ) → AllByRecursion (λ y. e < y) hs → total (λ j. cond (e == j) 1 0) hs ≡ 0
bits_above e [] h = refl
bits_above e (y ∷ hs) h =
    let ih = bits_above e hs h.1 in
    let l = h.0 in
    elim (e == y) as (λ v. (e == y) ≡ v → cond v 1 0 + total (λ j. cond (e == j) 1 0) hs ≡ 0) [
      | true ↦ λ q. (let d = eqb-true e y q in absurd (omega (arith, d, l)))
      | false ↦ λ q. omega (arith, ih)
    ] refl

pub bits_once : (e : ℕ) (hs : List ℕ) → IsRising hs → total (λ j. cond (e == j) 1 0) hs ≤ 1
bits_once e [] h = omega arith
bits_once e (y ∷ hs) h =
    elim (e == y) as (λ v. (e == y) ≡ v → cond v 1 0 + total (λ j. cond (e == j) 1 0) hs ≤ 1) [
      | true ↦ λ q. (let d = eqb-true e y q in let z = bits_above e hs (subst (λ (x : ℕ). AllByRecursion (λ y2. x < y2) hs) (sym d) h.0) in omega (arith, z))
      | false ↦ λ q. (let ih = bits_once e hs h.1 in omega (arith, ih))
    ] refl

none : (hs : List ℕ) → total (esi_copies []) hs ≡ 0
none [] = refl
none (h ∷ hs) = let e = none hs in omega (arith, e)

pub copies_within : (qs : List Member) (hs : List ℕ) → IsRising hs → total (esi_copies qs) hs ≤ length qs
copies_within [] hs h = let z = none hs in omega (arith, z)
copies_within (q ∷ qs) hs h =
    let e = copies_within qs hs h in
    let b = bits_once q.esi hs h in
    let s = total_sum (esi_copies (q ∷ qs)) (λ j. cond (q.esi == j) 1 0) (esi_copies qs) hs (all_of _ (λ j. count_cons (has_esi j) q qs) hs) in
    omega (arith, e, b, s)

filter_members : (t u : Member → Bool) (qs : List Member) → ((q : Member) → t q ≡ u q) → filter t qs ≡ filter u qs
filter_members t u [] h = refl
filter_members t u (q ∷ qs) h = let e = filter_members t u qs h in let d = h q in rw d (ap (λ (ys : List Member). cond (u q) (q ∷ ys) ys) e)

module _ (b : ℕ) (ps : List Number) where
  pub esis_are : esis (members b 0 ps) ≡ present b ps
  esis_are = filter_same (λ j. nat_lt 0 (esi_copies (members b 0 ps) j)) (has b ps) (below 256) (all_of _ (λ j. sym (has_members b j 0 ps ∙ any_is (has_esi j) (members b 0 ps))) (below 256))

  cheap_same : (t last j : ℕ) → is_cheap (esi_copies (members b 0 ps)) t last j ≡ is_cheap (copies b ps) t last j
  cheap_same t last j = ap (λ (n : ℕ). nat_lt n t || (n == t && nat_le j last)) (sym (copies_are b j 0 ps))

  pub cheap_are : (t last : ℕ) → cheap_esis (members b 0 ps) t last ≡ cheap b t last ps
  cheap_are t last =
      ap (filter (is_cheap (esi_copies (members b 0 ps)) t last)) esis_are
      ∙ filter_same (is_cheap (esi_copies (members b 0 ps)) t last) (is_cheap (copies b ps) t last) (present b ps) (all_of _ (cheap_same t last) (present b ps))

  pub cost_are : (t last : ℕ) → total (esi_copies (members b 0 ps)) (cheap_esis (members b 0 ps) t last) ≡ cost b t last ps
  cost_are t last =
      ap (total (esi_copies (members b 0 ps))) (cheap_are t last)
      ∙ total_same (esi_copies (members b 0 ps)) (copies b ps) (cheap b t last ps) (all_of _ (λ j. sym (copies_are b j 0 ps)) (cheap b t last ps))

  places_are : (v : ℕ → Bool) (i : ℕ) (rs : List Number) → map (λ (q : Member). q.place) (filter (λ q. v q.esi) (members b i rs)) ≡ places_from (is_of_those b v) i rs
  places_are v i [] = refl
  places_are v i (p ∷ rs) =
      let e = places_are v (i + 1) rs in
      elim (p.block == b) as (λ w. map (λ (q : Member). q.place) (filter (λ q. v q.esi) (cond w (member i p.esi ∷ members b (i + 1) rs) (members b (i + 1) rs))) ≡ cond (w && v p.esi) (i ∷ places_from (is_of_those b v) (i + 1) rs) (places_from (is_of_those b v) (i + 1) rs)) [
        | true ↦
            elim (v p.esi) as (λ w. map (λ (q : Member). q.place) (cond w (member i p.esi ∷ filter (λ q. v q.esi) (members b (i + 1) rs)) (filter (λ q. v q.esi) (members b (i + 1) rs))) ≡ cond w (i ∷ places_from (is_of_those b v) (i + 1) rs) (places_from (is_of_those b v) (i + 1) rs)) [
              | true ↦ ap (λ (xs : List ℕ). i ∷ xs) e
              | false ↦ e
            ]
        | false ↦ e
      ]

  pub doomed_are : (t last : ℕ) → cheap_places (members b 0 ps) t last ≡ doomed b t last ps
  doomed_are t last =
      ap (map (λ (q : Member). q.place)) (filter_members (λ q. is_cheap (esi_copies (members b 0 ps)) t last q.esi) (λ q. is_cheap (copies b ps) t last q.esi) (members b 0 ps) (λ q. cheap_same t last q.esi))
      ∙ places_are (is_cheap (copies b ps) t last) 0 ps

pub cost_fits : (counts : List ℕ) (qs : List Member) → ((j : ℕ) → j < 256 → get_or counts j 0 ≡ esi_copies qs j) → cost_of counts (present_esis counts) ≤ length qs
cost_fits counts qs known =
    let a = cost_is counts qs known (esis qs) (esis_small counts qs known) in
    let b = ap (cost_of counts) (came_is counts qs known) in
    let d = copies_within qs (esis qs) (rising_filter (λ j. nat_lt 0 (esi_copies qs j)) (below 256) (rising_below 256)) in
    omega (arith, a, b, d)

places_suc : (v : Member → Bool) (i : ℕ) (qs : List Member) → i < length qs
    → map (λ (q : Member). q.place) (filter v (take (suc i) qs)) ≡ map (λ (q : Member). q.place) (filter v (take i qs)) ++ cond (v (get_or qs i (member 0 0))) ((get_or qs i (member 0 0)).place ∷ []) []
places_suc v i [] l = absurd (omega arith)
places_suc v zero (q ∷ qs) l = elim (v q) as (λ w. map (λ (q : Member). q.place) (cond w (q ∷ []) []) ≡ cond w (q.place ∷ []) []) [ true ↦ refl | false ↦ refl ]
places_suc v (suc i) (q ∷ qs) l =
    let e = places_suc v i qs (omega arith) in
    elim (v q) as (λ w. map (λ (q : Member). q.place) (cond w (q ∷ filter v (take (suc i) qs)) (filter v (take (suc i) qs))) ≡ map (λ (q : Member). q.place) (cond w (q ∷ filter v (take i qs)) (filter v (take i qs))) ++ cond (v (get_or qs i (member 0 0))) ((get_or qs i (member 0 0)).place ∷ []) []) [
      | true ↦ ap (λ (xs : List ℕ). q.place ∷ xs) e
      | false ↦ e
    ]

-- the places so far
pub places_more : (v : Member → Bool) (i : ℕ) (qs : List Member) → i < length qs
    → map (λ (q : Member). q.place) (filter v (take (i + 1) qs)) ≡ map (λ (q : Member). q.place) (filter v (take i qs)) ++ cond (v (get_or qs i (member 0 0))) ((get_or qs i (member 0 0)).place ∷ []) []
places_more v i qs l = let e : i + 1 ≡ suc i = omega arith in ap (λ (n : ℕ). map (λ (q : Member). q.place) (filter v (take n qs))) e ∙ places_suc v i qs l
