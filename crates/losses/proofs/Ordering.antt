-- Groups of places as they are told, and as walks see them.
use Rattle.std.proofs.Common.{◌≡◌, ℕ, ◌+◌, ◌<◌, ◌≤◌, List, [], ◌∷◌, length, map, ap, ◌∙◌, arith, count_by, nat_lt, ◌==◌}
use Rattle.std.specs.List.{AllByRecursion, list_any}
use Rattle.lists.specs.Below.{below}
use Rattle.lists.specs.Places.{ArePlaces}
use Rattle.lists.proofs.Lists.{all_of, filter_same}
use Rattle.losses.specs.Groups.{Group, group_at, different, AreGroups, AreCarriers}
use Rattle.losses.specs.Members.{has_esi, outside, different_outside}
use Rattle.losses.specs.Ordered.{AreMembersFrom, ArePlacesFrom, AreOrdered, AreOrderedCarriers}
use Rattle.losses.specs.declared.groups.Member.{Member}
use Rattle.losses.proofs.Grouping.{any_is}

-- ---- one by one, and all

stronger : (i j : ℕ) (ps : List ℕ) → i ≤ j → AllByRecursion (λ p. j ≤ p) ps → AllByRecursion (λ p. i ≤ p) ps
stronger i j [] l h = tt
stronger i j (p ∷ ps) l h = (let a = h.0 in omega (arith, a, l), stronger i j ps l h.1)

above : (i : ℕ) (ps : List ℕ) → AllByRecursion (λ p. i < p) ps → AllByRecursion (λ p. i + 1 ≤ p) ps
above i [] h = tt
above i (p ∷ ps) h = (let a = h.0 in omega (arith, a), above i ps h.1)

behind : (i : ℕ) (ps : List ℕ) → AllByRecursion (λ p. i + 1 ≤ p) ps → AllByRecursion (λ p. i < p) ps
behind i [] h = tt
behind i (p ∷ ps) h = (let a = h.0 in omega (arith, a), behind i ps h.1)

from_first : (i : ℕ) (ps : List ℕ) → i ≤ 0 → AllByRecursion (λ p. i ≤ p) ps
from_first i [] l = tt
from_first i (p ∷ ps) l = (omega (arith, l), from_first i ps l)

places_from : (i n : ℕ) (ps : List ℕ) → AllByRecursion (λ p. i ≤ p) ps → ArePlaces n ps → ArePlacesFrom i n ps
places_from i n [] low are = tt
places_from i n (p ∷ ps) low are = (low.0, are.1.0, places_from (p + 1) n ps (above p ps are.0.0) (are.0.1, are.1.1))

least_of : (i n : ℕ) (ps : List ℕ) → ArePlacesFrom i n ps → AllByRecursion (λ p. i ≤ p) ps
least_of i n [] are = tt
least_of i n (p ∷ ps) are =
    let a = are.0 in (a, stronger i (p + 1) ps (omega (arith, a)) (least_of (p + 1) n ps are.2))

places_back : (i n : ℕ) (ps : List ℕ) → ArePlacesFrom i n ps → ArePlaces n ps
places_back i n [] are = (tt, tt)
places_back i n (p ∷ ps) are =
    let later = places_back (p + 1) n ps are.2 in
    ((behind p ps (least_of (p + 1) n ps are.2), later.0), (are.1, later.1))

members_from : (i n : ℕ) (qs : List Member) → ArePlacesFrom i n (map (λ q. q.place) qs) → AllByRecursion (λ q. q.esi < 256) qs → AreMembersFrom i n qs
members_from i n [] are small = tt
members_from i n (q ∷ qs) are small = (are.0, are.1, small.0, members_from (q.place + 1) n qs are.2 small.1)

members_places : (i n : ℕ) (qs : List Member) → AreMembersFrom i n qs → ArePlacesFrom i n (map (λ q. q.place) qs)
members_places i n [] are = tt
members_places i n (q ∷ qs) are = (are.0, are.1, members_places (q.place + 1) n qs are.3)

members_small : (i n : ℕ) (qs : List Member) → AreMembersFrom i n qs → AllByRecursion (λ q. q.esi < 256) qs
members_small i n [] are = tt
members_small i n (q ∷ qs) are = (are.2, members_small (q.place + 1) n qs are.3)

-- how many different symbols there are
pub different_is : (qs : List Member) → different qs ≡ different_outside qs 0 0
unfolding different_outside
different_is qs =
    ap (λ (js : List ℕ). length js) (filter_same (λ j. list_any (λ q. q.esi == j) qs) (λ j. nat_lt 0 (outside qs 0 0 j)) (below 256)
    (all_of _ (λ j. any_is (has_esi j) qs ∙ ap (λ (n : ℕ). nat_lt 0 n) (whole j)) (below 256)))
  where
    whole : (j : ℕ) → count_by (has_esi j) qs ≡ outside qs 0 0 j
    whole j = omega arith

-- ---- groups and carriers

pub carriers_ordered : (ps : List ℕ) (n : ℕ) → AreCarriers ps n → AreOrderedCarriers ps n
carriers_ordered ps n are = record { some = are.some; places = places_from 0 n ps (from_first 0 ps (omega arith)) are.places }

pub carriers_told : (ps : List ℕ) (n : ℕ) → AreOrderedCarriers ps n → AreCarriers ps n
carriers_told ps n are = record { some = are.some; places = places_back 0 n ps are.places }

pub groups_ordered : (groups : List Group) (n : ℕ) → AreGroups groups n → AreOrdered groups n
groups_ordered groups n are = record {
  some = are.some;
  members = λ b l. members_from 0 n (group_at groups b).members
      (places_from 0 n (map (λ q. q.place) (group_at groups b).members) (from_first 0 (map (λ q. q.place) (group_at groups b).members) (omega arith)) (are.places b l)) (are.small b l);
  enough = λ b l. (let e = different_is (group_at groups b).members in let h = are.enough b l in omega (arith, e, h));
}

pub groups_told : (groups : List Group) (n : ℕ) → AreOrdered groups n → AreGroups groups n
groups_told groups n are = record {
  some = are.some;
  places = λ b l. places_back 0 n (map (λ q. q.place) (group_at groups b).members) (members_places 0 n (group_at groups b).members (are.members b l));
  small = λ b l. members_small 0 n (group_at groups b).members (are.members b l);
  enough = λ b l. (let e = different_is (group_at groups b).members in let h = are.enough b l in omega (arith, e, h));
}
