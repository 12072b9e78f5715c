-- Groups of places as walks see them: each place behind the one before it.
use Rattle.std.specs.Prelude.{ℕ, ◌+◌, ◌<◌, ◌≤◌, List, [], ◌∷◌, length}
use Rattle.losses.specs.Groups.{Group, group_at}
use Rattle.losses.specs.Members.{different_outside}
use Rattle.losses.specs.declared.groups.Member.{Member}

-- the places rise from i on, and are below n; the symbols' numbers are bytes
abbrev pub AreMembersFrom : ℕ → ℕ → List Member → Type 0
AreMembersFrom i n [] = Unit {0}
AreMembersFrom i n (q ∷ qs) =
    (i ≤ q.place) × (q.place < n) × (q.esi < 256) × AreMembersFrom (q.place + 1) n qs

-- the places rise from i on, and are below n
abbrev pub ArePlacesFrom : ℕ → ℕ → List ℕ → Type 0
ArePlacesFrom i n [] = Unit {0}
ArePlacesFrom i n (p ∷ ps) = (i ≤ p) × (p < n) × ArePlacesFrom (p + 1) n ps

-- each group needs some symbols, and enough are there
pub record AreOrdered (groups : List Group) (n : ℕ) : Type 0 where
  pub some : (b : ℕ) → b < length groups → 0 < (group_at groups b).need
  pub members : (b : ℕ) → b < length groups → AreMembersFrom 0 n (group_at groups b).members
  pub enough : (b : ℕ) → b < length groups
      → (group_at groups b).need ≤ different_outside (group_at groups b).members 0 0

-- there is a carrier
pub record AreOrderedCarriers (carriers : List ℕ) (n : ℕ) : Type 0 where
  pub some : 0 < length carriers
  pub places : ArePlacesFrom 0 n carriers
