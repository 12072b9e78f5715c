-- Groups of places: what a list can lose, by the places of each group's symbols and those of the
-- carriers. A place can be in several groups, or in none.
use Rattle.std.specs.Prelude.{ℕ, zero, suc, ◌+◌, ◌<◌, ◌≤◌, Bool, ◌&&◌, ◌==◌, List, [], ◌∷◌, length}
use Rattle.std.specs.Prelude.{◌++◌, filter, map, slice_index_or}
use Rattle.std.specs.Global.{Vec}
use Rattle.std.specs.List.{AllByRecursion, list_any}
use Rattle.lists.specs.Below.{below}
use Rattle.lists.specs.Places.{ArePlaces}
use Rattle.lists.specs.Selection.{is_among}
use Rattle.shared_lists.specs.SharedLists.{share_of}
use Rattle.losses.specs.Losses.{Blocks}
use Rattle.losses.specs.declared.groups.Entry.{Entry}
use Rattle.losses.specs.declared.groups.Member.{Member}
use Rattle.losses.specs.declared.groups.Groups.{Groups}

-- how many different symbols a group needs, and its members: the place and the number of the symbol
-- there, places rising
pub record Group : Type 0 where
  pub need : ℕ
  pub members : List Member

-- the entries of a group, and the member of an entry
abbrev pub is_of : ℕ → Entry → Bool
is_of b entry = entry.group == b

abbrev pub member_of : Entry → Member
member_of entry = record { place = entry.place; esi = entry.esi }

-- the members of a group among entries
abbrev pub members_among : ℕ → List Entry → List Member
members_among b entries = map member_of (filter (is_of b) entries)

-- the entries that share this allocation
abbrev pub entries_at : List (Vec Entry) → ℕ → List Entry
entries_at [] share = []
entries_at (entries ∷ shares) zero = entries.items
entries_at (entries ∷ shares) (suc share) = entries_at shares share

-- groups with these needs, whose first is number b of those whose members are given
abbrev pub groups_from : (ℕ → List Member) → ℕ → List ℕ → List Group
groups_from members b [] = []
groups_from members b (need ∷ needs) =
    record { need = need; members = members b } ∷ groups_from members (b + 1) needs

abbrev pub members_in : Groups → ℕ → List Member
members_in groups b =
    members_among b (entries_at groups.shares.items (share_of groups.sharing b))

abbrev pub groups_of : Groups → List Group
groups_of groups = groups_from (members_in groups) 0 groups.needs.items

abbrev pub group_without : ℕ → Group
group_without need = record { need = need; members = [] }

-- group b has one member more, behind the others
abbrev pub with_member : List Group → ℕ → Member → List Group
with_member [] b q = []
with_member (g ∷ groups) zero q =
    record { need = g.need; members = g.members ++ q ∷ [] } ∷ groups
with_member (g ∷ groups) (suc b) q = g ∷ with_member groups b q

abbrev pub no_group : Group
no_group = record { need = 0; members = [] }

abbrev pub group_at : List Group → ℕ → Group
group_at groups b = slice_index_or groups b no_group

-- n places from i on
abbrev pub places : ℕ → ℕ → List ℕ
places i zero = []
places i (suc n) = i ∷ places (i + 1) n

-- a member with this symbol at one of these places
abbrev pub is_at : List ℕ → ℕ → Member → Bool
is_at left j q = is_among left q.place && q.esi == j

-- the groups, and which of their symbols and of the carriers stand at places that are left
abbrev pub blocks_of_groups : List Group → List ℕ → Blocks ℕ
blocks_of_groups groups carriers = record {
  count = length groups;
  need = λ b. (group_at groups b).need;
  has_symbol = λ left b j. list_any (is_at left j) (group_at groups b).members;
  is_carrier = is_among carriers;
}

-- how many different symbols they are
abbrev pub different : List Member → ℕ
different members = length (filter (λ j. list_any (λ q. q.esi == j) members) (below 256))

-- each group needs some symbols, and enough are there, at places of a list that is n long, rising;
-- their numbers are bytes
pub record AreGroups (groups : List Group) (n : ℕ) : Type 0 where
  pub some : (b : ℕ) → b < length groups → 0 < (group_at groups b).need
  pub places : (b : ℕ) → b < length groups
      → ArePlaces n (map (λ q. q.place) (group_at groups b).members)
  pub small : (b : ℕ) → b < length groups
      → AllByRecursion (λ q. q.esi < 256) (group_at groups b).members
  pub enough : (b : ℕ) → b < length groups
      → (group_at groups b).need ≤ different (group_at groups b).members

-- there is a carrier, and their places are those of a list that is n long
pub record AreCarriers (carriers : List ℕ) (n : ℕ) : Type 0 where
  pub some : 0 < length carriers
  pub places : ArePlaces n carriers

-- some list has the groups' places and the carriers'
abbrev pub AreOfAList : List Group → List ℕ → Type 0
AreOfAList groups carriers = (n : ℕ) × AreGroups groups n × AreCarriers carriers n

-- what holds in each list that has the groups' places and the carriers'
abbrev pub InEachList : List Group → List ℕ → (Blocks ℕ → List ℕ → Type 0) → Type 0
InEachList groups carriers P =
    (n : ℕ) → AreGroups groups n → AreCarriers carriers n
    → P (blocks_of_groups groups carriers) (places 0 n)
