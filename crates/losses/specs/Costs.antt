-- What the loss of a block's symbols costs: all copies of each.
use Rattle.std.specs.Prelude.{◌≡◌, ℕ, suc, ◌+◌, Bool, ◌&&◌, ◌||◌, ◌==◌, nat_lt, nat_le, cond, List}
use Rattle.std.specs.Prelude.{[], ◌∷◌, length, filter, count_by, map, slice_index}
use Rattle.losses.specs.Number.{Number}
use Rattle.losses.specs.declared.groups.Member.{Member}
use Rattle.lists.specs.Below.{below}
use Rattle.losses.specs.Numbers.{is_number}
use Rattle.losses.specs.Members.{has_esi, different_outside}

-- the sum of a figure of each member
abbrev pub total : {X : Type 0} → (X → ℕ) → List X → ℕ
total f [] = 0
total f (x ∷ xs) = f x + total f xs

-- how many members pass
abbrev pub count : {X : Type 0} → (X → Bool) → List X → ℕ
count p xs = total (λ x. cond (p x) 1 0) xs

-- how often symbol j of block b is there
abbrev pub copies : ℕ → List Number → ℕ → ℕ
copies b ps j = count (is_number b j) ps

-- whether an ESI is up to the one that costs t, in the order of (cost, ESI)
abbrev pub is_cheap : (ℕ → ℕ) → ℕ → ℕ → ℕ → Bool
is_cheap cost t last j = nat_lt (cost j) t || (cost j == t && nat_le j last)

-- copies and ESI
abbrev pub Pair : Type 0
Pair = ℕ × ℕ

-- each ESI behind what it costs
abbrev pub priced : (ℕ → ℕ) → List ℕ → List Pair
priced cost esis = map (λ j. (cost j, j)) esis

-- the ESIs that came, by how often each did; rising
abbrev pub present_esis : List ℕ → List ℕ
present_esis counts = filter (λ j. nat_lt 0 (slice_index counts j)) (below 256)

-- those up to (t, last) in the order of (cost, ESI)
abbrev pub cheapest_of : List ℕ → ℕ → ℕ → List ℕ
cheapest_of counts t last = filter (is_cheap (slice_index counts) t last) (present_esis counts)

-- what ESIs cost
abbrev pub cost_of : List ℕ → List ℕ → ℕ
cost_of counts esis = total (slice_index counts) esis

-- how many of a block's members have this ESI
abbrev pub esi_copies : List Member → ℕ → ℕ
esi_copies qs j = count_by (has_esi j) qs

abbrev pub esis : List Member → List ℕ
esis qs = filter (λ j. nat_lt 0 (esi_copies qs j)) (below 256)

abbrev pub cheap_esis : List Member → ℕ → ℕ → List ℕ
cheap_esis qs t last = filter (is_cheap (esi_copies qs) t last) (esis qs)

-- the cheapest ESIs, one more than the block can spare, and what they cost
pub record IsWeighed (qs : List Member) (k cost t last : ℕ) : Type 0 where
  pub count : length (cheap_esis qs t last) + k ≡ suc (different_outside qs 0 0)
  pub price : cost ≡ total (esi_copies qs) (cheap_esis qs t last)

-- all places of the cheapest ESIs
abbrev pub cheap_places : List Member → ℕ → ℕ → List ℕ
cheap_places qs t last = map (λ q. q.place) (filter (λ q. is_cheap (esi_copies qs) t last q.esi) qs)
