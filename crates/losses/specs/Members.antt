-- The members of one block: their places, rising, and their ESIs.
use Rattle.std.specs.Prelude.{ℕ, ◌+◌, Bool, ◌==◌, nat_lt, List, length, filter, count_by, take}
use Rattle.std.specs.Prelude.{drop}
use Rattle.losses.specs.declared.groups.Member.{Member}
use Rattle.lists.specs.Below.{below}

abbrev pub has_esi : ℕ → Member → Bool
has_esi j q = q.esi == j

-- copies of j before member x and from member y on
abbrev pub outside : List Member → ℕ → ℕ → ℕ → ℕ
outside qs x y j = count_by (has_esi j) (take x qs) + count_by (has_esi j) (drop y qs)

-- how many different ESIs there are before member x and from member y on
unfoldable pub different_outside : List Member → ℕ → ℕ → ℕ
different_outside qs x y = length (filter (λ j. nat_lt 0 (outside qs x y j)) (below 256))
