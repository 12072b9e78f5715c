-- Which ESIs came of each block.
use Rattle.std.specs.Prelude.{◌≡◌, ℕ, List, [], Option, Some, None}
use Rattle.std.specs.BTreeMap.{get}
use Rattle.std.specs.Ordering.{nat_cmp}
use Rattle.shared_lists.specs.SharedLists.{list_at, share_of, index_of, HasRoom}
use Rattle.shared_lists.specs.declared.shared_lists.SharedLists.{SharedLists}
use Rattle.receiver.specs.declared.esis.Esis.{Esis}

-- those at an index of a share, and none where there is no share
abbrev pub esis_in : Option (SharedLists ℕ) → ℕ → List ℕ
esis_in None i = []
esis_in (Some lists) i = list_at lists i

-- those of a block
abbrev pub esis_of : Esis → ℕ → List ℕ
esis_of esis b =
    esis_in (get nat_cmp esis.shares (share_of esis.sharing b)) (index_of esis.sharing b)

-- one more of a block can be noted without memory
pub record HasRoomFor (esis : Esis) (b : ℕ) : Type 0 where
  pub lists : SharedLists ℕ
  pub share : get nat_cmp esis.shares (share_of esis.sharing b) ≡ Some lists
  pub room : HasRoom lists (index_of esis.sharing b)
