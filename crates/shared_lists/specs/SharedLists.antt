-- Lists that stand one behind the other, and which of many share an allocation.
use Rattle.std.specs.Prelude.{ℕ, zero, suc, ◌+◌, ◌/◌, ◌%◌, ◌^◌, ◌<◌, ◌≤◌, List, [], ◌∷◌, length}
use Rattle.std.specs.Prelude.{take, drop, slice_index_or}
use Rattle.std.specs.Vec.{vec_capacity}
use Rattle.shared_lists.specs.declared.shared_lists.SharedLists.{SharedLists}
use Rattle.shared_lists.specs.declared.sharing.Sharing.{Sharing}

-- the list at an index, where these are the lengths of those before the last, and these the values
-- of all
abbrev pub list_in : {T : Type 0} → List ℕ → List T → ℕ → List T
list_in [] values zero = values
list_in [] values (suc i) = []
list_in (n ∷ lengths) values zero = take n values
list_in (n ∷ lengths) values (suc i) = list_in lengths (drop n values) i

abbrev pub list_at : {T : Type 0} → SharedLists T → ℕ → List T
list_at lists i = list_in lists.lengths.items lists.values.items i

-- room for one value more in the list at an index
pub record HasRoom {T : Type 0} (lists : SharedLists T) (index : ℕ) : Type 0 where
  pub begun : index ≤ length lists.lengths.items
  pub counts : slice_index_or lists.lengths.items index 0 + 1 < 2 ^ 16
  pub free : length lists.values.items < vec_capacity lists.values

-- the number of the allocation in which the list of a number is, and its index there
abbrev pub share_of : Sharing → ℕ → ℕ
share_of sharing number = number / sharing.lists

abbrev pub index_of : Sharing → ℕ → ℕ
index_of sharing number = number % sharing.lists
