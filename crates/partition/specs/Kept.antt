-- What an FTI keeps beside its four numbers, which are valid and determine it: how many blocks
-- there are, how many of them, the first ones, have one source symbol more, and how many source
-- symbols each other block has.
use Rattle.std.specs.Prelude.{◌≡◌, ℕ, ◌/◌}
use Rattle.partition.specs.Fti.{Fti, IsValidFti, symbol_count, block_count, large_blocks}

pub record IsKept (f : Fti) (blocks large small : ℕ) : Type 0 where
  pub valid : IsValidFti f
  pub blocks_are : blocks ≡ block_count f
  pub large_are : large ≡ large_blocks f
  pub small_is : small ≡ symbol_count f / block_count f
