-- The bytes of blocks that are held in memory.
use Rattle.std.specs.Prelude.{ℕ, List, [], Option, Some, None}
use Rattle.std.specs.BTreeMap.{BTreeMap, get}
use Rattle.std.specs.Global.{Vec}
use Rattle.std.specs.Ordering.{nat_cmp}
use Rattle.partition.specs.Fti.{Fti}
use Rattle.block_bytes.specs.declared.held_blocks.HeldBlocks.{HeldBlocks}

abbrev pub bytes_or_none : Option (Vec ℕ) → List ℕ
bytes_or_none None = []
bytes_or_none (Some bytes) = bytes.items

abbrev pub bytes_in : Option (BTreeMap ℕ (Vec ℕ)) → ℕ → List ℕ
bytes_in None b = []
bytes_in (Some blocks) b = bytes_or_none (get nat_cmp blocks b)

-- those of each block, and none of one of which nothing came
abbrev pub held_of : HeldBlocks → ℕ → List ℕ
held_of held b = bytes_in held.blocks b

-- they are told, whatever the FTI is
abbrev pub held_in : HeldBlocks → Fti → Option (ℕ → List ℕ)
held_in held f = Some (held_of held)
