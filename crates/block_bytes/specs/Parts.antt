-- The object, by the bytes of its source blocks.
use Rattle.std.specs.Prelude.{ℕ, List, take, flat_map}
use Rattle.lists.specs.Below.{below}
use Rattle.partition.specs.Fti.{Fti, block_bytes, block_count}

-- the object's bytes in a block: those of its source symbols, cut at the object's end
abbrev pub part_of : Fti → (ℕ → List ℕ) → ℕ → List ℕ
part_of f bytes b = take (block_bytes f b) (bytes b)

-- the object's bytes in the blocks below n
abbrev pub object_below : Fti → (ℕ → List ℕ) → ℕ → List ℕ
object_below f bytes n = flat_map (part_of f bytes) (below n)

-- the object's bytes in all blocks
abbrev pub object_in : Fti → (ℕ → List ℕ) → List ℕ
object_in f bytes = object_below f bytes (block_count f)
