-- The bytes of source blocks that stand in a file, one block behind the other.
use Rattle.std.specs.Prelude.{ℕ, ◌*◌, List, ◌++◌, take, drop, replicate, Option}
use Rattle.std.specs.Option.{option_map}
use Rattle.partition.specs.Fti.{Fti, source_count, start_of}

-- so many bytes from an offset on, with zeros in the place of those behind the end
abbrev pub padded_from : List ℕ → ℕ → ℕ → List ℕ
padded_from x offset count = take count (drop offset x ++ replicate count 0)

-- those of a block
abbrev pub bytes_at : Fti → List ℕ → ℕ → List ℕ
bytes_at f x b =
    padded_from x (start_of f b * f.symbol_length) (source_count f b * f.symbol_length)

-- those of each block, where the file's bytes are told
abbrev pub kept_at : Option (List ℕ) → Fti → Option (ℕ → List ℕ)
kept_at contents f = option_map (bytes_at f) contents
