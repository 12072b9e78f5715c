-- Encoding symbols of all blocks that are made before they are sent, in order Rounds.
use Rattle.std.specs.Prelude.{ℕ, ◌<◌, ◌+◌, ◌*◌, List}
use Rattle.partition.specs.Fti.{Fti, block_count, encoding_count}
use Rattle.reception.specs.Symbols.{Agrees}
use Rattle.encoder.specs.Rows.{row_at}

-- so many encoding symbols of block b of the object, from an ESI on, as far as the block has them,
-- at the block's place among rows of all blocks
abbrev pub AreMadeOf : List ℕ → Fti → ℕ → ℕ → ℕ → List ℕ → Type 0
AreMadeOf object f first count b rows =
    (r : ℕ) → r < count → first + r < encoding_count f b
    → Agrees f object (record {
      block = b;
      esi = first + r;
      bytes = row_at f.symbol_length rows (b * count + r);
    })

-- those of all blocks, one block behind the other
abbrev pub AreMade : List ℕ → Fti → ℕ → ℕ → List ℕ → Type 0
AreMade object f first count rows =
    (b : ℕ) → b < block_count f → AreMadeOf object f first count b rows
