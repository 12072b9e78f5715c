-- Symbols that an FTI has.
use Rattle.std.specs.Prelude.{◌≡◌, ◌<◌, length}
use Rattle.partition.specs.Fti.{Fti, encoding_count, block_count}
use Rattle.reception.specs.Symbols.{Symbol}

-- a symbol that the FTI has
pub record IsWithin (f : Fti) (s : Symbol) : Type 0 where
  pub block : s.block < block_count f
  pub esi : s.esi < encoding_count f s.block
  pub count : length s.bytes ≡ f.symbol_length
