-- The first thing that is wrong with the numbers of an FTI.
use Rattle.std.specs.Prelude.{◌^◌, ◌==◌, nat_le, nat_lt, if◌then◌else◌, Option, Some, None}
use Rattle.partition.specs.Fti.{Fti, block_count}
use Rattle.partition.specs.declared.FtiError.{FtiError}
use Rattle.partition.specs.declared.FtiError.TheVariants.{LengthZero, LengthTooGreat, SymbolZero}
use Rattle.partition.specs.declared.FtiError.TheVariants.{BlockZero, MaxBelowBlock, TooManyBlocks}

abbrev pub fti_fault : Fti → Option FtiError
fti_fault f =
    if f.transfer_length == 0 then Some LengthZero
    else if nat_le (2 ^ 48) f.transfer_length then Some LengthTooGreat
    else if f.symbol_length == 0 then Some SymbolZero
    else if f.block_length == 0 then Some BlockZero
    else if nat_lt f.max_symbols f.block_length then Some MaxBelowBlock
    else if nat_lt (2 ^ 24) (block_count f) then Some TooManyBlocks
    else None
