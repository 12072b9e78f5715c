-- Partitions worked by hand, computed from the definitions.
use Rattle.std.specs.Prelude.{◌≡◌, ◌-◌, ◌^◌, [], ◌∷◌, map, Some, None, refl}
use Rattle.partition.specs.Fti.{Fti, fti_from, ceiling, symbol_count, block_count, large_blocks, source_count, start_of, encoding_count, last_length}
use Rattle.partition.specs.FtiFault.{fti_fault}
use Rattle.partition.specs.declared.FtiError.TheVariants.{LengthZero, LengthTooGreat, SymbolZero, BlockZero, MaxBelowBlock, TooManyBlocks}

-- ten symbols in blocks of four, three and three
abbrev ten : Fti
ten = fti_from 10 1 4 6

pub ten_counts : symbol_count ten ∷ block_count ten ∷ large_blocks ten ∷ last_length ten ∷ [] ≡ 10 ∷ 3 ∷ 1 ∷ 1 ∷ []
unfolding ceiling symbol_count block_count large_blocks last_length
ten_counts = refl

pub ten_sources : map (source_count ten) (0 ∷ 1 ∷ 2 ∷ []) ≡ 4 ∷ 3 ∷ 3 ∷ []
unfolding ceiling symbol_count block_count large_blocks source_count
ten_sources = refl

pub ten_encodings : map (encoding_count ten) (0 ∷ 1 ∷ 2 ∷ []) ≡ 6 ∷ 4 ∷ 4 ∷ []
unfolding ceiling symbol_count block_count large_blocks source_count encoding_count
ten_encodings = refl

pub ten_starts : map (start_of ten) (0 ∷ 1 ∷ 2 ∷ 3 ∷ []) ≡ 0 ∷ 4 ∷ 7 ∷ 10 ∷ []
unfolding ceiling symbol_count block_count large_blocks source_count start_of
ten_starts = refl

-- a terabyte in the longest symbols that a datagram takes
abbrev terabyte : Fti
terabyte = fti_from (2 ^ 40) 65475 255 255

pub terabyte_counts : symbol_count terabyte ∷ block_count terabyte ∷ large_blocks terabyte ∷ [] ≡ 16792847 ∷ 65855 ∷ 65677 ∷ []
unfolding ceiling symbol_count block_count large_blocks
terabyte_counts = refl

pub terabyte_sources : map (source_count terabyte) (0 ∷ 65676 ∷ 65677 ∷ 65854 ∷ []) ≡ 255 ∷ 255 ∷ 254 ∷ 254 ∷ []
unfolding ceiling symbol_count block_count large_blocks source_count
terabyte_sources = refl

-- the longest object has too many blocks of such symbols
abbrev longest : Fti
longest = fti_from (2 ^ 48 - 1) 65475 255 255

pub longest_counts : symbol_count longest ∷ block_count longest ∷ [] ≡ 4298968717 ∷ 16858701 ∷ []
unfolding ceiling symbol_count block_count
longest_counts = refl

pub faults : map fti_fault (fti_from 0 0 4 6 ∷ fti_from (2 ^ 48) 1 4 6 ∷ fti_from 10 0 0 6 ∷ fti_from 10 1 0 0 ∷ fti_from 10 1 4 3 ∷ longest ∷ fti_from 16777217 1 1 1 ∷ fti_from 16777216 1 1 1 ∷ [])
    ≡ Some LengthZero ∷ Some LengthTooGreat ∷ Some SymbolZero ∷ Some BlockZero ∷ Some MaxBelowBlock ∷ Some TooManyBlocks ∷ Some TooManyBlocks ∷ None ∷ []
unfolding ceiling symbol_count block_count
faults = refl
