-- The order of what is wrong with the numbers of an FTI, apart from how it is looked for.
use Rattle.std.specs.Prelude.{◌≡◌, ◌↔◌, ℕ, ◌<◌, ◌≤◌, ◌^◌, Some}
use Rattle.partition.specs.Fti.{Fti, block_count}
use Rattle.partition.specs.FtiFault.{fti_fault}
use Rattle.partition.specs.declared.FtiError.{FtiError}
use Rattle.partition.specs.declared.FtiError.TheVariants.{LengthZero, LengthTooGreat, SymbolZero}
use Rattle.partition.specs.declared.FtiError.TheVariants.{BlockZero, MaxBelowBlock, TooManyBlocks}

-- what each says, those before it apart
abbrev pub FaultHolds : Fti → FtiError → Type 0
FaultHolds f LengthZero = f.transfer_length ≡ 0
FaultHolds f LengthTooGreat = 2 ^ 48 ≤ f.transfer_length
FaultHolds f SymbolZero = f.symbol_length ≡ 0
FaultHolds f BlockZero = f.block_length ≡ 0
FaultHolds f MaxBelowBlock = f.max_symbols < f.block_length
FaultHolds f TooManyBlocks = 2 ^ 24 < block_count f

-- their order
abbrev pub rank : FtiError → ℕ
rank LengthZero = 1
rank LengthTooGreat = 2
rank SymbolZero = 3
rank BlockZero = 4
rank MaxBelowBlock = 5
rank TooManyBlocks = 6

-- this is wrong, and nothing that comes before it
pub record IsFirstFault (f : Fti) (e : FtiError) : Type 0 where
  pub holds : FaultHolds f e
  pub first : (x : FtiError) → rank x < rank e → ¬ FaultHolds f x

-- what is told of the numbers is just that
abbrev pub TellsInOrder : Type 0
TellsInOrder = (f : Fti) (e : FtiError) → (fti_fault f ≡ Some e) ↔ IsFirstFault f e
