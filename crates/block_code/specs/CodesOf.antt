-- A block's matrices by their kind.
use Rattle.std.specs.Prelude.{ℕ}
use Rattle.partition.specs.Fti.{Fti}
use Rattle.elim.specs.Grid.{Grid}
use Rattle.block_code.specs.declared.codes.Kind.TheVariants.{Generator, Interpolator}
use Rattle.block_code.specs.Codes.{IsOfBlock}

abbrev pub IsCodeOf : Fti → ℕ → Grid ℕ → Type 0
IsCodeOf f b g = IsOfBlock Generator f b g

abbrev pub IsInterpolatorOf : Fti → ℕ → Grid ℕ → Type 0
IsInterpolatorOf f b g = IsOfBlock Interpolator f b g
