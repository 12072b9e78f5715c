-- A code for each size that a source block has. There are two sizes at most.
use Rattle.std.specs.Prelude.{◌≡◌, ◌==◌, ℕ, ◌<◌, ◌≤◌, if◌then◌else◌, Option, Some, None}
use Rattle.partition.specs.Fti.{Fti, block_count, source_count, encoding_count}
use Rattle.elim.specs.Grid.{Grid}
use Rattle.elim.specs.Generator.{Encodes, Interpolates}
use Rattle.block_code.specs.declared.code.Code.{Code}
use Rattle.block_code.specs.declared.codes.BlockCodes.{BlockCodes}
use Rattle.block_code.specs.declared.codes.Kind.{Kind}
use Rattle.block_code.specs.declared.codes.Kind.TheVariants.{Generator, Interpolator}

-- a row of k source symbols times it is n encoding symbols
pub record IsEncoder (k n : ℕ) (g : Grid ℕ) : Type 0 where
  pub rows : g.rows ≡ k
  pub cols : g.cols ≡ n
  pub encodes : Encodes k n g

-- a row of k source symbols times it is the coefficients of their polynomial
pub record IsInterpolator (k : ℕ) (g : Grid ℕ) : Type 0 where
  pub rows : g.rows ≡ k
  pub cols : g.cols ≡ k
  pub interpolates : Interpolates k g

-- with so many source symbols, coefficients are made by way of the values at all 255 points
abbrev pub least_by_values : ℕ
least_by_values = 180

-- a row of k source symbols times it is the coefficients of their polynomial, or its values at all
-- points
pub record MakesCoefficients (k : ℕ) (g : Grid ℕ) : Type 0 where
  pub rows : g.rows ≡ k
  pub at_once : k < least_by_values → IsInterpolator k g
  pub by_values : least_by_values ≤ k → IsEncoder k 255 g

-- the matrix of a block of k source symbols and n encoding symbols
abbrev pub IsOfKind : Kind → ℕ → ℕ → Grid ℕ → Type 0
IsOfKind Generator k n g = IsEncoder k n g
IsOfKind Interpolator k n g = MakesCoefficients k g

abbrev pub IsOfBlock : Kind → Fti → ℕ → Grid ℕ → Type 0
IsOfBlock kind f b g = IsOfKind kind (source_count f b) (encoding_count f b) g

-- the code with so many rows, if one is smaller
abbrev pub code_for : ℕ → Code → Option Code → Code
code_for k large None = large
code_for k large (Some small) = if large.matrix.rows == k then large else small

-- each block's code has this property
abbrev pub EachBlockHas : (ℕ → Grid ℕ → Type 0) → Fti → BlockCodes → Type 0
EachBlockHas P f codes =
    (b : ℕ) → b < block_count f → P b (code_for (source_count f b) codes.large codes.small).matrix
