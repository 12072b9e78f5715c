-- What recovers missing source symbols, and whether what was kept may be used again.
use Rattle.std.specs.Prelude.{◌≡◌, ◌<◌, ◌≤◌, ◌+◌, ◌*◌, ◌⊎◌, ℕ, List, length, slice_index, Option}
use Rattle.std.specs.Prelude.{IfSome}
use Rattle.lists.specs.Bytes.{IsByte}
use Rattle.gf256.specs.Arithmetic.{sum_of, product}
use Rattle.gf256.specs.Sums.{row_times}
use Rattle.elim.specs.Grid.{Grid, HasElements, entry}
use Rattle.elim.specs.Matrices.{identity_entry}
use Rattle.elim.specs.Erasures.{Recovers}
use Rattle.block_code.specs.Codes.{code_for}
use Rattle.block_recovery.specs.Erasures.{IsApart}
use Rattle.block_code.specs.declared.codes.BlockCodes.{BlockCodes}
use Rattle.block_recovery.specs.declared.recovery.Recovery.{Recovery}

-- for each repair symbol the coefficients of the source symbols that came, and in the places of the
-- missing ones those of the repair symbols: one of its own
pub record AreResiduals (g : Grid ℕ) (missing repair : List ℕ)
    (residual : ℕ → ℕ → ℕ) : Type 0 where
  pub small : (q i : ℕ) → residual q i < 256
  pub apart : (q i : ℕ) → q < length missing → i < g.rows → IsApart missing i
      → residual q i ≡ entry 0 g i (slice_index repair q)
  pub own : (q p : ℕ) → q < length missing → p < length missing
      → residual q (slice_index missing p) ≡ identity_entry 0 1 p q

-- the coefficients that make the missing source symbols of those that came and these repair symbols
pub record AreRecovering (g : Grid ℕ) (missing repair coefficients : List ℕ) : Type 0 where
  pub few : length missing ≤ 255
  pub matrix : Grid ℕ
  pub elements : HasElements IsByte 0 matrix
  pub recovers : Recovers g missing repair matrix
  pub residual : ℕ → ℕ → ℕ
  pub residuals : AreResiduals g missing repair residual
  pub count : length coefficients ≡ length missing * g.rows
  pub made : (a i : ℕ) → a < length missing → i < g.rows
      → slice_index coefficients (a * g.rows + i)
      ≡ row_times sum_of product 0 (λ q. residual q i) (entry 0 matrix) (length missing) a

-- a recovery for a code, of these symbols of its blocks
pub record IsRecovery (g : Grid ℕ) (missing repair : List ℕ) (r : Recovery) : Type 0 where
  pub k : r.k ≡ g.rows
  pub missing_are : r.missing.items ≡ missing
  pub repair_are : r.repair.items ≡ repair
  pub recovering : AreRecovering g missing repair r.coefficients.items

-- a recovery for a code, of whatever symbols
abbrev pub IsOfCode : Grid ℕ → Recovery → Type 0
IsOfCode g r = IsRecovery g r.missing.items r.repair.items r

-- where what is kept has as many source symbols as this code, it is of this code
abbrev pub MayServe : Grid ℕ → Option Recovery → Type 0
MayServe g kept = IfSome kept (λ r. r.k ≡ g.rows → IsOfCode g r)

-- what is kept is as before, or of this code
abbrev pub StaysOrIsOf : Grid ℕ → Option Recovery → Option Recovery → Type 0
StaysOrIsOf g before after = (after ≡ before) ⊎ IfSome after (IsOfCode g)

-- what is kept is of one of the codes
abbrev pub IsKeptOf : BlockCodes → Option Recovery → Type 0
IsKeptOf codes kept = IfSome kept (λ r. IsOfCode (code_for r.k codes.large codes.small).matrix r)
