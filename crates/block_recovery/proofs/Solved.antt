-- Missing rows that were made of repair symbols are the only ones that give these.
use Rattle.std.proofs.Common.{◌≡◌, ◌+◌, ◌*◌, ◌<◌, ◌∙◌, ℕ, List, Option, length, refl, arith}
use Rattle.std.specs.Prelude.{slice_index}
use Rattle.lists.specs.Bytes.{IsByte}
use Rattle.gf256.specs.Arithmetic.{sum_of, product}
use Rattle.gf256.specs.ByteField.{byte_field}
use Rattle.gf256.specs.Sums.{row_times}
use Rattle.elim.specs.Grid.{Grid, entry, IsMatrix}
use Rattle.elim.specs.Generator.{Encodes}
use Rattle.elim.specs.Erasures.{AreErasures}
use Rattle.elim.specs.Matrices.{AreElements}
use Rattle.elim.proofs.Entries.{elements_by_row}
use Rattle.elim.proofs.RowTimes.{dot_element}
use Rattle.block_recovery.specs.Blocks.{byte_of, given}
use Rattle.block_recovery.specs.Erasures.{Keeps, AreSolved}
use Rattle.block_recovery.specs.Recoveries.{AreRecovering}
use Rattle.block_recovery.proofs.Combined.{combined}
use Rattle.block_recovery.proofs.Erased.{worked_out, gives_repair}

-- `old` has the source symbols that came, and zeros; `filled` the same and the repair symbols in the
-- places of the missing ones; `new` what was made of these
module _ (at : ℕ → Option (List ℕ)) (size : ℕ) (g : Grid ℕ) (matrix : IsMatrix IsByte 0 g) (code : Encodes g.rows g.cols g) (missing repair : List ℕ)
    (erasures : AreErasures g.rows g.cols missing repair) (coefficients : List ℕ) (by : AreRecovering g missing repair coefficients)
    (old filled new symbols : ℕ → ℕ → ℕ)
    (old_bytes : (i c : ℕ) → old i c < 256) (filled_bytes : (i c : ℕ) → filled i c < 256) (new_bytes : (i c : ℕ) → new i c < 256) (symbol_bytes : (i c : ℕ) → symbols i c < 256)
    (are : (q c : ℕ) → q < length repair → c < size → symbols q c ≡ byte_of (at (slice_index repair q)) c)
    (none : (a c : ℕ) → a < length missing → c < size → old (slice_index missing a) c ≡ 0)
    (fills : (a c : ℕ) → a < length missing → c < size → filled (slice_index missing a) c ≡ symbols a c)
    (stays : Keeps missing size old filled)
    (made : (a c : ℕ) → a < length missing → c < size → new (slice_index missing a) c ≡ row_times sum_of product 0 (λ i. slice_index coefficients (a * g.rows + i)) filled g.rows c)
    (kept : Keeps missing size filled new) where
  -- what the missing symbols add to a repair symbol
  abbrev lacks : ℕ → ℕ → ℕ
  lacks c q = sum_of (symbols q c) (given g (λ i. old i c) (slice_index repair q))

  lack_bytes : (c : ℕ) → AreElements IsByte (lacks c)
  lack_bytes c q =
      byte_field.add_element (symbols q c) (given g (λ i. old i c) (slice_index repair q)) (symbol_bytes q c)
      (dot_element IsByte sum_of product 0 1 byte_field (λ i. old i c) (λ i. entry 0 g i (slice_index repair q)) g.rows (λ i. old_bytes i c) (λ i. elements_by_row IsByte 0 g matrix.elements i (slice_index repair q)))

  here : (a c : ℕ) → a < length missing → c < size → new (slice_index missing a) c ≡ row_times sum_of product 0 (lacks c) (entry 0 by.matrix) (length missing) a
  here a c la lc =
      made a c la lc
      ∙ combined g matrix.elements missing repair erasures.missing_rise erasures.source by.matrix by.elements by.residual by.residuals coefficients by.made
      (λ i. old i c) (λ i. filled i c) (λ q. symbols q c) (lacks c) (λ i. old_bytes i c) (λ i. filled_bytes i c) (λ q. symbol_bytes q c)
      (λ i li apart. stays i c apart lc) (λ p lp. fills p c lp lc) (λ p lp. none p c lp lc) (λ q lq. refl) a la

  pub solved : AreSolved at missing repair size g old new
  solved = record {
    kept = λ i c apart lc. kept i c apart lc ∙ stays i c apart lc;
    gives = λ m c lm lc.
        gives_repair g matrix.elements matrix.few_cols code missing repair erasures by.matrix by.recovers (λ i. old i c) (λ n. symbols n c) (lacks c)
        (λ i. old_bytes i c) (lack_bytes c) (λ n ln. refl) (λ a la. none a c la lc)
        (λ i. new i c) (λ i. new_bytes i c) (λ i li apart. kept i c apart lc ∙ stays i c apart lc) (λ a la. here a c la lc)
        m (omega (arith, lm, erasures.count))
        ∙ are m c lm lc;
    only = λ c x lc ex others gives a la.
        here a c la lc
        ∙ worked_out g matrix.elements matrix.few_cols code missing repair erasures by.matrix by.recovers (λ i. old i c) (λ n. symbols n c) (lacks c)
        (λ i. old_bytes i c) (lack_bytes c) (λ n ln. refl) (λ a2 la2. none a2 c la2 lc)
        x ex others (λ n ln. let lr : n < length repair = omega (arith, ln, erasures.count) in are n c lr lc ∙ gives n lr) a la;
  }
