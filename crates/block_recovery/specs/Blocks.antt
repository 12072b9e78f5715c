-- What came of a source block, and rows of source bytes that have it.
use Rattle.std.specs.Prelude.{◌≡◌, ℕ, ◌<◌, ◌≤◌, ◌+◌, ◌*◌, List, length, slice_index, slice_index_or}
use Rattle.std.specs.Prelude.{Option, Some, None, option_map}
use Rattle.std.specs.Borrow.{Bor}
use Rattle.lists.specs.Bytes.{IsByte}
use Rattle.gf256.specs.Arithmetic.{sum_of, product}
use Rattle.gf256.specs.Sums.{row_times}
use Rattle.elim.specs.Matrices.{AreElements}
use Rattle.elim.specs.Grid.{Grid, entry}

-- the bytes of the symbol at an ESI, if it came
abbrev pub bytes_of_esi : List (Option (Bor (List ℕ))) → ℕ → Option (List ℕ)
bytes_of_esi received j = option_map (λ s. s.now) (slice_index_or received j None)

-- byte c of a symbol, and zero of none
abbrev pub byte_of : Option (List ℕ) → ℕ → ℕ
byte_of None c = 0
byte_of (Some y) c = slice_index y c

-- each symbol that came has so many bytes
abbrev pub HaveLength : ℕ → (ℕ → Option (List ℕ)) → Type 0
HaveLength size at = (j : ℕ) (y : List ℕ) → at j ≡ Some y → length y ≡ size

-- the coefficients of the encoding symbols at these ESIs
pub record AreCoefficients (g : Grid ℕ) (esis bytes : List ℕ) : Type 0 where
  pub count : length bytes ≡ length esis * g.rows
  pub entries : (m i : ℕ) → m < length esis → i < g.rows
      → slice_index bytes (m * g.rows + i) ≡ entry 0 g i (slice_index esis m)

-- what a row x of source bytes gives at an ESI
abbrev pub given : Grid ℕ → (ℕ → ℕ) → ℕ → ℕ
given g x j = row_times sum_of product 0 x (entry 0 g) g.rows j

-- in column c the row x of source symbols has the symbols that came: those among them, and those
-- that the generator makes
pub record Meets (at : ℕ → Option (List ℕ)) (g : Grid ℕ) (c : ℕ) (x : ℕ → ℕ) : Type 0 where
  pub source : (i : ℕ) (y : List ℕ) → i < g.rows → at i ≡ Some y → x i ≡ slice_index y c
  pub repair : (j : ℕ) (y : List ℕ) → g.rows ≤ j → j < g.cols → at j ≡ Some y
      → given g x j ≡ slice_index y c

-- some row does
pub record CanMeet (at : ℕ → Option (List ℕ)) (g : Grid ℕ) (c : ℕ) : Type 0 where
  pub row : ℕ → ℕ
  pub bytes : AreElements IsByte row
  pub meets : Meets at g c row

-- in each column some row does
abbrev pub CanBeMet : (ℕ → Option (List ℕ)) → Grid ℕ → ℕ → Type 0
CanBeMet at g size = (c : ℕ) → c < size → CanMeet at g c

-- in each column these rows have the symbols that came, and no other rows do
pub record AreOnly (at : ℕ → Option (List ℕ)) (g : Grid ℕ) (size : ℕ)
    (rows : ℕ → ℕ → ℕ) : Type 0 where
  pub meet : (c : ℕ) → c < size → Meets at g c (λ i. rows i c)
  pub only : (c : ℕ) (x : ℕ → ℕ) → c < size → AreElements IsByte x → Meets at g c x → (i : ℕ)
      → i < g.rows → rows i c ≡ x i
