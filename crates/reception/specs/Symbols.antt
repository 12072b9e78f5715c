-- What received encoding symbols say of an object. Nothing here knows of packets.
use Rattle.std.specs.Prelude.{◌≡◌, ◌≢◌, ℕ, ◌<◌, ◌≤◌, Bool, true, false, ◌&&◌, ◌==◌, nat_le, List}
use Rattle.std.specs.Prelude.{length, slice_index, filter}
use Rattle.std.specs.List.{list_any, AllByRecursion}
use Rattle.lists.specs.Below.{below}
use Rattle.lists.specs.Bytes.{AreBytes}
use Rattle.gf256.specs.Arithmetic.{point}
use Rattle.poly.specs.Polynomial.{value, IsPolynomial}
use Rattle.partition.specs.Fti.{Fti, source_count, encoding_count, block_count, source_place}
use Rattle.partition.specs.Fti.{source_byte}

-- a received symbol
pub record Symbol : Type 0 where
  pub block : ℕ
  pub esi : ℕ
  pub bytes : List ℕ

abbrev pub is_of : ℕ → ℕ → Symbol → Bool
is_of b j s = s.block == b && s.esi == j

-- whether symbol j of block b came
abbrev pub has_arrived : List Symbol → ℕ → ℕ → Bool
has_arrived arrivals b j = list_any (is_of b j) arrivals

-- the different ESIs of block b that came, rising
abbrev pub arrived_esis : List Symbol → ℕ → List ℕ
arrived_esis arrivals b = filter (has_arrived arrivals b) (below 256)

abbrev pub arrived_count : List Symbol → ℕ → ℕ
arrived_count arrivals b = length (arrived_esis arrivals b)

abbrev pub is_full : Fti → List Symbol → ℕ → Bool
is_full f arrivals b = nat_le (source_count f b) (arrived_count arrivals b)

abbrev pub AllFull : Fti → List Symbol → Type 0
AllFull f arrivals = (b : ℕ) → b < block_count f → is_full f arrivals b ≡ true

-- the least short block
pub record IsFirstShort (f : Fti) (arrivals : List Symbol) (b : ℕ) : Type 0 where
  pub in_range : b < block_count f
  pub short : is_full f arrivals b ≡ false
  pub least : (a : ℕ) → a < b → is_full f arrivals a ≡ true

-- One polynomial with as many coefficients as the block has source symbols passes through this
-- column of the object's source symbols, and through y at the point of symbol j.
pub record ColumnAgrees (f : Fti) (object : List ℕ) (b j c y : ℕ) : Type 0 where
  pub polynomial : List ℕ
  pub form : IsPolynomial (source_count f b) polynomial
  pub source : (i : ℕ) → i < source_count f b
      → value polynomial (point i) ≡ source_byte f object b i c
  pub symbol : value polynomial (point j) ≡ y

-- the symbol is one of the object's
pub record Agrees (f : Fti) (object : List ℕ) (s : Symbol) : Type 0 where
  pub block : s.block < block_count f
  pub esi : s.esi < encoding_count f s.block
  pub count : length s.bytes ≡ f.symbol_length
  pub columns : (c : ℕ) → c < f.symbol_length
      → ColumnAgrees f object s.block s.esi c (slice_index s.bytes c)

-- an object of the FTI's length
pub record IsObject (f : Fti) (object : List ℕ) : Type 0 where
  pub count : length object ≡ f.transfer_length
  pub bytes : AreBytes object

-- an object with which all that came agrees
pub record Fits (f : Fti) (arrivals : List Symbol) (object : List ℕ) : Type 0 where
  pub form : IsObject f object
  pub agrees : AllByRecursion (Agrees f object) arrivals

-- that object and no other
pub record FitsOnly (f : Fti) (arrivals : List Symbol) (object : List ℕ) : Type 0 where
  pub fits : Fits f arrivals object
  pub only : (other : List ℕ) → Fits f arrivals other → other ≡ object

-- two objects that can't be told apart by what came
pub record AreTwins (f : Fti) (arrivals : List Symbol) (object other : List ℕ) : Type 0 where
  pub differ : object ≢ other
  pub first : Fits f arrivals object
  pub second : Fits f arrivals other

-- a column of one block has a polynomial through all that came of it, which is zero where there is
-- padding
pub record ColumnSolvable (f : Fti) (arrivals : List Symbol) (b c : ℕ) : Type 0 where
  pub polynomial : List ℕ
  pub form : IsPolynomial (source_count f b) polynomial
  pub symbols : AllByRecursion
      (λ s. s.block ≡ b → value polynomial (point s.esi) ≡ slice_index s.bytes c) arrivals
  pub padding : (i : ℕ) → i < source_count f b → f.transfer_length ≤ source_place f b i c
      → value polynomial (point i) ≡ 0

abbrev pub Solvable : Fti → List Symbol → ℕ → Type 0
Solvable f arrivals b = (c : ℕ) → c < f.symbol_length → ColumnSolvable f arrivals b c

-- each full block is solvable
abbrev pub FullSolvable : Fti → List Symbol → Type 0
FullSolvable f arrivals =
    (b : ℕ) → b < block_count f → is_full f arrivals b ≡ true → Solvable f arrivals b

-- the least full block that isn't solvable
pub record IsFirstUnsolvable (f : Fti) (arrivals : List Symbol) (b : ℕ) : Type 0 where
  pub in_range : b < block_count f
  pub full : is_full f arrivals b ≡ true
  pub unsolvable : ¬ Solvable f arrivals b
  pub least : (a : ℕ) → a < b → is_full f arrivals a ≡ true → Solvable f arrivals a
