-- A block of a twin, by its bytes.
use Rattle.std.specs.Prelude.{◌≡◌, ◌*◌, ◌/◌, ◌==◌, if◌then◌else◌, ℕ, List, [], ◌∷◌, length}
use Rattle.std.specs.Prelude.{slice_index, take, drop, Option}
use Rattle.std.specs.Io.KnownBytes.{Appends}
use Rattle.gf256.specs.Arithmetic.{sum_of, point}
use Rattle.poly.specs.Polynomial.{value}
use Rattle.partition.specs.Fti.{Fti, block_bytes, source_count, start_of}
use Rattle.reception.specs.Symbols.{Symbol}
use Rattle.cert.specs.TwinBytes.{is_first_of}

-- the byte at place x of block b of an object, and a polynomial's value added to it where it is the
-- first of a source symbol
abbrev pub byte_with_value : Fti → ℕ → List ℕ → List ℕ → ℕ → ℕ
byte_with_value f b polynomial bytes x =
    if is_first_of f.symbol_length 0 (source_count f b) x
    then sum_of (slice_index bytes x) (value polynomial (point (x / f.symbol_length)))
    else slice_index bytes x

-- the bytes of block b of an object were written, with a polynomial's values added
pub record AppendsBlock (f : Fti) (b : ℕ) (polynomial object : List ℕ)
    (old new : Option (List ℕ)) : Type 0 where
  pub bytes : List ℕ
  pub long : length bytes ≡ block_bytes f b
  pub changed : (x : ℕ) → slice_index bytes x ≡ byte_with_value f b polynomial
      (take (block_bytes f b) (drop (start_of f b * f.symbol_length) object)) x
  pub gained : Appends old new bytes

-- the ESI of a symbol of this block
abbrev pub esi_in : ℕ → Symbol → List ℕ
esi_in b s = if s.block == b then s.esi ∷ [] else []
