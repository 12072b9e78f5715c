-- The bytes of a twin, and why they aren't all written.
use Rattle.std.specs.Prelude.{◌≡◌, ◌≤◌, ◌+◌, ◌-◌, ◌/◌, ◌%◌, ◌==◌, ◌&&◌, Bool, false, true, nat_le}
use Rattle.std.specs.Prelude.{nat_lt, if◌then◌else◌, ℕ, List, slice_index, length, map, Option}
use Rattle.std.specs.Prelude.{Some, ⊤}
use Rattle.std.specs.Io.KnownBytes.{Appends}
use Rattle.gf256.specs.Arithmetic.{sum_of, point}
use Rattle.lists.specs.Below.{below}
use Rattle.partition.specs.Fti.{Fti, source_count, start_of}
use Rattle.cert.specs.Twins.{root_value}
use Rattle.cert.specs.declared.twins.TwinFault.{TwinFault}
use Rattle.cert.specs.declared.twins.TwinFault.TheVariants.{Object, Write, NoMemory}

-- whether a place is in the first byte column of one of n symbols of so many bytes, before which
-- others stand
abbrev pub is_first_of : ℕ → ℕ → ℕ → ℕ → Bool
is_first_of width others n x =
    x % width == 0 && (nat_le others (x / width) && nat_lt (x / width) (others + n))

-- the byte at place x of an object, and where it is the first of a source symbol of block b, the
-- value that a twin adds to it
abbrev pub byte_of_twin : Fti → ℕ → List ℕ → List ℕ → ℕ → ℕ
byte_of_twin f b arrived_esis object x =
    if is_first_of f.symbol_length (start_of f b) (source_count f b) x
    then sum_of (slice_index object x)
    (root_value arrived_esis (point (x / f.symbol_length - start_of f b)))
    else slice_index object x

-- all bytes of the twin that is made for these ESIs of block b
unfoldable pub twin_bytes : Fti → ℕ → List ℕ → List ℕ → List ℕ
twin_bytes f b arrived_esis object =
    map (byte_of_twin f b arrived_esis object) (below (length object))

-- some bytes were written
abbrev pub AppendsAny : Option (List ℕ) → Option (List ℕ) → Type 0
AppendsAny old new = (bytes : List ℕ) × Appends old new bytes

-- why an object's first bytes, so many, aren't all written: its file has failed or isn't so long,
-- or the writer has failed, or there is no memory
abbrev pub IsTwinFault : ℕ → Option (List ℕ) → Bool → Bool → TwinFault → Type 0
IsTwinFault size content reliable failed Object =
    (o : List ℕ) → content ≡ Some o → size ≤ length o → reliable ≡ false
IsTwinFault size content reliable failed Write = failed ≡ true
IsTwinFault size content reliable failed NoMemory = ⊤
