-- What reading an object block by block has read.
use Rattle.std.specs.Prelude.{◌≡◌, ℕ, ◌*◌, min, List, length, Bool, true, false, Option}
use Rattle.std.specs.Io.KnownBytes.{Consumes}
use Rattle.lists.specs.Bytes.{AreBytes}
use Rattle.partition.specs.Fti.{Fti, start_of}
use Rattle.reception.specs.Symbols.{IsObject}
use Rattle.encoder.specs.declared.object.ObjectFault.{ObjectFault}
use Rattle.encoder.specs.declared.object.ObjectFault.TheVariants.{Length, Io}
use Rattle.encoder.specs.ObjectRead.{Begins}

-- how many bytes of the object are those of the blocks before n
abbrev pub bytes_before : Fti → ℕ → ℕ
bytes_before f n = min (start_of f n * f.symbol_length) f.transfer_length

-- the blocks before n were read, and this holds of each object that begins with them
pub record HasRead (f : Fti) (n : ℕ) (left here : Option (List ℕ))
    (Holds : List ℕ → Type 0) : Type 0 where
  pub front : List ℕ
  pub count : length front ≡ bytes_before f n
  pub bytes : AreBytes front
  pub consumed : Consumes left here front
  pub holds : (object : List ℕ) → IsObject f object → Begins front object → Holds object

-- where the reader has failed, it wasn't sound
abbrev pub IsReadFault : ObjectFault → Bool → Bool → Type 0
IsReadFault Length sound failed = Unit {0}
IsReadFault Io sound failed = (sound ≡ false) × (failed ≡ true)
