-- An object that comes from a reader, by the bytes that the reader had left before.
use Rattle.std.specs.Prelude.{◌≡◌, ◌≢◌, ℕ, ◌≤◌, List, ◌++◌, length, Bool, true, false, Option}
use Rattle.std.specs.Prelude.{IfSome}
use Rattle.lists.specs.Bytes.{AreBytes}
use Rattle.partition.specs.Fti.{Fti}
use Rattle.reception.specs.Symbols.{IsObject}
use Rattle.encoder.specs.declared.object.ObjectFault.{ObjectFault}
use Rattle.encoder.specs.declared.object.ObjectFault.TheVariants.{Length, Io}

-- the whole begins with these bytes
abbrev pub Begins : List ℕ → List ℕ → Type 0
Begins front whole = (later : List ℕ) × (whole ≡ front ++ later)

-- all that was left is an object of the FTI's length, and this holds of it
pub record ReadsObject (f : Fti) (left : Option (List ℕ)) (Holds : List ℕ → Type 0) : Type 0 where
  pub object : List ℕ
  pub form : IsObject f object
  pub all : IfSome left (λ x. x ≡ object)
  pub holds : Holds object

-- what was left begins with some bytes, and this holds of each object of the FTI's length that
-- begins with them
pub record ReadsSome (f : Fti) (left : Option (List ℕ)) (Holds : List ℕ → Type 0) : Type 0 where
  pub front : List ℕ
  pub few : length front ≤ f.transfer_length
  pub bytes : AreBytes front
  pub first : IfSome left (Begins front)
  pub holds : (object : List ℕ) → IsObject f object → Begins front object → Holds object

-- why no object was read, by whether the reader was sound and has failed
abbrev pub IsObjectFault : ObjectFault → Fti → Option (List ℕ) → Bool → Bool → Type 0
IsObjectFault Length f left sound failed = IfSome left (λ x. length x ≢ f.transfer_length)
IsObjectFault Io f left sound failed = (sound ≡ false) × (failed ≡ true)
