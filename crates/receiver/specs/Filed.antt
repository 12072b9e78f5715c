-- A receiver whose output the object is for: what it stands for, and what it gives.
use Rattle.std.specs.Prelude.{◌≡◌, ℕ, Bool, List, Option, Some, ⊤, length}
use Rattle.reception.specs.declared.scope.Identity.{Identity}
use Rattle.reception.specs.Answer.{Object, IsAnswer}
use Rattle.streams.specs.declared.io.Write.{Ghosts}
use Rattle.decoder.specs.declared.answer.Answer.{Answer}
use Rattle.decoder.specs.declared.answer.Answer.TheVariants as answer
use Rattle.block_bytes.specs.Places.{has_place, told_in}
use Rattle.receiver.specs.Stands.{StandsWith}
use Rattle.receiver.specs.declared.file_receiver.FileReceiver.{FileReceiver}

abbrev pub has_output : {W : Type 0} {w : Ghosts W} → FileReceiver W w → Bool
has_output r = has_place r.blocks

-- it stands for the datagrams by these bytes
abbrev pub Stands : {W : Type 0} {w : Ghosts W} → FileReceiver W w → List (List ℕ) → Type 0
Stands r datagrams = StandsWith r.receiving (told_in r.blocks) datagrams

-- the answer says that no carrier came, or how a block is short
abbrev pub IsLack : Answer → Type 0
IsLack answer.Empty = ⊤
IsLack (answer.Missing block have need) = ⊤
IsLack other = ⊥

-- an output's bytes are the object that these datagrams give; its length in bytes
abbrev pub IsObjectIn : Identity → List (List ℕ) → Option (List ℕ) → ℕ → Type 0
IsObjectIn who datagrams contents count =
    (object : List ℕ) × IsAnswer who datagrams (Object object) × (contents ≡ Some object)
    × (count ≡ length object)
