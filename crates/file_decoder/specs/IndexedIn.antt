-- What a session file gives, of which only places are held.
use Rattle.std.specs.Prelude.{◌≡◌, Bool, List, ℕ, Option, ⊤, IfSome, Result, Ok, Err}
use Rattle.session.specs.Frames.{IsFramed}
use Rattle.reception.specs.declared.scope.Identity.{Identity}
use Rattle.partition.specs.Fti.{Fti}
use Rattle.alc.specs.Reading.{Reading}
use Rattle.reception.specs.Answer.{IsAnswer, reception_of}
use Rattle.reception.specs.Reception.{IsClean, ReadAll}
use Rattle.reception.specs.Symbols.{AllFull}
use Rattle.decoder.specs.Answers.{answer_value}
use Rattle.file_decoder.specs.FileFaults.{IsFrameFault, IsNotAgain}
use Rattle.decoder.specs.Objects.{IsNoObject}
use Rattle.file_decoder.specs.PlacesOf.{ArePlacedOf, ArePlacedIn}
use Rattle.file_decoder.specs.declared.indexed_file.FileFault.{FileFault}
use Rattle.file_decoder.specs.declared.indexed_file.FileFault.TheVariants as file_fault
use Rattle.file_decoder.specs.declared.indexed_file.FileSymbols.{FileSymbols}
use Rattle.decoder.specs.declared.answer.Answer.{Answer}
use Rattle.decoder.specs.declared.writing.WriteFault.{WriteFault}
use Rattle.decoder.specs.declared.writing.WriteFault.TheVariants as write_fault

-- no datagram has a fault, the first carrier has this FTI, and no block is short
abbrev pub AreFull : Identity → List (List ℕ) → Fti → Type 0
AreFull who datagrams f =
    (readings : List Reading) × ReadAll datagrams readings
    × IsClean (reception_of who readings) f × AllFull f (reception_of who readings).symbols

-- the answer to the file's datagrams, which is no object; or the places of the symbols that they
-- have, enough of each block
abbrev pub IsIndexedIn : Identity → Option (List ℕ) → Result FileSymbols Answer → Type 0
IsIndexedIn who content (Err answer) =
    IsNoObject answer
    × IfSome content (λ x. (datagrams : List (List ℕ)) × IsFramed datagrams x
    × IsAnswer who datagrams (answer_value answer))
IsIndexedIn who content (Ok s) =
    (s.indexed.identity ≡ who) × ArePlacedIn content s
    × IfSome content (λ x. (datagrams : List (List ℕ)) × IsFramed datagrams x
    × ArePlacedOf who datagrams x s × AreFull who datagrams s.indexed.fti)

-- why there is no index: a fault of the frames, or the file isn't the same each time
abbrev pub IsFileFault : Option (List ℕ) → Bool → FileFault → Type 0
IsFileFault content reliable (file_fault.Frame fault) = IsFrameFault content reliable fault
IsFileFault content reliable file_fault.Changed = IfSome content (λ x. ⊥)
IsFileFault content reliable file_fault.NoMemory = ⊤

-- why the object wasn't written, where the writer hasn't failed
abbrev pub IsFileWriteFault : Option (List ℕ) → Bool → WriteFault → Type 0
IsFileWriteFault content reliable write_fault.Io = ⊤
IsFileWriteFault content reliable (write_fault.Unread why) = IsNotAgain content reliable why
