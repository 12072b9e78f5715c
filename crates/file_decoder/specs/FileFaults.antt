-- Why a session file isn't read, or not again.
use Rattle.std.specs.Prelude.{◌≡◌, ℕ, Bool, false, List, Option, ⊤, IfSome}
use Rattle.session.specs.Frames.{StopsAt}
use Rattle.session.specs.declared.frame.FrameFault.{FrameFault}
use Rattle.session.specs.declared.frame.FrameFault.TheVariants as frame_fault
use Rattle.decoder.specs.declared.source.Unread.{Unread}
use Rattle.decoder.specs.declared.source.Unread.TheVariants as unread
use Rattle.file_decoder.specs.declared.indexed_file.FileFault.{FileFault}
use Rattle.file_decoder.specs.declared.indexed_file.FileFault.TheVariants as file_fault

-- why the file's frames weren't read: its bytes are whole frames, and then something that is none;
-- or reading has failed, which isn't reliable
abbrev pub IsFrameFault : Option (List ℕ) → Bool → FrameFault → Type 0
IsFrameFault content reliable frame_fault.Io = reliable ≡ false
IsFrameFault content reliable frame_fault.NoMemory = ⊤
IsFrameFault content reliable (frame_fault.NoSuchPlace place) = ⊥
IsFrameFault content reliable fault = IfSome content (StopsAt fault)

-- why what stood in it isn't there again: it isn't the same each time, which nothing is told of
abbrev pub IsNotAgain : Option (List ℕ) → Bool → Unread → Type 0
IsNotAgain content reliable unread.Io = reliable ≡ false
IsNotAgain content reliable unread.Changed = IfSome content (λ x. ⊥)
IsNotAgain content reliable unread.NoMemory = ⊤

-- what isn't there again, as a fault of the file
abbrev pub fault_of : Unread → FileFault
fault_of unread.Io = file_fault.Frame frame_fault.Io
fault_of unread.Changed = file_fault.Changed
fault_of unread.NoMemory = file_fault.NoMemory
