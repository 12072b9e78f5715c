-- What came of an object, wherever it is had from.
use Rattle.std.specs.Prelude.{◌≡◌, Bool, false}
use Rattle.decoder.specs.declared.source.Unread.{Unread}
use Rattle.decoder.specs.declared.source.Unread.TheVariants.{Io, Changed, NoMemory}
use Rattle.decoder.specs.declared.writing.WriteFault.{WriteFault}
use Rattle.decoder.specs.declared.writing.WriteFault.TheVariants as write_fault

-- Why symbols aren't given: reading has failed, which isn't reliable; what is there isn't what was
-- told; or there is no memory.
abbrev pub IsUnreadOf : Type 0 → Bool → Unread → Type 0
IsUnreadOf Told reliable Io = reliable ≡ false
IsUnreadOf Told reliable Changed = Told → ⊥
IsUnreadOf Told reliable NoMemory = Unit {0}

-- why blocks aren't written, where the writer hasn't failed
abbrev pub IsWriteFaultOf : Type 0 → Bool → WriteFault → Type 0
IsWriteFaultOf Told reliable write_fault.Io = Unit {0}
IsWriteFaultOf Told reliable (write_fault.Unread unread) = IsUnreadOf Told reliable unread
