-- Why no more was read of an input that was opened.
use Rattle.std.specs.Prelude.{◌≡◌, ◌≢◌, ◌⊎◌, ℕ, Bool, false, List, length, Option, ⊤, IfSome}
use Rattle.partition.specs.Fti.{Fti}
use Rattle.session.specs.Frames.{IsReadFault, StopsAt}
use Rattle.session.specs.declared.frame.FrameFault.TheVariants.{Io as FrameIo, NoSuchPlace}
use Rattle.session.specs.declared.frame.FrameFault.TheVariants.{NoMemory as NoFrameMemory}
use Rattle.commands.specs.declared.fault.Fault.{Fault}
use Rattle.commands.specs.declared.fault.Fault.TheVariants.{File, Frame, Memory}

-- Why not all was read of an input that was opened: it isn't sound, or there is no memory.
abbrev pub IsRestUnread : Bool → List ℕ → Fault → Type 0
IsRestUnread sound name (File read) = (read.now ≡ name) × (sound ≡ false)
IsRestUnread sound name Memory = ⊤
IsRestUnread sound name _ = ⊥

-- The object in a file, by what its input has left, isn't read: it is of another length than was
-- told, or the input has failed, which wasn't sound.
abbrev pub IsObjectBroken : Fti → Option (List ℕ) → Bool → List ℕ → Fault → Type 0
IsObjectBroken f left sound name (File read) =
    (read.now ≡ name) × (IfSome left (λ bytes. length bytes ≢ f.transfer_length) ⊎ (sound ≡ false))
IsObjectBroken f left sound name _ = ⊥

-- why a datagram wasn't read
abbrev pub IsFrameUnread : Option (List ℕ) → Option (List ℕ) → Bool → Fault → Type 0
IsFrameUnread old new failed (Frame NoFrameMemory) = ⊥
IsFrameUnread old new failed (Frame fault) = IsReadFault fault old new failed
IsFrameUnread old new failed Memory = ⊤
IsFrameUnread old new failed fault = ⊥

-- Why a file isn't gone over to its end, all frames: what stands there is none, or the file has
-- failed, or there is no memory.
abbrev pub IsUnframed : Option (List ℕ) → Bool → Fault → Type 0
IsUnframed content reliable (Frame FrameIo) = reliable ≡ false
IsUnframed content reliable (Frame NoFrameMemory) = ⊤
IsUnframed content reliable (Frame (NoSuchPlace place)) = ⊥
IsUnframed content reliable (Frame fault) = IfSome content (StopsAt fault)
IsUnframed content reliable Memory = ⊤
IsUnframed content reliable fault = ⊥

-- the file of this name isn't as it was when it was opened, as is so only if it isn't reliable
abbrev pub HasChanged : Bool → List ℕ → Fault → Type 0
HasChanged reliable name (File read) = (read.now ≡ name) × (reliable ≡ false)
HasChanged reliable name fault = ⊥
