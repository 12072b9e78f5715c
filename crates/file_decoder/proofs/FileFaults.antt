-- Why a session file isn't read, or not again.
use Rattle.std.specs.Prelude.{IfSome}
use Rattle.std.proofs.Common.{◌≡◌, ℕ, Bool, false, List, Option, Some, None, refl}
use Rattle.session.specs.Frames.{IsSessionFault}
use Rattle.session.specs.declared.frame.FrameFault.{FrameFault}
use Rattle.session.specs.declared.frame.FrameFault.TheVariants as frame_fault
use Rattle.file_decoder.specs.FileFaults.{IsFrameFault}
use Rattle.file_decoder.specs.IndexedIn.{IsFileFault}
use Rattle.file_decoder.specs.FileFaults.{fault_of}
use Rattle.decoder.specs.declared.source.Unread.{Unread}
use Rattle.decoder.specs.declared.source.Unread.TheVariants as unread

-- a fault of the frames, told of the file
pub frame_fault_is : (content : Option (List ℕ)) (failed reliable : Bool) (e : FrameFault) → IsSessionFault e content failed → (e ≡ frame_fault.Io → reliable ≡ false)
    → IsFrameFault content reliable e
frame_fault_is content failed reliable frame_fault.CutLength h io = h
frame_fault_is content failed reliable frame_fault.CutDatagram h io = h
frame_fault_is content failed reliable frame_fault.TooLong h io = h
frame_fault_is content failed reliable frame_fault.Io h io = io refl
frame_fault_is content failed reliable frame_fault.NoMemory h io = tt
frame_fault_is content failed reliable (frame_fault.NoSuchPlace p) h io = h

told_or : (content : Option (List ℕ)) → ((x : List ℕ) → content ≡ Some x → ⊥) → IfSome content (λ x. ⊥)
told_or None none = tt
told_or (Some x) none = none x refl

-- a symbol isn't there again where reading has failed, or nothing is told of the file
pub not_again : (content : Option (List ℕ)) (reliable : Bool) (u : Unread) → (u ≡ unread.Io → reliable ≡ false) → ((x : List ℕ) → content ≡ Some x → u ≡ unread.Changed → ⊥)
    → IsFileFault content reliable (fault_of u)
not_again content reliable unread.Io io changed = io refl
not_again content reliable unread.Changed io changed = told_or content (λ x told. changed x told refl)
not_again content reliable unread.NoMemory io changed = tt
