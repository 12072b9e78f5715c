-- A session's frames that were gone over, and files that have changed.
use Rattle.std.proofs.Common.{◌≡◌, ◌∙◌, ℕ, Bool, false, List, [], Option, Some, None, Result, Ok, Err, refl, sym, subst, arith}
use Rattle.std.specs.Prelude.{IfErr, IfSome, OnOk}
use Rattle.session.specs.Extents.{AreFrames}
use Rattle.session.specs.Frames.{AreDatagrams, IsSessionFault, StopsAt}
use Rattle.session.specs.declared.frame.FrameFault.{FrameFault}
use Rattle.session.specs.declared.frame.FrameFault.TheVariants as frame_fault
use Rattle.host.specs.World.{GivesFile, MayFail, Reading, World}
use Rattle.commands.specs.Inputs.{ACertificate, AnObject, ASession, IsUnopened, IsUnread}
use Rattle.commands.specs.ReadingInputs.{HasChanged, IsUnframed}
use Rattle.commands.specs.declared.fault.Fault.{Fault}
use Rattle.commands.specs.declared.fault.Fault.TheVariants as told_as
use Rattle.commands.proofs.Holding.{holds_told}

pub no_datagrams : AreDatagrams []
no_datagrams i = record { short = omega arith; bytes = λ j. omega arith }

-- what is known of what a reader of a file gives is known of the file
told_frames : (content remaining : Option (List ℕ)) → ((x : List ℕ) → content ≡ Some x → remaining ≡ Some x) → AreFrames remaining → AreFrames content
told_frames None remaining same h = tt
told_frames (Some x) remaining same h = subst (λ (o : Option (List ℕ)). AreFrames o) (same x refl) h

pub framed_told : (content remaining : Option (List ℕ)) → ((x : List ℕ) → content ≡ Some x → remaining ≡ Some x) → {A E : Type 0} (r : Result A E) → OnOk r (AreFrames remaining) → OnOk r (AreFrames content)
framed_told content remaining same (Ok a) h = told_frames content remaining same h
framed_told content remaining same (Err e) h = tt

told_stops : (e : FrameFault) (content remaining : Option (List ℕ)) → ((x : List ℕ) → content ≡ Some x → remaining ≡ Some x) → IfSome remaining (StopsAt e) → IfSome content (StopsAt e)
told_stops e None remaining same h = tt
told_stops e (Some x) remaining same h = subst (λ (o : Option (List ℕ)). IfSome o (StopsAt e)) (same x refl) h

module _ (content remaining : Option (List ℕ)) (same : (x : List ℕ) → content ≡ Some x → remaining ≡ Some x) (sound reliable : Bool) (is : sound ≡ reliable) where
  told_frame : (e : FrameFault) → IsUnframed remaining sound (told_as.Frame e) → IsUnframed content reliable (told_as.Frame e)
  told_frame frame_fault.CutLength h = told_stops frame_fault.CutLength content remaining same h
  told_frame frame_fault.CutDatagram h = told_stops frame_fault.CutDatagram content remaining same h
  told_frame frame_fault.TooLong h = told_stops frame_fault.TooLong content remaining same h
  told_frame frame_fault.Io h = sym is ∙ h
  told_frame frame_fault.NoMemory h = h
  told_frame (frame_fault.NoSuchPlace p) h = h

  told_fault : (fault : Fault) → IsUnframed remaining sound fault → IsUnframed content reliable fault
  told_fault (told_as.Open n) h = h
  told_fault (told_as.File n) h = h
  told_fault told_as.Memory h = h
  told_fault (told_as.Frame e) h = told_frame e h
  told_fault (told_as.Certificate e) h = h
  told_fault (told_as.Fti e) h = h
  told_fault (told_as.Send e) h = h
  told_fault (told_as.NoPlace n) h = h

  pub unframed_told : {A : Type 0} (r : Result A Fault) → IfErr r (IsUnframed remaining sound) → IfErr r (IsUnframed content reliable)
  unframed_told (Ok a) h = tt
  unframed_told (Err fault) h = told_fault fault h

-- why the next frame isn't had, behind those that were read
pub unframed_by : (e : FrameFault) (a : Option (List ℕ)) (failed sound : Bool) → IsSessionFault e a failed → (e ≡ frame_fault.Io → sound ≡ false) → IsUnframed a sound (told_as.Frame e)
unframed_by frame_fault.CutLength a failed sound h io = h
unframed_by frame_fault.CutDatagram a failed sound h io = h
unframed_by frame_fault.TooLong a failed sound h io = h
unframed_by frame_fault.Io a failed sound h io = io refl
unframed_by frame_fault.NoMemory a failed sound h io = tt
unframed_by (frame_fault.NoSuchPlace p) a failed sound h io = h

pub session_unopened : (w : World) (name : List ℕ) (fault : Fault) → IsUnopened w name fault → IsUnread w (ASession name) fault
session_unopened w name (told_as.Open n) h = h
session_unopened w name (told_as.File n) h = absurd h
session_unopened w name told_as.Memory h = h
session_unopened w name (told_as.Frame e) h = absurd h
session_unopened w name (told_as.Certificate e) h = absurd h
session_unopened w name (told_as.Fti e) h = absurd h
session_unopened w name (told_as.Send e) h = absurd h
session_unopened w name (told_as.NoPlace n) h = absurd h

module _ (w : World) (name : List ℕ) (content : Option (List ℕ)) (reliable : Bool) (given : GivesFile w name content reliable) where
  unframed_frame : (e : FrameFault) → IsUnframed content reliable (told_as.Frame e) → IsUnread w (ASession name) (told_as.Frame e)
  unframed_frame frame_fault.CutLength h = holds_told w.files name content (StopsAt frame_fault.CutLength) given.bytes h
  unframed_frame frame_fault.CutDatagram h = holds_told w.files name content (StopsAt frame_fault.CutDatagram) given.bytes h
  unframed_frame frame_fault.TooLong h = holds_told w.files name content (StopsAt frame_fault.TooLong) given.bytes h
  unframed_frame frame_fault.Io h = given.fails h
  unframed_frame frame_fault.NoMemory h = tt
  unframed_frame (frame_fault.NoSuchPlace p) h = absurd h

  pub unframed : (fault : Fault) → IsUnframed content reliable fault → IsUnread w (ASession name) fault
  unframed (told_as.Open n) h = absurd h
  unframed (told_as.File n) h = absurd h
  unframed told_as.Memory h = tt
  unframed (told_as.Frame e) h = unframed_frame e h
  unframed (told_as.Certificate e) h = absurd h
  unframed (told_as.Fti e) h = absurd h
  unframed (told_as.Send e) h = absurd h
  unframed (told_as.NoPlace n) h = absurd h

-- a file that was opened has changed
pub session_changed : (w : World) (name : List ℕ) (reliable : Bool) → (reliable ≡ false → MayFail w (Reading name)) → (fault : Fault) → HasChanged reliable name fault → IsUnread w (ASession name) fault
session_changed w name reliable fails (told_as.Open n) h = absurd h
session_changed w name reliable fails (told_as.File n) (is, not) = (is, fails not)
session_changed w name reliable fails told_as.Memory h = absurd h
session_changed w name reliable fails (told_as.Frame e) h = absurd h
session_changed w name reliable fails (told_as.Certificate e) h = absurd h
session_changed w name reliable fails (told_as.Fti e) h = absurd h
session_changed w name reliable fails (told_as.Send e) h = absurd h
session_changed w name reliable fails (told_as.NoPlace n) h = absurd h

pub object_changed : (w : World) (name : List ℕ) (reliable : Bool) → (reliable ≡ false → MayFail w (Reading name)) → (fault : Fault) → HasChanged reliable name fault → IsUnread w (AnObject name) fault
object_changed w name reliable fails (told_as.Open n) h = absurd h
object_changed w name reliable fails (told_as.File n) (is, not) = (is, fails not)
object_changed w name reliable fails told_as.Memory h = absurd h
object_changed w name reliable fails (told_as.Frame e) h = absurd h
object_changed w name reliable fails (told_as.Certificate e) h = absurd h
object_changed w name reliable fails (told_as.Fti e) h = absurd h
object_changed w name reliable fails (told_as.Send e) h = absurd h
object_changed w name reliable fails (told_as.NoPlace n) h = absurd h

pub certificate_changed : (w : World) (name : List ℕ) (reliable : Bool) → (reliable ≡ false → MayFail w (Reading name)) → (fault : Fault) → HasChanged reliable name fault → IsUnread w (ACertificate name) fault
certificate_changed w name reliable fails (told_as.Open n) h = absurd h
certificate_changed w name reliable fails (told_as.File n) (is, not) = (is, fails not)
certificate_changed w name reliable fails told_as.Memory h = absurd h
certificate_changed w name reliable fails (told_as.Frame e) h = absurd h
certificate_changed w name reliable fails (told_as.Certificate e) h = absurd h
certificate_changed w name reliable fails (told_as.Fti e) h = absurd h
certificate_changed w name reliable fails (told_as.Send e) h = absurd h
certificate_changed w name reliable fails (told_as.NoPlace n) h = absurd h
