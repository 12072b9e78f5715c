-- A session that was decoded, by its parts.
use Rattle.std.proofs.Common.{◌≡◌, ◌⊎◌, ◌∙◌, ℕ, Bool, false, List, [], ◌∷◌, Option, Some, None, Result, Ok, Err, inl, inr, refl, sym, ap, subst, length, codes}
use Rattle.std.specs.Prelude.{IfErr, IfSome, replicate}
use Rattle.std.specs.Borrow.{Bor}
use Rattle.session.specs.Frames.{StopsAt}
use Rattle.session.specs.declared.frame.FrameFault.{FrameFault}
use Rattle.session.specs.declared.frame.FrameFault.TheVariants as frame_fault
use Rattle.reception.specs.Answer as value
use Rattle.reception.specs.Answer.{IsAnswer}
use Rattle.decoder.specs.Answers.{answer_value}
use Rattle.decoder.specs.Objects.{IsNoObject, IsWrittenOf}
use Rattle.file_decoder.specs.FileFaults.{IsFrameFault, IsNotAgain}
use Rattle.decoder.specs.declared.source.Unread.{Unread}
use Rattle.decoder.specs.declared.source.Unread.TheVariants as unread
use Rattle.reception.specs.declared.scope.Identity.{Identity}
use Rattle.std.proofs.lemmas.List.{length-replicate}
use Rattle.file_decoder.specs.PlacesOf.{ArePlacedOf}
use Rattle.file_decoder.specs.IndexedIn.{IsFileFault, IsIndexedIn}
use Rattle.reception.specs.Readings.{readings_of}
use Rattle.file_decoder.specs.FileFaults.{fault_of}
use Rattle.file_decoder.specs.declared.indexed_file.FileSymbols.{FileSymbols}
use Rattle.commands.proofs.Stopping.{kept_whole}
use Rattle.decoder.specs.declared.answer.Answer.{Answer}
use Rattle.decoder.specs.declared.answer.Answer.TheVariants.{Empty, Fault, Missing, Object}
use Rattle.block_recovery.specs.declared.fault.DecodeFault.TheVariants.{Packet, OtherFti, SymbolLength, Range, Clash, NotCode}
use Rattle.request.specs.declared.requests.DecodeRequest.{DecodeRequest}
use Rattle.request.specs.declared.requests.Request.TheVariants.{Decode}
use Rattle.host.specs.World.{Reading, MayFail, Files, GivesFile, Holds, IsFree, IsSilent, KeepsFiles, Replaces, World}
use Rattle.commands.specs.Inputs.{ASession, Opened, HasValue, IsUnread}
use Rattle.commands.specs.Lines.{line_of, count_line, answer_text}
use Rattle.commands.specs.Commands.{answer_status, object_of, IsAnswerIn}
use Rattle.commands.specs.Outcomes.{HasAsked, GivesOutput, MayCreate, MayHaveCreated, IsBecause}
use Rattle.commands.specs.ReadingInputs.{HasChanged}
use Rattle.commands.proofs.Passing.{session_changed}
use Rattle.commands.specs.Doing.{HasMade, HasStopped, IsUnwrittenAgain, text_of}
use Rattle.receive_commands.specs.Decoding.{IsToldOf, IsWriteBroken}
use Rattle.commands.specs.declared.done.Done.{Done}
use Rattle.commands.specs.declared.fault.Fault as told
use Rattle.commands.specs.declared.fault.Fault.TheVariants as told_as
use Rattle.commands.specs.declared.output.Unwritten.{Unwritten}
use Rattle.commands.specs.declared.output.Unwritten.TheVariants as unwritten
use Rattle.commands.proofs.Stopping.{by_unread}
use Rattle.commands.proofs.Holding.{holds_told}

-- an answer that is no object has no bytes
pub no_bytes : (answer : Answer) → IsNoObject answer → object_of (answer_value answer) ≡ None
no_bytes Empty none = refl
no_bytes (Fault (Packet i e)) none = refl
no_bytes (Fault (OtherFti i)) none = refl
no_bytes (Fault (SymbolLength i)) none = refl
no_bytes (Fault (Range i)) none = refl
no_bytes (Fault (Clash i)) none = refl
no_bytes (Fault (NotCode b)) none = refl
no_bytes (Missing b have need) none = refl
no_bytes (Object object) none = absurd none

-- the file's bytes are those of a session
pub session_held : (files : Option Files) (name : List ℕ) (content : Option (List ℕ)) (who : Identity) (answer : value.Answer) → Holds files name (λ bytes. content ≡ Some bytes)
    → IsAnswerIn who content answer → HasValue files (ASession name) (Opened content)
session_held None name content who answer given is = tt
session_held (Some held) name content who answer given is = let told = rw given.2 at is in (given.0, given.1, (given.2, told.0, told.1))

-- a file that isn't the same each time is one of which nothing is told
untold : (files : Option Files) (name : List ℕ) (content : Option (List ℕ)) → Holds files name (λ bytes. content ≡ Some bytes) → IfSome content (λ x. ⊥) → files ≡ None
untold None name content given h = refl
untold (Some held) name content given h = absurd (rw given.2 at h)

module _ (w : World) (name : Bor (List ℕ)) (content : Option (List ℕ)) (reliable : Bool) (given : GivesFile w name.now content reliable) where
  pub changed : IfSome content (λ x. ⊥) → IsUnread w (ASession name.now) (told_as.File name)
  changed h = (refl, inl (untold w.files name.now content given.bytes h))

  pub frame_unread : (e : FrameFault) → IsFrameFault content reliable e → IsUnread w (ASession name.now) (told_as.Frame e)
  frame_unread frame_fault.CutLength h = holds_told w.files name.now content (StopsAt frame_fault.CutLength) given.bytes h
  frame_unread frame_fault.CutDatagram h = holds_told w.files name.now content (StopsAt frame_fault.CutDatagram) given.bytes h
  frame_unread frame_fault.TooLong h = holds_told w.files name.now content (StopsAt frame_fault.TooLong) given.bytes h
  frame_unread frame_fault.Io h = given.fails h
  frame_unread frame_fault.NoMemory h = tt
  frame_unread (frame_fault.NoSuchPlace p) h = h

module _ (old new : World) (r : DecodeRequest) (content : Option (List ℕ)) (held : HasValue old.files (ASession r.session.now) (Opened content)) (silent : new.printed ≡ old.printed) where
  pub none_decoded : (answer : Answer) → IsAnswerIn r.identity content (answer_value answer) → IsNoObject answer → new.files ≡ old.files
      → MayHaveCreated old new (Decode r) → (done : Done) → IsToldOf (answer_value answer) done → HasMade old new (Decode r) done
  none_decoded answer is none files created done told = record {
    outcome = record { text = line_of (answer_text (answer_value answer)); status = answer_status (answer_value answer); output = None };
    makes = record {
      values = Opened content ∷ [];
      read = (held, tt);
      gives = (answer_value answer, is, (refl, refl, sym (no_bytes answer none)));
      made = (files, created);
    };
    text = sym told.0;
    status = sym told.1;
    silent = silent;
  }

  pub object_decoded : (object : List ℕ) (count : ℕ) → IsAnswerIn r.identity content (value.Object object) → count ≡ length object → Replaces old.files new.files r.output.name.now object
      → HasAsked old new r.output → IsFree old.files r.output.name.now r.output.no_clobber
      → (done : Done) → count_line (codes "object") count (codes " bytes") ≡ text_of done.told → 0 ≡ done.status → HasMade old new (Decode r) done
  object_decoded object count is many replaced created free done text status = record {
    outcome = record { text = line_of (answer_text (value.Object object)); status = 0; output = Some object };
    makes = record {
      values = Opened content ∷ [];
      read = (held, tt);
      gives = (value.Object object, is, (refl, refl, refl));
      made = (replaced, created, free);
    };
    text = ap (λ (n : ℕ). count_line (codes "object") n (codes " bytes")) (sym many) ∙ text;
    status = status;
    silent = silent;
  }

-- what places tell of the session's file
abbrev pub Placed : Identity → Option (List ℕ) → FileSymbols → Type 0
Placed who content s = IfSome content (λ x. (ds : List (List ℕ)) × ArePlacedOf who ds x s)

pub placed_of : (who : Identity) (content : Option (List ℕ)) (s : FileSymbols) → IsIndexedIn who content (Ok s) → Placed who content s
placed_of who content s h = subst (λ (w : Identity). Placed w content s) h.0 h.1.1

-- the output was created and given up
pub given_up : (old mid new : World) (r : DecodeRequest) → MayCreate old.files (Decode r) → mid.files ≡ old.files → IsSilent old mid → HasAsked old mid r.output → KeepsFiles mid new
    → IsSilent mid new → HasStopped old new (Decode r) told_as.Memory
given_up old mid new r may files silent created keeps silent_then = record {
  stopped = record { because = tt; before = refl; files = keeps.files ∙ files; created = inr ((r.output, refl, keeps.created ∙ created), may) };
  silent = silent_then.printed ∙ silent.printed;
}

-- an output may be created of them
pub may_write : (files : Option Files) (r : DecodeRequest) (content : Option (List ℕ)) (s : FileSymbols) → Holds files r.session.now (λ bytes. content ≡ Some bytes) → Placed r.identity content s
    → MayCreate files (Decode r)
may_write None r content s given placed = tt
may_write (Some held) r content s given placed =
    let w = rw given.2 at placed in
    (given.0, given.1, (w.0, w.1.framed, (readings_of w.0, w.1.indexed.read, s.indexed.fti, w.1.indexed.received.clean, w.1.full)))

nothing_held : (files : Option Files) (name : List ℕ) → Holds files name (λ bytes. None ≡ Some bytes) → files ≡ None
nothing_held None name h = refl
nothing_held (Some held) name h = absurd (let e = h.2 in cc)

-- what was written is the object
pub delivered : (old new : World) (mid : Option Files) (r : DecodeRequest) (content : Option (List ℕ)) (s : FileSymbols) (blank contents : Option (List ℕ)) (count : ℕ)
    → Holds old.files r.session.now (λ bytes. content ≡ Some bytes) → new.printed ≡ old.printed → Placed r.identity content s
    → ((ds : List (List ℕ)) (x : List ℕ) → content ≡ Some x → ArePlacedOf r.identity ds x s → IsWrittenOf r.identity ds blank contents count)
    → IfSome old.files (λ held. blank ≡ Some []) → mid ≡ old.files → IfSome contents (Replaces mid new.files r.output.name.now)
    → HasAsked old new r.output → IsFree old.files r.output.name.now r.output.no_clobber
    → (done : Done) → count_line (codes "object") count (codes " bytes") ≡ text_of done.told → 0 ≡ done.status → HasMade old new (Decode r) done
delivered old new mid r None s blank contents count given silent placed written empty same kept created free done text status =
    let none = nothing_held old.files r.session.now given in
    object_decoded old new r None (session_held old.files r.session.now None r.identity (value.Object (replicate count 0)) given tt) silent (replicate count 0) count tt (sym (length-replicate count 0))
    (subst (λ (f : Option Files). Replaces f new.files r.output.name.now (replicate count 0)) (sym none) tt) created free done text status
delivered old new mid r (Some x) s blank contents count given silent placed written empty same kept created free done text status =
    let w = written placed.0 x refl placed.1 in
    let is : IsAnswerIn r.identity (Some x) (value.Object w.0) = (placed.0, placed.1.framed, w.1) in
    object_decoded old new r (Some x) (session_held old.files r.session.now (Some x) r.identity (value.Object w.0) given is) silent w.0 count is w.3
    (kept_whole old.files mid new.files r.output.name.now w.0 blank contents empty w.2 same kept) created free done text status

-- what was written is an object's bytes
pub object_given : (files : Option Files) (r : DecodeRequest) (content : Option (List ℕ)) (s : FileSymbols) (blank contents : Option (List ℕ)) (count : ℕ)
    → Holds files r.session.now (λ bytes. content ≡ Some bytes) → Placed r.identity content s
    → ((ds : List (List ℕ)) (x : List ℕ) → content ≡ Some x → ArePlacedOf r.identity ds x s → IsWrittenOf r.identity ds blank contents count) → GivesOutput files (Decode r)
object_given files r None s blank contents count given placed written = (
  Opened None ∷ [],
  record { text = line_of (answer_text (value.Object [])); status = 0; output = Some [] },
  [],
  (session_held files r.session.now None r.identity (value.Object []) given tt, tt),
  (value.Object [], tt, (refl, refl, refl)),
  refl,
)
object_given files r (Some x) s blank contents count given placed written =
    let w = written placed.0 x refl placed.1 in
    let is : IsAnswerIn r.identity (Some x) (value.Object w.0) = (placed.0, placed.1.framed, w.1) in (
      Opened (Some x) ∷ [],
      record { text = line_of (answer_text (value.Object w.0)); status = 0; output = Some w.0 },
      w.0,
      (session_held files r.session.now (Some x) r.identity (value.Object w.0) given is, tt),
      (value.Object w.0, is, (refl, refl, refl)),
      refl,
    )

-- why it isn't, also where the file has changed
pub because_changed : (old new : World) (r : DecodeRequest) (reliable : Bool) → (reliable ≡ false → MayFail old (Reading r.session.now)) → (f : told.Fault) → HasChanged reliable r.session.now f → IsBecause old new (Decode r) [] f
because_changed old new r reliable fails f why = by_unread old new (Decode r) [] f (inl (session_changed old r.session.now reliable fails f why))

abbrev pub equal : Result ℕ Unwritten → Result ℕ Unwritten → Type 0
equal a b = a ≡ b

abbrev pub same_err : Unwritten → told.Fault → Type 0
same_err e f = equal (Err e) (Err (unwritten.Fault f))

fault_in : (e : Unwritten) (f : told.Fault) → same_err e f → e ≡ unwritten.Fault f
fault_in e f is = cc

-- why it wasn't written to its end, or that the file has changed since
pub because_not_again : {T : Type 0} (old new : World) (r : DecodeRequest) → (reliable : Bool) → (reliable ≡ false → MayFail old (Reading r.session.now)) → (w : Result T Unwritten) → IfErr w (IsWriteBroken old r.session.now) → (e : Unwritten)
    → (w ≡ Err e) ⊎ IsUnwrittenAgain reliable r.session.now e → (f : told.Fault) → same_err e f → IsBecause old new (Decode r) [] f
because_not_again {T = T} old new r reliable fails w why e (inl same) f is =
    by_unread old new (Decode r) [] f (inl (subst (λ (u : Unwritten). IsWriteBroken old r.session.now u) (fault_in e f is) (subst (λ (x : Result T Unwritten). IfErr x (IsWriteBroken old r.session.now)) same why)))
because_not_again old new r reliable fails w why e (inr again) f is =
    because_changed old new r reliable fails f (subst (λ (u : Unwritten). IsUnwrittenAgain reliable r.session.now u) (fault_in e f is) again)

-- the symbols turned out to be of no object
pub refuted : (who : Identity) (content : Option (List ℕ)) (s : FileSymbols) (answer : Answer) → Placed who content s
    → ((ds : List (List ℕ)) (x : List ℕ) → content ≡ Some x → ArePlacedOf who ds x s → IsAnswer who ds (answer_value answer)) → IsAnswerIn who content (answer_value answer)
refuted who None s answer placed is = tt
refuted who (Some x) s answer placed is = (placed.0, placed.1.framed, is placed.0 x refl placed.1)

-- why a symbol isn't there again, as a fault of the file
pub again_fault : (content : Option (List ℕ)) (reliable : Bool) (u : Unread) → IsNotAgain content reliable u → IsFileFault content reliable (fault_of u)
again_fault content reliable unread.Io h = h
again_fault content reliable unread.Changed h = h
again_fault content reliable unread.NoMemory h = tt
