-- Datagrams that were shown.
use Rattle.std.proofs.Common.{◌≡◌, ◌≢◌, ◌≤◌, ◌+◌, ◌∙◌, ℕ, Bool, List, [], ◌∷◌, ◌++◌, length, Option, Some, None, Result, Ok, Err, false, inl, inr, refl, sym, ap, subst, arith}
use Rattle.std.proofs.lemmas.List.{append-nil, length-append}
use Rattle.std.specs.Prelude.{IfErr, IfSome}
use Rattle.std.specs.Io.KnownBytes.{Consumes, Appends}
use Rattle.session.specs.Extents.{AreFrames}
use Rattle.session.specs.Frames.{frame, most_bytes, HasRead, IsReadFault, StopsAt}
use Rattle.session.proofs.Copies.{session_fault}
use Rattle.session.proofs.OneSession.{whole}
use Rattle.session.specs.declared.frame.FrameFault.{FrameFault}
use Rattle.session.specs.declared.frame.FrameFault.TheVariants as frame_fault
use Rattle.session.proofs.Sessions.{short_push}
use Rattle.session.proofs.Writes.{then_appends}
use Rattle.cert.proofs.FromReader.{consumes_one}
use Rattle.alc.specs.Reading.{Reading, Reads}
use Rattle.request.specs.declared.requests.ShowRequest.{ShowRequest}
use Rattle.request.specs.declared.requests.Request.TheVariants.{Show}
use Rattle.host.specs.World.{Reading as ReadingFile, Files, Holds, World, KeepsFiles, MayFail}
use Rattle.commands.specs.Inputs.{ASession, AStream, Datagrams, Opened, HasValue, IsUnread}
use Rattle.commands.specs.Lines.{line_of, numbered, reading_text}
use Rattle.commands.specs.Commands.{shown_status, AreReadAs, TellsDatagrams, told_before}
use Rattle.commands.specs.Outcomes.{IsDone, IsBecause, IsStopped}
use Rattle.commands.specs.Doing.{HasStopped, IsUndone}
use Rattle.receive_commands.specs.Showing.{Shows, ShowsAll, IsCutBehind, IsUnshown}
use Rattle.commands.specs.declared.done.Ended.{Ended}
use Rattle.commands.specs.declared.fault.Fault.{Fault}
use Rattle.commands.specs.declared.fault.Fault.TheVariants.{Open, File, Memory, Frame, Certificate, Fti, Send, NoPlace}
use Rattle.commands.specs.declared.fault.Stop.{Stop}
use Rattle.commands.specs.declared.fault.Stop.TheVariants.{ByFault, Unprinted}
use Rattle.commands.proofs.Numbered.{numbered_more, read_more}
use Rattle.commands.proofs.Stopping.{by_refused, stopped}
use Rattle.commands.proofs.Holding.{holds_session, holds_told, nothing_consumed}

pub keeps : (old mid new : World) → KeepsFiles old mid → KeepsFiles mid new → KeepsFiles old new
keeps old mid new first second =
    record { files = second.files ∙ first.files; refused = second.refused ∙ first.refused; created = second.created ∙ first.created }

pub keeps_all : (w : World) → KeepsFiles w w
keeps_all w = record { files = refl; refused = refl; created = refl }

nothing_appended : (a : Option (List ℕ)) → Appends a a []
nothing_appended None = tt
nothing_appended (Some xs) = sym (append-nil xs)

pub none_shown : (opened : Option (List ℕ)) (w : World) → Shows opened opened [] w w
none_shown opened w = (([], record { consumed = nothing_consumed opened; each = λ i. omega arith }, tt), nothing_appended w.printed)

-- one datagram more
pub one_more_shown : (opened a b : Option (List ℕ)) (rs : List Reading) (old mid new : World) (place : ℕ) (d : List ℕ) (r : Reading) → Shows opened a rs old mid → place ≡ length rs
    → Consumes a b (frame d) → length d ≤ most_bytes → Reads d r → Appends mid.printed new.printed (line_of (reading_text place r)) → Shows opened b (rs ++ r ∷ []) old new
one_more_shown opened a b rs old mid new place d r ((ds, read, all), gained) at one short reads printed =
    let many : 0 + length rs ≡ place = omega (arith, at) in
    let text : numbered reading_text 0 (rs ++ r ∷ []) ≡ numbered reading_text 0 rs ++ line_of (reading_text place r) =
    numbered_more reading_text 0 rs r ∙ ap (λ (k : ℕ). numbered reading_text 0 rs ++ line_of (reading_text k r)) many in (
      (ds ++ d ∷ [], record { consumed = consumes_one opened a b ds d read.consumed one; each = short_push ds d read.each short }, read_more ds rs d r all reads),
      subst (λ (t : List ℕ). Appends old.printed new.printed t) (sym text)
          (then_appends old.printed mid.printed new.printed (numbered reading_text 0 rs) (line_of (reading_text place r)) gained printed),
    )

pub one_longer : (rs : List Reading) (r : Reading) (place next : ℕ) → place ≡ length rs → next ≡ place + 1 → next ≡ length (rs ++ r ∷ [])
one_longer rs r place next at is = let l = length-append rs (r ∷ []) in omega (arith, at, is, l)

-- behind frames that were read none came, for this reason
pub read_stops : (w : World) (name : List ℕ) (opened left rest : Option (List ℕ)) (failed : Bool) (ds : List (List ℕ)) (e : FrameFault) → HasValue w.files (AStream name) (Opened opened)
    → HasRead opened left ds → IsReadFault e left rest failed → (e ≡ frame_fault.Io → MayFail w (ReadingFile name)) → IsUnread w (ASession name) (Frame e)
read_stops w name opened left rest failed ds frame_fault.CutLength held read why fails =
    holds_told w.files name opened (StopsAt frame_fault.CutLength) held (session_fault frame_fault.CutLength opened left rest failed ds read.consumed read.each why)
read_stops w name opened left rest failed ds frame_fault.CutDatagram held read why fails =
    holds_told w.files name opened (StopsAt frame_fault.CutDatagram) held (session_fault frame_fault.CutDatagram opened left rest failed ds read.consumed read.each why)
read_stops w name opened left rest failed ds frame_fault.TooLong held read why fails =
    holds_told w.files name opened (StopsAt frame_fault.TooLong) held (session_fault frame_fault.TooLong opened left rest failed ds read.consumed read.each why)
read_stops w name opened left rest failed ds frame_fault.Io held read why fails = fails refl
read_stops w name opened left rest failed ds frame_fault.NoMemory held read why fails = tt
read_stops w name opened left rest failed ds (frame_fault.NoSuchPlace p) held read why fails = absurd why

-- nothing was shown of a session that isn't had
pub none_had : (w : World) (r : ShowRequest) (fault : Fault) → IsUnread w (ASession r.session.now) fault → HasStopped w w (Show r) fault
none_had w r fault why = stopped w (Show r) fault (by_refused w w (Show r) [] fault (why, inl refl))

-- a file that was gone over holds no bytes that stop
pub gone_over : (w : World) (name : List ℕ) (content opened : Option (List ℕ)) → Holds w.files name (λ bytes. content ≡ Some bytes) → HasValue w.files (AStream name) (Opened opened) → AreFrames content
    → (e : FrameFault) → IfSome opened (StopsAt e) → MayFail w (ReadingFile name)
gone_over w name content opened given held are e stops = inl (go w.files content opened given held are stops)
  where
    go : (files : Option Files) (content opened : Option (List ℕ)) → Holds files name (λ bytes. content ≡ Some bytes) → Holds files name (λ bytes. opened ≡ Some bytes) → AreFrames content
        → IfSome opened (StopsAt e) → files ≡ None
    go None content opened given held are stops = refl
    go (Some files) None opened given held are stops = absurd (let bad = given.2 in cc)
    go (Some files) (Some x) None given held are stops = absurd (let bad = held.2 in cc)
    go (Some files) (Some x) (Some y) (a, at, is) (b, bt, has) are stops = absurd (whole x are.0 e are.1 (subst (λ (z : List ℕ). StopsAt e z) (same x y a b is has (at_same a b at bt)) stops))
      where
        at_same : (a b : List ℕ) → files name ≡ Some a → files name ≡ Some b → a ≡ b
        at_same a b p q = cc

        same : (x y a b : List ℕ) → Some x ≡ Some a → Some y ≡ Some b → a ≡ b → y ≡ x
        same x y a b p q e = cc

-- ---- how showing ends

module _ (old : World) (r : ShowRequest) (each : r.summary ≡ false) (opened : Option (List ℕ)) (held : HasValue old.files (AStream r.session.now) (Opened opened)) (new : World) (files : KeepsFiles old new) where
  pub show_done : (status : ℕ) → ShowsAll opened old new status → IsDone old new (Show r) status
  show_done status (left, rs, ((ds, read, all), printed), end, is) = record {
    outcome = record { text = numbered reading_text 0 rs; status = shown_status rs; output = None };
    makes = record {
      values = Datagrams ds ∷ [];
      read = (holds_session old.files r.session.now opened left ds held read end, tt);
      gives = (rs, all, subst (λ (b : Bool). TellsDatagrams b rs (numbered reading_text 0 rs)) (sym each) refl, refl, refl);
      made = (files.files, files.created);
    };
    printed = printed;
    is_status = is;
  }

  told : (rs : List Reading) → numbered reading_text 0 rs ≡ told_before r.summary rs
  told rs = ap (λ (b : Bool). told_before b rs) (sym each)

  stopped_so : (left : Option (List ℕ)) (rs : List Reading) (fault : Fault) → AreReadAs opened left rs → IsBecause old new (Show r) (numbered reading_text 0 rs) fault
      → IsStopped old new (Show r) (numbered reading_text 0 rs) fault
  stopped_so left rs fault read why =
      record { because = why; before = inr (opened, left, rs, held, read, told rs); files = files.files; created = inl files.created }

  -- behind lines no frame came
  cut : (e : FrameFault) → IsCutBehind e opened old new → (e ≡ frame_fault.Io → MayFail old (ReadingFile r.session.now)) → MayFail old (ReadingFile r.session.now) → IsUndone old new (Show r) (ByFault (Frame e))
  cut e (left, rs, ((ds, read, all), printed), rest, failed, why) fails may = (
    numbered reading_text 0 rs,
    printed,
    stopped_so left rs (Frame e) (ds, read, all)
        (by_refused old new (Show r) (numbered reading_text 0 rs) (Frame e) (read_stops old r.session.now opened left rest failed ds e held read why fails, inr (may, (opened, left, rs, rest, failed, held, (ds, read, all), told rs, why)))),
  )

  stops : (e : FrameFault) → e ≢ frame_fault.Io → e ≢ frame_fault.NoMemory → IsCutBehind e opened old new → IfSome opened (StopsAt e)
  stops frame_fault.Io io memory why = absurd (io refl)
  stops frame_fault.NoMemory io memory why = absurd (memory refl)
  stops (frame_fault.NoSuchPlace p) io memory (left, rs, shown, rest, failed, why) = absurd why
  stops frame_fault.CutLength io memory (left, rs, ((ds, read, all), printed), rest, failed, why) = session_fault frame_fault.CutLength opened left rest failed ds read.consumed read.each why
  stops frame_fault.CutDatagram io memory (left, rs, ((ds, read, all), printed), rest, failed, why) = session_fault frame_fault.CutDatagram opened left rest failed ds read.consumed read.each why
  stops frame_fault.TooLong io memory (left, rs, ((ds, read, all), printed), rest, failed, why) = session_fault frame_fault.TooLong opened left rest failed ds read.consumed read.each why

  module _ (whole : (e : FrameFault) → IfSome opened (StopsAt e) → MayFail old (ReadingFile r.session.now)) where
    bytes : (e : FrameFault) → e ≢ frame_fault.Io → e ≢ frame_fault.NoMemory → IsCutBehind e opened old new → IsUndone old new (Show r) (ByFault (Frame e))
    bytes e io memory why = cut e why (λ is. absurd (io is)) (whole e (stops e io memory why))

    unshown : (stop : Stop) → IsUnshown opened old new stop → (stop ≡ ByFault (Frame frame_fault.Io) → MayFail old (ReadingFile r.session.now)) → IsUndone old new (Show r) stop
    unshown (ByFault (Frame frame_fault.NoMemory)) why fails = absurd why
    unshown (ByFault (Frame frame_fault.Io)) why fails = cut frame_fault.Io why (λ _. fails refl) (fails refl)
    unshown (ByFault (Frame frame_fault.CutLength)) why fails = bytes frame_fault.CutLength (λ e. cc) (λ e. cc) why
    unshown (ByFault (Frame frame_fault.CutDatagram)) why fails = bytes frame_fault.CutDatagram (λ e. cc) (λ e. cc) why
    unshown (ByFault (Frame frame_fault.TooLong)) why fails = bytes frame_fault.TooLong (λ e. cc) (λ e. cc) why
    unshown (ByFault (Frame (frame_fault.NoSuchPlace p))) why fails = bytes (frame_fault.NoSuchPlace p) (λ e. cc) (λ e. cc) why
    unshown (ByFault Memory) (left, rs, (read, printed)) fails = (numbered reading_text 0 rs, printed, stopped_so left rs Memory read tt)
    unshown (ByFault (Open n)) why fails = absurd why
    unshown (ByFault (File n)) why fails = absurd why
    unshown (ByFault (Certificate e)) why fails = absurd why
    unshown (ByFault (Fti e)) why fails = absurd why
    unshown (ByFault (Send e)) why fails = absurd why
    unshown (ByFault (NoPlace n)) why fails = absurd why
    unshown Unprinted why fails = record { failed = why; done = inr (files.files, files.created) }

    pub is_unshown : (result : Result Ended Stop) (sound : Bool) → IfErr result (IsUnshown opened old new)
        → IfErr result (λ (stop : Stop). stop ≡ ByFault (Frame frame_fault.Io) → sound ≡ false) → (sound ≡ false → MayFail old (ReadingFile r.session.now)) → IfErr result (IsUndone old new (Show r))
    is_unshown (Ok status) sound why unsound fails = tt
    is_unshown (Err stop) sound why unsound fails = unshown stop why (λ is. fails (unsound is))
