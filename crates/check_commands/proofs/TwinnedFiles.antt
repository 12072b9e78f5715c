-- A twin of files that stand where they are, by its parts.
use Rattle.std.proofs.Common.{◌≡◌, ◌⊎◌, ◌∙◌, ◌≤◌, ◌++◌, ℕ, suc, Bool, false, List, [], ◌∷◌, Option, Some, None, Result, Ok, Err, length, length-append, append_assoc, inl, inr, refl, sym, ap, subst, arith, codes}
use Rattle.std.specs.Prelude.{IfErr, IfSome, OnOk, ⊤}
use Rattle.std.specs.Io.KnownBytes.{Appends, Consumes}
use Rattle.std.proofs.lemmas.List.{append-nil}
use Rattle.partition.specs.Fti.{Fti}
use Rattle.session.specs.Extents.{AreFrames}
use Rattle.session.specs.Frames.{frame, frames, AreDatagrams, AreShort, IsFramed, IsSessionFault, StopsAt}
use Rattle.session.specs.declared.frame.FrameFault.{FrameFault}
use Rattle.session.specs.declared.frame.FrameFault.TheVariants as frame_fault
use Rattle.session.proofs.Copies.{session_fault}
use Rattle.session.proofs.OneFrame.{length_frame, one_frame}
use Rattle.session.proofs.OneSession.{only}
use Rattle.reception.specs.declared.scope.Identity.{Identity}
use Rattle.reception.specs.Symbols.{IsObject}
use Rattle.certificate.specs.Certificate.{Certificate}
use Rattle.cert.specs.FromReader.{IsCheckedFrom, IsKnown, read_for}
use Rattle.cert.specs.TwinBytes.{AppendsAny, twin_bytes}
use Rattle.cert.specs.Twins.{IsTwin, IsTwinOfSession}
use Rattle.cert.specs.Verdict.{IsVerdict}
use Rattle.cert.specs.declared.verdict.Reason.TheVariants.{OtherCertificate, ObjectLength, NotObject, Empty, Packet, OtherFti, SymbolLength, Range, Symbol, Thin, NoCarrier}
use Rattle.cert.specs.declared.verdict.Verdict.{Verdict}
use Rattle.cert.specs.declared.verdict.Verdict.TheVariants.{Yes, No}
use Rattle.cert.proofs.TwinObject.{is_twin_bytes}
use Rattle.file_check.specs.Files.{IsFaultUntold, IsFilesFault, Reliable, WhereTold}
use Rattle.file_check.specs.Shortness.{IsShortFound, IsTwinnedIn}
use Rattle.cert.specs.declared.fault.CheckFault.{CheckFault}
use Rattle.cert.specs.declared.fault.CheckFault.TheVariants as check_fault
use Rattle.file_check.specs.declared.checking.ShortBlock.{ShortBlock}
use Rattle.request.specs.declared.requests.TwinRequest.{TwinRequest}
use Rattle.request.specs.declared.requests.Request.TheVariants.{Twin}
use Rattle.host.specs.World.{Files, GivesFile, Holds, IsFree, MayFail, Reading, Replaces, World}
use Rattle.commands.specs.Inputs.{ACertificate, AnObject, ASession, Bytes, Datagrams, Opened, Polynomials, HasValue, HaveValues, IsUnread, Value}
use Rattle.commands.specs.Lines.{line_of, short_text}
use Rattle.commands.specs.Commands.{Gives, GivesTwin, Outcome, inputs_of}
use Rattle.commands.specs.Outcomes.{HasAsked, IsBecause, MayCreate}
use Rattle.commands.specs.Doing.{HasMade, HasStopped, IsUnwrittenAgain, text_of}
use Rattle.check_commands.specs.TwinsTold.{AreUnread, HasJudged, HoldsFrames, IsFoundIn, IsJudged, IsUntwinned, TellsNoTwin}
use Rattle.check_commands.specs.CheckFaults.{fault_of}
use Rattle.check_commands.specs.Checks.{HaveChanged}
use Rattle.commands.specs.declared.done.Done.{Done}
use Rattle.commands.specs.declared.done.Told.TheVariants.{Lines}
use Rattle.commands.specs.ReadingInputs.{HasChanged, IsUnframed}
use Rattle.commands.specs.declared.fault.Fault.{Fault}
use Rattle.commands.specs.declared.fault.Fault.TheVariants as told_as
use Rattle.commands.specs.declared.output.Unwritten.{Unwritten}
use Rattle.commands.specs.declared.output.Unwritten.TheVariants as unwritten
use Rattle.check_commands.proofs.CheckedFiles.{an_object, no_certificate}
use Rattle.commands.proofs.Stopping.{by_unread, kept_whole, stopped}
use Rattle.commands.proofs.Holding.{holds_told}
use Rattle.commands.proofs.Passing.{certificate_changed, object_changed, session_changed, unframed}

abbrev equal : Result ℕ Unwritten → Result ℕ Unwritten → Type 0
equal a b = a ≡ b

fault_of_err : (e : Unwritten) (f : Fault) → equal (Err e) (Err (unwritten.Fault f)) → e ≡ unwritten.Fault f
fault_of_err e f is = cc

-- what came of it is what was written, where its source hasn't changed
pub same_ok : (own written : Result ℕ Unwritten) → OnOk written (written ≡ own) → (n : ℕ) → written ≡ Ok n → own ≡ Ok n
same_ok own (Ok x) h n is = sym h ∙ is
same_ok own (Err e) h n is = absurd (cc)

some_same : {A : Type 0} {x y : A} → Some x ≡ Some y → x ≡ y
some_same e = cc

-- the files are told, or they aren't
told_or_not : (files : Option Files) → (files ≡ None) ⊎ ((held : Files) × (files ≡ Some held))
told_or_not None = inl refl
told_or_not (Some held) = inr (held, refl)

-- ---- a session that was gone over

pub a_session : (files : Option Files) (r : TwinRequest) → HoldsFrames files r → (value : Value) × HasValue files (ASession r.session.now) value
a_session None r h = (Datagrams [], tt)
a_session (Some held) r h = (Datagrams h.2.0, (h.0, h.1, h.2.1))

module _ (w : World) (r : TwinRequest) where
  pub frames_unread : (content : Option (List ℕ)) (reliable : Bool) → GivesFile w r.session.now content reliable → (fault : Fault) → IsUnframed content reliable fault → AreUnread w r fault
  frames_unread content reliable given fault h = inl (unframed w r.session.now content reliable given fault h)

  pub frames_held : (content : Option (List ℕ)) → Holds w.files r.session.now (λ bytes. content ≡ Some bytes) → AreFrames content → HoldsFrames w.files r
  frames_held content given h = holds_told w.files r.session.now content (λ x. (ds : List (List ℕ)) × IsFramed ds x × AreDatagrams ds) given h

  pub object_unread : (fault : Fault) → HoldsFrames w.files r → IsUnread w (AnObject r.object.now) fault → AreUnread w r fault
  object_unread fault framed h = let value = a_session w.files r framed in inr (value.0, value.1, inl h)

  pub certificate_unread : (fault : Fault) → HoldsFrames w.files r → (content : Option (List ℕ)) → Holds w.files r.object.now (λ bytes. content ≡ Some bytes) → IsUnread w (ACertificate r.certificate.now) fault → AreUnread w r fault
  certificate_unread fault framed content given h =
      let value = a_session w.files r framed in
      let object = an_object w.files r.object.now content given in
      inr (value.0, value.1, inr (object.0, object.1, inl h))

  -- one of the files was changed
  module _ (session object text : Option (List ℕ)) (s o t : Bool) (gives_session : GivesFile w r.session.now session s) (gives_object : GivesFile w r.object.now object o)
      (gives_text : GivesFile w r.certificate.now text t) where
    pub changed_since : HoldsFrames w.files r → (fault : Fault) → HaveChanged (r.session.now, s) (r.object.now, o) (r.certificate.now, t) fault → AreUnread w r fault
    changed_since framed fault (inl h) = inl (session_changed w r.session.now s gives_session.fails fault h)
    changed_since framed fault (inr (inl h)) =
        let value = a_session w.files r framed in
        inr (value.0, value.1, inl (object_changed w r.object.now o gives_object.fails fault h))
    changed_since framed fault (inr (inr h)) =
        let value = a_session w.files r framed in
        let bytes = an_object w.files r.object.now object gives_object.bytes in
        inr (value.0, value.1, inr (bytes.0, bytes.1, inl (certificate_changed w r.certificate.now t gives_text.fails fault h)))

-- ---- the verdict on all datagrams of a session

rest_framed : (ds all : List (List ℕ)) (left : List ℕ) → AreShort ds → AreShort all → frames all ≡ frames ds ++ left → (rest : List (List ℕ)) × (all ≡ ds ++ rest) × (frames rest ≡ left)
rest_framed [] all left a b e = (all, refl, e)
rest_framed (d ∷ ds) [] left a b e =
    let size = ap length e in
    absurd (omega (arith, size, length-append (frame d ++ frames ds) left, length-append (frame d) (frames ds), length_frame d))
rest_framed (d ∷ ds) (x ∷ all) left a b e =
    let w = one_frame x d (frames all) (frames ds ++ left) (b 0) (a 0) (e ∙ append_assoc (frame d) (frames ds) left) in
    let h = rest_framed ds all left (λ i. a (suc i)) (λ i. b (suc i)) w.1 in
    (h.0, ap (λ (y : List ℕ). y ∷ all) w.0 ∙ ap (λ (l : List (List ℕ)). d ∷ l) h.1, h.2)

each_rest : (ds rest : List (List ℕ)) → AreDatagrams (ds ++ rest) → AreDatagrams rest
each_rest [] rest h = h
each_rest (d ∷ ds) rest h = each_rest ds rest (λ i. h (suc i))

known : (o : Option ℕ) (x : List ℕ) (left : Option (List ℕ)) (ds all : List (List ℕ)) (Fact : List (List ℕ) → Type 0) → AreDatagrams ds → AreDatagrams all → IsFramed all x
    → Consumes (Some x) left (frames ds) → IsKnown o ds left Fact → Fact all
known o x None ds all Fact each each_all framed consumed h = absurd consumed
known None x (Some l) ds all Fact each each_all framed consumed h =
    let mine : IsFramed ds x = record { whole = consumed ∙ ap (λ (y : List ℕ). frames ds ++ y) h.0 ∙ append-nil (frames ds); each = λ i. (each i).short } in
    subst Fact (only x ds all mine framed) h.1
known (Some n) x (Some l) ds all Fact each each_all framed consumed h =
    let w = rest_framed ds all l (λ i. (each i).short) (λ i. (each_all i).short) (sym framed.whole ∙ consumed) in
    subst Fact (sym w.1) (h.1 w.0 (each_rest ds w.0 (subst (λ (y : List (List ℕ)). AreDatagrams y) w.1 each_all)))

verdict_on_all : (who : Identity) (x o : List ℕ) (z : Certificate) (verdict : Verdict) (left : Option (List ℕ)) (all : List (List ℕ)) → IsFramed all x → AreDatagrams all
    → IsCheckedFrom who (Some x) left o z verdict → IsVerdict who all o z verdict
verdict_on_all who x o z verdict left all framed each c =
    known (read_for verdict) x left c.datagrams all (λ ds. IsVerdict who ds o z verdict) c.each each framed c.consumed c.judged

-- ---- what is found of files

module _ (w : World) (r : TwinRequest) (session object text : Option (List ℕ)) (s o t : Bool) (gives_session : GivesFile w r.session.now session s) (gives_object : GivesFile w r.object.now object o)
    (gives_text : GivesFile w r.certificate.now text t) (framed : HoldsFrames w.files r) where
  abbrev reliable : Reliable
  reliable = record { session = s; object = o; certificate = t }

  module _ (held : Files) (told : w.files ≡ Some held) where
    session_held : Holds (Some held) r.session.now (λ bytes. session ≡ Some bytes)
    session_held = rw told at gives_session.bytes

    object_held : Holds (Some held) r.object.now (λ bytes. object ≡ Some bytes)
    object_held = rw told at gives_object.bytes

    text_held : Holds (Some held) r.certificate.now (λ bytes. text ≡ Some bytes)
    text_held = rw told at gives_text.bytes

    frames_there : HoldsFrames (Some held) r
    frames_there = rw told at framed

    where_told : (Fact : List ℕ → List ℕ → List ℕ → Type 0) → WhereTold session object text Fact → Fact session_held.0 object_held.0 text_held.0
    where_told Fact h = h session_held.0 object_held.0 text_held.0 session_held.2 object_held.2 text_held.2

    has_judged : (verdict : Verdict) (short : Option ShortBlock) → WhereTold session object text (λ x y z. IsTwinnedIn r.identity x y z verdict short) → HasJudged held r verdict short
    has_judged verdict short h =
        let x = session_held in
        let y = object_held in
        let u = text_held in
        let ds = frames_there in
        let is = where_told (λ x y z. IsTwinnedIn r.identity x y z verdict short) h in
        let same : ds.0 ≡ x.0 = some_same (sym ds.1 ∙ x.1) in
        let here : IsFramed ds.2.0 x.0 = subst (λ (l : List ℕ). IsFramed frames_there.2.0 l) same ds.2.1 in
        record {
          session = x.0;
          datagrams = ds.2.0;
          framed = here;
          object = y.0;
          z = is.0;
          read = ((x.0, x.1, here), ((y.0, y.1, refl), ((is.1.0, (u.0, u.1, is.1.1)), tt)));
          judged = verdict_on_all r.identity x.0 y.0 is.0 verdict is.2.0 ds.2.0 here ds.2.2 is.2.1;
          twins = is.3;
        }

  is_judged : (files : Option Files) → w.files ≡ files → (verdict : Verdict) (short : Option ShortBlock) → WhereTold session object text (λ x y z. IsTwinnedIn r.identity x y z verdict short)
      → IsJudged files r verdict short
  is_judged None is verdict short h = tt
  is_judged (Some held) is verdict short h = has_judged held is verdict short h

  pub found_of : (verdict : Verdict) (short : Option ShortBlock) → WhereTold session object text (λ x y z. IsTwinnedIn r.identity x y z verdict short) → IsShortFound verdict short
      → IsFoundIn w.files r verdict short
  found_of verdict short h found = (found, is_judged w.files refl verdict short h)

  -- ---- why nothing is

  stops : (e : FrameFault) (x y z : List ℕ) (h : IsFilesFault r.identity reliable x y z (check_fault.Frame e)) → IsSessionFault e (Some x) h.2.0.1
  stops e x y z h =
      let is = h.2.0.2 in
      session_fault e (Some x) is.left h.2.0.0 h.2.0.1 is.datagrams is.consumed (λ i. (is.each i).short) is.refused

  frame_stops : (files : Option Files) → w.files ≡ files → (e : FrameFault) → WhereTold session object text (λ x y z. IsFilesFault r.identity reliable x y z (check_fault.Frame e))
      → ((x y z : List ℕ) → IsFilesFault r.identity reliable x y z (check_fault.Frame e) → StopsAt e x) → Holds w.files r.session.now (StopsAt e)
  frame_stops None is e h to = subst (λ (f : Option Files). Holds f r.session.now (StopsAt e)) (sym is) tt
  frame_stops (Some held) is e h to =
      let x = session_held held is in
      let fact = where_told held is (λ x y z. IsFilesFault r.identity reliable x y z (check_fault.Frame e)) h in
      subst (λ (f : Option Files). Holds f r.session.now (StopsAt e)) (sym is) (x.0, x.1, to x.0 _ _ fact)

  frame_unread : (e : FrameFault) → IsFaultUntold s text t (check_fault.Frame e) → WhereTold session object text (λ x y z. IsFilesFault r.identity reliable x y z (check_fault.Frame e))
      → IsUnread w (ASession r.session.now) (told_as.Frame e)
  frame_unread frame_fault.CutLength untold h = frame_stops w.files refl frame_fault.CutLength h (λ x y z f. stops frame_fault.CutLength x y z f)
  frame_unread frame_fault.CutDatagram untold h = frame_stops w.files refl frame_fault.CutDatagram h (λ x y z f. stops frame_fault.CutDatagram x y z f)
  frame_unread frame_fault.TooLong untold h = frame_stops w.files refl frame_fault.TooLong h (λ x y z f. stops frame_fault.TooLong x y z f)
  frame_unread frame_fault.Io untold h = gives_session.fails (untold.1 refl)
  frame_unread frame_fault.NoMemory untold h = tt
  frame_unread (frame_fault.NoSuchPlace p) untold h = absurd untold.0.1

  lost_session : (w.files ≡ None) ⊎ ((held : Files) × (w.files ≡ Some held)) → WhereTold session object text (λ x y z. IsFilesFault r.identity reliable x y z check_fault.Session) → MayFail w (Reading r.session.now)
  lost_session (inl none) h = inl none
  lost_session (inr (held, told)) h = gives_session.fails (where_told held told (λ x y z. IsFilesFault r.identity reliable x y z check_fault.Session) h).2

  lost_object : (w.files ≡ None) ⊎ ((held : Files) × (w.files ≡ Some held)) → WhereTold session object text (λ x y z. IsFilesFault r.identity reliable x y z check_fault.Object) → MayFail w (Reading r.object.now)
  lost_object (inl none) h = inl none
  lost_object (inr (held, told)) h = gives_object.fails (where_told held told (λ x y z. IsFilesFault r.identity reliable x y z check_fault.Object) h).2

  unhad : (fault : Fault) → AreUnread w r fault → HasStopped w w (Twin r) fault
  unhad fault h = stopped w (Twin r) fault (by_unread w w (Twin r) [] fault h)

  pub unfound : (fault : CheckFault) → IsFaultUntold s text t fault → WhereTold session object text (λ x y z. IsFilesFault r.identity reliable x y z fault)
      → HasStopped w w (Twin r) (fault_of r.session r.object fault)
  unfound (check_fault.Frame e) untold h = unhad (told_as.Frame e) (inl (frame_unread e untold h))
  unfound check_fault.Session untold h = unhad (told_as.File r.session) (inl (refl, lost_session (told_or_not w.files) h))
  unfound check_fault.Object untold h =
      let value = a_session w.files r framed in
      unhad (told_as.File r.object) (inr (value.0, value.1, inl (refl, lost_object (told_or_not w.files) h)))
  unfound (check_fault.Certificate e) untold h =
      let value = a_session w.files r framed in
      let bytes = an_object w.files r.object.now object gives_object.bytes in
      unhad (told_as.Certificate e) (inr (value.0, value.1, inr (bytes.0, bytes.1, inl (no_certificate w r.certificate text t gives_text e untold))))
  unfound check_fault.NoMemory untold h = stopped w (Twin r) told_as.Memory tt

-- ---- what is told where no block is short

none_told : (Is : ℕ → List ℕ → Type 0) (verdict : Verdict) (line : List ℕ) → IsShortFound verdict None → TellsNoTwin verdict line → GivesTwin Is verdict (record { text = line; status = 1; output = None })
none_told Is (Yes report) line h told = (told, refl, refl)
none_told Is (No (Thin b have need)) line h told = absurd h
none_told Is (No OtherCertificate) line h told = (told, refl, refl)
none_told Is (No ObjectLength) line h told = (told, refl, refl)
none_told Is (No (NotObject b c i)) line h told = (told, refl, refl)
none_told Is (No Empty) line h told = (told, refl, refl)
none_told Is (No (Packet i x)) line h told = (told, refl, refl)
none_told Is (No (OtherFti i)) line h told = (told, refl, refl)
none_told Is (No (SymbolLength i)) line h told = (told, refl, refl)
none_told Is (No (Range i)) line h told = (told, refl, refl)
none_told Is (No (Symbol i c)) line h told = (told, refl, refl)
none_told Is (No NoCarrier) line h told = (told, refl, refl)

none_given : (files : Option Files) (r : TwinRequest) (verdict : Verdict) (line : List ℕ) → IsFoundIn files r verdict None → TellsNoTwin verdict line
    → (values : List Value) × HaveValues files (inputs_of (Twin r)) values × Gives (Twin r) values (record { text = line; status = 1; output = None })
none_given None r verdict line found told = (
  Opened None ∷ Opened None ∷ Opened None ∷ [],
  (tt, ((refl, refl), ((refl, refl), tt))),
  (verdict, none_told (λ block other. ⊤) verdict line found.0 told),
)
none_given (Some held) r verdict line found told =
    let j = found.1 in (
      Datagrams j.datagrams ∷ Bytes j.object ∷ Polynomials j.z ∷ [],
      j.read,
      (verdict, j.judged, none_told (λ block other. IsTwinOfSession r.identity j.z.fti block j.datagrams j.object other) verdict line found.0 told),
    )

pub untwinned_in : (w : World) (r : TwinRequest) (verdict : Verdict) (line : List ℕ) → IsFoundIn w.files r verdict None → TellsNoTwin verdict line
    → (done : Done) → done.told ≡ Lines line → done.status ≡ 1 → HasMade w w (Twin r) done
untwinned_in w r verdict line found told done lines status =
    let g = none_given w.files r verdict line found told in
    record {
      outcome = record { text = line; status = 1; output = None };
      makes = record { values = g.0; read = g.1; gives = g.2; made = (refl, refl) };
      text = ap text_of (sym lines);
      status = sym status;
      silent = refl;
    }

-- ---- a block that is short

module _ (r : TwinRequest) (short : ShortBlock) where
  abbrev thin : Verdict
  thin = No (Thin short.block short.have short.need)

  abbrev pub short_line : List ℕ
  short_line = line_of (short_text (codes "twin block") short.block short.have short.need)

  abbrev pub outcome_with : List ℕ → Outcome
  outcome_with bytes = record { text = short_line; status = 0; output = Some bytes }

  abbrev made_of : List ℕ → List ℕ
  made_of object = twin_bytes short.fti short.block short.arrived_esis.items object

  -- what the files hold, where they are told
  module _ (held : Files) (found : IsFoundIn (Some held) r (No (Thin short.block short.have short.need)) (Some short)) where
    abbrev j : HasJudged held r (No (Thin short.block short.have short.need)) (Some short)
    j = found.1

    form : IsObject j.z.fti j.object
    form = j.judged.judged.1

    fti_is : short.fti ≡ j.z.fti
    fti_is = j.twins.0

    long : length j.object ≡ short.fti.transfer_length
    long = form.count ∙ ap (λ (f : Fti). f.transfer_length) (sym fti_is)

    fits : IsTwinOfSession r.identity j.z.fti short.block j.datagrams j.object (made_of j.object)
    fits =
        let inside = rw fti_is at found.0.inside in
        let few = rw fti_is at found.0.few in
        j.twins.1 j.datagrams (made_of j.object) j.framed
        (subst (λ (f : Fti). IsTwin j.z.fti short.block short.arrived_esis.items j.object (twin_bytes f short.block short.arrived_esis.items j.object)) (sym fti_is)
        (is_twin_bytes j.z.fti j.read.1.1.0.0.fti short.block inside short.arrived_esis.items j.object form few))

    gives : Gives (Twin r) (Datagrams j.datagrams ∷ Bytes j.object ∷ Polynomials j.z ∷ []) (outcome_with (made_of j.object))
    gives = (thin, j.judged, (made_of j.object, fits, (refl, refl, refl)))

    -- the object's file holds it
    content_is : (content : Option (List ℕ)) → Holds (Some held) r.object.now (λ bytes. content ≡ Some bytes) → content ≡ Some j.object
    content_is content given =
        let there = j.read.1.0 in
        let same : given.0 ≡ there.0 = some_same (sym given.1 ∙ there.1) in
        given.2 ∙ ap Some (same ∙ there.2)

  pub may_make : (files : Option Files) → IsFoundIn files r (No (Thin short.block short.have short.need)) (Some short) → MayCreate files (Twin r)
  may_make None found = (
    Opened None ∷ Opened None ∷ Opened None ∷ [],
    outcome_with [],
    [],
    (tt, ((refl, refl), ((refl, refl), tt))),
    (thin, ([], tt, (refl, refl, refl))),
    refl,
  )
  may_make (Some held) found = (
    Datagrams found.1.datagrams ∷ Bytes found.1.object ∷ Polynomials found.1.z ∷ [],
    outcome_with (made_of found.1.object),
    made_of found.1.object,
    found.1.read,
    gives held found,
    refl,
  )

  -- what was written
  written_out : (files : Option Files) → IsFoundIn files r (No (Thin short.block short.have short.need)) (Some short) → (content blank contents : Option (List ℕ)) → Holds files r.object.now (λ bytes. content ≡ Some bytes)
      → ((o : List ℕ) → content ≡ Some o → length o ≡ short.fti.transfer_length → Appends blank contents (twin_bytes short.fti short.block short.arrived_esis.items o)) → AppendsAny blank contents
      → (bytes : List ℕ) × Appends blank contents bytes × ((values : List Value) × HaveValues files (inputs_of (Twin r)) values × Gives (Twin r) values (outcome_with bytes))
  written_out None found content blank contents given written any =
      (any.0, any.1, (Opened None ∷ Opened None ∷ Opened None ∷ [], (tt, ((refl, refl), ((refl, refl), tt))), (thin, (any.0, tt, (refl, refl, refl)))))
  written_out (Some held) found content blank contents given written any = (
    made_of found.1.object,
    written found.1.object (content_is held found content given) (long held found),
    (Datagrams found.1.datagrams ∷ Bytes found.1.object ∷ Polynomials found.1.z ∷ [], found.1.read, gives held found),
  )

  pub short_made : (old mid new : World) → IsFoundIn old.files r (No (Thin short.block short.have short.need)) (Some short) → (content blank contents : Option (List ℕ))
      → Holds old.files r.object.now (λ bytes. content ≡ Some bytes)
      → ((o : List ℕ) → content ≡ Some o → length o ≡ short.fti.transfer_length → Appends blank contents (twin_bytes short.fti short.block short.arrived_esis.items o)) → AppendsAny blank contents
      → IfSome old.files (λ held. blank ≡ Some []) → mid.files ≡ old.files → IfSome contents (Replaces mid.files new.files r.output.name.now)
      → HasAsked old new r.output → IsFree old.files r.output.name.now r.output.no_clobber → new.printed ≡ old.printed
      → (done : Done) → done.told ≡ Lines (line_of (short_text (codes "twin block") short.block short.have short.need)) → done.status ≡ 0 → HasMade old new (Twin r) done
  short_made old mid new found content blank contents given written any empty same kept created free silent done lines status =
      let w = written_out old.files found content blank contents given written any in
      record {
        outcome = outcome_with w.0;
        makes = record {
          values = w.2.0;
          read = w.2.1;
          gives = w.2.2;
          made = (kept_whole old.files mid.files new.files r.output.name.now w.0 blank contents empty w.1 same kept, created, free);
        };
        text = ap text_of (sym lines);
        status = sym status;
        silent = silent;
      }

  -- why it wasn't
  a_value : (files : Option Files) → IsFoundIn files r (No (Thin short.block short.have short.need)) (Some short) → (value : Value) × HasValue files (ASession r.session.now) value
  a_value None found = (Datagrams [], tt)
  a_value (Some held) found = (Datagrams found.1.datagrams, found.1.read.0)

  lost : (w : World) (files : Option Files) → w.files ≡ files → IsFoundIn files r (No (Thin short.block short.have short.need)) (Some short) → (content : Option (List ℕ)) (reliable : Bool)
      → GivesFile w r.object.now content reliable → ((o : List ℕ) → content ≡ Some o → short.fti.transfer_length ≤ length o → reliable ≡ false) → MayFail w (Reading r.object.now)
  lost w None is found content reliable given h = inl is
  lost w (Some held) is found content reliable given h =
      let there = content_is held found content (rw is at given.bytes) in
      let size = long held found in
      given.fails (h found.1.object there (omega (arith, size)))

  unwritten_because : (old new : World) → IsFoundIn old.files r (No (Thin short.block short.have short.need)) (Some short) → (content : Option (List ℕ)) (reliable : Bool) → GivesFile old r.object.now content reliable
      → (fault : Fault) → IsUntwinned short.fti.transfer_length content reliable r.object.now (unwritten.Fault fault) → IsBecause old new (Twin r) [] fault
  unwritten_because old new found content _ given (told_as.Open n) h = absurd h
  unwritten_because old new found content reliable given (told_as.File n) h =
      let value = a_value old.files found in
      by_unread old new (Twin r) [] (told_as.File n) (inr (value.0, value.1, inl (h.0, lost old old.files refl found content reliable given h.1)))
  unwritten_because old new found content _ given told_as.Memory h = tt
  unwritten_because old new found content _ given (told_as.Frame e) h = absurd h
  unwritten_because old new found content _ given (told_as.Certificate e) h = absurd h
  unwritten_because old new found content _ given (told_as.Fti e) h = absurd h
  unwritten_because old new found content _ given (told_as.Send e) h = absurd h
  unwritten_because old new found content _ given (told_as.NoPlace n) h = absurd h

  pub unwritten_why : (old new : World) → IsFoundIn old.files r (No (Thin short.block short.have short.need)) (Some short) → (content : Option (List ℕ)) (reliable : Bool) → GivesFile old r.object.now content reliable
      → (written : Result ℕ Unwritten) → IfErr written (IsUntwinned short.fti.transfer_length content reliable r.object.now)
      → (fault : Fault) → written ≡ Err (unwritten.Fault fault) → IsBecause old new (Twin r) [] fault
  unwritten_why old new found content reliable given written h fault is =
      unwritten_because old new found content reliable given fault
      (subst (λ (x : Result ℕ Unwritten). IfErr x (IsUntwinned short.fti.transfer_length content reliable r.object.now)) is h)

  -- or what was read for it has changed since
  pub unwritten_again : (old new : World) → IsFoundIn old.files r (No (Thin short.block short.have short.need)) (Some short) → (content : Option (List ℕ)) (reliable : Bool)
      → GivesFile old r.object.now content reliable → (own : Result ℕ Unwritten) → IfErr own (IsUntwinned short.fti.transfer_length content reliable r.object.now) → (written : Result ℕ Unwritten)
      → IfErr written (λ e. (own ≡ Err e) ⊎ IsUnwrittenAgain reliable r.object.now e) → (fault : Fault) → written ≡ Err (unwritten.Fault fault) → IsBecause old new (Twin r) [] fault
  unwritten_again old new found content reliable given own why (Ok n) h fault is = absurd (cc)
  unwritten_again old new found content reliable given own why (Err e) (inl same) fault is = unwritten_why old new found content reliable given own why fault (same ∙ is)
  unwritten_again old new found content reliable given own why (Err e) (inr again) fault is = changed fault (subst (λ (u : Unwritten). IsUnwrittenAgain reliable r.object.now u) (fault_of_err e fault is) again)
    where
      changed : (f : Fault) → HasChanged reliable r.object.now f → IsBecause old new (Twin r) [] f
      changed f h = (let value = a_value old.files found in by_unread old new (Twin r) [] f (inr (value.0, value.1, inl (object_changed old r.object.now reliable given.fails f h))))
