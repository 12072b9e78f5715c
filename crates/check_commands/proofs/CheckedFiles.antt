-- Files that were checked where they stand, by their parts.
use Rattle.std.proofs.Common.{◌≡◌, ◌∙◌, ◌⊎◌, ℕ, Bool, false, List, [], ◌∷◌, Option, Some, None, Result, Ok, Err, inl, inr, refl, sym, subst}
use Rattle.std.specs.Prelude.{IfErr, IfOk}
use Rattle.check_commands.specs.declared.check.Answered.{Answered}
use Rattle.std.specs.Borrow.{Bor}
use Rattle.session.specs.declared.frame.FrameFault.{FrameFault}
use Rattle.certificate.specs.Certificate.{Certificate, text_fault}
use Rattle.certificate.specs.InFile.{IsLost}
use Rattle.certificate.specs.declared.certificate.CertFault.{CertFault}
use Rattle.certificate.specs.declared.certificate.CertFault.TheVariants as certificate_fault
use Rattle.cert.specs.Report.{OnYes}
use Rattle.cert.specs.declared.verdict.Survey.{Survey}
use Rattle.cert.specs.declared.verdict.Verdict.{Verdict}
use Rattle.cert.specs.declared.verdict.Verdict.TheVariants.{Yes, No}
use Rattle.reception.specs.declared.scope.Identity.{Identity}
use Rattle.file_check.specs.Files.{IsFaultUntold, IsFilesFault, IsNoCertificate, IsSurveyOnSome, IsVerdictOnSome, Reliable, WhereTold}
use Rattle.cert.specs.declared.fault.CheckFault.{CheckFault}
use Rattle.cert.specs.declared.fault.CheckFault.TheVariants as check_fault
use Rattle.request.specs.declared.requests.CheckRequest.{CheckRequest}
use Rattle.request.specs.declared.requests.Request.TheVariants.{Check}
use Rattle.host.specs.World.{Files, GivesFile, Holds, MayFail, Reading, World}
use Rattle.commands.specs.Inputs.{ACertificate, AnObject, Bytes, HasValue, HaveValues, IsUnread, Opened, Polynomials, Value}
use Rattle.commands.specs.Commands.{Refuses, inputs_of}
use Rattle.commands.specs.Outcomes.{IsBecause}
use Rattle.commands.specs.Doing.{HasStopped}
use Rattle.check_commands.specs.Checks.{HaveChanged, IsNotChecked, OfFiles}
use Rattle.check_commands.specs.CheckFaults.{fault_of}
use Rattle.check_commands.specs.Summing.{CanBeSummed}
use Rattle.commands.specs.declared.fault.Fault.{Fault}
use Rattle.commands.specs.declared.fault.Fault.TheVariants as told_as
use Rattle.check_commands.proofs.Pictured.{has_block}
use Rattle.commands.proofs.Passing.{certificate_changed, object_changed}
use Rattle.commands.proofs.Stopping.{by_refused, by_unread, stopped}
use Rattle.commands.specs.ReadingInputs.{HasChanged}
use Rattle.commands.proofs.Holding.{holds_told}

-- the files are told, or they aren't
told_or_not : (files : Option Files) → (files ≡ None) ⊎ ((held : Files) × (files ≡ Some held))
told_or_not None = inl refl
told_or_not (Some held) = inr (held, refl)

-- what was opened gives an object's bytes
pub an_object : (files : Option Files) (name : List ℕ) (content : Option (List ℕ)) → Holds files name (λ bytes. content ≡ Some bytes) → (value : Value) × HasValue files (AnObject name) value
an_object None name content h = (Bytes [], tt)
an_object (Some held) name content h = (Bytes h.0, (h.0, h.1, refl))

-- of a file of which nothing is told, the host tells nothing
untold_then : (files : Option Files) (name : List ℕ) (content : Option (List ℕ)) → Holds files name (λ bytes. content ≡ Some bytes) → content ≡ None → files ≡ None
untold_then None name content h e = refl
untold_then (Some held) name content h e = absurd (let is = h.2 in cc)

module _ (w : World) (name : Bor (List ℕ)) (content : Option (List ℕ)) (reliable : Bool) (given : GivesFile w name.now content reliable) where
  lost : IsLost content reliable → MayFail w (Reading name.now)
  lost (inl none) = inl (untold_then w.files name.now content given.bytes none)
  lost (inr fails) = given.fails fails

  pub no_certificate : (e : CertFault) → IsNoCertificate content reliable e → IsUnread w (ACertificate name.now) (told_as.Certificate e)
  no_certificate certificate_fault.Magic h = holds_told w.files name.now content (λ x. text_fault x ≡ Some certificate_fault.Magic) given.bytes h.0
  no_certificate (certificate_fault.Fti f) h = holds_told w.files name.now content (λ x. text_fault x ≡ Some (certificate_fault.Fti f)) given.bytes h.0
  no_certificate certificate_fault.Size h = holds_told w.files name.now content (λ x. text_fault x ≡ Some certificate_fault.Size) given.bytes h.0
  no_certificate certificate_fault.Io h = lost (h.1 refl)
  no_certificate certificate_fault.NoMemory h = tt
  no_certificate certificate_fault.OtherIdentity h = absurd h.0

-- the second of a check's files isn't had, or the third
pub object_unhad : (w : World) (r : CheckRequest) (session : Option (List ℕ)) → Holds w.files r.session.now (λ bytes. session ≡ Some bytes)
    → (fault : Fault) → IsUnread w (AnObject r.object.now) fault → HasStopped w w (Check r) fault
object_unhad w r session held fault why = stopped w (Check r) fault (by_unread w w (Check r) [] fault (inr (Opened session, held, inl why)))

pub certificate_unhad : (w : World) (r : CheckRequest) (session : Option (List ℕ)) → Holds w.files r.session.now (λ bytes. session ≡ Some bytes)
    → (value : Value) → HasValue w.files (AnObject r.object.now) value → (fault : Fault) → IsUnread w (ACertificate r.certificate.now) fault → HasStopped w w (Check r) fault
certificate_unhad w r session held value has fault why =
    stopped w (Check r) fault (by_unread w w (Check r) [] fault (inr (Opened session, held, inr (value, has, inl why))))

module _ (w : World) (r : CheckRequest) (session object text : Option (List ℕ)) (s o t : Bool) (gives_session : GivesFile w r.session.now session s) (gives_object : GivesFile w r.object.now object o)
    (gives_text : GivesFile w r.certificate.now text t) where
  abbrev reliable : Reliable
  reliable = record { session = s; object = o; certificate = t }

  -- what was told of the bytes, where the host tells them
  module _ (held : Files) (told : w.files ≡ Some held) where
    session_held : Holds (Some held) r.session.now (λ bytes. session ≡ Some bytes)
    session_held = rw told at gives_session.bytes

    object_held : Holds (Some held) r.object.now (λ bytes. object ≡ Some bytes)
    object_held = rw told at gives_object.bytes

    text_held : Holds (Some held) r.certificate.now (λ bytes. text ≡ Some bytes)
    text_held = rw told at gives_text.bytes

    where_told : (Fact : List ℕ → List ℕ → List ℕ → Type 0) → WhereTold session object text Fact → Fact session_held.0 object_held.0 text_held.0
    where_told Fact h = h session_held.0 object_held.0 text_held.0 session_held.2 object_held.2 text_held.2

  because_frame : (e : FrameFault) → IsFaultUntold s text t (check_fault.Frame e) → (w.files ≡ None) ⊎ ((held : Files) × (w.files ≡ Some held)) → WhereTold session object text (λ x y z. IsFilesFault r.identity reliable x y z (check_fault.Frame e))
      → Refuses w (Check r) [] (told_as.Frame e)
  because_frame e untold (inl none) h = (λ io. gives_session.fails (untold.1 io), inl (none, untold.0.0, untold.0.1))
  because_frame e untold (inr (held, told)) h =
      let fact = where_told held told (λ x y z. IsFilesFault r.identity reliable x y z (check_fault.Frame e)) h in
      let x = session_held held told in
      let y = object_held held told in
      let z = text_held held told in (
        λ io. gives_session.fails (fact.2.1 io),
        inr (
          Some x.0,
          y.0,
          fact.0,
          fact.2.0.0,
          fact.2.0.1,
          subst (λ (files : Option Files). HaveValues files (inputs_of (Check r)) (Opened (Some x.0) ∷ Bytes y.0 ∷ Polynomials fact.0 ∷ [])) (sym told)
              ((x.0, x.1, refl), ((y.0, y.1, refl), ((fact.1.0, (z.0, z.1, fact.1.1)), tt))),
          fact.2.0.2,
        ),
      )

  because_session : (w.files ≡ None) ⊎ ((held : Files) × (w.files ≡ Some held)) → WhereTold session object text (λ x y z. IsFilesFault r.identity reliable x y z check_fault.Session) → MayFail w (Reading r.session.now)
  because_session (inl none) h = inl none
  because_session (inr (held, told)) h = gives_session.fails (where_told held told (λ x y z. IsFilesFault r.identity reliable x y z check_fault.Session) h).2

  because_object : (w.files ≡ None) ⊎ ((held : Files) × (w.files ≡ Some held)) → WhereTold session object text (λ x y z. IsFilesFault r.identity reliable x y z check_fault.Object) → MayFail w (Reading r.object.now)
  because_object (inl none) h = inl none
  because_object (inr (held, told)) h = gives_object.fails (where_told held told (λ x y z. IsFilesFault r.identity reliable x y z check_fault.Object) h).2

  because_files : (fault : CheckFault) → IsFaultUntold s text t fault → WhereTold session object text (λ x y z. IsFilesFault r.identity reliable x y z fault) → IsBecause w w (Check r) [] (fault_of r.session r.object fault)
  because_files (check_fault.Frame e) untold h = by_refused w w (Check r) [] (told_as.Frame e) (because_frame e untold (told_or_not w.files) h)
  because_files check_fault.Session untold h = by_refused w w (Check r) [] (told_as.File r.session) (refl, because_session (told_or_not w.files) h)
  because_files check_fault.Object untold h =
      by_unread w w (Check r) [] (told_as.File r.object) (inr (Opened session, gives_session.bytes, inl (refl, because_object (told_or_not w.files) h)))
  because_files (check_fault.Certificate e) untold h =
      let value = an_object w.files r.object.now object gives_object.bytes in
      by_unread w w (Check r) [] (told_as.Certificate e)
      (inr (Opened session, gives_session.bytes, inr (value.0, value.1, inl (no_certificate w r.certificate text t gives_text e untold))))
  because_files check_fault.NoMemory untold h = tt

  pub unchecked : (fault : CheckFault) → IsFaultUntold s text t fault → WhereTold session object text (λ x y z. IsFilesFault r.identity reliable x y z fault) → HasStopped w w (Check r) (fault_of r.session r.object fault)
  unchecked fault untold h = stopped w (Check r) (fault_of r.session r.object fault) (because_files fault untold h)

  -- one of them was changed
  changed_session : (fault : Fault) → HasChanged s r.session.now fault → HasStopped w w (Check r) fault
  changed_session (told_as.File n) (is, not) = stopped w (Check r) (told_as.File n) (by_refused w w (Check r) [] (told_as.File n) (is, gives_session.fails not))
  changed_session (told_as.Open n) h = absurd h
  changed_session told_as.Memory h = absurd h
  changed_session (told_as.Frame e) h = absurd h
  changed_session (told_as.Certificate e) h = absurd h
  changed_session (told_as.Fti e) h = absurd h
  changed_session (told_as.Send e) h = absurd h
  changed_session (told_as.NoPlace n) h = absurd h

  pub changed_since : (fault : Fault) → HaveChanged (r.session.now, s) (r.object.now, o) (r.certificate.now, t) fault → HasStopped w w (Check r) fault
  changed_since fault (inl h) = changed_session fault h
  changed_since fault (inr (inl h)) = object_unhad w r session gives_session.bytes fault (object_changed w r.object.now o gives_object.fails fault h)
  changed_since fault (inr (inr h)) =
      let value = an_object w.files r.object.now object gives_object.bytes in
      certificate_unhad w r session gives_session.bytes value.0 value.1 fault (certificate_changed w r.certificate.now t gives_text.fails fault h)

  of_files : (Fact : List ℕ → List ℕ → List ℕ → Type 0) → (files : Option Files) → files ≡ w.files → WhereTold session object text Fact → OfFiles files r Fact
  of_files Fact None is h = tt
  of_files Fact (Some held) is h =
      let x = session_held held (sym is) in
      let y = object_held held (sym is) in
      let z = text_held held (sym is) in
      (x.0, y.0, z.0, x.1, y.1, z.1, where_told held (sym is) Fact h)

  pub is_of_files : (Fact : List ℕ → List ℕ → List ℕ → Type 0) → WhereTold session object text Fact → OfFiles w.files r Fact
  is_of_files Fact h = of_files Fact w.files refl h

-- ---- a verdict on some datagrams

pub some_summed : (who : Identity) (verdict : Verdict) → IsVerdictOnSome who verdict → OnYes verdict CanBeSummed
some_summed who (Yes report) (ds, f, valid, is) = has_block who ds f valid report is
some_summed who (No reason) h = tt

-- and with a survey
pub some_verdict : (who : Identity) (verdict : Verdict) (survey : Option Survey) → IsSurveyOnSome who verdict survey → IsVerdictOnSome who verdict
some_verdict who verdict survey (ds, f, valid, is, surveyed) = (ds, f, valid, is)

-- of frames that come after the object and the certificate were read
unchecked_frames : (w : World) (r : CheckRequest) (sound : Bool) (opened : Option (List ℕ)) (object : List ℕ) (z : Certificate)
    → HaveValues w.files (inputs_of (Check r)) (Opened opened ∷ Bytes object ∷ Polynomials z ∷ []) → (sound ≡ false → MayFail w (Reading r.session.now))
    → (fault : Fault) → IsNotChecked r.identity sound opened object z fault → HasStopped w w (Check r) fault
unchecked_frames w r sound opened object z have fails (told_as.Open n) h = absurd h
unchecked_frames w r sound opened object z have fails (told_as.File n) h = absurd h
unchecked_frames w r sound opened object z have fails told_as.Memory h = stopped w (Check r) told_as.Memory tt
unchecked_frames w r sound opened object z have fails (told_as.Frame e) h =
    stopped w (Check r) (told_as.Frame e) (by_refused w w (Check r) [] (told_as.Frame e) (λ io. fails (h.3 io), inr (opened, object, z, h.0, h.1, have, h.2)))
unchecked_frames w r sound opened object z have fails (told_as.Certificate e) h = absurd h
unchecked_frames w r sound opened object z have fails (told_as.Fti e) h = absurd h
unchecked_frames w r sound opened object z have fails (told_as.Send e) h = absurd h
unchecked_frames w r sound opened object z have fails (told_as.NoPlace n) h = absurd h

pub frames_stopped : (w : World) (r : CheckRequest) (sound : Bool) (opened : Option (List ℕ)) (object : List ℕ) (z : Certificate)
    → HaveValues w.files (inputs_of (Check r)) (Opened opened ∷ Bytes object ∷ Polynomials z ∷ []) → (sound ≡ false → MayFail w (Reading r.session.now))
    → (result : Result Answered Fault) → IfErr result (IsNotChecked r.identity sound opened object z) → IfErr result (HasStopped w w (Check r))
frames_stopped w r sound opened object z have fails (Ok answered) h = tt
frames_stopped w r sound opened object z have fails (Err fault) h = unchecked_frames w r sound opened object z have fails fault h
