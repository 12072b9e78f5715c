-- Certificates that are converted.
use Rattle.std.proofs.Common.{◌≡◌, ◌∙◌, ℕ, Bool, List, [], Option, Some, None, Result, Err, inl, refl, sym, subst}
use Rattle.std.specs.Prelude.{IfSome, IfErr}
use Rattle.certificate.specs.Certificate.{Certificate, IsCertificate, certificate_text, text_fault}
use Rattle.certificate.specs.Converting.{IsOfOther, IsNameFault}
use Rattle.certificate.specs.declared.certificate.CertFault.{CertFault}
use Rattle.certificate.specs.declared.certificate.CertFault.TheVariants.{Magic, Fti as WrongFti, Size, Io, NoMemory, OtherIdentity}
use Rattle.request.specs.declared.requests.ConvertRequest.{ConvertRequest}
use Rattle.request.specs.declared.requests.Request.TheVariants.{Convert}
use Rattle.host.specs.World.{Files, World, MayFail, Reading, Holds, GivesFile}
use Rattle.commands.specs.Inputs.{ACertificate, AStream, Polynomials, Opened, HasValue}
use Rattle.commands.specs.Outcomes.{IsBecause}
use Rattle.send_commands.specs.Converted.{IsUnconverted}
use Rattle.commands.specs.declared.fault.Fault.{Fault}
use Rattle.commands.specs.declared.fault.Fault.TheVariants.{Open, File, Memory, Frame, Certificate as NoCertificate, Fti as NoFti, Send, NoPlace}
use Rattle.commands.specs.declared.output.Unwritten.{Unwritten}
use Rattle.commands.specs.declared.output.Unwritten.TheVariants as unwritten
use Rattle.commands.proofs.Stopping.{by_unread, by_refused}

-- the certificate that was read is the file's
pub gives_certificate : (files : Option Files) (name : List ℕ) (left : Option (List ℕ)) (z : Certificate) → IsCertificate z → HasValue files (AStream name) (Opened left)
    → IfSome left (λ x. x ≡ certificate_text z) → HasValue files (ACertificate name) (Polynomials z)
gives_certificate None name left z form held all = (form, tt)
gives_certificate (Some files) name None z form (bytes, there, left) all = absurd (cc)
gives_certificate (Some files) name (Some x) z form (bytes, there, left) all = (form, (bytes, there, sym (some_same left) ∙ all))
  where
    some_same : {A : Type 0} {a b : A} → Some a ≡ Some b → a ≡ b
    some_same e = cc

-- what holds of all that was left holds of the file
holds_left : (files : Option Files) (name : List ℕ) (left : Option (List ℕ)) (P : List ℕ → Type 0) → HasValue files (AStream name) (Opened left)
    → IfSome left P → Holds files name P
holds_left None name left P held h = tt
holds_left (Some files) name left P (bytes, there, is) h = (bytes, there, subst (λ (o : Option (List ℕ)). IfSome o P) is h)

-- why it isn't converted
pub unconverted : (old new : World) (r : ConvertRequest) (left : Option (List ℕ)) (e : CertFault) (failed : Bool) → HasValue old.files (AStream r.certificate.now) (Opened left)
    → IsNameFault e r.identity left failed → (e ≡ Io → MayFail old (Reading r.certificate.now)) → IsBecause old new (Convert r) [] (NoCertificate e)
unconverted old new r left Io failed held why fails = by_unread old new (Convert r) [] (NoCertificate Io) (inl (fails refl))
unconverted old new r left NoMemory failed held why fails = by_unread old new (Convert r) [] (NoCertificate NoMemory) (inl tt)
unconverted old new r left OtherIdentity failed held why fails =
    by_refused old new (Convert r) [] (NoCertificate OtherIdentity) (holds_left old.files r.certificate.now left (IsOfOther r.identity) held why)
unconverted old new r left Magic failed held why fails =
    by_unread old new (Convert r) [] (NoCertificate Magic) (inl (holds_left old.files r.certificate.now left (λ x. text_fault x ≡ Some Magic) held why))
unconverted old new r left (WrongFti f) failed held why fails =
    by_unread old new (Convert r) [] (NoCertificate (WrongFti f)) (inl (holds_left old.files r.certificate.now left (λ x. text_fault x ≡ Some (WrongFti f)) held why))
unconverted old new r left Size failed held why fails =
    by_unread old new (Convert r) [] (NoCertificate Size) (inl (holds_left old.files r.certificate.now left (λ x. text_fault x ≡ Some Size) held why))

module _ (old new : World) (r : ConvertRequest) (left : Option (List ℕ)) (sound : Bool) (input : GivesFile old r.certificate.now left sound) where
  for_fault : (f : Fault) → IsUnconverted r.identity left sound (unwritten.Fault f) → IsBecause old new (Convert r) [] f
  for_fault (Open n) why = absurd why
  for_fault (File n) why = absurd why
  for_fault Memory why = absurd why
  for_fault (Frame e) why = absurd why
  for_fault (NoCertificate e) why = unconverted old new r left e why.0.0 input.bytes why.0.1 (λ io. input.fails (why.1 io))
  for_fault (NoFti e) why = absurd why
  for_fault (Send e) why = absurd why
  for_fault (NoPlace n) why = absurd why

  pub because_unconverted : (w : Result ℕ Unwritten) → IfErr w (IsUnconverted r.identity left sound) → (f : Fault) → w ≡ Err (unwritten.Fault f) → IsBecause old new (Convert r) [] f
  because_unconverted w why f is = for_fault f (subst (λ (x : Result ℕ Unwritten). IfErr x (IsUnconverted r.identity left sound)) is why)
