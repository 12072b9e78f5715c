-- What reading a certificate consumed.
use Rattle.std.proofs.Common.{◌≡◌, ◌≢◌, ℕ, ◌<◌, Bool, true, false, List, [], ◌++◌, Option, Some, None, length, refl, sym, ap, ◌∙◌}
use Rattle.std.specs.Prelude.{Result, Ok, Err, IfErr, IfSome}
use Rattle.std.specs.Io.KnownBytes.{Consumes, IsAtEnd}
use Rattle.certificate.specs.declared.certificate.CertFault.{CertFault}
use Rattle.certificate.specs.declared.certificate.CertFault.TheVariants.{Magic, Fti as WrongFti, Size, Io, NoMemory, OtherIdentity}
use Rattle.partition.specs.Fti.{Fti, IsValidFti}
use Rattle.partition.specs.FtiFault.{fti_fault}
use Rattle.reception.specs.declared.scope.Identity.{Identity}
use Rattle.std.proofs.lemmas.List.{append-nil}
use Rattle.partition.specs.FtiBytes.{bytes_of_fti}
use Rattle.certificate.specs.Certificate.{coefficient_count, head_text, told_fti, text_fault, IsCertFault}
use Rattle.certificate.specs.CertificateReading.{IsTold, IsReadFault, IsHeadFault, head_length}
use Rattle.certificate.proofs.Texts.{wrong_size}
use Rattle.certificate.proofs.OneText.{fti_back}

-- a fault that is two things is a third
pub if_err : {A E : Type 0} (P Q S : E → Type 0) (r : Result A E) → ((e : E) → P e → Q e → S e) → IfErr r P → IfErr r Q → IfErr r S
if_err P Q S (Ok a) f p q = tt
if_err P Q S (Err e) f p q = f e p q

-- a fault of the bytes at the front of what a reader held
told_of : (e : CertFault) (old new : Option (List ℕ)) (x : List ℕ) → Consumes old new x → (length x < head_length x → IsAtEnd new)
    → IsHeadFault x e → IfSome old (λ y. text_fault y ≡ Some e)
told_of e None new x read end fault = tt
told_of e (Some y) None x read end fault = absurd read
told_of e (Some y) (Some rest) x read end fault = rw read (fault rest end)

pub head_fault : (e : CertFault) (old new : Option (List ℕ)) (failed : Bool) (x : List ℕ) → Consumes old new x → (length x < head_length x → IsAtEnd new)
    → IsTold e → IsHeadFault x e → IsCertFault e old failed
head_fault Magic old new failed x read end told fault = told_of Magic old new x read end fault
head_fault (WrongFti e) old new failed x read end told fault = told_of (WrongFti e) old new x read end fault
head_fault Size old new failed x read end told fault = told_of Size old new x read end fault
head_fault Io old new failed x read end told fault = absurd told
head_fault NoMemory old new failed x read end told fault = absurd told
head_fault OtherIdentity old new failed x read end told fault = absurd told

-- other than the right number of coefficients behind a head
pub size_behind : (name : Option Identity) (f : Fti) (rest : List ℕ) → fti_fault f ≡ None → IsValidFti f → length rest ≢ coefficient_count f
    → text_fault (head_text name f ++ rest) ≡ Some Size
unfolding head_text
size_behind None f rest good valid wrong =
    wrong_size (head_text None f) rest false refl (λ e. refl) refl f (ap (told_fti 0) (sym (append-nil (bytes_of_fti f))) ∙ fti_back f [] valid) good wrong
size_behind (Some who) f rest good valid wrong =
    wrong_size (head_text (Some who) f) rest true refl (λ e. absurd (cc)) refl f (ap (told_fti 0) (sym (append-nil (bytes_of_fti f))) ∙ fti_back f [] valid) good wrong

size_of_old : (old between : Option (List ℕ)) (name : Option Identity) (f : Fti) → fti_fault f ≡ None → IsValidFti f → Consumes old between (head_text name f)
    → IfSome between (λ x. length x ≢ coefficient_count f) → IfSome old (λ x. text_fault x ≡ Some Size)
size_of_old None between name f good valid p q = tt
size_of_old (Some x) None name f good valid p q = absurd p
size_of_old (Some x) (Some y) name f good valid p q = rw p (size_behind name f y good valid q)

-- a fault of the coefficients
pub coefficients_fault : (e : CertFault) (old between : Option (List ℕ)) (failed : Bool) (name : Option Identity) (f : Fti) → fti_fault f ≡ None → IsValidFti f
    → Consumes old between (head_text name f) → (e ≡ Size → IfSome between (λ x. length x ≢ coefficient_count f)) → IsReadFault e failed → IsCertFault e old failed
coefficients_fault Magic old between failed name f good valid p q r = absurd r
coefficients_fault (WrongFti x) old between failed name f good valid p q r = absurd r
coefficients_fault Size old between failed name f good valid p q r = size_of_old old between name f good valid p (q refl)
coefficients_fault Io old between failed name f good valid p q r = r
coefficients_fault NoMemory old between failed name f good valid p q r = tt
coefficients_fault OtherIdentity old between failed name f good valid p q r = absurd r
