-- Why no certificate was written of an object that comes from a reader, or only a beginning.
use Rattle.std.specs.Prelude.{◌≡◌, ℕ, List, true, Option, Some}
use Rattle.partition.specs.Fti.{Fti}
use Rattle.streams.specs.Changes.{ReaderChange, WriterChange}
use Rattle.reception.specs.declared.scope.Identity.{Identity}
use Rattle.certificate.specs.Certificate.{head_text}
use Rattle.encoder.specs.declared.certifying_from.CertifyFromFault.{CertifyFromFault}
use Rattle.encoder.specs.declared.certifying_from.CertifyFromFault.TheVariants.{Object, Write}
use Rattle.encoder.specs.declared.certifying_from.CertifyFromFault.TheVariants.{NoMemory}
use Rattle.encoder.specs.Certified.{BeginsRows}
use Rattle.encoder.specs.ObjectRead.{ReadsSome, IsObjectFault}

-- what was written begins the text that each object has which begins with what was read
abbrev pub BeginsText : Fti → Identity → (left old new : Option (List ℕ)) → Type 0
BeginsText f who left old new =
    ReadsSome f left (λ object. BeginsRows object f (head_text (Some who) f) old new)

-- by what became of the reader and of the writer
abbrev pub IsCertifyFromFault : CertifyFromFault → Fti → Identity → ReaderChange → WriterChange
    → Type 0
IsCertifyFromFault (Object e) f who r w =
    IsObjectFault e f r.before r.sound r.failed × BeginsText f who r.before w.before w.after
IsCertifyFromFault Write f who r w =
    BeginsText f who r.before w.before w.after × (w.failed ≡ true)
IsCertifyFromFault NoMemory f who r w = w.after ≡ w.before
