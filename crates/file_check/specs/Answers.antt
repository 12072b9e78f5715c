-- What a check of files has found, of which it answers.
use Rattle.std.specs.Prelude.{◌≡◌, ℕ, List, None, IfOk, IfErr}
use Rattle.partition.specs.Fti.{IsValidFti}
use Rattle.reception.specs.declared.scope.Identity.{Identity}
use Rattle.certificate.specs.Certificate.{Certificate}
use Rattle.cert.specs.Verdict.{short_of}
use Rattle.file_check.specs.Checked.{IsFoundIn, IsSomeTally}
use Rattle.file_check.specs.Files.{IsTextOf}
use Rattle.file_check.specs.declared.checking.Checked.{Checked}

-- a session's bytes, an object and a certificate's text were checked
pub record HasChecked (who : Identity) (session object text : List ℕ)
    (checked : Checked) : Type 0 where
  pub certificate : Certificate
  pub text_is : IsTextOf text certificate
  pub fti : checked.fti ≡ certificate.fti
  pub found : IsFoundIn who session object certificate checked.found

-- some files were checked, whatever they hold
pub record HasCheckedSome (who : Identity) (checked : Checked) : Type 0 where
  pub valid : IsValidFti checked.fti
  pub tally : IfOk checked.found (IsSomeTally who checked.fti)
  pub early : IfErr checked.found (λ reason. short_of reason ≡ None)
