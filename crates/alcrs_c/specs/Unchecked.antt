-- Why there is no verdict.
use Rattle.std.specs.Prelude.{◌≡◌, ℕ, List, Some, ⊤}
use Rattle.reception.specs.declared.scope.Identity.{Identity}
use Rattle.certificate.specs.Certificate.{text_fault}
use Rattle.alcrs_c.specs.Checked.{IsCutOff}
use Rattle.cert.specs.declared.fault.CheckFault.{CheckFault}
use Rattle.cert.specs.declared.fault.CheckFault.TheVariants.{Frame, Certificate, NoMemory}

-- the first fault of the certificate's bytes, or of the session's behind frames, or want of memory
abbrev pub IsUnchecked : Identity → List ℕ → List ℕ → List ℕ → CheckFault → Type 0
IsUnchecked who session object certificate (Frame e) = IsCutOff who session object certificate e
IsUnchecked who session object certificate (Certificate e) = text_fault certificate ≡ Some e
IsUnchecked who session object certificate NoMemory = ⊤
IsUnchecked who session object certificate _ = ⊥
