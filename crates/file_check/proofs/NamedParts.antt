-- Why there is no verdict by the certificate of a text.
use Rattle.std.proofs.Common.{List, ℕ}
use Rattle.reception.specs.declared.scope.Identity.{Identity}
use Rattle.certificate.specs.Certificate.{Certificate}
use Rattle.file_check.specs.Files.{Reliable, IsFilesFault, IsNoVerdict, IsTextOf}
use Rattle.cert.specs.declared.fault.CheckFault.{CheckFault}
use Rattle.cert.specs.declared.fault.CheckFault.TheVariants.{Frame, Session, Object, Certificate as NoCertificate, NoMemory}

pub no_verdict : (who : Identity) (reliable : Reliable) (x o text : List ℕ) (z : Certificate) → IsTextOf text z → (fault : CheckFault)
    → IsNoVerdict who reliable x o z fault → IsFilesFault who reliable x o text fault
no_verdict who reliable x o text z is (Frame e) h = (z, is, h)
no_verdict who reliable x o text z is Session h = (z, is, h)
no_verdict who reliable x o text z is Object h = (z, is, h)
no_verdict who reliable x o text z is (NoCertificate e) h = tt
no_verdict who reliable x o text z is NoMemory h = (z, is, h)
