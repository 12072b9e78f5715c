use Rattle.std.proofs.Common.{rules}
use Rattle.certificate.proofs.Consuming.{coefficients_fault}
use Rattle.certificate.proofs.certificate.Certificate.read.Goals as goal

pub returns-in-Err-clause-fault : goal.returns-in-Err-clause-fault
returns-in-Err-clause-fault g c =
    coefficients_fault c.in-Err.fault _ _ _ c.in_ok-head.head.name c.in_ok-head.head.fti c.in_ok-head.ensures.valid c.coefficients_of.ensures.valid c.in_ok-head.ensures.ok
    (λ e. rw c.coefficients_of.ensures.count at (c.in-Err.ensures.size e)) c.in-Err.ensures.fault

pub returns-clause-ok : goal.returns-clause-ok
returns-clause-ok g c = search rules
