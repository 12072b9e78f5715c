use Rattle.std.proofs.Common.{arith}
use Rattle.std.proofs.lemmas.Grind.{common_steps}
use Rattle.session.proofs.Writes.{then_some, front_some}
use Rattle.certificate.specs.Certificate.{Certificate, head_text, coefficients_text}
use Rattle.certificate.proofs.certificate.Certificate.write.Goals as goal

pub returns-in_default-clause-err : goal.returns-in_default-clause-err
returns-in_default-clause-err g c =
    let z : Certificate = record { fti = c.self.inside.fti; name = c.self.inside.name; coefficients = c.self.inside.coefficients.items } in
    rw (← c.self.view_is) (front_some _ _ (head_text z.name z.fti) (coefficients_text z.name z) c.in_default.ensures.err)

pub returns-in_default-write_coefficients-clause-err : goal.returns-in_default-write_coefficients-clause-err
returns-in_default-write_coefficients-clause-err g c =
    let z : Certificate = record { fti = c.self.inside.fti; name = c.self.inside.name; coefficients = c.self.inside.coefficients.items } in
    rw (← c.self.view_is)
    (then_some _ _ _ (head_text z.name z.fti) (coefficients_text z.name z) c.in-Ok.ensures.ok
    (rw (← c.self.view_is) at c.in_default-write_coefficients.ensures.err))

pub returns-in_default-clause-full : goal.returns-in_default-clause-full
returns-in_default-clause-full g c = grind (arith, common_steps) steps 2000000

pub returns-in_default-write_coefficients-clause-full :
    goal.returns-in_default-write_coefficients-clause-full
returns-in_default-write_coefficients-clause-full g c = grind (arith, common_steps) steps 2000000

pub returns-clause-ok : goal.returns-clause-ok
returns-clause-ok g c = grind (arith, common_steps) steps 2000000
