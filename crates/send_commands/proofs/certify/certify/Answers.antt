use Rattle.std.proofs.Common.{◌∙◌, ℕ, [], ap}
use Rattle.partition.specs.FtiFault.{fti_fault}
use Rattle.request.specs.declared.requests.Request.TheVariants.{Certify}
use Rattle.commands.specs.Commands.{sized}
use Rattle.commands.specs.declared.fault.Fault.TheVariants.{Fti as WrongFti}
use Rattle.send_commands.proofs.Making.{told_object}
use Rattle.commands.proofs.Stopping.{passed_on, stopped, by_refused}
use Rattle.send_commands.proofs.certify.certify.Goals as goal

pub returns-in_err-fti-in-Some-clause-fault : goal.returns-in_err-fti-in-Some-clause-fault
returns-in_err-fti-in-Some-clause-fault g c =
    let w = g.H.Host.world c.args.host.now in
    let r = c.args.request.now in
    let fault = WrongFti c.in_err-fti-in-Some.field-0.0 in
    let told = told_object w.files r.object.now _ c.in-Some.length c.in_ok-input.ensures.input.bytes c.in-Some.ensures.length in
    passed_on c.from_residual-in_err-fti-in-Some.result fault _ c.from_residual-in_err-fti-in-Some.ensures.1
    (stopped w (Certify r) fault (by_refused w w (Certify r) [] fault
    (told.0, told.1, ap (λ (m : ℕ). fti_fault (sized r.sizes m)) told.2 ∙ c.in_err-fti-in-Some.ensures.fault)))
