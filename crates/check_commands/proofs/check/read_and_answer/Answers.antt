use Rattle.commands.specs.Inputs.{AnObject, Bytes, HasValue}
use Rattle.check_commands.proofs.CheckedFiles.{an_object, certificate_unhad, frames_stopped, object_unhad}
use Rattle.check_commands.proofs.Pictured.{held_told}
use Rattle.commands.proofs.Stopping.{passed_on}
use Rattle.check_commands.proofs.check.read_and_answer.Goals as goal

pub returns-in_err-object-clause-fault : goal.returns-in_err-object-clause-fault
returns-in_err-object-clause-fault g c =
    let w = g.H.Host.world c.args.host.now in
    let r = c.args.request.now in
    let fault = c.in_err-object.field-0.0 in
    passed_on c.from_residual-in_err-object.result fault _ c.from_residual-in_err-object.ensures.1
    (object_unhad w r _ c.in_ok-session.ensures.input.bytes fault c.in_err-object.ensures.fault)

pub returns-in_err-certificate-clause-fault : goal.returns-in_err-certificate-clause-fault
returns-in_err-certificate-clause-fault g c =
    let w = g.H.Host.world c.args.host.now in
    let r = c.args.request.now in
    let fault = c.in_err-certificate.field-0.0 in
    let value = an_object w.files r.object.now _ c.in_ok-object.ensures.content.bytes in
    passed_on c.from_residual-in_err-certificate.result fault _ c.from_residual-in_err-certificate.ensures.1
    (certificate_unhad w r _ c.in_ok-session.ensures.input.bytes value.0 value.1 fault c.in_err-certificate.ensures.fault)

pub returns-in_err-object-2-clause-fault : goal.returns-in_err-object-2-clause-fault
returns-in_err-object-2-clause-fault g c =
    let w = g.H.Host.world c.args.host.now in
    let r = c.args.request.now in
    let fault = c.in_err-object-2.field-0.0 in
    passed_on c.from_residual-in_err-object-2.result fault _ c.from_residual-in_err-object-2.ensures.1
    (object_unhad w r _ c.in_ok-session.ensures.input.bytes fault c.in_err-object-2.ensures.fault)

pub returns-in_err-certificate-2-clause-fault : goal.returns-in_err-certificate-2-clause-fault
returns-in_err-certificate-2-clause-fault g c =
    let w = g.H.Host.world c.args.host.now in
    let r = c.args.request.now in
    let fault = c.in_err-certificate-2.field-0.0 in
    passed_on c.from_residual-in_err-certificate-2.result fault _ c.from_residual-in_err-certificate-2.ensures.1
    (certificate_unhad w r _ c.in_ok-session.ensures.input.bytes (Bytes c.in_ok-object-2.object.items) c.in_ok-object-2.ensures.ok fault c.in_err-certificate-2.ensures.fault)

pub returns-clause-ok : goal.returns-clause-ok
returns-clause-ok g c =
    let w = g.H.Host.world c.args.host.now in
    let r = c.args.request.now in
    let object : HasValue (g.H.Host.world c.args.host.now).files (AnObject c.args.request.now.object.now) (Bytes c.as_slice.result.now) = rw c.as_slice.ensures.value c.in_ok-object-2.ensures.ok in
    held_told w.files r _ _ c.as_slice.result.now c.in_ok-certificate-2.certificate (c.in_ok-session.ensures.input.bytes, (object, (c.in_ok-certificate-2.ensures.ok, tt))) c.answer_of.result
    c.answer_of.ensures.ok

pub returns-clause-fault : goal.returns-clause-fault
returns-clause-fault g c =
    let w = g.H.Host.world c.args.host.now in
    let r = c.args.request.now in
    let object : HasValue (g.H.Host.world c.args.host.now).files (AnObject c.args.request.now.object.now) (Bytes c.as_slice.result.now) = rw c.as_slice.ensures.value c.in_ok-object-2.ensures.ok in
    frames_stopped w r _ _ c.as_slice.result.now c.in_ok-certificate-2.certificate (c.in_ok-session.ensures.input.bytes, (object, (c.in_ok-certificate-2.ensures.ok, tt)))
    c.in_ok-session.ensures.input.fails c.answer_of.result c.answer_of.ensures.fault
