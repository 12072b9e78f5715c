use Rattle.std.proofs.Common.{◌≡◌, refl}
use Rattle.certificate.specs.InFile.{certificate_in}
use Rattle.certificate.proofs.Results.{passed_on}
use Rattle.file_check.proofs.NamedParts.{no_verdict}
use Rattle.file_check.proofs.checking.check_files.Goals as goal

pub returns-in_err-found-clause-fault : goal.returns-in_err-found-clause-fault
returns-in_err-found-clause-fault g c = λ x o text sx so st. (
    let opened = c.in-Ok.opened in
    let s : opened.session.now ≡ c.args.files.now.session.now = c.in-Ok.ensures.session in
    let o_same : opened.object.now ≡ c.args.files.now.object.now = c.in-Ok.ensures.object in
    let z_same : opened.certificate.file.now ≡ c.args.files.now.certificate.now = c.in-Ok.ensures.certificate in
    let z = certificate_in text opened.certificate.fti opened.certificate.name in
    let valid = rw st at (rw z_same at opened.certificate.text) in
    let told = (rw (s, o_same, z_same) at c.in_err-found.ensures.fault) x o text sx so st in
    passed_on c.from_residual.result c.in_err-found.field-0.0 _ c.from_residual.ensures.1 (no_verdict c.args.identity _ x o text z valid c.in_err-found.field-0.0 told))

pub returns-clause-checked : goal.returns-clause-checked
returns-clause-checked g c = λ x o text sx so st. (
    let opened = c.in-Ok.opened in
    let s : opened.session.now ≡ c.args.files.now.session.now = c.in-Ok.ensures.session in
    let o_same : opened.object.now ≡ c.args.files.now.object.now = c.in-Ok.ensures.object in
    let z_same : opened.certificate.file.now ≡ c.args.files.now.certificate.now = c.in-Ok.ensures.certificate in
    let z = certificate_in text opened.certificate.fti opened.certificate.name in
    let valid = rw st at (rw z_same at opened.certificate.text) in
    let found = (rw (s, o_same, z_same) at c.in_ok-found.ensures.found) x o text sx so st in
    record { certificate = z; text_is = valid; fti = refl; found = found })
