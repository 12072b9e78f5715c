use Rattle.std.proofs.Common.{◌≡◌, ◌∙◌, None, length, refl, sym}
use Rattle.reception.specs.Symbols.{IsObject}
use Rattle.certificate.specs.InFile.{certificate_in}
use Rattle.cert.specs.Tallying.{nothing, tallied_of}
use Rattle.cert.specs.declared.verdict.Reason.TheVariants.{OtherCertificate, ObjectLength}
use Rattle.cert.proofs.DatagramSteps.{fti_holds}
use Rattle.certificate.proofs.Results.{passed_on}
use Rattle.file_check.proofs.WholeTallies.{against_blocks, before, early_reason, file_fault, gives_object, index_of, refused, refused_next, untold_fault, whole_tally}
use Rattle.file_check.proofs.checking.tally_files.Goals as goal

pub returns-then-not-is_for-clause-found : goal.returns-then-not-is_for-clause-found
returns-then-not-is_for-clause-found g c = λ x o text sx so st.
    before c.args.identity x o (certificate_in text c.args.files.now.certificate.fti c.args.files.now.certificate.name) OtherCertificate (sym c.is_for.ensures ∙ c.if-not-is_for.true)

pub returns-in-Ok-false-clause-found : goal.returns-in-Ok-false-clause-found
returns-in-Ok-false-clause-found g c = λ x o text sx so st. (
    let told = rw so at c.in-Ok-false.ensures.told in
    before c.args.identity x o (certificate_in text c.args.files.now.certificate.fti c.args.files.now.certificate.name) ObjectLength
    (sym c.is_for.ensures ∙ c.if-not-is_for.false, λ e. (let has = told.1 (e ∙ sym c.transfer_length.ensures.value) in absurd (cc))))

pub compare_blocks-requires-clause-known : goal.compare_blocks-requires-clause-known
compare_blocks-requires-clause-known g c =
    let some = c.in_ok-index.ensures.some in
    fti_holds nothing c.args.files.now.certificate.fti (tallied_of c.in_ok-index.index.tally) some.1.datagrams some.1.tallied

pub returns-in_err-reason-clause-fault : goal.returns-in_err-reason-clause-fault
returns-in_err-reason-clause-fault g c = λ x o text sx so st. (
    let f = c.args.files.now.certificate.fti in
    let z = certificate_in text f c.args.files.now.certificate.name in
    let who = c.args.identity in
    let sound = g.S.ReadAt.reliable c.args.files.now.session.now in
    let is = c.in_ok-index.ensures.told x sx in
    let told = rw so at c.in-Ok-true.ensures.told in
    let long : length o ≡ f.transfer_length = told.0 c.in-Ok-true.field-0-test ∙ c.transfer_length.ensures.value in
    let index = index_of who x o z sound c.in_ok-index.index c.in_ok-index.end is in
    passed_on c.from_residual-in_err-reason.result c.in_err-reason.field-0.0 _ c.from_residual-in_err-reason.ensures.1
    (file_fault who x o z
    (record {
      session = g.S.ReadAt.reliable c.args.files.now.session.now;
      object = g.O.ReadAt.reliable c.args.files.now.object.now;
      certificate = g.C.ReadAt.reliable c.args.files.now.certificate.file.now;
    }) c.in_err-reason.field-0.0 (c.in_err-reason.ensures.fault x o text sx so st is.datagrams index long)))

pub returns-in-Some-clause-found : goal.returns-in-Some-clause-found
returns-in-Some-clause-found g c = λ x o text sx so st. (
    let f = c.args.files.now.certificate.fti in
    let z = certificate_in text f c.args.files.now.certificate.name in
    let who = c.args.identity in
    let sound = g.S.ReadAt.reliable c.args.files.now.session.now in
    let is = c.in_ok-index.ensures.told x sx in
    let told = rw so at c.in-Ok-true.ensures.told in
    let long : length o ≡ f.transfer_length = told.0 c.in-Ok-true.field-0-test ∙ c.transfer_length.ensures.value in
    let form : IsObject f o = record { count = long; bytes = rw so at c.in-Ok-true.ensures.each } in
    let index = index_of who x o z sound c.in_ok-index.index c.in_ok-index.end is in
    let against = rw c.in-Some.is at (c.in_ok-reason.ensures.against x o text sx so st is.datagrams index long) in
    against_blocks who x o z sound c.in_ok-index.index c.in_ok-index.end is c.in-Some.reason against (sym c.is_for.ensures ∙ c.if-not-is_for.false) form)

pub returns-in-File-clause-found : goal.returns-in-File-clause-found
returns-in-File-clause-found g c = λ x o text sx so st. (
    let f = c.args.files.now.certificate.fti in
    let z = certificate_in text f c.args.files.now.certificate.name in
    let who = c.args.identity in
    let sound = g.S.ReadAt.reliable c.args.files.now.session.now in
    let is = c.in_ok-index.ensures.told x sx in
    let told = rw so at c.in-Ok-true.ensures.told in
    let long : length o ≡ f.transfer_length = told.0 c.in-Ok-true.field-0-test ∙ c.transfer_length.ensures.value in
    let form : IsObject f o = record { count = long; bytes = rw so at c.in-Ok-true.ensures.each } in
    let index = index_of who x o z sound c.in_ok-index.index c.in_ok-index.end is in
    let are = c.in_ok-reason.ensures.compared x o text sx so st is.datagrams index long (rw c.in_default.is refl) in (
      whole_tally who x o z sound c.in_ok-index.index c.in_ok-index.end is are c.args.files.now.certificate.valid (rw c.in-File.is at is.ends),
      sym c.is_for.ensures ∙ c.if-not-is_for.false,
      form,
      gives_object who x o z sound c.in_ok-index.index c.in_ok-index.end is None are,
    ))

pub returns-in-Reason-clause-found : goal.returns-in-Reason-clause-found
returns-in-Reason-clause-found g c = λ x o text sx so st. (
    let f = c.args.files.now.certificate.fti in
    let z = certificate_in text f c.args.files.now.certificate.name in
    let who = c.args.identity in
    let sound = g.S.ReadAt.reliable c.args.files.now.session.now in
    let is = c.in_ok-index.ensures.told x sx in
    let told = rw so at c.in-Ok-true.ensures.told in
    let long : length o ≡ f.transfer_length = told.0 c.in-Ok-true.field-0-test ∙ c.transfer_length.ensures.value in
    let form : IsObject f o = record { count = long; bytes = rw so at c.in-Ok-true.ensures.each } in
    let index = index_of who x o z sound c.in_ok-index.index c.in_ok-index.end is in
    let are = c.in_ok-reason.ensures.compared x o text sx so st is.datagrams index long (rw c.in_default.is refl) in
    refused_next who x o z sound c.in_ok-index.index c.in_ok-index.end is are (sym c.is_for.ensures ∙ c.if-not-is_for.false) form c.in-Reason.reason (rw c.in-Reason.is at is.ends))

pub returns-in-Reason-clause-early : goal.returns-in-Reason-clause-early
returns-in-Reason-clause-early g c =
    let ends = rw c.in-Reason.is at c.in_ok-index.ensures.some.1.ends in
    early_reason ends.0 c.in_ok-index.index.tally.scope c.in_ok-index.index.tally.count c.in-Reason.reason ends.4

pub returns-in-Frame-clause-fault : goal.returns-in-Frame-clause-fault
returns-in-Frame-clause-fault g c = λ x o text sx so st. (
    let f = c.args.files.now.certificate.fti in
    let z = certificate_in text f c.args.files.now.certificate.name in
    let who = c.args.identity in
    let sound = g.S.ReadAt.reliable c.args.files.now.session.now in
    let is = c.in_ok-index.ensures.told x sx in
    let told = rw so at c.in-Ok-true.ensures.told in
    let long : length o ≡ f.transfer_length = told.0 c.in-Ok-true.field-0-test ∙ c.transfer_length.ensures.value in
    let form : IsObject f o = record { count = long; bytes = rw so at c.in-Ok-true.ensures.each } in
    let index = index_of who x o z sound c.in_ok-index.index c.in_ok-index.end is in
    let are = c.in_ok-reason.ensures.compared x o text sx so st is.datagrams index long (rw c.in_default.is refl) in
    refused who x o z sound c.in_ok-index.index c.in_ok-index.end is are (sym c.is_for.ensures ∙ c.if-not-is_for.false) form c.in-Frame.fault (rw c.in-Frame.is at is.ends))

pub returns-in-Frame-clause-untold : goal.returns-in-Frame-clause-untold
returns-in-Frame-clause-untold g c =
    let ends = rw c.in-Frame.is at c.in_ok-index.ensures.some.1.ends in
    ((ends.0.1, untold_fault c.in-Frame.fault _ ends.0.0 ends.0.1 ends.0.2), ends.1)
