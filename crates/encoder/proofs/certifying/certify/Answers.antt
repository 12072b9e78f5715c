use Rattle.std.proofs.Common.{◌≡◌, ◌∙◌, ℕ, List, length, drop, ap, sym, subst}
use Rattle.reception.specs.Symbols.{IsObject}
use Rattle.certificate.specs.Certificate.{Certificate, unnamed}
use Rattle.cert.specs.Verdict.{GivesObject}
use Rattle.block_code.proofs.SourceRows.{bytes_fit}
use Rattle.encoder.proofs.SessionReadings.{certifies_sent}
use Rattle.block_code.proofs.RowAdding.{take_front}
use Rattle.encoder.proofs.certifying.certify.Goals as goal

pub returns-clause-certifies : goal.returns-clause-certifies
returns-clause-certifies c =
    let z = c.in-Some.certificate in
    let whole : length c.args.object.now ≡ c.args.fti.now.transfer_length = c.in_ok-interpolators.ensures.whole in
    let fti = ap (λ (x : Certificate). x.fti.transfer_length) c.in-Some.ensures.parts in
    let form : IsObject z.fti c.args.object.now = record { count = whole ∙ sym fti; bytes = bytes_fit c.args.object.now c.type_inv.object } in
    let front = take_front c.in-Ok.coefficients.len c.certify_blocks.new.coefficients (drop (length c.certify_blocks.new.coefficients) c.in-Ok.coefficients.items) (sym (c.certify_blocks.ensures.len ∙ c.deref_mut.ensures.len)) in
    let gives : GivesObject c.args.object.now z =
    subst (GivesObject c.args.object.now) (sym c.in-Some.ensures.parts)
    (subst (λ (l : List ℕ). GivesObject c.args.object.now (unnamed c.args.fti.now l)) (sym front) c.certify_blocks.ensures.gives) in
    certifies_sent z c.args.object.now c.in-Some.ensures.certificate (ap (λ (x : Certificate). x.name) c.in-Some.ensures.parts) form gives

pub returns-clause-gives : goal.returns-clause-gives
returns-clause-gives c =
    let z = c.in-Some.certificate in
    let front = take_front c.in-Ok.coefficients.len c.certify_blocks.new.coefficients (drop (length c.certify_blocks.new.coefficients) c.in-Ok.coefficients.items) (sym (c.certify_blocks.ensures.len ∙ c.deref_mut.ensures.len)) in
    let gives : GivesObject c.args.object.now z =
    subst (GivesObject c.args.object.now) (sym c.in-Some.ensures.parts)
    (subst (λ (l : List ℕ). GivesObject c.args.object.now (unnamed c.args.fti.now l)) (sym front) c.certify_blocks.ensures.gives) in
    gives
