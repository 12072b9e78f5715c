use Rattle.std.proofs.Common.{◌≡◌, ◌+◌, refl, ap, arith}
use Rattle.streams.proofs.AtOffsets.{cursor_start}
use Rattle.partition.proofs.Laws.{padded_below}
use Rattle.certificate.specs.Certificate.{coefficient_count}
use Rattle.certificate.specs.InFile.{front_of}
use Rattle.certificate.proofs.FileTexts.{has_it, has_other, holds_text, wrong_length}
use Rattle.certificate.proofs.in_file.CertificateFile.open.Goals as goal

pub overflow_add-front_of_name : goal.overflow_add-front_of_name
overflow_add-front_of_name g c =
    omega (arith, padded_below c.in_ok-head.head.fti c.coefficients_of.ensures.valid, c.coefficients_of.ensures.count, c.front_of_name.ensures.few)

pub has_length-requires : goal.has_length-requires
has_length-requires g c =
    omega (arith, padded_below c.in_ok-head.head.fti c.coefficients_of.ensures.valid, c.coefficients_of.ensures.count, c.front_of_name.ensures.few)

pub invariant_of-result : goal.invariant_of-result
invariant_of-result g c =
    let f = c.in_ok-head.head.fti in
    let name = c.in_ok-head.head.name in
    let valid = c.coefficients_of.ensures.valid in
    let front = c.new-front.result in
    let count : c.front_of_name.result + c.coefficients_of.result ≡ front_of name + coefficient_count f = rw (c.front_of_name.ensures.value, c.coefficients_of.ensures.count) refl in
    let long = has_it (g.C.ReadAt.content c.args.file.now) c.in-Ok-true.field-0 (front_of name + coefficient_count f) c.in-Ok-true.field-0-test (rw count at c.in-Ok-true.ensures.told) in
    record {
      valid = valid;
      text = holds_text f name valid c.in_ok-head.ensures.valid c.in_ok-head.ensures.name (g.C.ReadAt.content c.args.file.now) _ _
          (λ x told. cursor_start _ _ front.next front.end front.at (ap g.C.ReadAt.content c.new-front.ensures.file) c.new-front.ensures.next x told)
          c.in_ok-head.ensures.ok (g.C.ReadAt.content c.args.file.now) refl c.in-Ok-true.ensures.each long;
    }

pub returns-in-Ok-false-clause-fault : goal.returns-in-Ok-false-clause-fault
returns-in-Ok-false-clause-fault g c =
    let f = c.in_ok-head.head.fti in
    let name = c.in_ok-head.head.name in
    let valid = c.coefficients_of.ensures.valid in
    let front = c.new-front.result in
    let count : c.front_of_name.result + c.coefficients_of.result ≡ front_of name + coefficient_count f = rw (c.front_of_name.ensures.value, c.coefficients_of.ensures.count) refl in
    wrong_length f name valid c.in_ok-head.ensures.valid c.in_ok-head.ensures.name (g.C.ReadAt.content c.args.file.now) _ _
    (λ x told. cursor_start _ _ front.next front.end front.at (ap g.C.ReadAt.content c.new-front.ensures.file) c.new-front.ensures.next x told)
    c.in_ok-head.ensures.ok (g.C.ReadAt.content c.args.file.now) refl
    (has_other (g.C.ReadAt.content c.args.file.now) c.in-Ok-false.field-0 (front_of name + coefficient_count f) c.in-Ok-false.field-0-test (rw count at c.in-Ok-false.ensures.told))
