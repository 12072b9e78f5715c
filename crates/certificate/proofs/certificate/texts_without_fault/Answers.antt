use Rattle.certificate.proofs.TextsWithoutFault.{a_text, has_no_fault}
use Rattle.certificate.proofs.certificate.texts_without_fault.Goals as goal

pub returns : goal.returns
returns c = λ x bytes. (a_text x bytes, has_no_fault x)
