use Rattle.certificate.proofs.OneText.{one_text}
use Rattle.certificate.proofs.certificate.one_certificate.Goals as goal

pub returns : goal.returns
returns c = one_text
