use Rattle.std.proofs.Common.{◌∙◌, sym}
use Rattle.certificate.proofs.Texts.{wrong_magic}
use Rattle.certificate.proofs.head.told_head.Goals as goal

pub returns-clause-fault : goal.returns-clause-fault
returns-clause-fault c = λ rest end.
    wrong_magic c.args.bytes.now rest end (sym c.starts_with.ensures.value ∙ c.if-starts_with.false) (sym c.starts_with-2.ensures.value ∙ c.if-starts_with-2.false)
