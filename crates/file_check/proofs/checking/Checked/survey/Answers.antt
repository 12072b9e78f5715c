use Rattle.cert.specs.Tallying.{by_certificate}
use Rattle.file_check.proofs.Answering.{survey_told}
use Rattle.file_check.proofs.checking.Checked.survey.Goals as goal

pub returns-in-Ok-clause-verdict : goal.returns-in-Ok-clause-verdict
returns-in-Ok-clause-verdict c = λ who x o text h. (
    let z = h.certificate in
    let found = rw c.in-Ok.is at h.found in
    let w = found.0 in
    survey_told who x o text z h.text_is c.in-Ok.tally found c.survey.result (c.survey.ensures.verdict z w.datagrams w.tallied)
    (c.survey.ensures.report (by_certificate z) z.fti w.datagrams w.each w.tallied) (c.survey.ensures.survey (by_certificate z) z.fti w.datagrams w.each w.tallied))
