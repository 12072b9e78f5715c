use Rattle.std.proofs.Common.{◌≡◌, Some, Ok, rules}
use Rattle.cert.specs.Tallying.{by_certificate}
use Rattle.cert.proofs.Feeding.{goes_on, its_tally, no_read, survey_read}
use Rattle.cert.proofs.checker.Checker.survey.Goals as goal

pub returns-in_ok-end-in-Some : goal.returns-in_ok-end-in-Some
returns-in_ok-end-in-Some c = λ who object z old new h.
    let ended : c.args.self.now.ended ≡ Some (Ok c.in_ok-end-in-Some.field-0) = search rules in
    record { checked = no_read c.args.self.now who object z old new h c.in_ok-end-in-Some.field-0 ended; surveyed = tt }

pub returns-in-None : goal.returns-in-None
returns-in-None c = λ who object z old new h.
    let checker = c.args.self.now in
    let ds = h.datagrams in
    let over = goes_on checker who object z h.datagrams c.in-None.is h.fed in
    let tally = its_tally checker who object z h.datagrams over in
    survey_read checker who object z old new h c.in-None.is c.survey.result (c.survey.ensures.verdict checker.symbols ds tally)
    (c.survey.ensures.report (by_certificate checker.symbols) checker.symbols.fti ds h.fed.each tally)
    (c.survey.ensures.survey (by_certificate checker.symbols) checker.symbols.fti ds h.fed.each tally)
