use Rattle.std.proofs.Common.{◌≡◌, Some, Ok, rules}
use Rattle.std.proofs.lemmas.Result.{IfOk-weaker}
use Rattle.cert.specs.Tallying.{by_certificate}
use Rattle.cert.proofs.Feeding.{has_reason, goes_on, is_no, no_read, own_valid, its_tally, verdict_on, verdict_read}
use Rattle.cert.proofs.Whole.{decodes_at_yes, undecided_at_yes, tells_at_yes, losses_at_yes}
use Rattle.cert.proofs.checker.Checker.verdict.Goals as goal

pub returns-in_ok-end-in-Some-clause-verdict : goal.returns-in_ok-end-in-Some-clause-verdict
returns-in_ok-end-in-Some-clause-verdict c = λ who object z ds fed.
    let r = c.in_ok-end-in-Some.field-0 in
    let ended : c.args.self.now.ended ≡ Some (Ok c.in_ok-end-in-Some.field-0) = search rules in
    is_no who object z ds r (has_reason c.args.self.now who object z ds r ended fed)

pub returns-in_ok-end-in-Some-clause-from : goal.returns-in_ok-end-in-Some-clause-from
returns-in_ok-end-in-Some-clause-from c = λ who object z old new h.
    let ended : c.args.self.now.ended ≡ Some (Ok c.in_ok-end-in-Some.field-0) = search rules in
    no_read c.args.self.now who object z old new h c.in_ok-end-in-Some.field-0 ended

pub returns-in-None-clause-verdict : goal.returns-in-None-clause-verdict
returns-in-None-clause-verdict c = λ who object z ds fed.
    let checker = c.args.self.now in
    let over = goes_on checker who object z ds c.in-None.is fed in
    IfOk-weaker c.verdict.result _ _ (λ v h. verdict_on checker who object z ds over v h fed.each) (c.verdict.ensures.verdict checker.symbols ds (its_tally checker who object z ds over))

pub returns-in-None-clause-decodes : goal.returns-in-None-clause-decodes
returns-in-None-clause-decodes c = λ who object z ds fed.
    let over = goes_on c.args.self.now who object z ds c.in-None.is fed in
    decodes_at_yes who ds object z c.verdict.result (own_valid c.args.self.now who object z ds over) (returns-in-None-clause-verdict c who object z ds fed)

pub returns-in-None-clause-undecided : goal.returns-in-None-clause-undecided
returns-in-None-clause-undecided c = λ who object z ds fed.
    let over = goes_on c.args.self.now who object z ds c.in-None.is fed in
    undecided_at_yes who ds object z c.verdict.result (own_valid c.args.self.now who object z ds over) (returns-in-None-clause-verdict c who object z ds fed)

pub returns-in-None-clause-tells : goal.returns-in-None-clause-tells
returns-in-None-clause-tells c = λ who object z ds fed.
    let over = goes_on c.args.self.now who object z ds c.in-None.is fed in
    tells_at_yes who ds object z c.verdict.result (own_valid c.args.self.now who object z ds over) (returns-in-None-clause-verdict c who object z ds fed)

pub returns-in-None-clause-report : goal.returns-in-None-clause-report
returns-in-None-clause-report c = λ who object z ds fed.
    let checker = c.args.self.now in
    let over = goes_on checker who object z ds c.in-None.is fed in
    rw (over.identity, over.certificate) at (c.verdict.ensures.report (by_certificate checker.symbols) checker.symbols.fti ds fed.each (its_tally checker who object z ds over))

pub returns-in-None-clause-losses : goal.returns-in-None-clause-losses
returns-in-None-clause-losses c = λ who object z ds fed.
    let over = goes_on c.args.self.now who object z ds c.in-None.is fed in
    losses_at_yes who ds object z c.verdict.result (own_valid c.args.self.now who object z ds over) (returns-in-None-clause-verdict c who object z ds fed)
    (returns-in-None-clause-report c who object z ds fed)

pub returns-in-None-clause-from : goal.returns-in-None-clause-from
returns-in-None-clause-from c = λ who object z old new h.
    let checker = c.args.self.now in
    let ds = h.datagrams in
    let over = goes_on checker who object z h.datagrams c.in-None.is h.fed in
    let tally = its_tally checker who object z h.datagrams over in
    verdict_read checker who object z old new h c.in-None.is c.verdict.result (c.verdict.ensures.verdict checker.symbols ds tally)
    (c.verdict.ensures.report (by_certificate checker.symbols) checker.symbols.fti ds h.fed.each tally)
