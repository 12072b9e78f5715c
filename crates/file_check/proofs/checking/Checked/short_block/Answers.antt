use Rattle.std.proofs.Common.{◌∙◌, refl, sym, ap}
use Rattle.cert.specs.Tallying.{by_certificate}
use Rattle.cert.specs.declared.verdict.Reason.{Reason}
use Rattle.cert.specs.declared.verdict.Verdict.TheVariants.{Yes, No}
use Rattle.cert.proofs.ShortReasons.{thin_of}
use Rattle.file_check.proofs.Answering.{told}
use Rattle.file_check.proofs.Twins.{none_made, short_found, twins_made}
use Rattle.file_check.proofs.checking.Checked.short_block.Goals as goal

pub returns-in-Yes-clause-verdict : goal.returns-in-Yes-clause-verdict
returns-in-Yes-clause-verdict c = λ who x o text h. (
    let z = h.certificate in
    let found = rw c.in-Ok.is at h.found in
    let w = found.0 in
    let given = rw c.in-Yes.is at (c.in_ok-report.ensures.verdict z w.datagrams w.tallied) in
    let report = rw c.in-Yes.is at (c.in_ok-report.ensures.report (by_certificate z) z.fti w.datagrams w.each w.tallied) in
    (z, h.text_is, (w.left, told who x o text z h.text_is c.in-Ok.tally found (Yes c.in-Yes.report) given report), tt))

pub returns-in_default-clause-verdict : goal.returns-in_default-clause-verdict
returns-in_default-clause-verdict c = λ who x o text h. (
    let z = h.certificate in
    let found = rw c.in-Ok.is at h.found in
    let w = found.0 in
    let given = rw c.in-No.is at (c.in_ok-report.ensures.verdict z w.datagrams w.tallied) in
    (z, h.text_is, (w.left, told who x o text z h.text_is c.in-Ok.tally found (No c.in-No.reason) given tt), none_made who x o z (No c.in-No.reason)))

pub esis-requires : goal.esis-requires
esis-requires c =
    let thin = thin_of c.in-No.reason (c.in-Some.block, c.in-Some.have, c.in-Some.need) (sym c.in-Some.ensures) in
    (c.in_ok-report.ensures.short c.in-Some.block c.in-Some.have c.in-Some.need (c.in-No.is ∙ ap (λ (r : Reason). No r) thin)).block

pub returns-clause-verdict : goal.returns-clause-verdict
returns-clause-verdict c = λ who x o text h. (
    let z = h.certificate in
    let found = rw c.in-Ok.is at h.found in
    let w = found.0 in
    let given = rw c.in-No.is at (c.in_ok-report.ensures.verdict z w.datagrams w.tallied) in
    let thin = thin_of c.in-No.reason (c.in-Some.block, c.in-Some.have, c.in-Some.need) (sym c.in-Some.ensures) in
    let short = c.in_ok-report.ensures.short c.in-Some.block c.in-Some.have c.in-Some.need (c.in-No.is ∙ ap (λ (r : Reason). No r) thin) in
    let twins = twins_made who x o z h.text_is.0 found.1 found.2 found.3 c.in-Ok.tally found.0 c.in-No.reason c.in-Some.block c.in-Some.have c.in-Some.need thin short (rw w.identity at given)
    (record {
      block = c.in-Some.block;
      have = c.in-Some.have;
      need = c.in-Some.need;
      fti = c.args.self.now.fti;
      arrived_esis = c.in_ok-arrived_esis.arrived_esis;
    }) h.fti c.in_ok-arrived_esis.ensures in
    (z, h.text_is, (w.left, told who x o text z h.text_is c.in-Ok.tally found (No c.in-No.reason) given tt), twins))

pub returns-clause-short : goal.returns-clause-short
returns-clause-short c =
    let thin = thin_of c.in-No.reason (c.in-Some.block, c.in-Some.have, c.in-Some.need) (sym c.in-Some.ensures) in
    let short = c.in_ok-report.ensures.short c.in-Some.block c.in-Some.have c.in-Some.need (c.in-No.is ∙ ap (λ (r : Reason). No r) thin) in
    short_found c.requires.0 c.args.self.now.fti c.in-Ok.tally (rw c.in-Ok.is at c.requires.1.tally) c.in-No.reason c.in-Some.block c.in-Some.have c.in-Some.need thin short
    (record {
      block = c.in-Some.block;
      have = c.in-Some.have;
      need = c.in-Some.need;
      fti = c.args.self.now.fti;
      arrived_esis = c.in_ok-arrived_esis.arrived_esis;
    }) refl refl refl refl c.in_ok-arrived_esis.ensures
