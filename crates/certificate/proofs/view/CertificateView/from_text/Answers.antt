use Rattle.std.proofs.Common.{◌∙◌, sym}
use Rattle.certificate.proofs.TextView.{behind_head, head_fits, wrong_behind}
use Rattle.certificate.proofs.view.CertificateView.from_text.Goals as goal

pub slice_bounds-coefficients-count : goal.slice_bounds-coefficients-count
slice_bounds-coefficients-count c = head_fits c.args.bytes.now c.read_head.new.reader.bytes.now c.in_ok-head.head.name c.in-Some.name c.in_ok-head.head.fti c.in-Some.is (rw c.new-text.ensures.bytes at c.in_ok-head.ensures.ok)

pub slice_bounds-coefficients-start : goal.slice_bounds-coefficients-start
slice_bounds-coefficients-start c = head_fits c.args.bytes.now c.read_head.new.reader.bytes.now c.in_ok-head.head.name c.in-Some.name c.in_ok-head.head.fti c.in-Some.is (rw c.new-text.ensures.bytes at c.in_ok-head.ensures.ok)

pub returns-then-coefficients-coefficients_of-clause-fault :
    goal.returns-then-coefficients-coefficients_of-clause-fault
returns-then-coefficients-coefficients_of-clause-fault c =
    wrong_behind c.args.bytes.now c.read_head.new.reader.bytes.now c.in_ok-head.head.name c.in-Some.name c.in_ok-head.head.fti c.in-Some.is (rw c.new-text.ensures.bytes at c.in_ok-head.ensures.ok) c.in_ok-head.ensures.valid c.coefficients_of.ensures.valid
    (λ e. c.if-coefficients-coefficients_of.true (e ∙ sym c.coefficients_of.ensures.count))

pub returns-clause-ok : goal.returns-clause-ok
returns-clause-ok c = behind_head c.args.bytes.now c.read_head.new.reader.bytes.now c.in_ok-head.head.name c.in-Some.name c.in_ok-head.head.fti c.in-Some.is (rw c.new-text.ensures.bytes at c.in_ok-head.ensures.ok)
