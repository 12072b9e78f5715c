use Rattle.std.proofs.Common.{◌≡◌, ◌∙◌, rules}
use Rattle.std.proofs.lemmas.Result.{IfOk-weaker}
use Rattle.losses.specs.Groups.{groups_of}
use Rattle.reception.specs.Reception.{counted, symbols}
use Rattle.reception.specs.Walks.{readings_of}
use Rattle.cert.specs.Twins.{esis_of}
use Rattle.cert.proofs.Feeding.{goes_on, own_valid}
use Rattle.cert.proofs.HeldEsis.{held_esis}
use Rattle.cert.proofs.Short.{shortness, few_arrived, twin_of_session}
use Rattle.cert.proofs.checker.Checker.twin.Goals as goal

pub twin-requires-clause-few : goal.twin-requires-clause-few
twin-requires-clause-few c =
    let r = c.requires in
    let over = goes_on c.args.self.now r.who r.object r.z r.datagrams (search rules) r.fed in
    let s = shortness r.who r.datagrams r.object r.z c.args.block r.fed.each r.short in
    let grouped = rw (over.identity, over.certificate) at over.walked.grouped in
    let in_group = held_esis r.z.fti (counted r.who (readings_of r.datagrams)) (groups_of c.args.self.now.tally.groups) c.args.block grouped s.4.in_range in
    let esis : c.as_slice.result.now ≡ esis_of c.args.block (symbols (counted c.requires.who (readings_of c.requires.datagrams))) =
    c.as_slice.ensures.value ∙ c.in_ok-arrived_esis.ensures ∙ in_group in
    rw (esis, c.fti-fti.ensures.value, over.certificate) (few_arrived r.who r.datagrams r.object r.z c.args.block r.fed.each r.short)

pub returns : goal.returns
returns c = λ who object z ds fed short.
    let over = goes_on c.args.self.now who object z ds (search rules) fed in
    let s = shortness who ds object z c.args.block fed.each short in
    let grouped = rw (over.identity, over.certificate) at over.walked.grouped in
    let in_group = held_esis z.fti (counted who (readings_of ds)) (groups_of c.args.self.now.tally.groups) c.args.block grouped s.4.in_range in
    let esis : c.as_slice.result.now ≡ esis_of c.args.block (symbols (counted who (readings_of ds))) =
    c.as_slice.ensures.value ∙ c.in_ok-arrived_esis.ensures ∙ in_group in
    IfOk-weaker c.twin.result _ _
    (λ other made. twin_of_session who ds object other.items z c.args.block (own_valid c.args.self.now who object z ds over) fed.each short
    (rw (esis, c.fti-fti.ensures.value, over.certificate, c.as_slice-object.ensures.value, over.object_is) at made))
    c.twin.ensures
