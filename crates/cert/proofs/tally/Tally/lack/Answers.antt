use Rattle.std.proofs.Common.{◌∙◌, sym, refl, arith}
use Rattle.std.proofs.lemmas.Bool.{eqb-true}
use Rattle.std.proofs.lemmas.Grind.{common_steps}
use Rattle.losses.specs.Groups.{groups_of}
use Rattle.reception.specs.Reception.{counted, symbols}
use Rattle.reception.specs.Walks.{readings_of}
use Rattle.cert.specs.Tallying.{by_certificate}
use Rattle.cert.proofs.Judging.{none_came, some_came, no_reason}
use Rattle.cert.proofs.Bridge.{enough_full, short_group}
use Rattle.cert.proofs.Lacking.{no_carrier}
use Rattle.cert.proofs.tally.Tally.lack.Goals as goal

pub first_short-requires : goal.first_short-requires
first_short-requires c = grind (arith, common_steps) steps 2000000

pub returns-then-self-eq0-clause-against : goal.returns-then-self-eq0-clause-against
returns-then-self-eq0-clause-against c = λ z datagrams h. (
  no_reason _ h.tallied.clean,
  none_came (symbols (counted c.args.self.now.scope.identity (readings_of datagrams))) c.args.self.now.taken h.tallied.counts c.if-self-eq0.true,
)

pub returns-in-Some-clause-against : goal.returns-in-Some-clause-against
returns-in-Some-clause-against c = λ z datagrams h. (
    let tally = c.args.self.now in
    let who = tally.scope.identity in
    let w = short_group who z.fti (readings_of datagrams) (groups_of tally.groups) h.tallied.grouped c.in-Some.block c.in-Some.have c.in-Some.need c.in-Some.ensures.short in (
      no_reason _ h.tallied.clean,
      some_came (symbols (counted who (readings_of datagrams))) tally.taken h.tallied.counts c.if-self-eq0.false,
      w.0,
      w.1,
      w.2,
    ))

pub returns-then-is_empty-clause-against : goal.returns-then-is_empty-clause-against
returns-then-is_empty-clause-against c = λ z datagrams h. (
    let tally = c.args.self.now in
    let who = tally.scope.identity in
    let enough = c.first_short.ensures.enough (rw c.in_default.is refl) in (
      no_reason _ h.tallied.clean,
      some_came (symbols (counted who (readings_of datagrams))) tally.taken h.tallied.counts c.if-self-eq0.false,
      enough_full who z.fti (readings_of datagrams) (groups_of tally.groups) h.tallied.grouped enough,
      no_carrier (by_certificate z) z.fti tally datagrams h (sym tally.carriers.ok.0 ∙ eqb-true _ _ (sym c.is_empty.ensures ∙ c.if-is_empty.true)),
    ))
