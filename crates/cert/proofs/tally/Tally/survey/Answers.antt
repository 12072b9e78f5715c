use Rattle.std.proofs.Common.{◌≡◌, ◌∙◌, ℕ, refl, sym, subst}
use Rattle.losses.specs.Groups.{groups_of, AreGroups, AreCarriers}
use Rattle.reception.specs.Walks.{readings_of}
use Rattle.cert.specs.Tallying.{tallied_of}
use Rattle.cert.specs.declared.verdict.Reason.TheVariants.{Thin}
use Rattle.cert.proofs.DatagramSteps.{all_sound}
use Rattle.cert.proofs.Judging.{read_all}
use Rattle.cert.proofs.Lacking.{carriers_there, enough_certified, groups_there, many}
use Rattle.cert.proofs.Losing.{runs_told}
use Rattle.cert.proofs.tally.Tally.survey.Goals as goal

pub runs_of-requires-clause-groups : goal.runs_of-requires-clause-groups
runs_of-requires-clause-groups c =
    let t = c.requires in
    let tally = c.args.self.now in
    subst (λ (n : ℕ). AreGroups (groups_of c.args.self.now.groups) n) (many t.0 t.1 tally t.2 t.3) (groups_there t.0 t.1 tally t.2 t.3 (c.lack.ensures.none (rw c.in_default.is refl)))

pub runs_of-requires-clause-carriers : goal.runs_of-requires-clause-carriers
runs_of-requires-clause-carriers c =
    let t = c.requires in
    let tally = c.args.self.now in
    rw c.deref.ensures.value
    (subst (λ (n : ℕ). AreCarriers c.args.self.now.carriers.items n) (many t.0 t.1 tally t.2 t.3) (carriers_there t.0 t.1 tally t.2 t.3 (c.lack.ensures.none (rw c.in_default.is refl))))

pub returns-clause-survey : goal.returns-clause-survey
returns-clause-survey c = λ says f datagrams each h. (
    let tally = c.args.self.now in
    let who = tally.scope.identity in
    let rs = readings_of datagrams in
    let all = c.lack.ensures.none (rw c.in_default.is refl) in
    let n = many says f tally datagrams h in
    let groups = rw n at (groups_there says f tally datagrams h all) in
    let carriers = rw n at (carriers_there says f tally datagrams h all) in
    let runs = rw (c.deref.ensures.value, h.tallied.placed, sym n) at c.in_ok-runs.ensures.runs in
    let burst = rw c.deref.ensures.value at c.in_ok-runs.ensures.burst in
    record {
      readings = rs;
      read = read_all datagrams each;
      datagrams = sym h.tallied.many;
      carriers = c.in_ok-carriers.ensures.items_if_clones_equal (λ x y e. e) ∙ c.deref-2.ensures.value ∙ h.tallied.placed;
      runs = runs_told who f h.valid rs (all_sound says f (tallied_of tally) datagrams h.tallied) (groups_of tally.groups) h.tallied.grouped _ runs;
      burst = burst _ (c.in_ok-report.ensures.burst tally.count groups carriers);
    })

pub returns-clause-verdict : goal.returns-clause-verdict
returns-clause-verdict c = λ z datagrams h. enough_certified z c.args.self.now datagrams h (c.lack.ensures.none (rw c.in_default.is refl))

pub returns-in-Some-clause-short : goal.returns-in-Some-clause-short
returns-in-Some-clause-short c = λ b have need e. (let is : c.in-Some.reason ≡ Thin b have need = cc in c.in-Some.ensures.short b have need is)
