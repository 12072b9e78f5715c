use Rattle.std.proofs.Common.{◌∙◌, ℕ, List, arith, ap, length, sym}
use Rattle.std.specs.Prelude.{◌-◌}
use Rattle.std.specs.List.{sum_by}
use Rattle.losses.specs.Groups.{groups_of}
use Rattle.partition.proofs.Laws.{some_block}
use Rattle.reception.specs.Reception.{is_carrier}
use Rattle.reception.specs.Walks.{readings_of}
use Rattle.cert.specs.Tallying.{tallied_of}
use Rattle.cert.proofs.Judging.{read_all}
use Rattle.cert.proofs.DatagramSteps.{all_sound}
use Rattle.cert.proofs.Bridge.{lines_are}
use Rattle.cert.proofs.CarrierPlaces.{places_counted}
use Rattle.cert.proofs.Lacking.{groups_there, carriers_there}
use Rattle.cert.proofs.Losing.{margin_told, kill_told, burst_told, first_burst_told}
use Rattle.cert.proofs.tally.Tally.report.Goals as goal

pub figures_of-requires-clause-some : goal.figures_of-requires-clause-some
figures_of-requires-clause-some c =
    let f = c.requires.tally.1 in
    let h = c.requires.tally.3 in
    let g = h.tallied.grouped.count in
    let s = some_block f h.valid in
    omega (arith, g, s)

pub figures_of-requires-clause-groups : goal.figures_of-requires-clause-groups
figures_of-requires-clause-groups c =
    let t = c.requires.tally in
    let tally = c.args.self.now in
    rw c.deref.ensures.value (
      length (readings_of t.2),
      groups_there t.0 t.1 tally t.2 t.3 c.requires.all,
      carriers_there t.0 t.1 tally t.2 t.3 c.requires.all,
    )

pub returns-clause-report : goal.returns-clause-report
returns-clause-report c = λ says f datagrams each h. (
    let tally = c.args.self.now in
    let who = tally.scope.identity in
    let valid = h.valid in
    let all = all_sound says f (tallied_of tally) datagrams h.tallied in
    let rs = readings_of datagrams in
    let groups = groups_of tally.groups in
    let are = groups_there says f tally datagrams h c.requires.all in
    let carriers = rw h.tallied.placed at (carriers_there says f tally datagrams h c.requires.all) in
    let margin = rw (c.deref.ensures.value, h.tallied.placed) at c.in_ok-margin.ensures.margin in
    let kill = rw (c.deref.ensures.value, h.tallied.placed) at c.in_ok-margin.ensures.kill in
    let burst = rw (c.deref.ensures.value, h.tallied.placed) at c.in_ok-margin.ensures.burst in
    let first = rw (c.deref.ensures.value, h.tallied.placed) at c.in_ok-margin.ensures.first in
    record {
      readings = rs;
      read = read_all datagrams each;
      blocks = c.in_ok-blocks.ensures ∙ lines_are who f rs groups h.tallied.grouped;
      carriers = c.len.ensures ∙ tally.carriers.ok.0 ∙ ap (λ (ps : List ℕ). length ps) h.tallied.placed ∙ places_counted (is_carrier who) 0 rs;
      repeats =
          c.without_different-repeats.ensures ∙ ap (λ (bs : List (ℕ × ℕ)). c.args.self.now.taken - sum_by (λ counts. counts.1) bs) c.deref-2.ensures.value
          ∙ ap (λ (m : ℕ). m - sum_by (λ counts. counts.1) c.in_ok-blocks.blocks.items) (sym h.tallied.counts);
      margin = margin_told who f valid rs all groups h.tallied.grouped _ (margin (length rs) are carriers);
      kill = kill_told who f valid rs all groups h.tallied.grouped _ _ _ (kill (length rs) are carriers);
      burst = burst_told who f valid rs all groups h.tallied.grouped _ (burst (length rs) are carriers);
      first_burst = first_burst_told who f valid rs all groups h.tallied.grouped _ _ _ (first (length rs) are carriers);
    })
