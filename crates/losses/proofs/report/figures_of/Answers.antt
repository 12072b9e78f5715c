use Rattle.std.proofs.Common.{◌+◌, ◌-◌, ℕ, List, length, get_or, Some, None, ap, sym, ◌∙◌, subst}
use Rattle.losses.specs.Costs.{cheap_places}
use Rattle.losses.specs.Losses.{IsKill}
use Rattle.losses.specs.declared.groups.Member.{Member}
use Rattle.losses.specs.Groups.{groups_of, places, blocks_of_groups}
use Rattle.losses.proofs.GroupFigures.{some}
use Rattle.losses.proofs.CarrierGroup.{span, span_fits, margin_blocks, margin_carriers, kill_blocks, kill_carriers, burst_blocks, burst_carriers}
use Rattle.losses.proofs.FirstBurst.{before_yes, before_no, first_of_blocks, first_of_carriers}
use Rattle.losses.proofs.Ordering.{carriers_ordered, groups_ordered}
use Rattle.losses.proofs.report.figures_of.Goals as goal
use Rattle.losses.proofs.report.figures_of.Goals.{then-is_before, else-is_before}

pub overflow_sub-span-2 : goal.overflow_sub-span-2
overflow_sub-span-2 c = span_fits c.requires.groups.0 c.args.carriers.now (carriers_ordered c.args.carriers.now c.requires.groups.0 c.requires.groups.2)

pub returns-then-carriers-block-clause-margin : goal.returns-then-carriers-block-clause-margin
returns-then-carriers-block-clause-margin c = λ n told came.
    let are = groups_ordered (groups_of c.args.groups.now) n told in
    let carriers = carriers_ordered c.args.carriers.now n came in
    let w = c.in_ok-block.ensures.lightest in
    let l = c.in_ok-block.block in
    margin_carriers (groups_of c.args.groups.now) c.args.carriers.now n are carriers l.at l.threshold.cost l.threshold.most_copies l.threshold.last_esi w.within w.weighed w.heavy c.if-carriers-block.true

pub returns-then-carriers-block-clause-kill : goal.returns-then-carriers-block-clause-kill
returns-then-carriers-block-clause-kill c = λ n told came.
    let are = groups_ordered (groups_of c.args.groups.now) n told in
    let carriers = carriers_ordered c.args.carriers.now n came in
    let w = c.in_ok-block.ensures.lightest in
    let l = c.in_ok-block.block in
    subst (λ (ps : List ℕ). IsKill (blocks_of_groups (groups_of c.args.groups.now) c.args.carriers.now) (places 0 n) (length c.args.carriers.now - 1 + 1) ps None) (sym (c.in_ok-to_vec.ensures.items_if_clones_equal (λ x y e. e)))
    (kill_carriers (groups_of c.args.groups.now) c.args.carriers.now n are carriers l.at l.threshold.cost l.threshold.most_copies l.threshold.last_esi w.within w.weighed w.heavy c.if-carriers-block.true)

pub returns-then-carriers-block-clause-burst : goal.returns-then-carriers-block-clause-burst
returns-then-carriers-block-clause-burst c = λ n told came.
    let are = groups_ordered (groups_of c.args.groups.now) n told in
    let carriers = carriers_ordered c.args.carriers.now n came in
    let w = c.in_ok-block.ensures.lightest in
    let l = c.in_ok-block.block in
    elim c.if-is_before.branch [
      | then-is_before b ↦
          (let o = before_yes (span c.args.carriers.now) l.gap.length (get_or c.args.carriers.now 0 0) l.gap.place (sym c.is_before.ensures ∙ b.if-is_before.true) in
          rw b.gap-is (burst_carriers (groups_of c.args.groups.now) c.args.carriers.now n are carriers l.gap.length w.narrow w.wide o.0))
      | else-is_before b ↦
          (let o = before_no (span c.args.carriers.now) l.gap.length (get_or c.args.carriers.now 0 0) l.gap.place (sym c.is_before.ensures ∙ b.if-is_before.false) in
          rw b.gap-is (burst_blocks (groups_of c.args.groups.now) c.args.carriers.now n are carriers l.gap.length w.narrow w.wide o.0))
    ]

pub overflow_sub-result-2 : goal.overflow_sub-result-2
overflow_sub-result-2 c =
    let w = c.in_ok-block.ensures.lightest in
    let l = c.in_ok-block.block in
    some (groups_of c.args.groups.now) c.requires.groups.0 (groups_ordered (groups_of c.args.groups.now) c.requires.groups.0 c.requires.groups.1) l.at l.threshold.cost l.threshold.most_copies l.threshold.last_esi w.within w.weighed w.heavy

pub returns-clause-margin : goal.returns-clause-margin
returns-clause-margin c = λ n told came.
    let are = groups_ordered (groups_of c.args.groups.now) n told in
    let carriers = carriers_ordered c.args.carriers.now n came in
    let w = c.in_ok-block.ensures.lightest in
    let l = c.in_ok-block.block in
    margin_blocks (groups_of c.args.groups.now) c.args.carriers.now n are carriers l.at l.threshold.cost l.threshold.most_copies l.threshold.last_esi w.within w.weighed w.heavy c.if-carriers-block.false

pub returns-clause-kill : goal.returns-clause-kill
returns-clause-kill c = λ n told came.
    let are = groups_ordered (groups_of c.args.groups.now) n told in
    let carriers = carriers_ordered c.args.carriers.now n came in
    let w = c.in_ok-block.ensures.lightest in
    let l = c.in_ok-block.block in
    let gs = c.args.groups.now in
    let is = c.deref.ensures.value ∙ c.in_ok-copy_members.ensures in
    let places_are = c.in_ok-kill.ensures ∙ ap (λ (qs : List Member). cheap_places qs l.threshold.most_copies l.threshold.last_esi) is in
    subst (λ (ps : List ℕ). IsKill (blocks_of_groups (groups_of gs) c.args.carriers.now) (places 0 n) (c.in_ok-block.block.threshold.cost - 1 + 1) ps (Some l.at)) (sym places_are)
    (kill_blocks (groups_of gs) c.args.carriers.now n are carriers l.at l.threshold.cost l.threshold.most_copies l.threshold.last_esi w.within w.weighed w.heavy c.if-carriers-block.false)

pub returns-clause-burst : goal.returns-clause-burst
returns-clause-burst c = λ n told came.
    let are = groups_ordered (groups_of c.args.groups.now) n told in
    let carriers = carriers_ordered c.args.carriers.now n came in
    let w = c.in_ok-block.ensures.lightest in
    let l = c.in_ok-block.block in
    elim c.if-is_before.branch [
      | then-is_before b ↦
          (let o = before_yes (span c.args.carriers.now) l.gap.length (get_or c.args.carriers.now 0 0) l.gap.place (sym c.is_before.ensures ∙ b.if-is_before.true) in
          rw b.gap-is (burst_carriers (groups_of c.args.groups.now) c.args.carriers.now n are carriers l.gap.length w.narrow w.wide o.0))
      | else-is_before b ↦
          (let o = before_no (span c.args.carriers.now) l.gap.length (get_or c.args.carriers.now 0 0) l.gap.place (sym c.is_before.ensures ∙ b.if-is_before.false) in
          rw b.gap-is (burst_blocks (groups_of c.args.groups.now) c.args.carriers.now n are carriers l.gap.length w.narrow w.wide o.0))
    ]

pub weigh_all-requires-clause-groups : goal.weigh_all-requires-clause-groups
weigh_all-requires-clause-groups c =
    (c.requires.groups.0, groups_ordered (groups_of c.args.groups.now) c.requires.groups.0 c.requires.groups.1)

pub returns-then-carriers-block-clause-first : goal.returns-then-carriers-block-clause-first
returns-then-carriers-block-clause-first c = λ n told came.
    let are = groups_ordered (groups_of c.args.groups.now) n told in
    let carriers = carriers_ordered c.args.carriers.now n came in
    let w = c.in_ok-block.ensures.lightest in
    let v = c.in_ok-block.ensures.narrowest in
    let l = c.in_ok-block.block in
    elim c.if-is_before.branch [
      | then-is_before b ↦
          (let o = before_yes (span c.args.carriers.now) l.gap.length (get_or c.args.carriers.now 0 0) l.gap.place (sym c.is_before.ensures ∙ b.if-is_before.true) in
          rw (b.gap-is, b.burst_block-is) (first_of_carriers (groups_of c.args.groups.now) c.args.carriers.now n are carriers l.gap_at l.gap.place l.gap.length v w.wide o.0 o.1
          (burst_carriers (groups_of c.args.groups.now) c.args.carriers.now n are carriers l.gap.length w.narrow w.wide o.0)))
      | else-is_before b ↦
          (let o = before_no (span c.args.carriers.now) l.gap.length (get_or c.args.carriers.now 0 0) l.gap.place (sym c.is_before.ensures ∙ b.if-is_before.false) in
          rw (b.gap-is, b.burst_block-is) (first_of_blocks (groups_of c.args.groups.now) c.args.carriers.now n are carriers l.gap_at l.gap.place l.gap.length v w.wide o.0 o.1
          (burst_blocks (groups_of c.args.groups.now) c.args.carriers.now n are carriers l.gap.length w.narrow w.wide o.0)))
    ]

pub returns-clause-first : goal.returns-clause-first
returns-clause-first c = λ n told came.
    let are = groups_ordered (groups_of c.args.groups.now) n told in
    let carriers = carriers_ordered c.args.carriers.now n came in
    let w = c.in_ok-block.ensures.lightest in
    let v = c.in_ok-block.ensures.narrowest in
    let l = c.in_ok-block.block in
    elim c.if-is_before.branch [
      | then-is_before b ↦
          (let o = before_yes (span c.args.carriers.now) l.gap.length (get_or c.args.carriers.now 0 0) l.gap.place (sym c.is_before.ensures ∙ b.if-is_before.true) in
          rw (b.gap-is, b.burst_block-is) (first_of_carriers (groups_of c.args.groups.now) c.args.carriers.now n are carriers l.gap_at l.gap.place l.gap.length v w.wide o.0 o.1
          (burst_carriers (groups_of c.args.groups.now) c.args.carriers.now n are carriers l.gap.length w.narrow w.wide o.0)))
      | else-is_before b ↦
          (let o = before_no (span c.args.carriers.now) l.gap.length (get_or c.args.carriers.now 0 0) l.gap.place (sym c.is_before.ensures ∙ b.if-is_before.false) in
          rw (b.gap-is, b.burst_block-is) (first_of_blocks (groups_of c.args.groups.now) c.args.carriers.now n are carriers l.gap_at l.gap.place l.gap.length v w.wide o.0 o.1
          (burst_blocks (groups_of c.args.groups.now) c.args.carriers.now n are carriers l.gap.length w.narrow w.wide o.0)))
    ]
