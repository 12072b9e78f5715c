use Rattle.std.proofs.Common.{◌≡◌, ◌<◌, ℕ, List, length, ap, sym, ◌∙◌, arith, subst}
use Rattle.losses.specs.Costs.{IsWeighed}
use Rattle.losses.specs.Members.{different_outside}
use Rattle.losses.specs.Windows.{ArePlaced, IsLeastGap}
use Rattle.losses.specs.declared.groups.Member.{Member}
use Rattle.losses.specs.Groups.{groups_of, group_at}
use Rattle.losses.specs.Lightest.{AreLeast, AreNarrowest, IsHeavyGroup, IsWideGroup}
use Rattle.losses.specs.Starts.{IsFirstGap}
use Rattle.losses.proofs.FirstBurst.{before_yes, before_no, narrowest_first, narrowest_new, narrowest_same}
use Rattle.losses.proofs.GroupFigures.{placed_of, heavy_new, heavy_same, wide_new, wide_same, narrow_more}
use Rattle.losses.proofs.report.weigh_all.Goals as goal
use Rattle.losses.proofs.report.weigh_all.Goals.{then-weight-threshold, else-weight-threshold, then-is_before, else-is_before}

weighed_as : {qs rs : List Member} {k m price t last : ℕ} → qs ≡ rs → k ≡ m → IsWeighed qs k price t last → IsWeighed rs m price t last
weighed_as {qs} {rs} {k} {m} {price} {t} {last} e f w = subst (λ (x : ℕ). IsWeighed rs x price t last) f (subst (λ (xs : List Member). IsWeighed xs k price t last) e w)

gap_as : {qs rs : List Member} {k m gap : ℕ} → qs ≡ rs → k ≡ m → IsLeastGap qs k gap → IsLeastGap rs m gap
gap_as {qs} {rs} {k} {m} {gap} e f w = subst (λ (x : ℕ). IsLeastGap rs x gap) f (subst (λ (xs : List Member). IsLeastGap xs k gap) e w)

first_as : {qs rs : List Member} {k m place gap : ℕ} → qs ≡ rs → k ≡ m → IsFirstGap qs k place gap → IsFirstGap rs m place gap
first_as {qs} {rs} {k} {m} {place} {gap} e f w = subst (λ (x : ℕ). IsFirstGap rs x place gap) f (subst (λ (xs : List Member). IsFirstGap xs k place gap) e w)

pub weigh-requires-clause-placed : goal.weigh-requires-clause-placed
weigh-requires-clause-placed c =
    let gs = c.args.groups.now in
    let is = c.deref.ensures.value ∙ c.in_ok-copy_members.ensures in
    subst (λ (qs : List Member). ArePlaced qs) (sym is) (placed_of (groups_of gs) c.requires.groups.0 c.requires.groups.1 0 c.requires.some)

pub weigh-requires-clause-some : goal.weigh-requires-clause-some
weigh-requires-clause-some c =
    let gs = c.args.groups.now in
    let n = sym c.need.ensures in
    let s = c.requires.groups.1.some 0 c.requires.some in
    omega (arith, n, s)

pub weigh-requires-clause-enough : goal.weigh-requires-clause-enough
weigh-requires-clause-enough c =
    let gs = c.args.groups.now in
    let n = sym c.need.ensures in
    let is = c.deref.ensures.value ∙ c.in_ok-copy_members.ensures in
    let e = c.requires.groups.1.enough 0 c.requires.some in
    let d = ap (λ (qs : List Member). different_outside qs 0 0) is in
    omega (arith, n, e, d)

pub loop-block-init : goal.loop-block-init
loop-block-init c =
    let gs = c.args.groups.now in
    let n = sym c.need.ensures in
    let is = c.deref.ensures.value ∙ c.in_ok-copy_members.ensures in
    let w = c.in_ok-first.first in
    let cut : IsWeighed (group_at (groups_of gs) 0).members (group_at (groups_of gs) 0).need w.threshold.cost w.threshold.most_copies w.threshold.last_esi =
    weighed_as is (sym n) c.in_ok-first.ensures.cut in
    let gap : IsLeastGap (group_at (groups_of gs) 0).members (group_at (groups_of gs) 0).need w.gap.length = gap_as is (sym n) c.in_ok-first.ensures.least in
    let first : IsFirstGap (group_at (groups_of gs) 0).members (group_at (groups_of gs) 0).need w.gap.place w.gap.length = first_as is (sym n) c.in_ok-first.ensures.first in
    record {
      lightest = record {
        within = omega arith;
        weighed = cut;
        heavy = λ b l. (let e : 0 ≡ b = omega (arith, l) in subst (λ (x : ℕ). IsHeavyGroup x (group_at (groups_of gs) x) w.threshold.cost 0) e
            (record { t = w.threshold.most_copies; last = w.threshold.last_esi; price = w.threshold.cost; weighed = cut; low = omega arith; early = λ z. absurd (omega arith) }));
        narrow = record { at = 0; within = omega arith; is = gap };
        wide = λ b l. (let e : 0 ≡ b = omega (arith, l) in subst (λ (x : ℕ). IsWideGroup (group_at (groups_of gs) x) w.gap.length) e (record { gap = w.gap.length; is = gap; low = omega arith }));
      };
      narrowest = narrowest_first (groups_of gs) w.gap.place w.gap.length first;
    }

pub weigh-requires-in-loop-block-clause-placed : goal.weigh-requires-in-loop-block-clause-placed
weigh-requires-in-loop-block-clause-placed c =
    let gs = c.args.groups.now in
    let is = c.deref-in-loop-block.ensures.value ∙ c.in_ok-copy_members-2.ensures in
    subst (λ (qs : List Member). ArePlaced qs) (sym is) (placed_of (groups_of gs) c.requires.groups.0 c.requires.groups.1 c.loop-block.block (omega (arith, c.loop-block-test.true, c.len-block-end.ensures)))

pub weigh-requires-in-loop-block-clause-some : goal.weigh-requires-in-loop-block-clause-some
weigh-requires-in-loop-block-clause-some c =
    let gs = c.args.groups.now in
    let n = sym c.need-in-loop-block.ensures in
    let s = c.requires.groups.1.some c.loop-block.block (omega (arith, c.loop-block-test.true, c.len-block-end.ensures)) in
    omega (arith, n, s)

pub weigh-requires-in-loop-block-clause-enough : goal.weigh-requires-in-loop-block-clause-enough
weigh-requires-in-loop-block-clause-enough c =
    let gs = c.args.groups.now in
    let n = sym c.need-in-loop-block.ensures in
    let is = c.deref-in-loop-block.ensures.value ∙ c.in_ok-copy_members-2.ensures in
    let e = c.requires.groups.1.enough c.loop-block.block (omega (arith, c.loop-block-test.true, c.len-block-end.ensures)) in
    let d = ap (λ (qs : List Member). different_outside qs 0 0) is in
    omega (arith, n, e, d)

pub loop-block-preserved : goal.loop-block-preserved
loop-block-preserved c =
    let i = c.loop-block.invariant.lightest in
    let gs = c.args.groups.now in
    let groups = groups_of gs in
    let here : c.loop-block.at < c.loop-block.block = i.within in
    let n = sym c.need-in-loop-block.ensures in
    let is = c.deref-in-loop-block.ensures.value ∙ c.in_ok-copy_members-2.ensures in
    let w = c.in_ok-weight.weight in
    let cut : IsWeighed (group_at (groups_of c.args.groups.now) c.loop-block.block).members (group_at (groups_of c.args.groups.now) c.loop-block.block).need w.threshold.cost w.threshold.most_copies w.threshold.last_esi =
    weighed_as is (sym n) c.in_ok-weight.ensures.cut in
    let gap : IsLeastGap (group_at (groups_of c.args.groups.now) c.loop-block.block).members (group_at (groups_of c.args.groups.now) c.loop-block.block).need w.gap.length = gap_as is (sym n) c.in_ok-weight.ensures.least in
    let first : IsFirstGap (group_at (groups_of c.args.groups.now) c.loop-block.block).members (group_at (groups_of c.args.groups.now) c.loop-block.block).need w.gap.place w.gap.length = first_as is (sym n) c.in_ok-weight.ensures.first in
    record {
      lightest = record {
        within = elim c.if-weight-threshold.branch [ then-weight-threshold w ↦ (let e = w.at-is in omega (arith, e)) | else-weight-threshold w ↦ (let e = w.at-is in omega (arith, e, here)) ];
        weighed =
            elim c.if-weight-threshold.branch [
              | then-weight-threshold w ↦ rw (w.at-is, w.threshold-is) cut
              | else-weight-threshold w ↦ rw (w.at-is, w.threshold-is) i.weighed
            ];
        heavy =
            elim c.if-weight-threshold.branch [
              | then-weight-threshold w ↦
                  rw (w.at-is, w.threshold-is) (heavy_new groups c.loop-block.block c.loop-block.at c.loop-block.threshold.cost c.in_ok-weight.weight.threshold.cost
                  c.in_ok-weight.weight.threshold.most_copies c.in_ok-weight.weight.threshold.last_esi (omega (arith, w)) i.heavy cut)
              | else-weight-threshold w ↦
                  rw (w.at-is, w.threshold-is) (heavy_same groups c.loop-block.block c.loop-block.at c.loop-block.threshold.cost c.in_ok-weight.weight.threshold.cost
                  c.in_ok-weight.weight.threshold.most_copies c.in_ok-weight.weight.threshold.last_esi (omega (arith, w)) here i.heavy cut)
            ];
        narrow =
            elim c.if-is_before.branch [
              | then-is_before b ↦ rw b.gap-is (record { at = c.loop-block.block; within = omega arith; is = gap })
              | else-is_before b ↦ rw b.gap-is (narrow_more groups c.loop-block.block c.loop-block.gap.length i.narrow)
            ];
        wide =
            elim c.if-is_before.branch [
              | then-is_before b ↦
                  (let o = before_yes w.gap.length c.loop-block.gap.length w.gap.place c.loop-block.gap.place (sym c.is_before.ensures ∙ b.if-is_before.true) in
                  rw b.gap-is (wide_new groups c.loop-block.block c.loop-block.gap.length c.in_ok-weight.weight.gap.length o.0 i.wide gap))
              | else-is_before b ↦
                  (let o = before_no w.gap.length c.loop-block.gap.length w.gap.place c.loop-block.gap.place (sym c.is_before.ensures ∙ b.if-is_before.false) in
                  rw b.gap-is (wide_same groups c.loop-block.block c.loop-block.gap.length c.in_ok-weight.weight.gap.length o.0 i.wide gap))
            ];
      };
      narrowest =
          elim c.if-is_before.branch [
            | then-is_before b ↦
                (let o = before_yes w.gap.length c.loop-block.gap.length w.gap.place c.loop-block.gap.place (sym c.is_before.ensures ∙ b.if-is_before.true) in
                rw (b.gap-is, b.gap_at-is) (narrowest_new groups c.loop-block.block c.loop-block.gap_at c.loop-block.gap.place c.loop-block.gap.length w.gap.place w.gap.length
                c.loop-block.invariant.narrowest first o.0 o.1 i.wide))
            | else-is_before b ↦
                (let o = before_no w.gap.length c.loop-block.gap.length w.gap.place c.loop-block.gap.place (sym c.is_before.ensures ∙ b.if-is_before.false) in
                rw (b.gap-is, b.gap_at-is) (narrowest_same groups c.loop-block.block c.loop-block.gap_at c.loop-block.gap.place c.loop-block.gap.length w.gap.place w.gap.length
                c.loop-block.invariant.narrowest first o.0 o.1 gap))
          ];
    }

pub returns : goal.returns
returns c =
    let end : c.loop-block.block ≡ length (groups_of c.args.groups.now) = (let l = c.requires.some in let k = c.len-block-end.ensures in omega (arith, l, k)) in
    record {
      lightest = subst (λ (n : ℕ). AreLeast (groups_of c.args.groups.now) n c.loop-block.at c.loop-block.threshold.cost c.loop-block.threshold.most_copies c.loop-block.threshold.last_esi c.loop-block.gap.length) end
          c.loop-block.invariant.lightest;
      narrowest = subst (λ (n : ℕ). AreNarrowest (groups_of c.args.groups.now) n c.loop-block.gap_at c.loop-block.gap.place c.loop-block.gap.length) end c.loop-block.invariant.narrowest;
    }
