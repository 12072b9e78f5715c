use Rattle.std.proofs.Common.{◌≡◌, ℕ, ◌+◌, ◌-◌, ◌<◌, ◌∙◌, List, length, get_or, ap, sym, arith, subst}
use Rattle.losses.specs.declared.groups.Member.{Member}
use Rattle.losses.specs.Groups.{groups_of, group_at}
use Rattle.losses.specs.Members.{different_outside}
use Rattle.losses.specs.Starts.{AreMarked, AreGroupsMarked}
use Rattle.losses.specs.Windows.{ArePlaced, place_at}
use Rattle.losses.proofs.CarrierGroup.{span_fits, last_below}
use Rattle.losses.proofs.GroupFigures.{placed_of}
use Rattle.losses.proofs.Ordering.{carriers_ordered, groups_ordered}
use Rattle.losses.proofs.Starts.{member_below, group_more, carriers_more, carriers_taken}
use Rattle.losses.proofs.longest.fill.Goals as goal

pub mark-requires-clause-placed : goal.mark-requires-clause-placed
mark-requires-clause-placed c =
    let gs = c.args.groups.now in
    let l = c.loop-block-test.true in
    let is = sym (c.deref.ensures.value ∙ c.in_ok-copy_members.ensures) in
    subst (λ (qs : List Member). ArePlaced qs) is
    (placed_of (groups_of c.args.groups.now) (length c.args.runs.now) (groups_ordered (groups_of c.args.groups.now) (length c.args.runs.now) c.requires.groups) c.loop-block.block (omega (arith, l, c.len-block-end.ensures)))

pub mark-requires-clause-within : goal.mark-requires-clause-within
mark-requires-clause-within c =
    let gs = c.args.groups.now in
    let l = c.loop-block-test.true in
    let is = sym (c.deref.ensures.value ∙ c.in_ok-copy_members.ensures) in
    let n = c.loop-block.invariant.count in
    subst (λ (qs : List Member). (i : ℕ) → i < length qs → place_at qs i < length c.loop-block.runs) is
    (λ i g. (let b = member_below 0 (length c.args.runs.now) i (group_at (groups_of c.args.groups.now) c.loop-block.block).members
    ((groups_ordered (groups_of c.args.groups.now) (length c.args.runs.now) c.requires.groups).members c.loop-block.block (omega (arith, l, c.len-block-end.ensures))) g in
    omega (arith, b, n)))

pub mark-requires-clause-some : goal.mark-requires-clause-some
mark-requires-clause-some c =
    let l = c.loop-block-test.true in
    let n = sym c.need.ensures in
    let s = c.requires.groups.some c.loop-block.block (omega (arith, l, c.len-block-end.ensures)) in
    omega (arith, n, s)

pub mark-requires-clause-enough : goal.mark-requires-clause-enough
mark-requires-clause-enough c =
    let gs = c.args.groups.now in
    let l = c.loop-block-test.true in
    let is = sym (c.deref.ensures.value ∙ c.in_ok-copy_members.ensures) in
    let n = sym c.need.ensures in
    let e = (groups_ordered (groups_of c.args.groups.now) (length c.args.runs.now) c.requires.groups).enough c.loop-block.block (omega (arith, l, c.len-block-end.ensures)) in
    let d = ap (λ (qs : List Member). different_outside qs 0 0) is in
    omega (arith, n, e, d)

pub loop-block-preserved : goal.loop-block-preserved
loop-block-preserved c =
    let gs = c.args.groups.now in
    let l = c.loop-block-test.true in
    let is = sym (c.deref.ensures.value ∙ c.in_ok-copy_members.ensures) in
    let n = sym c.need.ensures in
    let marked = subst (λ (qs : List Member). AreMarked qs (group_at (groups_of c.args.groups.now) c.loop-block.block).need c.loop-block.block (length qs) c.loop-block.runs c.mark.new.runs) (sym is)
    (subst (λ (k : ℕ). AreMarked c.deref.result.now k c.loop-block.block (length c.deref.result.now) c.loop-block.runs c.mark.new.runs) (sym n) c.mark.ensures) in
    group_more (groups_of c.args.groups.now) c.args.carriers.now (length c.args.runs.now) c.loop-block.block c.loop-block.runs c.mark.new.runs (omega (arith, l, c.len-block-end.ensures)) c.loop-block.invariant marked

pub overflow_sub-run-2 : goal.overflow_sub-run-2
overflow_sub-run-2 c = span_fits (length c.args.runs.now) c.args.carriers.now (carriers_ordered c.args.carriers.now (length c.args.runs.now) c.requires.carriers)

pub spread-requires : goal.spread-requires
spread-requires c =
    let came = carriers_ordered c.args.carriers.now (length c.args.runs.now) c.requires.carriers in
    let up = span_fits (length c.args.runs.now) c.args.carriers.now came in
    let are = carriers_more (groups_of c.args.groups.now) c.args.carriers.now (length c.args.runs.now) c.loop-block.block c.loop-block.runs c.put.new.runs c.loop-block.invariant
    (get_or c.args.carriers.now (length c.args.carriers.now - 1) 0 - get_or c.args.carriers.now 0 0) (omega (arith, up)) (last_below (length c.args.runs.now) c.args.carriers.now came) c.put.ensures in
    λ s run h. (let b = (are.sound s run h).0 in let m = c.requires.small in omega (arith, b, m))

pub returns : goal.returns
returns c =
    let came = carriers_ordered c.args.carriers.now (length c.args.runs.now) c.requires.carriers in
    let up = span_fits (length c.args.runs.now) c.args.carriers.now came in
    let last = last_below (length c.args.runs.now) c.args.carriers.now came in
    let size : get_or c.args.carriers.now 0 0 + (get_or c.args.carriers.now (length c.args.carriers.now - 1) 0 - get_or c.args.carriers.now 0 0) ≡ get_or c.args.carriers.now (length c.args.carriers.now - 1) 0 = omega (arith, up) in
    let are = carriers_more (groups_of c.args.groups.now) c.args.carriers.now (length c.args.runs.now) c.loop-block.block c.loop-block.runs c.put.new.runs c.loop-block.invariant
    (get_or c.args.carriers.now (length c.args.carriers.now - 1) 0 - get_or c.args.carriers.now 0 0) size last c.put.ensures in
    let t = c.loop-block-test.false in
    let b = c.loop-block.auto.block-end in
    let n = c.len-block-end.ensures in
    let all : c.loop-block.block ≡ length (groups_of c.args.groups.now) = omega (arith, t, b, n) in
    record {
      made = c.put.new.runs;
      marked = subst (λ (m : ℕ). AreGroupsMarked (groups_of c.args.groups.now) c.args.carriers.now (length c.args.runs.now) m c.put.new.runs) all are;
      taken = carriers_taken (groups_of c.args.groups.now) c.args.carriers.now (length c.args.runs.now) c.loop-block.block c.loop-block.runs c.put.new.runs c.loop-block.invariant
          (get_or c.args.carriers.now (length c.args.carriers.now - 1) 0 - get_or c.args.carriers.now 0 0) size last c.put.ensures;
      spread = c.spread.ensures;
    }
