use Rattle.std.proofs.Common.{◌≡◌, ℕ, List, Option, length, ap, sym, arith, subst}
use Rattle.std.proofs.lemmas.List.{with_items_is}
use Rattle.losses.specs.declared.longest.Run.{Run}
use Rattle.losses.specs.Groups.{groups_of, places, blocks_of_groups}
use Rattle.losses.specs.Runs.{AreRuns, IsLeastLength}
use Rattle.losses.specs.Starts.{AreFilled}
use Rattle.losses.proofs.LongestRuns.{are_runs, least_is_burst}
use Rattle.losses.proofs.Ordering.{carriers_ordered, groups_ordered}
use Rattle.losses.proofs.longest.runs_of.Goals as goal

pub returns-clause-runs : goal.returns-clause-runs
returns-clause-runs c =
    let long = c.in_ok-runs.ensures.len in
    let len = c.deref_mut.ensures.len in
    let value = ap (λ (runs : List (Option Run)). length runs) c.deref_mut.ensures.value in
    let ok = c.in_ok-runs.runs.ok.0 in
    let count : length c.deref_mut.result.now ≡ c.args.count = omega (arith, long, len, value, ok) in
    let filled = subst (λ (n : ℕ). AreFilled (groups_of c.args.groups.now) c.args.carriers.now n c.fill.new.runs) count c.in_ok-fill.ensures in
    let many = filled.spread.count in
    let made = filled.marked.count in
    let are = are_runs (groups_of c.args.groups.now) c.args.carriers.now c.args.count (groups_ordered (groups_of c.args.groups.now) c.args.count c.requires.groups) (carriers_ordered c.args.carriers.now c.args.count c.requires.carriers)
    filled.made c.fill.new.runs filled.marked filled.taken filled.spread in
    subst (λ (runs : List (Option Run)). AreRuns (blocks_of_groups (groups_of c.args.groups.now) c.args.carriers.now) (places 0 c.args.count) runs)
    (sym (with_items_is c.in_ok-runs.runs c.fill.new.runs (omega (arith, many, made, count, len, value, ok)))) are

pub returns-clause-burst : goal.returns-clause-burst
returns-clause-burst c = λ burst is. (
    let long = c.in_ok-runs.ensures.len in
    let len = c.deref_mut.ensures.len in
    let value = ap (λ (runs : List (Option Run)). length runs) c.deref_mut.ensures.value in
    let ok = c.in_ok-runs.runs.ok.0 in
    let count : length c.deref_mut.result.now ≡ c.args.count = omega (arith, long, len, value, ok) in
    let filled = subst (λ (n : ℕ). AreFilled (groups_of c.args.groups.now) c.args.carriers.now n c.fill.new.runs) count c.in_ok-fill.ensures in
    let many = filled.spread.count in
    let made = filled.marked.count in
    let least = least_is_burst (groups_of c.args.groups.now) c.args.carriers.now c.args.count (groups_ordered (groups_of c.args.groups.now) c.args.count c.requires.groups) (carriers_ordered c.args.carriers.now c.args.count c.requires.carriers)
    filled.made c.fill.new.runs filled.marked filled.taken filled.spread burst is in
    subst (λ (runs : List (Option Run)). IsLeastLength runs burst)
    (sym (with_items_is c.in_ok-runs.runs c.fill.new.runs (omega (arith, many, made, count, len, value, ok)))) least)
