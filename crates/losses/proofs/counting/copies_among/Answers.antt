use Rattle.std.proofs.Common.{◌<◌, rules, refl, get_or, arith}
use Rattle.std.proofs.lemmas.Grind.{common_steps}
use Rattle.losses.specs.declared.groups.Entry.{Entry}
use Rattle.losses.proofs.SharedGroups.{copies_up}
use Rattle.losses.proofs.counting.copies_among.Goals as goal

pub loop-entry-init : goal.loop-entry-init
loop-entry-init c = record { size = refl; counts = λ j h. (search (rules, common_steps)) }

pub overflow_add-copies : goal.overflow_add-copies
overflow_add-copies c =
    let entry : Entry = get_or c.args.entries.now c.loop-entry.entry-index (record { place = 0; group = 0; esi = 0 }) in
    let small : entry.esi < 256 = omega arith in
    let up = copies_up c.args.group entry.esi c.args.entries.now c.loop-entry.entry-index (omega (arith, c.loop-entry-test.true)) in
    omega (arith, up, c.loop-entry.invariant.counts entry.esi small, c.loop-entry-test.true)
