use Rattle.std.proofs.Common.{◌≡◌, ◌-◌, arith, ℕ, drop, take, length, length-drop, length-take}
use Rattle.std.proofs.lemmas.List.{take_all}
use Rattle.std.proofs.Math.Seq.{take-add}
use Rattle.streams.proofs.Writes.{then_appends}
use Rattle.streams.proofs.filling.write_all.Goals as goal

pub loop-at-preserved : goal.loop-at-preserved
loop-at-preserved g c =
    let all : take (length c.args.bytes.now - c.loop-at.at) (drop c.loop-at.at c.args.bytes.now) ≡ drop c.loop-at.at c.args.bytes.now =
    take_all _ _ (omega (arith, length-drop {A = ℕ})) in
    record {
      within = omega (arith, c.in_ok-at.ensures.bound, length-drop {A = ℕ}, length-take {A = ℕ});
      bytes = rw (take-add c.loop-at.at c.in_ok-at.field-0 c.args.bytes.now) (then_appends _ _ _ _ _ c.loop-at.invariant.bytes (rw all at c.in_ok-at.ensures.bytes));
      room = omega (arith, c.loop-at.invariant.room, c.in_ok-at.ensures.fills);
    }
