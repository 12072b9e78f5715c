use Rattle.std.proofs.Common.{◌≡◌, ◌∙◌, ◌-◌, arith, ℕ, sym, drop, take, length, length-drop, length-take}
use Rattle.std.proofs.lemmas.List.{take_all, length-take-le}
use Rattle.std.proofs.Math.Seq.{take-add}
use Rattle.streams.proofs.Results.{at_err}
use Rattle.streams.proofs.AtOffsets.{then_overwrites, room_before}
use Rattle.streams.proofs.offsets.write_all_at.Goals as goal

pub loop-at-preserved : goal.loop-at-preserved
loop-at-preserved g c =
    let all : take (length c.args.bytes.now - c.loop-at.at) (drop c.loop-at.at c.args.bytes.now) ≡ drop c.loop-at.at c.args.bytes.now =
    take_all _ _ (omega (arith, length-drop {A = ℕ})) in
    let count : c.loop-at.at ≡ length (take c.loop-at.at c.args.bytes.now) = sym (length-take-le c.loop-at.at c.args.bytes.now c.loop-at.invariant.within) in
    record {
      within = omega (arith, c.in_ok-at.ensures.bound, length-drop {A = ℕ}, length-take {A = ℕ});
      bytes = rw (take-add c.loop-at.at c.in_ok-at.field-0 c.args.bytes.now)
          (then_overwrites _ _ _ c.args.offset c.loop-at.at _ _ count (room_before _ c.args.offset _ (length c.args.bytes.now) (omega (arith, count, c.loop-at.invariant.within)) c.requires.within) c.loop-at.invariant.bytes (rw all at c.in_ok-at.ensures.bytes));
    }

pub returns-in_err-at-clause-err : goal.returns-in_err-at-clause-err
returns-in_err-at-clause-err g c = at_err c.from_residual.result _ (c.loop-at.at, c.in_err-at.ensures.stays ∙ c.loop-at.invariant.bytes)
