use Rattle.std.proofs.Common.{◌≡◌, ℕ, ◌-◌, ◌≤◌, take, length, arith, sym, length-take, length-drop}
use borrow.Rule.Slice.PartMut.{same_len_mid}
use Rattle.std.proofs.lemmas.List.{length-take-le}
use Rattle.streams.proofs.Fills.{take_filled}
use Rattle.streams.proofs.AtOffsets.{joined}
use Rattle.streams.proofs.offsets.fill_at.Goals as goal

pub loop-at-preserved : goal.loop-at-preserved
loop-at-preserved g c =
    let room : length c.read_at.new.buf ≡ length c.loop-at.buf - c.loop-at.at = omega (arith, c.read_at.auto.buf, length-take {A = ℕ}, length-drop {A = ℕ}) in
    let bound : c.in_ok-n.n ≤ length c.loop-at.buf - c.loop-at.at = omega (arith, c.in_ok-n.ensures.bound, length-take {A = ℕ}, length-drop {A = ℕ}) in
    record {
      within = omega (arith, same_len_mid c.loop-at.at (length c.loop-at.buf - c.loop-at.at) c.loop-at.buf c.read_at.new.buf c.read_at.auto.buf);
      fits = omega (arith, c.in_ok-n.ensures.within);
      bytes = rw (take_filled c.loop-at.at c.in_ok-n.n (length c.loop-at.buf - c.loop-at.at) c.loop-at.buf c.read_at.new.buf c.loop-at.invariant.within (omega (arith, room, bound)))
          (joined _ c.args.offset (take c.loop-at.at c.loop-at.buf) (take c.in_ok-n.n c.read_at.new.buf) c.loop-at.at (sym (length-take-le c.loop-at.at c.loop-at.buf c.loop-at.invariant.within)) c.loop-at.invariant.bytes c.in_ok-n.ensures.bytes);
      each = λ some. c.in_ok-n.ensures.each;
    }
