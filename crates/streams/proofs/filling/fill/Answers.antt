use Rattle.std.proofs.Common.{◌≡◌, ℕ, ◌-◌, ◌≤◌, length, arith, ◌∙◌, length-take, length-drop}
use borrow.Rule.Slice.PartMut.{same_len_mid}
use Rattle.streams.proofs.Fills.{step}
use Rattle.streams.proofs.filling.fill.Goals as goal

pub loop-at-preserved : goal.loop-at-preserved
loop-at-preserved g c =
    let room : length c.read.new.buf ≡ length c.loop-at.buf - c.loop-at.at = omega (arith, c.read.auto.buf, length-take {A = ℕ}, length-drop {A = ℕ}) in
    let bound : c.in_ok-n.n ≤ length c.loop-at.buf - c.loop-at.at = omega (arith, c.in_ok-n.ensures.bound, length-take {A = ℕ}, length-drop {A = ℕ}) in
    record {
      within = omega (arith, same_len_mid c.loop-at.at (length c.loop-at.buf - c.loop-at.at) c.loop-at.buf c.read.new.buf c.read.auto.buf);
      bytes = step _ _ _ c.loop-at.at c.in_ok-n.n _ c.loop-at.buf c.read.new.buf c.loop-at.invariant.within (omega arith) c.loop-at.invariant.bytes c.in_ok-n.ensures.bytes.0;
      falls = omega (arith, c.loop-at.invariant.falls, c.in_ok-n.ensures.falls);
      stays = c.read.ensures.stays ∙ c.loop-at.invariant.stays;
    }
