use Rattle.std.proofs.Common.{◌≡◌, ◌∙◌, ℕ, ◌+◌, ◌-◌, ◌≤◌, Option, List, take, length, arith, sym, subst, length-take, length-drop}
use borrow.Rule.Slice.PartMut.{same_len_mid}
use Rattle.std.proofs.lemmas.List.{length-take-le}
use Rattle.streams.specs.Offsets.{StandsAt}
use Rattle.streams.proofs.Fills.{take_filled}
use Rattle.streams.proofs.AtOffsets.{joined}
use Rattle.streams.proofs.offsets.read_all_back.Goals as goal

pub loop-at-preserved : goal.loop-at-preserved
loop-at-preserved g c =
    let room : length c.read_back.new.buf ≡ length c.loop-at.buf - c.loop-at.at = omega (arith, c.read_back.auto.buf, length-take {A = ℕ}, length-drop {A = ℕ}) in
    let bound : c.in_ok-n.n ≤ length c.loop-at.buf - c.loop-at.at = omega (arith, c.in_ok-n.ensures.bound, length-take {A = ℕ}, length-drop {A = ℕ}) in
    let piece = subst (λ (o : Option (List ℕ)). StandsAt o (c.args.offset + c.loop-at.at) (take c.in_ok-n.n c.read_back.new.buf)) c.loop-at.invariant.stays c.in_ok-n.ensures.bytes in
    record {
      within = omega (arith, same_len_mid c.loop-at.at (length c.loop-at.buf - c.loop-at.at) c.loop-at.buf c.read_back.new.buf c.read_back.auto.buf);
      bytes = rw (take_filled c.loop-at.at c.in_ok-n.n (length c.loop-at.buf - c.loop-at.at) c.loop-at.buf c.read_back.new.buf c.loop-at.invariant.within (omega (arith, room, bound)))
          (joined _ c.args.offset (take c.loop-at.at c.loop-at.buf) (take c.in_ok-n.n c.read_back.new.buf) c.loop-at.at (sym (length-take-le c.loop-at.at c.loop-at.buf c.loop-at.invariant.within)) c.loop-at.invariant.bytes piece);
      stays = c.read_back.ensures.stays ∙ c.loop-at.invariant.stays;
    }
