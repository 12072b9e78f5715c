use Rattle.std.proofs.Common.{◌≡◌, ◌+◌, ℕ, length, refl, take, length-take, length-drop, arith}
use Rattle.certificate.proofs.Results.{passed_on}
use Rattle.cert.proofs.TwinParts.{any_more, fault_of_more, next_piece}
use Rattle.cert.proofs.twins.copy_part.Goals as goal

pub returns-in_err-read_piece-clause-fault : goal.returns-in_err-read_piece-clause-fault
returns-in_err-read_piece-clause-fault g c =
    passed_on c.from_residual.result c.in_err-read_piece.field-0.0 _ c.from_residual.ensures.1
    (fault_of_more _ c.args.to (g.O.ReadAt.content c.args.object.now) (g.O.ReadAt.reliable c.args.object.now) (g.W.Write.failed c.loop-at.writer) c.in_err-read_piece.field-0.0
    (c.in_err-read_piece.ensures.fault (g.W.Write.failed c.loop-at.writer)) (omega (arith, length-take {A = ℕ}, length-drop {A = ℕ})))

pub returns-in_err-write_all-clause-some : goal.returns-in_err-write_all-clause-some
returns-in_err-write_all-clause-some g c =
    let gained = c.in_err-write_all.ensures.err in
    any_more _ _ _ c.loop-at.invariant.some (take gained.0 c.read_piece.new.bytes, gained.1)

pub loop-at-preserved : goal.loop-at-preserved
loop-at-preserved g c =
    let size : length c.read_piece.new.bytes ≡ c.min-count.result = omega (arith, c.in_ok-read_piece.ensures.len, length-take {A = ℕ}, length-drop {A = ℕ}) in
    record {
      low = omega arith;
      high = omega arith;
      copied = λ o told.
          next_piece _ _ _ c.args.from c.loop-at.at c.min-count.result (c.loop-at.at + c.min-count.result) o c.read_piece.new.bytes c.loop-at.invariant.low refl size
          (c.loop-at.invariant.copied o told) (rw told at c.in_ok-read_piece.ensures.stands) c.in_ok-write_all.ensures.ok;
      some = any_more _ _ _ c.loop-at.invariant.some (c.read_piece.new.bytes, c.in_ok-write_all.ensures.ok);
    }
