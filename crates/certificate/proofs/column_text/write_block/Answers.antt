use Rattle.std.proofs.Common.{◌<◌, arith, ap}
use Rattle.partition.specs.Fti.{Fti}
use Rattle.certificate.specs.Certificate.{polynomial}
use Rattle.certificate.proofs.Flat.{none_yet, appends_none, part_written, part_begun, part_room, no_room, on_err}
use Rattle.certificate.proofs.column_text.write_block.Goals as goal

pub loop-c-init : goal.loop-c-init
loop-c-init g c = let none = none_yet (polynomial c.args.certificate.now c.args.b) in record { sent = rw none (appends_none _); room = omega arith }

pub returns-in_err-write_all-clause-err : goal.returns-in_err-write_all-clause-err
returns-in_err-write_all-clause-err g c =
    let f = polynomial c.args.certificate.now c.args.b in
    let less : c.loop-c.c < c.args.certificate.now.fti.symbol_length =
    omega (arith, c.loop-c-test.true, c.from-c-end.ensures, c.symbol_length.ensures.value, ap (λ (f : Fti). f.symbol_length) c.fti.ensures.value) in
    on_err _ (part_begun f c.loop-c.c _ _ _ c.loop-c.invariant.sent _ less (rw c.put_polynomial-count.ensures.polynomial at c.in_err-write_all.ensures.err))

pub returns-in_err-write_all-clause-full : goal.returns-in_err-write_all-clause-full
returns-in_err-write_all-clause-full g c =
    let f = polynomial c.args.certificate.now c.args.b in
    let less : c.loop-c.c < c.args.certificate.now.fti.symbol_length =
    omega (arith, c.loop-c-test.true, c.from-c-end.ensures, c.symbol_length.ensures.value, ap (λ (f : Fti). f.symbol_length) c.fti.ensures.value) in
    on_err _ (no_room f c.loop-c.c _ less _ _ c.loop-c.invariant.room (rw c.put_polynomial-count.ensures.polynomial at c.in_err-write_all.ensures.full))

pub loop-c-preserved : goal.loop-c-preserved
loop-c-preserved g c =
    let f = polynomial c.args.certificate.now c.args.b in record {
      sent = part_written f c.loop-c.c _ _ _ c.loop-c.invariant.sent (rw c.put_polynomial-count.ensures.polynomial at c.in_ok-write_all.ensures.ok);
      room = part_room f c.loop-c.c _ _ _ c.loop-c.invariant.room (rw c.put_polynomial-count.ensures.polynomial at c.in_ok-write_all.ensures.fills);
    }
