use Rattle.std.proofs.Common.{◌<◌, length, ap, arith}
use Rattle.partition.specs.Fti.{block_count}
use Rattle.block_bytes.specs.Held.{held_of}
use Rattle.block_bytes.specs.Parts.{object_in}
use Rattle.streams.proofs.Results.{at_err}
use Rattle.block_bytes.proofs.ObjectParts.{none_written, part_written, part_begun, length_more, length_within}
use Rattle.block_bytes.proofs.held_blocks.HeldBlocks.write_object.Goals as goal

pub loop-b-init : goal.loop-b-init
loop-b-init g c = record { bytes = none_written c.args.fti.now (held_of c.args.self.now) _; room = omega arith }

pub returns-in_err-write_all-clause-err : goal.returns-in_err-write_all-clause-err
returns-in_err-write_all-clause-err g c =
    let hb : c.loop-b.b < block_count c.args.fti.now = omega (arith, c.block_count-b-end.ensures.value) in
    at_err _ _ (part_begun c.args.fti.now (held_of c.args.self.now) c.loop-b.b (block_count c.args.fti.now) hb c.part.result.now c.part.ensures _ _ _ c.loop-b.invariant.bytes c.in_err-write_all.ensures.err)

pub returns-in_err-write_all-clause-full : goal.returns-in_err-write_all-clause-full
returns-in_err-write_all-clause-full g c =
    let hb : c.loop-b.b < block_count c.args.fti.now = omega (arith, c.block_count-b-end.ensures.value) in
    let w : g.W.Write.room c.args.writer.now < length (object_in c.args.fti.now (held_of c.args.self.now)) =
    omega (arith, c.loop-b.invariant.room, c.in_err-write_all.ensures.full, ap length c.part.ensures, length_within c.args.fti.now (held_of c.args.self.now) c.loop-b.b (block_count c.args.fti.now) hb) in
    at_err _ _ w

pub loop-b-preserved : goal.loop-b-preserved
loop-b-preserved g c =
    let hb : c.loop-b.b < block_count c.args.fti.now = omega (arith, c.block_count-b-end.ensures.value) in
    record {
      bytes = part_written c.args.fti.now (held_of c.args.self.now) c.loop-b.b (block_count c.args.fti.now) hb c.part.result.now c.part.ensures _ _ _ c.loop-b.invariant.bytes c.in_ok-write_all.ensures.ok;
      room = omega (arith, c.loop-b.invariant.room, c.in_ok-write_all.ensures.fills, ap length c.part.ensures, length_more c.args.fti.now (held_of c.args.self.now) c.loop-b.b);
    }
