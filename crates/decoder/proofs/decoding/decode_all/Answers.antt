use Rattle.std.proofs.Common.{arith, refl}
use Rattle.block_recovery.specs.Received.{bytes_at}
use Rattle.decoder.proofs.ObjectSoFar.{nothing_yet, one_more_block, object_answers, not_code_answers}
use Rattle.decoder.proofs.decoding.decode_all.Goals as goal

pub loop-b-init : goal.loop-b-init
loop-b-init c = record {
  object = rw c.in_ok-object.ensures.items (nothing_yet c.args.received.now.fti (bytes_at c.args.received.now.symbols) (omega (arith, c.block_count-b-end.ensures.some, c.block_count-b-end.ensures.value)));
  kept = tt;
}

pub returns-in_default : goal.returns-in_default
returns-in_default c =
    not_code_answers c.args.received.now.fti c.transfer_length.ensures.valid (bytes_at c.args.received.now.symbols) c.loop-b.b c.loop-b.object.items c.loop-b.invariant.object
    (omega (arith, c.block_count-b-end.ensures.value)) (c.in_ok-rows.ensures.none (rw c.in_default.is refl)) c.requires.enough

pub loop-b-preserved : goal.loop-b-preserved
loop-b-preserved c = record {
  object =
      rw c.in_ok-extend_from_slice.ensures.items
      (one_more_block c.args.received.now.fti c.transfer_length.ensures.valid (bytes_at c.args.received.now.symbols) c.loop-b.b c.loop-b.object.items c.in-Some.rows.bytes.items _ c.loop-b.invariant.object
      (omega (arith, c.block_count-b-end.ensures.value)) (rw c.in-Some.is at c.in_ok-rows.ensures.rows)
      (rw (c.deref.ensures.value, c.block_bytes.ensures.value) refl));
  kept = c.received_rows.ensures.keeps;
}

pub returns : goal.returns
returns c =
    object_answers c.args.received.now.fti c.transfer_length.ensures.valid (bytes_at c.args.received.now.symbols) c.loop-b.b c.loop-b.object.items c.loop-b.invariant.object
    (omega (arith, c.block_count-b-end.ensures.value)) c.requires.enough
