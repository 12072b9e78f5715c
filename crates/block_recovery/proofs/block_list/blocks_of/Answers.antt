use Rattle.std.proofs.Common.{arith}
use Rattle.block_recovery.proofs.Listing.{listed_none, listed_more, listed_all}
use Rattle.block_recovery.proofs.block_list.blocks_of.Goals as goal

pub loop-share-init : goal.loop-share-init
loop-share-init g c = record {
  listed = λ held.
      rw (c.into_iter-share-iterator.ensures.into_iter_gives, c.new-blocks.ensures.items)
      (listed_none held c.args.symbols.now c.keys-share-items.result c.keys-share-items.ensures.has);
  some = λ held. rw c.new-blocks.ensures.items (λ i l. absurd (omega (arith, l)));
}

pub loop-share-preserved : goal.loop-share-preserved
loop-share-preserved g c = record {
  listed = λ held.
      listed_more held c.args.symbols.now c.in-Some.share.now c.next.new.self c.loop-share.blocks.items _ (rw c.in-Some.ensures.steps at c.loop-share.invariant.listed held)
      c.list_share.ensures.keeps (c.in_ok-list_share.ensures.here held);
  some = λ held. c.list_share.ensures.some held (c.loop-share.invariant.some held);
}

pub returns-clause-all : goal.returns-clause-all
returns-clause-all g c = λ held. listed_all held c.args.symbols.now c.loop-share.blocks.items (rw c.in-None.ensures.steps.0 at (c.loop-share.invariant.listed held))

pub returns-clause-some : goal.returns-clause-some
returns-clause-some g c = λ held. c.loop-share.invariant.some held
