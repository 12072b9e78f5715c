use Rattle.std.proofs.Common.{ℕ, List}
use Rattle.block_recovery.specs.Listed.{HaveSome}
use Rattle.block_recovery.proofs.Listing.{AreListed}
use Rattle.block_recovery.proofs.block_list.blocks_of.Given as goal

abbrev pub invariant-loop-share : goal.invariant-loop-share
invariant-loop-share g l = record {
  listed : (held : g.row.S.Denot → List ℕ) → AreListed held l.symbols l.share-iterator l.blocks.items;
  some : (held : g.row.S.Denot → List ℕ) → HaveSome held l.symbols l.blocks.items;
}
