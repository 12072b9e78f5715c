use Rattle.std.proofs.Common.{ℕ, List}
use Rattle.block_recovery.specs.Listed.{Stands, HaveSome}
use Rattle.block_recovery.proofs.Listing.{AreListedBelow}
use Rattle.block_recovery.proofs.block_list.list_share.Given as goal

abbrev pub invariant-loop-index : goal.invariant-loop-index
invariant-loop-index g l = record {
  here : (held : g.row.S.Denot → List ℕ) → AreListedBelow held l.symbols l.share l.index l.blocks.items;
  keeps : (b : ℕ) → Stands l.fn.blocks.items b → Stands l.blocks.items b;
  some : (held : g.row.S.Denot → List ℕ) → HaveSome held l.symbols l.fn.blocks.items → HaveSome held l.symbols l.blocks.items;
}
