use Rattle.std.specs.Prelude.{is_some}
use Rattle.std.proofs.Common.{◌≡◌, ℕ, List, Some, take}
use Rattle.partition.specs.Fti.{Fti}
use Rattle.block_recovery.specs.Arrivals.{arrived_at}
use Rattle.block_recovery.specs.Blocks.{HaveLength}
use Rattle.file_decoder.specs.InFile.{held_in, AreOfBlock}
use Rattle.file_decoder.specs.declared.rereading.Place.{Place}
use Rattle.file_decoder.proofs.rereading.BlockReader.symbols.Given as goal

abbrev pub invariant-loop-i : goal.invariant-loop-i
invariant-loop-i g l = record {
  some : (held : Place → List ℕ) (j : ℕ) → is_some (arrived_at (λ s. s.now) l.symbols.items j) ≡ is_some (arrived_at held (take l.i l.came) j);
  size : (f : Fti) → l.scope.fti ≡ Some f → HaveLength f.symbol_length (arrived_at (λ s. s.now) l.symbols.items);
  symbols : (x : List ℕ) → g.F.ReadAt.content l.fn.self.lanes.file.now ≡ Some x → AreOfBlock x l.scope l.fn.b l.came
      → arrived_at (λ s. s.now) l.symbols.items ≡ arrived_at (held_in x) (take l.i l.came);
}
