use Rattle.std.proofs.Common.{◌≡◌, ℕ, List, Some}
use Rattle.session.specs.Frames.{IsFramed}
use Rattle.reception.specs.Reception.{with_fti}
use Rattle.reception.specs.Walks.{scope_in}
use Rattle.file_decoder.specs.InFile.{held_in, AreSymbolsIn}
use Rattle.block_recovery.specs.Received.{came_at}
use Rattle.block_recovery.specs.Decoded.{AreInRange}
use Rattle.file_decoder.specs.declared.rereading.Place.{Place}
use Rattle.session.proofs.Passing.{Behind}
use Rattle.block_recovery.proofs.Receiving.{Scanned}
use Rattle.file_decoder.proofs.indexing.index_frames.Given as goal

abbrev pub invariant-loop-symbols : goal.invariant-loop-symbols
invariant-loop-symbols g l = record {
  behind : Behind (g.F.ReadAt.content l.file) (g.R.Read.remaining l.reader) l.position.offset l.position.place;
  stays : g.R.Read.sound l.reader ≡ g.R.Read.sound l.initial.reader;
  scanned : (x : List ℕ) (ds : List (List ℕ)) → g.F.ReadAt.content l.file ≡ Some x → IsFramed ds x → scope_in l.identity ds ≡ with_fti l.identity l.fti
      → Scanned (scope_in l.identity ds) ds (with_fti l.identity l.fti) (came_at (held_in x) l.symbols) l.position.place;
  placed : (x : List ℕ) → g.F.ReadAt.content l.file ≡ Some x → AreSymbolsIn x (with_fti l.identity l.fti) l.symbols;
  range : (held : Place → List ℕ) → AreInRange l.fti (came_at held l.symbols);
}

abbrev pub decreases-loop-symbols : goal.decreases-loop-symbols
decreases-loop-symbols g l = g.R.Read.left l.reader
