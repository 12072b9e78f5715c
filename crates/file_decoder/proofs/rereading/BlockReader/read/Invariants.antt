use Rattle.std.proofs.Common.{◌≡◌, ◌+◌, ◌<◌, ◌≤◌, ℕ, length, take, drop}
use Rattle.std.specs.Prelude.{slice_index, slice_index_or}
use Rattle.block_recovery.specs.declared.arrivals.Arrival.{Arrival}
use Rattle.file_decoder.specs.declared.rereading.Place.{Place}
use Rattle.streams.specs.Offsets.{StandsAt}
use Rattle.file_decoder.proofs.rereading.BlockReader.read.Given as goal

abbrev pub invariant-loop-i : goal.invariant-loop-i
invariant-loop-i g l = record {
  file : l.self.lanes.file.now ≡ l.fn.self.lanes.file.now;
  count : length l.self.starts.items ≡ l.i;
  each : (k : ℕ) (d : Arrival Place) → k < l.i
      → (slice_index l.self.starts.items k + (slice_index_or l.came k d).symbol.length ≤ l.self.run.from + l.self.run.len)
      × StandsAt (g.F.ReadAt.content l.fn.self.lanes.file.now) (slice_index_or l.came k d).symbol.offset
      (take (slice_index_or l.came k d).symbol.length (drop (slice_index l.self.starts.items k) l.self.room.items));
}
