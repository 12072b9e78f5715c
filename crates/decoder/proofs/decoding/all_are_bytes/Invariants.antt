use Rattle.std.proofs.Common.{◌<◌, ℕ, map, []}
use Rattle.std.specs.Prelude.{slice_index_or}
use Rattle.lists.specs.Bytes.{AreBytes}
use Rattle.decoder.proofs.decoding.all_are_bytes.Given as goal

abbrev pub invariant-loop-i : goal.invariant-loop-i
invariant-loop-i l = (i : ℕ) → i < l.i → AreBytes (slice_index_or (map (λ d. d.now) l.datagrams) i [])
