use Rattle.std.proofs.Common.{◌≡◌, ◌<◌, ℕ, length, get_or}
use Rattle.partition.specs.Fti.{source_count}
use Rattle.cert.proofs.datagrams.empty_groups.Given as goal

abbrev pub invariant-loop-block : goal.invariant-loop-block
invariant-loop-block l = record {
  size : length l.needs.items ≡ l.block;
  needs : (b : ℕ) → b < l.block → get_or l.needs.items b 0 ≡ source_count l.fti b;
}
