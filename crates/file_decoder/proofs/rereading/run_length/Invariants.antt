use Rattle.std.proofs.Common.{◌≤◌}
use Rattle.file_decoder.proofs.rereading.run_length.Given as goal

abbrev pub invariant-loop-arrival : goal.invariant-loop-arrival
invariant-loop-arrival l = record { least : l.first.length ≤ l.len }
