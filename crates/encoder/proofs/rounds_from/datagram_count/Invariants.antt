use Rattle.std.proofs.Common.{◌≡◌, ◌≤◌, ◌*◌, ◌^◌}
use Rattle.encoder.specs.RoundPlaces.{place_of}
use Rattle.encoder.proofs.rounds_from.datagram_count.Given as goal

abbrev pub invariant-loop-esi : goal.invariant-loop-esi
invariant-loop-esi l = record {
  count : l.count ≡ place_of l.fti l.esi 0;
  few : l.count ≤ 2 ^ 24 * l.esi;
}
