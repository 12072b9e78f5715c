use Rattle.std.proofs.Common.{◌≡◌, map, take}
use Rattle.cert.proofs.tally.esis_of_members.Given as goal

abbrev pub invariant-loop-member : goal.invariant-loop-member
invariant-loop-member l = l.arrived_esis.items ≡ map (λ q. q.esi) (take l.member-index l.members)
