use Rattle.std.proofs.Common.{◌≡◌, take, map}
use Rattle.std.specs.Prelude.{filter}
use Rattle.losses.specs.Costs.{esi_copies, is_cheap}
use Rattle.losses.proofs.weighing.doomed_places.Given as goal

abbrev pub invariant-loop-member : goal.invariant-loop-member
invariant-loop-member l = l.places.items ≡ map (λ q. q.place) (filter (λ q. is_cheap (esi_copies l.members) l.threshold.most_copies l.threshold.last_esi q.esi) (take l.member-index l.members))
