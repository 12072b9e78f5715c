use Rattle.std.specs.Prelude.{option_map}
use Rattle.request.proofs.PlaceWords.{HaveRead, size_left}
use Rattle.request.proofs.places.place_ranges.Given as goal

abbrev pub invariant-loop-left : goal.invariant-loop-left
invariant-loop-left l = HaveRead l.fn.text (option_map (λ rest. rest.now) l.left) l.ranges.items

abbrev pub decreases-loop-left : goal.decreases-loop-left
decreases-loop-left l = size_left (option_map (λ rest. rest.now) l.left)
