use Rattle.std.proofs.Common.{map, take}
use Rattle.request.specs.Places.{AreRanges}
use Rattle.request.proofs.matched.read_places.Given as goal

abbrev pub invariant-loop-text : goal.invariant-loop-text
invariant-loop-text l = AreRanges (map (λ text. text.now) (take l.text-index l.texts)) l.places.items
