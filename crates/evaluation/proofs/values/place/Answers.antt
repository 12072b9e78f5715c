use Rattle.std.proofs.Common.{◌%◌, arith}
use Rattle.evaluation.specs.Transform.{places}
use Rattle.evaluation.proofs.Elements.{place_small}
use Rattle.evaluation.proofs.values.place.Goals as goal

pub returns-clause-place : goal.returns-clause-place
unfolding places
returns-clause-place c = c.from.ensures

pub returns-clause-inside : goal.returns-clause-inside
unfolding places
returns-clause-inside c =
    let small = place_small (c.args.exponent % 255) (omega arith) in
    rw c.from.ensures small
