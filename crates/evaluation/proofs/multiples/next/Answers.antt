use Rattle.std.proofs.Common.{get_or, bit_xor, ap, ◌∙◌}
use Rattle.gf256.specs.Arithmetic.{doubled}
use Rattle.evaluation.proofs.multiples.next.Goals as goal

pub returns : goal.returns
returns c = λ t lt.
    c.sum_entries.ensures t lt
    ∙ ap (λ v. bit_xor v (get_or c.halves_if.result t 0)) (c.double_lanes.ensures t lt)
    ∙ ap (bit_xor (doubled (get_or c.args.products t 0))) (c.halves_if.ensures t lt)
