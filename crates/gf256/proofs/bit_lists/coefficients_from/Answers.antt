use Rattle.std.proofs.lemmas.Simd.{get_or-chunk}
use Rattle.gf256.proofs.bit_lists.coefficients_from.Goals as goal

pub returns-then-at-coefficients : goal.returns-then-at-coefficients
returns-then-at-coefficients c = λ i lt. get_or-chunk c.args.at 16 c.args.coefficients.now i 0 lt
