use Rattle.std.proofs.Common.{◌≡◌, ℕ, ◌+◌, ◌*◌, get_or, ap, ◌∙◌, arith}
use Rattle.std.proofs.lemmas.Nat.{xor_comm}
use Rattle.std.proofs.lemmas.Grind.{common_steps}
use Rattle.std.specs.Int.Bits.{xor_zero_r}
use Rattle.gf256.specs.Arithmetic.{sum_of, product}
use Rattle.gf256.specs.ByteSums.{byte_sum}
use Rattle.gf256.proofs.SliceSums.{sum_same}
use Rattle.gf256.proofs.RowPlaces.{rows_fit}
use Rattle.partition.specs.Fti.{source_count}
use Rattle.encoder.proofs.rows.combine.Goals as goal

pub add_products-requires-clause-reach : goal.add_products-requires-clause-reach
add_products-requires-clause-reach c =
    let few = rows_fit 0 c.k.result 255 c.from-size.result (omega arith) in
    omega (arith, few)

pub returns-clause-sums : goal.returns-clause-sums
returns-clause-sums c = λ object are r y lr ly.
    let f = c.args.fti.now in
    let size = c.from-size.ensures ∙ c.symbol_length.ensures.value in
    let sums = rw (c.k.ensures.value, size) at c.add_products.ensures in
    let sum : ℕ = byte_sum (source_count f c.args.b) (λ i. product (get_or c.args.coefficients.now (r * source_count f c.args.b + i) 0) (get_or c.args.sources.now (i * f.symbol_length + y) 0)) in
    let zero : get_or c.fill.new.self (r * f.symbol_length + y) 0 ≡ 0 = grind (arith, common_steps) in
    sums r y lr ly
    ∙ ap (λ (v : ℕ). sum_of v sum) zero
    ∙ xor_comm 0 sum ∙ xor_zero_r sum
    ∙ sum_same (source_count f c.args.b) _ _ (λ i li. ap (product (get_or c.args.coefficients.now (r * source_count f c.args.b + i) 0)) (are i y li ly))
