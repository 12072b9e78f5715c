use Rattle.std.proofs.Common.{ℕ, suc, ◌≡◌, ◌<◌, ◌+◌, ◌-◌, ◌^◌, get_or, ap, subst, ◌∙◌, arith}
use Rattle.gf256.specs.Slices.{bit, lane}
use Rattle.gf256.proofs.Bits.{number_bits, number_small}
use Rattle.gf256.proofs.bit_lists.numbers.Goals as goal

pub loop-x-preserved : goal.loop-x-preserved
loop-x-preserved c =
    let few : c.loop-x.x < 6 = omega arith in
    let n : ℕ = c.loop-x.x in
    let next : suc c.loop-x.x ≡ c.loop-x.x + 1 = omega arith in
    record {
      bits = λ i y li ly.
          let s : ℕ = get_or c.loop-x.sum i 0 in
          let l : ℕ = get_or c.bit_of.result i 0 in
          let one : get_or c.bit_of.result i 0 < 2 = (let is = c.bit_of.ensures i li in omega arith) in
          let first : c.args.size - 1 - c.loop-x.x ≡ c.args.size - (c.loop-x.x + 1) + 0 = omega arith in
          number_bits n s l (get_or c.with_bit-sum.result i 0) (λ y. bit c.args.down (lane c.args.parts.now (c.args.size - (c.loop-x.x + 1) + y) i))
          few (c.loop-x.invariant.small i li) one (c.with_bit-sum.ensures i li)
          (c.bit_of.ensures i li ∙ ap (λ k. bit c.args.down (lane c.args.parts.now k i)) first)
          (λ z lz. let e : c.args.size - c.loop-x.x + z ≡ c.args.size - (c.loop-x.x + 1) + suc z = omega arith in
          c.loop-x.invariant.bits i z li lz ∙ ap (λ k. bit c.args.down (lane c.args.parts.now k i)) e)
          y (omega arith);
      small = λ i li.
          let s : ℕ = get_or c.loop-x.sum i 0 in
          let l : ℕ = get_or c.bit_of.result i 0 in
          let one : get_or c.bit_of.result i 0 < 2 = (let is = c.bit_of.ensures i li in omega arith) in
          subst (λ k. get_or c.with_bit-sum.result i 0 < 2 ^ k) next (number_small n s l (get_or c.with_bit-sum.result i 0) few (c.loop-x.invariant.small i li) one (c.with_bit-sum.ensures i li));
    }
