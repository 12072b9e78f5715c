use Rattle.std.proofs.Common.{ℕ, ◌≡◌, ◌<◌, ◌+◌, ◌≤◌, ◌-◌, ◌*◌, replicate, get_or, bit_xor, ap, sym, ◌∙◌, inl, inr, arith}
use Rattle.std.proofs.lemmas.Bool.{cases_lt}
use Rattle.std.proofs.lemmas.List.{get_or_past}
use Rattle.std.proofs.lemmas.Simd.{get_or-replicate, length-replicate}
use Rattle.gf256.specs.Arithmetic.{product}
use Rattle.std.proofs.lemmas.Nat.{pow_pos}
use Rattle.gf256.specs.Slices.{tile_sum, source_byte}
use Rattle.gf256.proofs.Bits.{eightfold_same}
use Rattle.gf256.proofs.Tiles.{tile_value}
use Rattle.gf256.proofs.SliceSums.{sum_same}
use Rattle.gf256.proofs.products.add_table.Goals as goal

zero_small : (limit k : ℕ) → 0 < limit → k ≡ 0 → k + 8 ≤ 8 * limit
zero_small limit k h e = omega arith

zeros_small : (limit n i : ℕ) → 0 < limit → get_or (replicate {A = ℕ} n 0) i 0 + 8 ≤ 8 * limit
zeros_small limit n i h = elim (cases_lt i n) [
  | inl l ↦ zero_small limit _ h (get_or-replicate {A = ℕ} n i 0 0 l)
  | inr g ↦ zero_small limit _ h (get_or_past (replicate {A = ℕ} n 0) i 0 (omega (arith, length-replicate {A = ℕ} n 0)))
]

pub loop-r-init : goal.loop-r-init
loop-r-init c = ((λ r lr. absurd (omega arith)), (λ i. zeros_small c.args.tiling.entries 16384 i (let some = pow_pos c.args.tiling.size in omega arith)))

pub loop-r-preserved : goal.loop-r-preserved
loop-r-preserved c = (
  (λ r lr. elim (cases_lt r c.loop-r.r) [
    | inl l ↦ λ b q lb lq. eightfold_same _ _ _ _ (c.write_list.ensures.below (r * 128 + b * 16 + q) (omega arith)) (c.loop-r.invariant.0 r l b q lb lq)
    | inr g ↦ let e : r ≡ c.loop-r.r = omega arith in rw e c.write_list.ensures.list
  ]),
  (λ i. let small = c.write_list.ensures.small (λ j. let old = c.loop-r.invariant.1 j in omega arith) i in omega arith),
)

pub loop-t-preserved : goal.loop-t-preserved
loop-t-preserved c = record {
  done = λ r j lr lj lt. elim (cases_lt j (64 * c.loop-t.t)) [
    | inl l ↦ c.add_tile.ensures.before r j lr l ∙ c.loop-t.invariant.done r j lr lj l
    | inr g ↦
        let e : 64 * c.loop-t.t + (j - 64 * c.loop-t.t) ≡ j = omega arith in
        let t : ℕ = j - 64 * c.loop-t.t in
        let lane : j - 64 * c.loop-t.t < 64 = omega arith in
        let old : ℕ = get_or c.args.outputs.now (r * c.args.sources.now.width + j) 0 in
        let sum : ℕ = tile_sum c.fill_table.new.table c.loop-r.lists c.args.tiling r t in
        ap (λ p. get_or c.add_tile.new.outputs (r * c.args.sources.now.width + p) 0) (sym e)
        ∙ c.add_tile.ensures.within r t lr (omega arith)
        ∙ ap (λ v. bit_xor v sum) (ap (λ p. get_or c.loop-t.outputs (r * c.args.sources.now.width + p) 0) e ∙ c.loop-t.invariant.left r j lr lj g)
        ∙ ap (bit_xor old) (tile_value c.fill_table.new.table c.loop-r.lists c.args.coefficients.now.bytes.now c.args.sources.now c.args.tiling (64 * c.loop-t.t) (r * c.args.coefficients.now.count + c.args.first) r t
        (omega arith) (λ i. c.args.sources.now.small i) lane c.loop-r.invariant.1 c.fill_table.ensures.filled (c.loop-r.invariant.0 r (omega arith))
        ∙ sum_same c.args.sources.now.count _ _ (λ i h. ap (λ p. product (get_or c.args.coefficients.now.bytes.now (r * c.args.coefficients.now.count + c.args.first + i) 0) (source_byte c.args.sources.now i p)) e))
  ];
  left = λ r j lr lj le. c.add_tile.ensures.after r j lr lj (omega arith) ∙ c.loop-t.invariant.left r j lr lj (omega arith);
  above = λ p le. c.add_tile.ensures.above p le ∙ c.loop-t.invariant.above p le;
}
