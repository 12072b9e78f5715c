use Rattle.std.proofs.Common.{ℕ, suc, ◌≡◌, ◌<◌, ◌≤◌, ◌+◌, ◌-◌, ◌*◌, ◌^◌, refl, sym, get_or, bit_xor, ap, ◌∙◌, inl, inr, arith}
use Rattle.std.proofs.lemmas.Bool.{cases_lt}
use Rattle.std.proofs.lemmas.Nat.{pow_pos}
use Rattle.std.proofs.lemmas.Simd.{get_or-replicate}
use Rattle.std.proofs.Math.Nat.{two-pow-succ}
use Rattle.std.proofs.Math.Pow.{pow_mono}
use Rattle.gf256.specs.Slices.{entry_byte, choice_sum, below, source_byte}
use Rattle.gf256.proofs.Bits.{choice_low, choice_high}
use Rattle.gf256.proofs.RowPlaces.{row_ends}
use Rattle.gf256.proofs.table.fill_table.Goals as goal

pub loop-x-init : goal.loop-x-init
loop-x-init c =
    let some = pow_pos c.args.tiling.size in
    record {
      power = refl;
      sums = λ p t lp lt.
          let first : 64 * (c.loop-q.q * c.args.tiling.entries + p) + t ≡ 64 * (c.loop-q.q * c.args.tiling.entries) + t = omega arith in
          ap (λ k. get_or c.put_lanes.new.bytes k 0) first ∙ c.put_lanes.ensures.within t lt ∙ get_or-replicate 64 t 0 0 lt;
      others = λ q p t lq lp lt.
          let ends = row_ends q c.loop-q.q c.args.tiling.entries lq in
          c.put_lanes.ensures.below (64 * (q * c.args.tiling.entries + p) + t) (omega arith) ∙ c.loop-q.invariant q p t lq lp lt;
    }

pub put_with-requires : goal.put_with-requires
put_with-requires c =
    let more : 2 ^ suc c.loop-x.x ≤ 2 ^ c.args.tiling.size = pow_mono (omega arith) in
    let twice = two-pow-succ c.loop-x.x in
    let ends = row_ends c.loop-q.q c.args.tiling.groups c.args.tiling.entries (omega arith) in
    let power = c.loop-x.invariant.power in
    omega arith

pub loop-x-preserved : goal.loop-x-preserved
loop-x-preserved c =
    let n : ℕ = c.loop-x.x in
    let next : suc c.loop-x.x ≡ c.loop-x.x + 1 = omega arith in
    let twice : 2 ^ (c.loop-x.x + 1) ≡ 2 ^ c.loop-x.x + 2 ^ c.loop-x.x = ap (λ k. 2 ^ k) (sym next) ∙ two-pow-succ c.loop-x.x in
    let power : c.loop-x.have ≡ 2 ^ c.loop-x.x = c.loop-x.invariant.power in
    let place : ℕ = c.loop-q.q * c.args.tiling.entries in
    record {
      power = omega arith;
      sums = λ p t lp lt.
          let f : ℕ → ℕ = λ x. below c.args.sources.now.count (c.loop-q.q + x * c.args.tiling.groups) (source_byte c.args.sources.now (c.loop-q.q + x * c.args.tiling.groups) (c.args.at + t)) in
          elim (cases_lt p (2 ^ c.loop-x.x)) [
            | inl l ↦ c.put_with.ensures.below (c.loop-q.q * c.args.tiling.entries + p) t (omega arith) lt ∙ c.loop-x.invariant.sums p t l lt
                ∙ sym (choice_low n p f l) ∙ ap (λ k. choice_sum k p f) next
            | inr g ↦
                let s : ℕ = p - 2 ^ c.loop-x.x in
                let low : p - 2 ^ c.loop-x.x < 2 ^ c.loop-x.x = omega arith in
                let here : c.loop-q.q * c.args.tiling.entries + p ≡ c.loop-q.q * c.args.tiling.entries + c.loop-x.have + (p - 2 ^ c.loop-x.x) = omega arith in
                let whole : 2 ^ c.loop-x.x + (p - 2 ^ c.loop-x.x) ≡ p = omega arith in
                ap (λ k. entry_byte c.put_with.new.table k t) here
                ∙ c.put_with.ensures.with s t (omega arith) lt
                ∙ ap (λ v. bit_xor v (get_or c.lanes-v.result t 0)) (c.loop-x.invariant.sums s t low lt)
                ∙ ap (bit_xor (choice_sum n s f)) (c.lanes-v.ensures t lt)
                ∙ sym (choice_high n s f (omega arith) low)
                ∙ ap (λ k. choice_sum (suc n) k f) whole ∙ ap (λ k. choice_sum k p f) next
          ];
      others = λ q p t lq lp lt.
          let ends = row_ends q c.loop-q.q c.args.tiling.entries lq in
          c.put_with.ensures.below (q * c.args.tiling.entries + p) t (omega arith) lt ∙ c.loop-x.invariant.others q p t lq lp lt;
    }

pub loop-q-preserved : goal.loop-q-preserved
loop-q-preserved c = λ q p t lq lp lt. elim (cases_lt q c.loop-q.q) [
  | inl l ↦ c.loop-x.invariant.others q p t l lp lt
  | inr g ↦
      let e : q ≡ c.loop-q.q = omega arith in
      let all : c.loop-x.x ≡ c.args.tiling.size = omega arith in
      let few : p < 2 ^ c.loop-x.x = (let whole = ap (λ k. 2 ^ k) all in omega (arith, lp)) in
      rw e (c.loop-x.invariant.sums p t few lt ∙ ap (λ k. choice_sum k p (λ x. below c.args.sources.now.count (c.loop-q.q + x * c.args.tiling.groups) (source_byte c.args.sources.now (c.loop-q.q + x * c.args.tiling.groups) (c.args.at + t)))) all)
]
