use Rattle.std.proofs.Common.{◌≡◌, ◌<◌, ◌≤◌, ◌+◌, ◌*◌, ◌-◌, ◌^◌, get_or, ap, ◌∙◌, inl, inr, arith}
use Rattle.std.proofs.lemmas.Bool.{cases_lt}
use Rattle.std.proofs.Math.Pow.{pow_mono}
use Rattle.gf256.specs.Slices.{bit}
use Rattle.gf256.proofs.Bits.{eightfold_same, eightfold_of}
use Rattle.gf256.proofs.bit_lists.put_bits.Goals as goal

pub eightfold-requires : goal.eightfold-requires
eightfold-requires c = λ i li.
    let most : 2 ^ c.args.tiling.size ≤ 2 ^ 5 = pow_mono {i = c.args.tiling.size} {j = 5} (omega arith) in
    let small = c.numbers-entries.ensures.small i li in
    omega arith

pub loop-b-preserved : goal.loop-b-preserved
loop-b-preserved c = (
  λ b q lb lq. elim (cases_lt b c.loop-b.b) [
    | inl l ↦ eightfold_same _ _ _ _ (c.put_list.ensures.below (c.args.at + b * 16 + q) (omega arith)) (c.loop-b.invariant.0 b q l lq)
    | inr g ↦ let e : b ≡ c.loop-b.b = omega arith in
        let small : q < 16 = omega arith in
        rw e (eightfold_of _ (get_or c.numbers-entries.result q 0) _ _ (c.put_list.ensures.within q small ∙ c.eightfold.ensures q small)
        (λ x lx. c.numbers-entries.ensures.bits q x small lx ∙ ap (bit (7 - c.loop-b.b)) (c.parts_of-parts.ensures x q lx small)))
  ],
  (λ p lt. c.put_list.ensures.below p (omega arith) ∙ c.loop-b.invariant.1 p lt),
  (λ old. c.put_list.ensures.small c.args.tiling.entries (c.loop-b.invariant.2 old) (λ i li. let s = c.numbers-entries.ensures.small i li in let is = c.eightfold.ensures i li in omega arith)),
)
