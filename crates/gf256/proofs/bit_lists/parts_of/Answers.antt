use Rattle.std.proofs.Common.{◌≡◌, ◌+◌, ◌*◌, [], get_or, ap, ◌∙◌, inl, inr, arith}
use Rattle.std.proofs.lemmas.Bool.{cases_lt}
use Rattle.std.proofs.lemmas.List.{get_or-set_same, get_or-set_other, length-set}
use Rattle.gf256.proofs.bit_lists.parts_of.Goals as goal

pub loop-x-preserved : goal.loop-x-preserved
loop-x-preserved c = record {
  long = length-set c.loop-x.parts c.loop-x.x _ ∙ c.loop-x.invariant.long;
  lanes = λ x i lx li. elim (cases_lt x c.loop-x.x) [
    | inl l ↦ ap (λ v. get_or v i 0) (get_or-set_other c.loop-x.parts c.loop-x.x x _ [] (λ e. absurd (omega arith))) ∙ c.loop-x.invariant.lanes x i l li
    | inr g ↦
        let e : x ≡ c.loop-x.x = omega arith in
        let turned : c.args.row + c.loop-x.x * c.args.tiling.groups + i ≡ c.args.row + (i + c.loop-x.x * c.args.tiling.groups) = omega arith in
        let long = c.loop-x.invariant.long in
        rw e (ap (λ v. get_or v i 0) (get_or-set_same c.loop-x.parts c.loop-x.x _ [] (omega arith)) ∙ c.coefficients_from.ensures i li
        ∙ ap (λ k. get_or c.args.coefficients.now k 0) turned)
  ];
}
