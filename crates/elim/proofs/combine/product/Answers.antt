use Rattle.std.proofs.Common.{◌≡◌, ℕ, arith, rules, ap, ◌∙◌, inl, inr}
use Rattle.std.proofs.lemmas.Bool.{cases_eq}
use Rattle.std.proofs.lemmas.Grind.{common_steps}
use Rattle.gf256.specs.Sums.{row_times}
use Rattle.elim.specs.Grid.{entry}
use Rattle.elim.proofs.combine.product.Goals as goal

pub loop-i-preserved : goal.loop-i-preserved
loop-i-preserved g c =
    let e : c.loop-m.m ≡ c.args.a.now.cols = omega (arith, c.cols-m-end.ensures.value) in
    record {
      shape = c.loop-m.invariant.shape;
      elements = c.loop-m.invariant.elements;
      done = λ p q lp lq. elim (cases_eq p c.loop-i.i) [
        | inl same ↦ rw same (c.loop-m.invariant.here q lq ∙ ap (λ (n : ℕ). row_times g.F.Field.sum g.F.Field.product g.F.Field.ZERO (entry g.F.Field.ZERO c.args.a.now c.loop-i.i) (entry g.F.Field.ZERO c.args.b.now) n q) e)
        | inr ne ↦ c.loop-m.invariant.done p q (omega (arith, lp, ne)) lq
      ];
      left = λ p q le lp lq. c.loop-m.invariant.left p q (omega (arith, le)) lp lq;
    }

pub get-requires-clause-row : goal.get-requires-clause-row
get-requires-clause-row g c = search rules

pub get-requires-clause-column : goal.get-requires-clause-column
get-requires-clause-column g c = search rules

pub add_row_of-requires-clause-other : goal.add_row_of-requires-clause-other
add_row_of-requires-clause-other g c = search rules

pub add_row_of-requires-clause-columns : goal.add_row_of-requires-clause-columns
add_row_of-requires-clause-columns g c = search rules

pub loop-m-preserved : goal.loop-m-preserved
loop-m-preserved g c = grind (arith, common_steps) steps 2000000
