use Rattle.std.proofs.Common.{◌+◌, ap, ◌∙◌, inl, inr, arith}
use Rattle.std.proofs.lemmas.Bool.{cases_eq}
use Rattle.gf256.specs.Slices.{lane}
use Rattle.evaluation.proofs.values.store.Goals as goal

pub loop-j-preserved : goal.loop-j-preserved
loop-j-preserved c = record {
  within = λ j t lj lt. elim (cases_eq j c.loop-j.j) [
    | inl e ↦ rw e (c.put_row.ensures.here t lt ∙ ap (λ p. lane c.args.tile.now p t) c.place.ensures.place)
    | inr ne ↦
        let column = c.requires.columns in
        c.put_row.ensures.kept j (c.args.at + t) (omega (arith, column, lt)) (λ e. absurd (ne e)) ∙ c.loop-j.invariant.within j t (omega (arith, lj, ne)) lt
  ];
  before = λ j y lt.
      let column = c.requires.columns in
      c.put_row.ensures.kept j y (omega (arith, column, lt)) (λ e. lt) ∙ c.loop-j.invariant.before j y lt;
}
