use Rattle.std.proofs.Common.{◌≡◌, ◌<◌, ◌+◌, ◌*◌, ◌∙◌, ℕ, ap, inl, inr, arith}
use Rattle.std.proofs.lemmas.Bool.{cases_lt}
use Rattle.std.proofs.lemmas.List.{get_or-set_other}
use Rattle.std.proofs.lemmas.Grind.{get_or-set_at}
use Rattle.gf256.proofs.RowPlaces.{row_ends}
use Rattle.block_code.proofs.code.write_columns.Goals as goal

pub loop-i-preserved : goal.loop-i-preserved
loop-i-preserved c =
    let k : ℕ = c.args.matrix.now.rows in
    let count : c.loop-j.j * c.rows-count.result ≡ c.loop-j.j * c.args.matrix.now.rows = ap (λ (v : ℕ). c.loop-j.j * v) c.rows-count.ensures.value in
    let at : ℕ = c.loop-j.j * c.rows-count.result + c.loop-i.i in
    let li : c.loop-i.i < c.args.matrix.now.rows = rw c.rows-count.ensures.value at c.loop-i-test.true in
    let lj : c.loop-j.j < c.args.matrix.now.cols = rw c.cols-j-end.ensures.value at c.loop-j-test.true in
    let ends = row_ends c.loop-j.j c.args.matrix.now.cols c.args.matrix.now.rows lj in
    record {
      entries = λ i j hi hj.
          let apart = row_ends j c.loop-j.j c.args.matrix.now.rows hj in
          get_or-set_other c.loop-i.columns at (j * c.args.matrix.now.rows + i) _ 0 (λ e. omega (arith, count, apart, hi, e)) ∙ c.loop-i.invariant.entries i j hi hj;
      column = λ i hi. elim (cases_lt i c.loop-i.i) [
        | inl lt ↦ get_or-set_other c.loop-i.columns at (c.loop-j.j * c.args.matrix.now.rows + i) _ 0 (λ e. omega (arith, count, lt, e)) ∙ c.loop-i.invariant.column i lt
        | inr ge ↦ (let same : i ≡ c.loop-i.i = omega arith in
            let here : c.loop-j.j * c.args.matrix.now.rows + c.loop-i.i ≡ at = omega (arith, count) in
            rw same (get_or-set_at c.loop-i.columns at _ _ 0 here (omega arith) ∙ c.columns.view_is ∙ c.get.ensures.value))
      ];
    }
