use Rattle.std.proofs.Common.{◌≡◌, ◌+◌, ◌*◌, ◌∙◌, inl, inr, arith}
use Rattle.std.proofs.lemmas.Bool.{cases_lt}
use Rattle.std.proofs.lemmas.List.{get_or-set_other}
use Rattle.std.proofs.lemmas.Grind.{get_or-set_at}
use Rattle.transpose.proofs.Places.{row_ends}
use Rattle.transpose.proofs.turning.turn_bytes.Goals as goal

pub loop-c-preserved : goal.loop-c-preserved
loop-c-preserved c =
    let ends = row_ends c.loop-i.i c.args.columns.now.count c.args.columns.now.width c.loop-i-test.true in
    let at = c.loop-i.i * c.args.columns.now.width + c.loop-c.c in
    record {
      rows = λ i p li lp.
          let apart = row_ends i c.loop-i.i c.args.columns.now.width li in
          get_or-set_other c.loop-c.rows (c.loop-i.i * c.args.columns.now.width + c.loop-c.c) (i * c.args.columns.now.width + p) _ 0 (λ e. omega arith) ∙ c.loop-c.invariant.rows i p li lp;
      row = λ p lp. elim (cases_lt p c.loop-c.c) [
        | inl lt ↦ get_or-set_other c.loop-c.rows (c.loop-i.i * c.args.columns.now.width + c.loop-c.c) (c.loop-i.i * c.args.columns.now.width + p) _ 0 (λ e. omega arith) ∙ c.loop-c.invariant.row p lt
        | inr ge ↦ (let same : p ≡ c.loop-c.c = omega arith in
            rw same (get_or-set_at c.loop-c.rows (c.loop-i.i * c.args.columns.now.width + c.loop-c.c) (c.loop-i.i * c.args.columns.now.width + c.loop-c.c) _ 0 (omega arith) (omega arith)))
      ];
    }
