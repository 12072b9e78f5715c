use Rattle.std.proofs.Common.{◌+◌, ◌*◌, ◌∙◌, ℕ, List, get_or, ap, arith, inl, inr}
use Rattle.std.proofs.lemmas.Bool.{cases_lt}
use Rattle.std.proofs.lemmas.List.{with_items_is}
use Rattle.std.proofs.lemmas.Grind.{common_steps}
use Rattle.block_code.proofs.RowAdding.{row_before}
use Rattle.block_recovery.proofs.rows.Rows.put.Goals as goal

pub returns-clause-elsewhere : goal.returns-clause-elsewhere
returns-clause-elsewhere c = λ m y ne ly.
    let s : ℕ = c.args.self.now.size in
    let old = ap (λ (l : List ℕ). get_or l (m * s + y) 0) c.deref_mut.ensures.value in
    ap (λ (l : List ℕ). get_or l (m * s + y) 0) (with_items_is c.args.self.now.bytes c.put.new.bytes (omega (arith, c.put.ensures.len, c.deref_mut.ensures.len)))
    ∙ elim (cases_lt m c.args.i) [
      | inl lt ↦ c.put.ensures.before (m * s + y) (omega (arith, row_before s m c.args.i lt, ly))
      | inr past ↦ c.put.ensures.behind (m * s + y) (omega (arith, row_before s c.args.i m (omega (arith, past, ne)), c.requires.row))
    ]
    ∙ old

pub invariant_of-self : goal.invariant_of-self
invariant_of-self c = grind (arith, common_steps) steps 2000000

pub returns-clause-here : goal.returns-clause-here
returns-clause-here c = grind (arith, common_steps) steps 2000000
