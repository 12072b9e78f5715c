use Rattle.std.specs.Borrow.{Bor}
use Rattle.std.proofs.Common.{◌<◌, ◌∙◌, ℕ, List, [], length, get_or, refl, arith}
use Rattle.std.proofs.lemmas.List.{length-set, get_or_default}
use Rattle.block_recovery.specs.declared.arrivals.Arrival.{Arrival}
use Rattle.std.proofs.lemmas.Grind.{common_steps}
use Rattle.block_recovery.proofs.Arrived.{placed, passed_over}
use Rattle.block_recovery.proofs.arrivals.symbols_below.Goals as goal
use Rattle.block_recovery.proofs.arrivals.symbols_below.Goals.{then-esi-n, else-esi-n}

pub loop-arrival-preserved : goal.loop-arrival-preserved
loop-arrival-preserved c =
    let held : Bor (List ℕ) → List ℕ = λ s. s.now in
    let came = c.args.arrivals.now in
    let i = c.loop-arrival.arrival-index in
    let none : Arrival (Bor (List ℕ)) = record { esi = 0; symbol = record { ref_ptr = (0, 0); now = [] } } in
    let a = get_or came i none in
    let is = get_or_default came i none a c.loop-arrival-test.true in
    let symbols = c.loop-arrival.symbols.items in
    elim c.if-esi-n.branch [
      | then-esi-n w ↦
          let inside : c.from-esi.result < length c.loop-arrival.symbols.items = omega (arith, w.if-esi-n.true, c.loop-arrival.invariant.len) in
          rw w.symbols-is (record {
            len = length-set symbols c.from-esi.result _ ∙ c.loop-arrival.invariant.len;
            at = λ j lj. placed held came i a c.loop-arrival-test.true is c.from-esi.result c.from-esi.ensures j symbols _ inside refl (c.loop-arrival.invariant.at j lj);
          })
      | else-esi-n w ↦
          rw w.symbols-is (record {
            len = c.loop-arrival.invariant.len;
            at = λ j lj.
                c.loop-arrival.invariant.at j lj
                ∙ passed_over held came i a c.loop-arrival-test.true is c.from-esi.result c.from-esi.ensures j (λ e. omega (arith, e, lj, w.if-esi-n.false));
          })
    ]

pub loop-arrival-init : goal.loop-arrival-init
loop-arrival-init c = grind (arith, common_steps) steps 2000000

pub returns-clause-at : goal.returns-clause-at
returns-clause-at c = grind (arith, common_steps) steps 2000000
