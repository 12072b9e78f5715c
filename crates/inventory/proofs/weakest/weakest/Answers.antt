use Rattle.std.proofs.Common.{◌∙◌, ◌<◌, sym, arith}
use Rattle.partition.specs.Fti.{block_count}
use Rattle.partition.proofs.Laws.{some_block}
use Rattle.inventory.proofs.Blocks.{better, kept, best_of_all, best_at_gap}
use Rattle.inventory.proofs.weakest.weakest.Goals as goal
use Rattle.inventory.proofs.weakest.weakest.Goals.{then-have-least_need, else-have-least_need}

pub k-least_need-requires : goal.k-least_need-requires
k-least_need-requires c = some_block c.args.fti.now c.is_valid.ensures

pub have_of-least_have-requires : goal.have_of-least_have-requires
have_of-least_have-requires c = some_block c.args.fti.now c.is_valid.ensures

pub loop-block-init : goal.loop-block-init
loop-block-init c = record {
  within = some_block c.args.fti.now c.is_valid.ensures;
  needs = c.k-least_need.ensures.value;
  has = c.have_of-least_have.ensures.count;
  small = (c.k-least_need.ensures.byte, c.have_of-least_have.ensures.small);
  least = λ b l. absurd (omega (arith, l));
  first = λ b l. absurd (omega (arith, l));
}

pub overflow_add-have : goal.overflow_add-have
overflow_add-have c = let small = c.have_of-have.ensures.small in let before = c.loop-block.invariant.small.0 in omega (arith, small, before)

pub loop-block-preserved : goal.loop-block-preserved
loop-block-preserved c =
    let best = c.loop-block.invariant in
    let at = c.loop-block.block in
    let count = c.block_count-block-end.ensures.value in
    let test = c.loop-block-test.true in
    let within : c.loop-block.block < block_count c.args.fti.now = omega (arith, count, test) in
    elim c.if-have-least_need.branch [
      | then-have-least_need w ↦
          rw (w.weakest-is, w.least_need-is, w.least_have-is)
          (better c.args.fti.now c.args.symbols.now at c.loop-block.weakest c.loop-block.least_need c.loop-block.least_have best c.k-need.result c.have_of-have.result c.k-need.ensures.value
          c.have_of-have.ensures.count within (c.k-need.ensures.byte, c.have_of-have.ensures.small) w.if-have-least_need.true)
      | else-have-least_need w ↦
          rw (w.weakest-is, w.least_need-is, w.least_have-is)
          (kept c.args.fti.now c.args.symbols.now at c.loop-block.weakest c.loop-block.least_need c.loop-block.least_have best c.k-need.result c.have_of-have.result c.k-need.ensures.value
          c.have_of-have.ensures.count w.if-have-least_need.false)
    ]

pub returns-then-have-eq0 : goal.returns-then-have-eq0
returns-then-have-eq0 c = λ ids are.
    let best = c.loop-block.invariant in
    let at = c.loop-block.block in
    let count = c.block_count-block-end.ensures.value in
    let test = c.loop-block-test.true in
    let within : c.loop-block.block < block_count c.args.fti.now = omega (arith, count, test) in
    let none = sym c.have_of-have.ensures.count ∙ c.if-have-eq0.true in
    elim c.if-have-least_need.branch [
      | then-have-least_need w ↦
          rw (w.weakest-is, w.least_need-is, w.least_have-is)
          (best_at_gap c.args.fti.now c.args.symbols.now at c.loop-block.block c.k-need.result c.have_of-have.result
          (better c.args.fti.now c.args.symbols.now at c.loop-block.weakest c.loop-block.least_need c.loop-block.least_have best c.k-need.result c.have_of-have.result c.k-need.ensures.value
          c.have_of-have.ensures.count within (c.k-need.ensures.byte, c.have_of-have.ensures.small) w.if-have-least_need.true) c.is_valid.ensures none ids are)
      | else-have-least_need w ↦
          rw (w.weakest-is, w.least_need-is, w.least_have-is)
          (best_at_gap c.args.fti.now c.args.symbols.now at c.loop-block.weakest c.loop-block.least_need c.loop-block.least_have
          (kept c.args.fti.now c.args.symbols.now at c.loop-block.weakest c.loop-block.least_need c.loop-block.least_have best c.k-need.result c.have_of-have.result c.k-need.ensures.value
          c.have_of-have.ensures.count w.if-have-least_need.false) c.is_valid.ensures none ids are)
    ]

pub returns : goal.returns
returns c = λ ids are.
    let count = c.block_count-block-end.ensures.value in
    let test = c.loop-block-test.false in
    best_of_all c.args.fti.now c.args.symbols.now c.loop-block.block c.loop-block.weakest c.loop-block.least_need c.loop-block.least_have c.loop-block.invariant ids are (omega (arith, count, test))
