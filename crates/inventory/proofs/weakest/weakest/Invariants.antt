use Rattle.inventory.proofs.Blocks.{IsBest}
use Rattle.inventory.proofs.weakest.weakest.Given as goal

abbrev pub invariant-loop-block : goal.invariant-loop-block
invariant-loop-block l = IsBest l.fti l.symbols l.block l.weakest l.least_need l.least_have
