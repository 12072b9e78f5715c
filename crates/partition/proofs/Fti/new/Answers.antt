use Rattle.std.proofs.Common.{rules}
use Rattle.partition.specs.Fti.{symbol_count, block_count}
use Rattle.partition.proofs.Kept.{kept_of}
use Rattle.partition.proofs.Laws.{ceiling_is}
use Rattle.partition.proofs.Fti.new.Goals as goal

pub invariant_of-result : goal.invariant_of-result
unfolding symbol_count block_count
invariant_of-result c = kept_of _ (search (ceiling_is, rules)) _ _ (search rules) (search rules)

pub returns-then-e-eq0-clause-first_fault : goal.returns-then-e-eq0-clause-first_fault
returns-then-e-eq0-clause-first_fault c = search rules
