use Rattle.std.proofs.Common.{◌≡◌, ◌∙◌, ℕ, ◌<◌, ◌+◌, ◌*◌, ◌^◌, ap, arith}
use Rattle.partition.specs.Fti.{source_count}
use Rattle.block_bytes.proofs.BlocksInFile.{end_small}
use Rattle.block_bytes.proofs.file_blocks.begin_of.Goals as goal

begin_is : (c : goal.After-from) → c.start.result * c.from.result ≡ c.start.result * c.args.fti.now.symbol_length
begin_is c = ap (λ (n : ℕ). c.start.result * n) (c.from.ensures ∙ c.symbol_length.ensures.value)

end_is : (c : goal.After-from) → c.start.result * c.args.fti.now.symbol_length + source_count c.args.fti.now c.args.block * c.args.fti.now.symbol_length < 2 ^ 49
end_is c = end_small c.args.fti.now c.symbol_length.ensures.valid c.start.result (source_count c.args.fti.now c.args.block) c.start.ensures.within

pub overflow_mul-result : goal.overflow_mul-result
overflow_mul-result c = omega (arith, begin_is c, end_is c)

pub returns-clause-fits : goal.returns-clause-fits
returns-clause-fits c = omega (arith, begin_is c, end_is c)
