use Rattle.std.proofs.Common.{arith}
use Rattle.std.proofs.lemmas.Grind.{common_steps}
use Rattle.certificate.proofs.GreatestBlock.{few_symbols}
use Rattle.certified_symbols.proofs.block_symbols.BlockSymbols.make.Goals as goal

pub put_symbols-requires-clause-few : goal.put_symbols-requires-clause-few
put_symbols-requires-clause-few c =
    let few = rw (← c.self.view_is) at c.requires.few in
    few_symbols c.self.inside.certificate.fti c.self.invariant.valid.fti c.args.count few

pub invariant_of-self : goal.invariant_of-self
invariant_of-self c = grind (arith, common_steps) steps 2000000
