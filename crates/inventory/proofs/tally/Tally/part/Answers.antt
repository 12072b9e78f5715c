use Rattle.std.proofs.Common.{◌∙◌, subst, Option}
use Rattle.partition.specs.Fti.{Fti}
use Rattle.inventory.specs.Parts.{IsWeakestBy}
use Rattle.inventory.specs.Packets.{carried, symbol_ids}
use Rattle.inventory.proofs.Steps.{ids_counted}
use Rattle.inventory.proofs.tally.Tally.part.Goals as goal

pub returns-clause-part : goal.returns-clause-part
returns-clause-part c = λ xs some tally. record {
  some = some;
  datagrams = tally.datagrams;
  first = tally.first;
  last = tally.last;
  carriers = tally.carriers.count;
  ftis = c.in_ok-ftis.ensures (carried xs) tally.carriers;
  symbols = c.len.ensures.len ∙ ids_counted (symbol_ids xs) c.args.self.now.symbols c.len.ensures.ordered tally.symbols;
  weakest = subst (λ (o : Option Fti). IsWeakestBy o (symbol_ids xs) c.weakest.result) tally.carriers.first (c.weakest.ensures (symbol_ids xs) tally.symbols);
}
