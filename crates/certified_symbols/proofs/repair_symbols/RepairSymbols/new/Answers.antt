use Rattle.partition.proofs.Laws.{some_block}
use Rattle.certified_symbols.proofs.repair_symbols.RepairSymbols.new.Goals as goal

pub n-requires : goal.n-requires
n-requires c = rw c.fti-fti.ensures.value (some_block c.args.latest.now.certificate.fti c.fti-fti.ensures.certificate.fti)

pub k-requires : goal.k-requires
k-requires c = rw c.fti-fti.ensures.value (some_block c.args.latest.now.certificate.fti c.fti-fti.ensures.certificate.fti)
