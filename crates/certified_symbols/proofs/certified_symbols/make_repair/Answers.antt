use Rattle.std.proofs.Common.{◌-◌, arith}
use Rattle.partition.specs.Fti.{IsValidFti}
use Rattle.certificate.proofs.GreatestBlock.{most_symbols, some_encoding}
use Rattle.certified_symbols.proofs.certified_symbols.make_repair.Goals as goal

pub make-requires-else-esi-n-clause-few : goal.make-requires-else-esi-n-clause-few
make-requires-else-esi-n-clause-few c =
    let f = c.fti-fti.result in
    let valid : IsValidFti f = rw c.fti-fti.ensures.value c.fti-fti.ensures.certificate.fti in
    rw (← c.fti-fti.ensures.value) (most_symbols f valid c.args.block (c.n-n.result - c.k-k.result) (omega (arith, c.n-n.ensures.value)))

pub make-requires-clause-few : goal.make-requires-clause-few
make-requires-clause-few c = some_encoding c.args.symbols.now.certificate.fti c.fti-fti.ensures.certificate.fti
