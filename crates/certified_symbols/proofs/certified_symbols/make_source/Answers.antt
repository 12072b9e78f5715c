use Rattle.std.proofs.Common.{◌∙◌, ap, arith}
use Rattle.partition.specs.Fti.{Fti, source_count}
use Rattle.partition.proofs.Laws.{source_encoding}
use Rattle.certificate.proofs.GreatestBlock.{most_symbols}
use Rattle.certified_symbols.proofs.certified_symbols.make_source.Goals as goal

pub make-requires-clause-few : goal.make-requires-clause-few
make-requires-clause-few c =
    let f = c.args.latest.now.certificate.fti in
    let valid = c.fti.ensures.certificate.fti in
    let k_is = c.k-k.ensures.value ∙ ap (λ (g : Fti). source_count g c.args.block) c.fti.ensures.value in
    most_symbols f valid c.args.block c.k-k.result (omega (arith, k_is, source_encoding f valid c.args.block))
