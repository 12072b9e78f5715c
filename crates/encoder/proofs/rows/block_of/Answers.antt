use Rattle.std.proofs.Common.{◌*◌, ◌+◌, ◌∙◌, arith}
use Rattle.partition.proofs.Laws.{start_fits}
use Rattle.encoder.proofs.SourcePlaces.{source_from}
use Rattle.encoder.proofs.rows.block_of.Goals as goal

pub bytes_from-requires-clause-symbol : goal.bytes_from-requires-clause-symbol
bytes_from-requires-clause-symbol c =
    omega (arith, start_fits c.args.fti.now c.symbol_length.ensures.valid c.args.b c.requires.block, c.start.ensures.value)

pub returns : goal.returns
returns c = λ i y li ly.
    let f = c.args.fti.now in
    c.bytes_from.ensures (i * f.symbol_length + y)
    ∙ source_from f c.args.object.now c.args.b c.from-size.result c.start.result i y (c.from-size.ensures ∙ c.symbol_length.ensures.value) c.start.ensures.value
