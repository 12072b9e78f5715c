use Rattle.std.proofs.Common.{◌≡◌, ◌*◌, ◌≤◌, ◌∙◌, length, length-take-le, ap, arith}
use Rattle.partition.specs.Fti.{Fti, source_count}
use Rattle.certificate.proofs.BlockSymbols.{values_are, symbols_in_front}
use Rattle.certified_symbols.proofs.block_symbols.put_symbols.Goals as goal

pub returns : goal.returns
returns c =
    let z = c.args.certificate.now in
    let k_is = c.k-k.ensures.value ∙ ap (λ (f : Fti). source_count f c.args.block) c.fti-fti.ensures.value in
    let width_is = c.from-width.ensures ∙ c.symbol_length.ensures.value ∙ ap (λ (f : Fti). f.symbol_length) c.fti-fti.ensures.value in
    let size : c.args.count * c.from-width.result ≡ c.args.count * z.fti.symbol_length = ap (λ w. c.args.count * w) width_is in
    let room : c.args.count * c.from-width.result ≤ length c.args.bytes.now = omega (arith, size, c.requires.bytes) in
    symbols_in_front z c.args.block c.args.first c.args.count c.evaluate.new.symbols _
    (c.evaluate.auto.symbols ∙ length-take-le _ c.args.bytes.now room ∙ size)
    (values_are z c.fti-fti.ensures.certificate c.args.block c.requires.block c.k-k.result c.from-width.result k_is width_is
    c.rows.result.now c.evaluate.new.symbols c.args.first c.args.count c.rows.ensures.rows c.evaluate.ensures)
