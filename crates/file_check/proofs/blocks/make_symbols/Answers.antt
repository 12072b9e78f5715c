use Rattle.std.proofs.Common.{◌∙◌, ◌<◌, ap, sym, subst}
use Rattle.partition.specs.Fti.{Fti, block_count, source_count}
use Rattle.certificate.specs.BlockSymbols.{AreSymbols}
use Rattle.certificate.proofs.BlockSymbols.{values_are}
use Rattle.file_check.proofs.blocks.make_symbols.Goals as goal

pub returns-clause-symbols : goal.returns-clause-symbols
returns-clause-symbols c = λ z good same rows. (
    let hb : c.args.block < block_count z.fti = rw same c.requires.block in
    let k_is = c.k.ensures.value ∙ ap (λ (f : Fti). source_count f c.args.block) (sym same) in
    let width_is = c.from-width.ensures ∙ c.symbol_length.ensures.value ∙ ap (λ (f : Fti). f.symbol_length) (sym same) in
    subst (λ n. AreSymbols z c.args.block 0 n c.evaluate.new.symbols) c.n.ensures.value
    (values_are z good c.args.block hb c.k.result c.from-width.result k_is width_is
    c.args.rows.now c.evaluate.new.symbols 0 c.n.result rows c.evaluate.ensures))
