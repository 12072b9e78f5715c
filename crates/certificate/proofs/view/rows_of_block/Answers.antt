use Rattle.std.proofs.Common.{◌*◌, ◌∙◌, sym, ap, take, drop, arith}
use Rattle.std.proofs.Math.Nat.{mul-le-mul_right}
use Rattle.gf256.proofs.RowPlaces.{rows_apart}
use Rattle.partition.specs.Fti.{Fti, source_count, start_of}
use Rattle.partition.proofs.Laws.{block_end}
use Rattle.certificate.proofs.BlockSymbols.{rows_are}
use Rattle.certificate.proofs.view.rows_of_block.Goals as goal

pub part-requires : goal.part-requires
part-requires c =
    let f = c.args.fti.now in
    let width_is = c.from-width.ensures ∙ c.symbol_length.ensures.value in
    let most = mul-le-mul_right f.symbol_length (block_end f c.symbol_length.ensures.valid c.args.b c.requires.block) in
    let apart = rows_apart (start_of f c.args.b) (source_count f c.args.b) f.symbol_length in
    rw (c.start.ensures.value, width_is, c.k.ensures.value) (omega (arith, most, apart, c.requires.count))

pub returns-clause-rows : goal.returns-clause-rows
returns-clause-rows c = λ z good f_is rows_is.
    let block = rw (← f_is) at c.requires.block in
    rows_are z good c.args.b block c.k.result c.from-width.result
    (c.k.ensures.value ∙ ap (λ (f : Fti). source_count f c.args.b) (sym f_is))
    (c.from-width.ensures ∙ c.symbol_length.ensures.value ∙ ap (λ (f : Fti). f.symbol_length) (sym f_is))
    c.start.result c.part.result.now
    (c.start.ensures.value ∙ ap (λ (f : Fti). start_of f c.args.b) (sym f_is))
    (c.part.ensures.value ∙ ap (λ l. take (c.k.result * c.from-width.result) (drop (c.start.result * c.from-width.result) l)) (sym rows_is))
