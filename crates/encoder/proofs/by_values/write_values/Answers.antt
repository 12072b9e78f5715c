use Rattle.std.proofs.Common.{◌≡◌, ◌<◌, ◌≤◌, ◌+◌, ◌-◌, ◌*◌, ◌∙◌, ℕ, length, get_or, ap, arith}
use Rattle.std.proofs.lemmas.List.{get_or_append_left, get_or-append_right}
use Rattle.std.proofs.lemmas.Grind.{common_steps}
use Rattle.gf256.specs.Arithmetic.{product}
use Rattle.gf256.proofs.SliceSums.{sum_same}
use Rattle.gf256.proofs.RowPlaces.{row_ends, rows_apart}
use Rattle.partition.specs.Fti.{source_count, source_byte}
use Rattle.block_code.specs.Columns.{AreColumns}
use Rattle.block_code.proofs.ColumnPlaces.{column_product}
use Rattle.block_code.proofs.RowAdding.{products}
use Rattle.encoder.proofs.AllValues.{extended, part_at}
use Rattle.encoder.proofs.by_values.write_values.Goals as goal

pub returns-clause-extended : goal.returns-clause-extended
returns-clause-extended c = λ object bytes are y ly.
    let f = c.args.fti.now in
    let b = c.args.b in
    let code = c.requires.code in
    let g = c.args.code.now.matrix in
    let laid_out : AreColumns c.args.code.now.matrix c.deref.result.now = rw c.deref.ensures.value c.args.code.now.laid_out in
    let k = c.k-k.ensures.value in
    let size = c.from-size.ensures ∙ c.symbol_length.ensures.value in
    let at = products c.k-k.result c.from-size.result (source_count f b) f.symbol_length k size in
    let front : length c.copy_padded.new.out ≡ source_count f b * f.symbol_length = c.copy_padded.auto.out ∙ c.split_at_mut-source_rows.ensures.front_len ∙ at in
    let few : source_count f b ≤ 255 = omega (arith, k, c.k-k.ensures.byte) in
    extended f object b few g _ y code bytes
    (λ j lj.
    let ends = row_ends j (source_count f b) f.symbol_length lj in
    let inside : j * f.symbol_length + y < length c.copy_padded.new.out = omega (arith, ends, front, ly) in
    get_or_append_left c.copy_padded.new.out c.combine.new.out 0 (j * f.symbol_length + y) inside
    ∙ c.copy_padded.ensures (j * f.symbol_length + y) inside ∙ are j y lj ly)
    (λ j past lj.
    let back : source_count f b + (j - source_count f b) ≡ j = omega (arith, past) in
    let split = rows_apart (source_count f b) (j - source_count f b) f.symbol_length in
    let whole : (source_count f b + (j - source_count f b)) * f.symbol_length ≡ j * f.symbol_length = ap (λ (v : ℕ). v * f.symbol_length) back in
    let place : j * f.symbol_length + y - source_count f b * f.symbol_length ≡ (j - source_count f b) * f.symbol_length + y = omega (arith, split, whole) in
    let column : j < g.cols = rw code.cols lj in
    get_or-append_right c.copy_padded.new.out c.combine.new.out (source_count f b * f.symbol_length) (j * f.symbol_length + y) 0 front (omega (arith, split, whole))
    ∙ ap (λ (p : ℕ). get_or c.combine.new.out p 0) place
    ∙ c.combine.ensures.sums object are (j - source_count f b) y (omega (arith, k, past, lj)) ly
    ∙ sum_same (source_count f b) _ (λ i. product (get_or c.deref.result.now (j * source_count f b + i) 0) (source_byte f object b i y))
    (λ i li. ap (λ (v : ℕ). product v (source_byte f object b i y)) (part_at c.deref.result.now (source_count f b) c.k-k.result j i k past lj li))
    ∙ column_product g c.deref.result.now (λ i. source_byte f object b i y) (source_count f b) j laid_out.small laid_out code.rows column (λ i. bytes _))

pub combine-requires-clause-coefficients : goal.combine-requires-clause-coefficients
combine-requires-clause-coefficients c = grind (arith, common_steps) steps 2000000
