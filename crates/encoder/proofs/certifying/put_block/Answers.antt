use Rattle.std.proofs.Common.{◌≡◌, ◌<◌, ◌≤◌, ◌+◌, ◌-◌, ◌*◌, ◌∙◌, ℕ, length, get_or, sym, ap, arith}
use Rattle.std.proofs.lemmas.Grind.{common_steps}
use Rattle.std.proofs.Math.Nat.{mul-le-mul_right}
use Rattle.gf256.proofs.RowPlaces.{row_ends, rows_apart, put_at}
use Rattle.partition.specs.Fti.{start_of, source_count, source_place, symbol_count}
use Rattle.block_code.proofs.SourceRows.{bytes_fit}
use Rattle.block_code.proofs.RowAdding.{products}
use borrow.Rule.Slice.PartMut.{put_mid}
use Rattle.encoder.proofs.certifying.put_block.Goals as goal

pub slice_bounds-rows-end : goal.slice_bounds-rows-end
slice_bounds-rows-end c =
    let f = c.args.fti.now in
    let size = c.from-size.ensures ∙ c.symbol_length.ensures.value in
    let from = products c.start.result c.from-size.result (start_of f c.args.b) f.symbol_length c.start.ensures.value size in
    let whole = products c.k.result c.from-size.result (source_count f c.args.b) f.symbol_length c.k.ensures.value size in
    let within : start_of f c.args.b + source_count f c.args.b ≤ symbol_count f = omega (arith, c.start.ensures.value, c.start.ensures.within) in
    let most = mul-le-mul_right f.symbol_length within in
    let split = rows_apart (start_of f c.args.b) (source_count f c.args.b) f.symbol_length in
    omega (arith, from, whole, most, split, c.requires.room)

pub returns-clause-gives : goal.returns-clause-gives
returns-clause-gives c =
    let f = c.args.fti.now in
    let k : ℕ = source_count f c.args.b in
    let size = c.from-size.ensures ∙ c.symbol_length.ensures.value in
    let from = products c.start.result c.from-size.result (start_of f c.args.b) f.symbol_length c.start.ensures.value size in
    let whole = products c.k.result c.from-size.result (source_count f c.args.b) f.symbol_length c.k.ensures.value size in
    let within : start_of f c.args.b + source_count f c.args.b ≤ symbol_count f = omega (arith, c.start.ensures.value, c.start.ensures.within) in
    let most = mul-le-mul_right f.symbol_length within in
    let split = rows_apart (start_of f c.args.b) (source_count f c.args.b) f.symbol_length in
    let at : ℕ = c.start.result * c.from-size.result in
    let start : c.start.result * c.from-size.result ≤ length c.args.coefficients.now = omega (arith, from, most, split, c.requires.room) in
    c.certify_block.ensures.gives c.args.object.now (bytes_fit c.args.object.now c.type_inv.object) c.block_of.ensures
    (put_mid (c.start.result * c.from-size.result) (c.start.result * c.from-size.result + c.k.result * c.from-size.result - c.start.result * c.from-size.result) c.args.coefficients.now c.certify_block.new.rows)
    (λ n y ln ly.
    let ends = row_ends n k f.symbol_length ln in
    let apart = rows_apart (start_of f c.args.b) n f.symbol_length in
    let place : source_place f c.args.b n y ≡ at + (n * f.symbol_length + y) = omega (arith, from, apart) in
    let long : length c.certify_block.new.rows ≡ k * f.symbol_length = omega (arith, whole, c.certify_block.ensures.len) in
    let inside : n * f.symbol_length + y < length c.certify_block.new.rows = omega (arith, ends, ly, long) in
    sym
    (ap (λ (p : ℕ). get_or (put_mid (c.start.result * c.from-size.result) (c.start.result * c.from-size.result + c.k.result * c.from-size.result - c.start.result * c.from-size.result) c.args.coefficients.now c.certify_block.new.rows) p 0) place
    ∙ put_at c.args.coefficients.now c.certify_block.new.rows _ at (n * f.symbol_length + y) start inside))

pub returns-clause-before : goal.returns-clause-before
returns-clause-before c = grind (arith, common_steps) steps 2000000
