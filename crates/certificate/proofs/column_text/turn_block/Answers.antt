use Rattle.std.specs.Prelude.{slice_index}
use Rattle.std.proofs.Common.{◌≡◌, ◌∙◌, ◌<◌, ◌≤◌, ◌+◌, ◌-◌, ◌*◌, ℕ, length, drop, sym, ap, arith, get_or-take}
use Rattle.std.proofs.Math.Nat.{mul-le-mul_right, mul_comm}
use Rattle.std.proofs.lemmas.List.{get_or-drop}
use Rattle.std.proofs.lemmas.Grind.{common_steps}
use Rattle.gf256.proofs.RowPlaces.{row_ends, rows_apart, put_at, part_long}
use Rattle.partition.specs.Fti.{start_of, source_count, source_place, symbol_count}
use borrow.Rule.Slice.PartMut.{put_mid}
use Rattle.certificate.specs.CoefficientRows.{text_place}
use Rattle.certificate.proofs.column_text.turn_block.Goals as goal

-- equal factors
products : (a b x y : ℕ) → a ≡ x → b ≡ y → a * b ≡ x * y
products a b x y e h = ap (λ (n : ℕ). n * b) e ∙ ap (λ (n : ℕ). x * n) h

pub turn_front-requires-clause-rows : goal.turn_front-requires-clause-rows
turn_front-requires-clause-rows c =
    let f = c.args.fti.now in
    let size = c.from-width.ensures ∙ c.symbol_length.ensures.value in
    let from = products c.start.result c.from-width.result (start_of f c.args.b) f.symbol_length c.start.ensures.value size in
    let whole = products c.k.result c.from-width.result (source_count f c.args.b) f.symbol_length c.k.ensures.value size in
    let within : start_of f c.args.b + source_count f c.args.b ≤ symbol_count f = omega (arith, c.start.ensures.value, c.start.ensures.within) in
    let most = mul-le-mul_right f.symbol_length within in
    let split = rows_apart (start_of f c.args.b) (source_count f c.args.b) f.symbol_length in
    let long = part_long c.args.rows.now (c.start.result * c.from-width.result) in
    omega (arith, from, whole, most, split, long, c.requires.rows)

pub turn_front-requires-clause-columns : goal.turn_front-requires-clause-columns
turn_front-requires-clause-columns c =
    let f = c.args.fti.now in
    let size = c.from-width.ensures ∙ c.symbol_length.ensures.value in
    let from = products c.start.result c.from-width.result (start_of f c.args.b) f.symbol_length c.start.ensures.value size in
    let whole = products c.k.result c.from-width.result (source_count f c.args.b) f.symbol_length c.k.ensures.value size in
    let within : start_of f c.args.b + source_count f c.args.b ≤ symbol_count f = omega (arith, c.start.ensures.value, c.start.ensures.within) in
    let most = mul-le-mul_right f.symbol_length within in
    let split = rows_apart (start_of f c.args.b) (source_count f c.args.b) f.symbol_length in
    let long = part_long c.args.text.now (c.start.result * c.from-width.result) in
    omega (arith, from, whole, most, split, long, c.requires.text)

pub returns-clause-turned : goal.returns-clause-turned
returns-clause-turned c = λ i y li ly.
    let f = c.args.fti.now in
    let k : ℕ = source_count f c.args.b in
    let size = c.from-width.ensures ∙ c.symbol_length.ensures.value in
    let at : ℕ = c.start.result * c.from-width.result in
    let from = products c.start.result c.from-width.result (start_of f c.args.b) f.symbol_length c.start.ensures.value size in
    let within : start_of f c.args.b + source_count f c.args.b ≤ symbol_count f = omega (arith, c.start.ensures.value, c.start.ensures.within) in
    let most = mul-le-mul_right f.symbol_length within in
    let split = rows_apart (start_of f c.args.b) (source_count f c.args.b) f.symbol_length in
    let apart = rows_apart (start_of f c.args.b) i f.symbol_length in
    let ends = row_ends i k f.symbol_length li in
    let ends2 = row_ends y f.symbol_length k ly in
    let turned2 = mul_comm f.symbol_length (source_count f c.args.b) in
    let long = part_long c.args.rows.now (c.start.result * c.from-width.result) in
    let long2 = part_long c.args.text.now (c.start.result * c.from-width.result) in
    let start : c.start.result * c.from-width.result ≤ length c.args.rows.now = omega (arith, from, most, split, c.requires.rows) in
    let turned = c.turn_front.ensures.turned i y (omega (arith, li, c.k.ensures.value)) (omega (arith, ly, size)) in
    let row = ap (λ (n : ℕ). i * n) size in
    let column = ap (λ (n : ℕ). y * n) c.k.ensures.value in
    let here : source_place f c.args.b i y ≡ at + (i * c.from-width.result + y) = omega (arith, from, apart, row) in
    let there : text_place f c.args.b y i ≡ at + (y * c.k.result + i) = omega (arith, from, column) in
    let inside : i * c.from-width.result + y < length c.turn_front.new.rows = omega (arith, row, from, most, split, ends, ly, long, c.turn_front.ensures.len, c.requires.rows) in
    let inside2 : y * c.k.result + i < length c.args.text.now - c.start.result * c.from-width.result = omega (arith, column, from, most, split, ends2, turned2, li, c.requires.text) in
    ap (slice_index (put_mid (c.start.result * c.from-width.result) (length c.args.rows.now - c.start.result * c.from-width.result) c.args.rows.now c.turn_front.new.rows)) here
    ∙ put_at c.args.rows.now c.turn_front.new.rows _ at (i * c.from-width.result + y) start inside
    ∙ turned
    ∙ get_or-take (length c.args.text.now - c.start.result * c.from-width.result) (drop at c.args.text.now) (y * c.k.result + i) 0 inside2
    ∙ get_or-drop at c.args.text.now (y * c.k.result + i) 0
    ∙ ap (slice_index c.args.text.now) (sym there)

pub returns-clause-before : goal.returns-clause-before
returns-clause-before c = grind (arith, common_steps) steps 2000000
