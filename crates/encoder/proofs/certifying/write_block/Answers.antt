use Rattle.std.proofs.Common.{◌≡◌, ◌≤◌, ◌*◌, ◌∙◌, length, arith, length-take-le, rules}
use Rattle.std.proofs.lemmas.Grind.{common_steps}
use Rattle.partition.specs.Fti.{source_count}
use Rattle.certificate.proofs.GreatestBlock.{rows_of_block}
use Rattle.block_code.proofs.RowAdding.{products}
use Rattle.encoder.proofs.FirstRows.{to_ok, to_err}
use Rattle.encoder.proofs.certifying.write_block.Goals as goal

pub slice_bounds-block-end : goal.slice_bounds-block-end
slice_bounds-block-end g c =
    let f = c.args.fti.now in
    let whole = products c.k-count.result c.from.result (source_count f c.args.b) f.symbol_length c.k-count.ensures.value (c.from.ensures ∙ c.symbol_length.ensures.value) in
    omega (arith, whole, rows_of_block f c.symbol_length.ensures.valid c.args.b, c.requires.room)

pub slice_bounds-block-end-2 : goal.slice_bounds-block-end-2
slice_bounds-block-end-2 g c =
    let f = c.args.fti.now in
    let whole = products c.k-count.result c.from.result (source_count f c.args.b) f.symbol_length c.k-count.ensures.value (c.from.ensures ∙ c.symbol_length.ensures.value) in
    let room : c.k-count.result * c.from.result ≤ length c.args.rows.now = omega (arith, whole, rows_of_block f c.symbol_length.ensures.valid c.args.b, c.requires.room) in
    omega (arith, length-take-le (c.k-count.result * c.from.result) c.args.rows.now room)

pub certify_block-requires-clause-room : goal.certify_block-requires-clause-room
certify_block-requires-clause-room g c =
    let f = c.args.fti.now in
    let whole = products c.k-count.result c.from.result (source_count f c.args.b) f.symbol_length c.k-count.ensures.value (c.from.ensures ∙ c.symbol_length.ensures.value) in
    let room : c.k-count.result * c.from.result ≤ length c.args.rows.now = omega (arith, whole, rows_of_block f c.symbol_length.ensures.valid c.args.b, c.requires.room) in
    omega (arith, whole, length-take-le (c.k-count.result * c.from.result) c.args.rows.now room)

pub returns-clause-ok : goal.returns-clause-ok
returns-clause-ok g c = λ object bytes sources.
    let f = c.args.fti.now in
    let whole = products c.k-count.result c.from.result (source_count f c.args.b) f.symbol_length c.k-count.ensures.value (c.from.ensures ∙ c.symbol_length.ensures.value) in
    let room : c.k-count.result * c.from.result ≤ length c.args.rows.now = omega (arith, whole, rows_of_block f c.symbol_length.ensures.valid c.args.b, c.requires.room) in
    let long : length c.certify_block.new.rows ≡ source_count f c.args.b * f.symbol_length = omega (arith, c.certify_block.ensures.len, whole, length-take-le (c.k-count.result * c.from.result) c.args.rows.now room) in
    to_ok c.write_all.result (λ wrote. record {
      rows = c.certify_block.new.rows;
      are = record { count = long; bytes = c.certify_block.ensures.bytes; gives = c.certify_block.ensures.gives object bytes sources };
      gained = wrote;
    }) c.write_all.ensures.ok

pub returns-clause-err : goal.returns-clause-err
returns-clause-err g c = λ object bytes sources.
    let f = c.args.fti.now in
    let whole = products c.k-count.result c.from.result (source_count f c.args.b) f.symbol_length c.k-count.ensures.value (c.from.ensures ∙ c.symbol_length.ensures.value) in
    let room : c.k-count.result * c.from.result ≤ length c.args.rows.now = omega (arith, whole, rows_of_block f c.symbol_length.ensures.valid c.args.b, c.requires.room) in
    let long : length c.certify_block.new.rows ≡ source_count f c.args.b * f.symbol_length = omega (arith, c.certify_block.ensures.len, whole, length-take-le (c.k-count.result * c.from.result) c.args.rows.now room) in
    to_err c.write_all.result (λ wrote. record {
      rows = c.certify_block.new.rows;
      are = record { count = long; bytes = c.certify_block.ensures.bytes; gives = c.certify_block.ensures.gives object bytes sources };
      gained = wrote;
    }) c.write_all.ensures.err

pub certify_block-requires-clause-interpolator : goal.certify_block-requires-clause-interpolator
certify_block-requires-clause-interpolator g c = search rules

pub returns-clause-full : goal.returns-clause-full
returns-clause-full g c = grind (arith, common_steps) steps 2000000

pub returns-clause-fills : goal.returns-clause-fills
returns-clause-fills g c = grind (arith, common_steps) steps 2000000
