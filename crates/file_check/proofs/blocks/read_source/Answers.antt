use Rattle.std.proofs.Common.{◌≡◌, ◌∙◌, ◌*◌, refl, arith}
use Rattle.std.proofs.Math.Nat.{mul-le-mul_right}
use Rattle.gf256.proofs.RowPlaces.{rows_apart, part_long}
use Rattle.partition.specs.Fti.{start_of, source_count}
use Rattle.partition.proofs.Laws.{block_end, padded_below}
use Rattle.file_check.proofs.SourceBytes.{source_read, zeros_only}
use Rattle.file_check.proofs.blocks.read_source.Goals as goal

pub overflow_mul-from : goal.overflow_mul-from
overflow_mul-from g c =
    let f = c.args.fti.now in
    let valid = c.symbol_length.ensures.valid in
    let width_is = c.from.ensures ∙ c.symbol_length.ensures.value in
    let most = mul-le-mul_right f.symbol_length (block_end f valid c.args.block c.requires.block) in
    let apart = rows_apart (start_of f c.args.block) (source_count f c.args.block) f.symbol_length in
    rw (c.start.ensures.value, width_is) (omega (arith, most, apart, padded_below f valid))

pub returns-clause-source : goal.returns-clause-source
returns-clause-source g c = λ o told. (
    let f = c.args.fti.now in
    let width_is = c.from.ensures ∙ c.symbol_length.ensures.value in
    let begin : c.start.result * c.from.result ≡ start_of f c.args.block * f.symbol_length = rw (c.start.ensures.value, width_is) refl in
    let buf = c.fill_at.new.buf in
    let count = c.in_ok-count.count in
    let size = c.fill_at.auto.buf in
    source_read o (c.start.result * c.from.result) count buf c.fill.new.self
    (omega (arith, c.in_ok-count.ensures.bound, size))
    (zeros_only _ c.fill.new.self (c.fill.ensures.after (λ y e. e)))
    (c.fill.ensures.len ∙ part_long buf count)
    (rw told at c.in_ok-count.ensures.bytes)
    (λ lt. rw told at (c.in_ok-count.ensures.end (omega (arith, lt, size))))
    f c.args.block begin (size ∙ c.requires.size))
