use Rattle.std.proofs.Common.{◌≡◌, ◌∙◌, ◌+◌, ◌<◌, ◌*◌, refl, arith}
use Rattle.std.proofs.Math.Nat.{mul-le-mul_right}
use Rattle.gf256.proofs.RowPlaces.{rows_apart}
use Rattle.partition.specs.Fti.{start_of, source_count}
use Rattle.partition.proofs.Laws.{block_end, padded_below}
use Rattle.certificate.specs.InFile.{front_of}
use Rattle.certificate.proofs.FileTexts.{lost}
use Rattle.certificate.proofs.in_file.CertificateFile.read_block.Goals as goal

pub overflow_mul-from : goal.overflow_mul-from
overflow_mul-from g c =
    let f = c.args.self.now.fti in
    let width_is = c.from-width.ensures ∙ c.symbol_length.ensures.value in
    let most = mul-le-mul_right f.symbol_length (block_end f c.args.self.now.valid c.args.block c.requires.block) in
    let apart = rows_apart (start_of f c.args.block) (source_count f c.args.block) f.symbol_length in
    rw (c.start.ensures.value, width_is) (omega (arith, most, apart, padded_below f c.args.self.now.valid))

pub overflow_add-from : goal.overflow_add-from
overflow_add-from g c =
    let f = c.args.self.now.fti in
    let width_is = c.from-width.ensures ∙ c.symbol_length.ensures.value in
    let most = mul-le-mul_right f.symbol_length (block_end f c.args.self.now.valid c.args.block c.requires.block) in
    let apart = rows_apart (start_of f c.args.block) (source_count f c.args.block) f.symbol_length in
    rw (c.start.ensures.value, width_is) (omega (arith, most, apart, padded_below f c.args.self.now.valid, c.front_of_name.ensures.few))

pub returns-then-branch-told-clause-lost : goal.returns-then-branch-told-clause-lost
returns-then-branch-told-clause-lost g c =
    let f = c.args.self.now.fti in
    let width_is = c.from-width.ensures ∙ c.symbol_length.ensures.value in
    let begin : c.front_of_name.result + c.start.result * c.from-width.result ≡ front_of c.args.self.now.name + start_of f c.args.block * f.symbol_length =
    rw (c.front_of_name.ensures.value, c.start.ensures.value, width_is) refl in
    let short : c.in_ok-fill_at.field-0 < source_count f c.args.block * f.symbol_length = omega (arith, c.if-branch-told.true, c.fill_at.auto.buf, c.requires.size) in
    lost f c.args.self.now.valid c.args.block c.requires.block c.args.self.now.name (g.C.ReadAt.content c.args.self.now.file.now) (g.C.ReadAt.reliable c.args.self.now.file.now)
    (c.front_of_name.result + c.start.result * c.from-width.result) c.in_ok-fill_at.field-0 begin short c.args.self.now.text
    (c.in_ok-fill_at.ensures.end (omega (arith, short, c.requires.size)))
