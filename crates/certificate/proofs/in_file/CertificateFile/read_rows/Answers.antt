use Rattle.std.proofs.Common.{◌∙◌, rules}
use Rattle.certificate.proofs.FileTexts.{on_ok, rows_there, rows_turned}
use Rattle.certificate.proofs.in_file.CertificateFile.read_rows.Goals as goal

pub returns-in-Some-clause-rows : goal.returns-in-Some-clause-rows
returns-in-Some-clause-rows g c = λ text told. (
    let z = c.args.self.now in
    on_ok c.read_block.result
    (rows_there z.fti z.valid c.args.block c.requires.block z.name c.in-Some.field-0 c.in-Some.is text c.read_block.new.told (c.read_block.ensures.len ∙ c.requires.size) (rw told at z.text))
    (rw told at c.read_block.ensures.told))

pub returns-in_ok-read_block-in-None-clause-rows : goal.returns-in_ok-read_block-in-None-clause-rows
returns-in_ok-read_block-in-None-clause-rows g c = λ text told. (
    let z = c.args.self.now in
    let k = c.k.ensures.value in
    let e = c.from-width.ensures ∙ c.symbol_length.ensures.value in
    rows_turned z.fti z.valid c.args.block c.requires.block z.name c.in-None.is text c.read_block-in-None.new.told c.turn_front.new.rows (search rules)
    (rw told at c.in_ok-read_block-in-None.ensures.told) (rw (k, e) at c.turn_front.ensures.turned))
