use Rattle.std.proofs.Common.{◌∙◌}
use Rattle.encoder.proofs.AllValues.{gives_from_column}
use Rattle.encoder.proofs.by_values.certify_by_values.Goals as goal

pub returns-clause-gives : goal.returns-clause-gives
returns-clause-gives c = λ object bytes are coefficients rows y i ly li.
    let f = c.args.fti.now in
    let size = c.from-size.ensures ∙ c.symbol_length.ensures.value in
    let column = c.write_values.ensures.extended object bytes are y ly in
    let made = rw (c.k.ensures.value, size) at c.coefficients.ensures.coefficients in
    gives_from_column f object c.args.b c.coefficients.new.rows coefficients column.polynomial y
    (made y column.polynomial ly column.form column.values) rows ly column.sources i li
