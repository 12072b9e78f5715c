use Rattle.std.proofs.Common.{◌≡◌, ◌<◌, ℕ, length}
use Rattle.std.specs.Prelude.{slice_index}
use Rattle.partition.specs.Fti.{source_count, source_place}
use Rattle.certificate.specs.CoefficientRows.{text_place}
use Rattle.certificate.proofs.column_text.rows_of.Given as goal

abbrev pub invariant-loop-b : goal.invariant-loop-b
invariant-loop-b l = record {
  len : length l.rows.items ≡ length l.text;
  turned : (a i c : ℕ) → a < l.b → i < source_count l.fti a → c < l.fti.symbol_length
      → slice_index l.rows.items (source_place l.fti a i c) ≡ slice_index l.text (text_place l.fti a c i);
}
