use Rattle.std.proofs.Common.{◌≡◌, ◌<◌, ℕ, length}
use Rattle.partition.specs.Fti.{source_count}
use Rattle.certificate.specs.Certificate.{unnamed}
use Rattle.cert.specs.Verdict.{GivesAt}
use Rattle.encoder.proofs.certifying.certify_blocks.Given as goal

abbrev pub invariant-loop-b : goal.invariant-loop-b
invariant-loop-b l = record {
  len : length l.coefficients ≡ length l.initial.coefficients;
  gives : (x y i : ℕ) → x < l.b → y < l.fti.symbol_length → i < source_count l.fti x
      → GivesAt l.object (unnamed l.fti l.coefficients) x y i;
}
