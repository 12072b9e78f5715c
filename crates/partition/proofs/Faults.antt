-- An FTI whose numbers stand in their fields is valid exactly where it has no fault.
use Rattle.std.specs.Prelude.{◌≡◌, ◌<◌, ◌^◌, None}
use Rattle.std.proofs.Common.{arith}
use Rattle.std.proofs.lemmas.Bool.Decides.{nat_tests}
use Rattle.partition.specs.Fti.{Fti, IsValidFti}
use Rattle.partition.specs.FtiFault.{fti_fault}

pub valid_no_fault : (f : Fti) → IsValidFti f → fti_fault f ≡ None
valid_no_fault f valid = grind (arith, valid.some_length, valid.length_below, valid.some_symbol, valid.some_block, valid.no_more, valid.blocks)

pub no_fault_valid : (f : Fti) → f.symbol_length < 2 ^ 16 → f.max_symbols < 256 → fti_fault f ≡ None → IsValidFti f
no_fault_valid f symbol_below max_below none = record {
  some_length = grind (arith, nat_tests);
  length_below = grind (arith, nat_tests);
  some_symbol = grind (arith, nat_tests);
  symbol_below = symbol_below;
  some_block = grind (arith, nat_tests);
  no_more = grind (arith, nat_tests);
  max_below = max_below;
  blocks = grind (arith, nat_tests);
}
