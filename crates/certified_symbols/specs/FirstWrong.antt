-- The least column in which a symbol isn't the certified one.
use Rattle.std.specs.Prelude.{◌≡◌, ◌≢◌, ℕ, ◌<◌, List, slice_index}
use Rattle.certificate.specs.Certificate.{Certificate, certified_byte}

-- the least column in which these bytes aren't symbol j of block b as certified
pub record IsFirstWrong (z : Certificate) (b j : ℕ) (bytes : List ℕ) (c : ℕ) : Type 0 where
  pub column : c < z.fti.symbol_length
  pub wrong : slice_index bytes c ≢ certified_byte z b j c
  pub right_before : (y : ℕ) → y < c → slice_index bytes y ≡ certified_byte z b j y
