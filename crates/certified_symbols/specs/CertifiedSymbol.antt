-- A symbol that a certificate gives.
use Rattle.std.specs.Prelude.{◌≡◌, ℕ, ◌<◌, List, slice_index}
use Rattle.certificate.specs.Certificate.{Certificate, certified_byte}

-- what the certificate says of symbol j of block b
abbrev pub IsCertifiedSymbol : Certificate → ℕ → ℕ → List ℕ → Type 0
IsCertifiedSymbol z b j symbol =
    (c : ℕ) → c < z.fti.symbol_length → slice_index symbol c ≡ certified_byte z b j c
