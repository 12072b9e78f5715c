-- The symbols of a block that a certificate gives, one behind the other.
use Rattle.std.specs.Prelude.{◌≡◌, ℕ, ◌<◌, ◌≤◌, ◌+◌, ◌*◌, List, length, slice_index}
use Rattle.partition.specs.Fti.{encoding_count}
use Rattle.certificate.specs.Certificate.{Certificate, IsCertificate, certified_byte}

-- so many symbols of block b, from ESI `first` on
abbrev pub AreSymbols : Certificate → ℕ → ℕ → ℕ → List ℕ → Type 0
AreSymbols z b first count bytes =
    (r c : ℕ) → r < count → c < z.fti.symbol_length
    → slice_index bytes (r * z.fti.symbol_length + c) ≡ certified_byte z b (first + r) c

-- which symbols were made last, and of what
pub record MadeSymbols : Type 0 where
  pub certificate : Certificate
  pub block : ℕ
  pub first : ℕ
  pub count : ℕ

abbrev pub made_of : Certificate → ℕ → ℕ → ℕ → MadeSymbols
made_of z b from n = record { certificate = z; block = b; first = from; count = n }

-- the symbols that were made last, in room for all symbols of the greatest block
pub record AreMade (m : MadeSymbols) (bytes : List ℕ) : Type 0 where
  pub valid : IsCertificate m.certificate
  pub room : length bytes ≡ encoding_count m.certificate.fti 0 * m.certificate.fti.symbol_length
  pub within : m.count ≤ encoding_count m.certificate.fti 0
  pub symbols : AreSymbols m.certificate m.block m.first m.count bytes

-- symbol j of block b is one of them
pub record Holds (m : MadeSymbols) (b j : ℕ) : Type 0 where
  pub block : b ≡ m.block
  pub from_first : m.first ≤ j
  pub to_last : j < m.first + m.count
