-- The repair symbols that a certificate gives of the first blocks, block after block.
use Rattle.std.specs.Prelude.{◌≡◌, ℕ, ◌<◌, ◌≤◌, ◌+◌, ◌*◌, List, length, slice_index}
use Rattle.partition.specs.Fti.{block_count, source_count, encoding_count}
use Rattle.certificate.specs.Certificate.{Certificate, IsCertificate, certified_byte}

-- n symbols of block b stand at its place, from the first repair symbol on
abbrev pub AreKeptOf : Certificate → ℕ → ℕ → List ℕ → Type 0
AreKeptOf z n b bytes =
    (r c : ℕ) → r < n → c < z.fti.symbol_length
    → slice_index bytes (b * (n * z.fti.symbol_length) + (r * z.fti.symbol_length + c))
    ≡ certified_byte z b (source_count z.fti b + r) c

-- those of the first blocks, as many of each as the greatest block has repair symbols
pub record AreKept (z : Certificate) (n blocks : ℕ) (bytes : List ℕ) : Type 0 where
  pub valid : IsCertificate z
  pub most : source_count z.fti 0 + n ≤ encoding_count z.fti 0
  pub within : blocks ≤ block_count z.fti
  pub room : length bytes ≡ blocks * (n * z.fti.symbol_length)
  pub symbols : (b : ℕ) → b < blocks → AreKeptOf z n b bytes

-- symbol j of block b is kept
pub record Keeps (z : Certificate) (n blocks b j : ℕ) : Type 0 where
  pub block : b < blocks
  pub from_first : source_count z.fti b ≤ j
  pub to_last : j < source_count z.fti b + n
