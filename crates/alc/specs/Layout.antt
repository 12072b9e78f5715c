-- Where the fields of a header lie.
use Rattle.std.specs.Prelude.{◌≡◌, ℕ, ◌+◌, ◌*◌, ◌/◌, ◌%◌, ◌≤◌, List, length, slice_index}
use Rattle.alc.specs.PacketFault.{c_of, s_of, o_of, h_of, fixed_words, header_end}
use Rattle.alc.specs.declared.header.Header.{Header}

-- a fixed part without a fault
pub record Passed (d : List ℕ) : Type 0 where
  pub long : 4 ≤ length d
  pub version : slice_index d 0 / 16 ≡ 1
  pub psi : slice_index d 0 % 4 ≡ 0
  pub codepoint : slice_index d 3 ≡ 5
  pub tsi : 1 ≤ s_of d + h_of d
  pub toi : 1 ≤ o_of d + h_of d
  pub words : fixed_words d ≤ slice_index d 2
  pub within : header_end d ≤ length d

-- the places of the fields
pub record Lies (h : Header) (d : List ℕ) : Type 0 where
  pub passed : Passed d
  pub tsi : h.tsi ≡ 4 + 4 * (c_of d + 1)
  pub toi : h.toi ≡ 4 + 4 * (c_of d + 1) + (4 * s_of d + 2 * h_of d)
  pub extensions : h.extensions ≡ 4 * fixed_words d
  pub end : h.end ≡ header_end d
