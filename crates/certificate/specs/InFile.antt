-- A certificate in a file.
use Rattle.std.specs.Prelude.{◌≡◌, ◌⊎◌, ℕ, Bool, false, List, Option, Some, None, IfSome, drop}
use Rattle.std.specs.Prelude.{map, flat_map, slice_index}
use Rattle.lists.specs.Below.{below}
use Rattle.partition.specs.Fti.{Fti, block_count, source_count}
use Rattle.reception.specs.declared.scope.Identity.{Identity}
use Rattle.certificate.specs.Certificate.{Certificate, IsCertificate, certificate_text}
use Rattle.certificate.specs.CoefficientRows.{text_place}

-- row i of block b, of coefficients that are told column by column
abbrev pub told_row : Fti → List ℕ → ℕ → ℕ → List ℕ
told_row f told b i = map (λ c. slice_index told (text_place f b c i)) (below f.symbol_length)

-- the rows of a block
abbrev pub told_block : Fti → List ℕ → ℕ → List ℕ
told_block f told b = flat_map (told_row f told b) (below (source_count f b))

-- the coefficients that a text has behind its front, row by row
abbrev pub rows_in : Option Identity → Fti → List ℕ → List ℕ
rows_in (Some who) f told = told
rows_in None f told = flat_map (told_block f told) (below (block_count f))

-- how many bytes stand before them
abbrev pub front_of : Option Identity → ℕ
front_of (Some who) = 34
front_of None = 14

-- the certificate of this FTI, with this name or without one, whose text the bytes are, if they are
-- one's
abbrev pub certificate_in : List ℕ → Fti → Option Identity → Certificate
certificate_in text f name = record {
  fti = f;
  name = name;
  coefficients = rows_in name f (drop (front_of name) text);
}

-- the file's bytes, where they are told, are its text
abbrev pub HoldsText : Option (List ℕ) → Fti → Option Identity → Type 0
HoldsText content f name = IfSome content (λ text. IsCertificate (certificate_in text f name)
    × (text ≡ certificate_text (certificate_in text f name)))

-- a file has failed, or isn't as it was: nothing is told of its bytes then, or it may fail
abbrev pub IsLost : Option (List ℕ) → Bool → Type 0
IsLost content reliable = (content ≡ None) ⊎ (reliable ≡ false)
