-- What converting a certificate's coefficients block by block has read and written.
use Rattle.std.specs.Prelude.{◌≡◌, ◌≢◌, ℕ, ◌<◌, ◌≤◌, ◌+◌, ◌*◌, List, length, slice_index, Bool}
use Rattle.std.specs.Prelude.{true, Option, Some, None, IfSome}
use Rattle.std.specs.Io.KnownBytes.{Consumes, Appends}
use Rattle.lists.specs.Bytes.{AreBytes}
use Rattle.session.specs.Pieces.{AppendsSome}
use Rattle.partition.specs.Fti.{Fti, block_count, start_of, source_count, source_place}
use Rattle.reception.specs.declared.scope.Identity.{Identity}
use Rattle.certificate.specs.declared.certificate.CertFault.TheVariants.{Size}
use Rattle.certificate.specs.declared.converting.ConvertFault.{ConvertFault}
use Rattle.certificate.specs.declared.converting.ConvertFault.TheVariants.{Certificate as InText}
use Rattle.certificate.specs.declared.converting.ConvertFault.TheVariants.{Write}
use Rattle.certificate.specs.Certificate.{coefficient_count}
use Rattle.certificate.specs.CoefficientRows.{text_place}
use Rattle.certificate.specs.CertificateReading.{IsReadFault}

-- a block's coefficients as a text with or without a name has them, and row by row
abbrev pub AreBlockRows : Option Identity → ℕ → ℕ → List ℕ → List ℕ → Type 0
AreBlockRows (Some who) count width told rows = told ≡ rows
AreBlockRows None count width told rows =
    (i c : ℕ) → i < count → c < width
    → slice_index rows (i * width + c) ≡ slice_index told (c * count + i)

-- the first n blocks' coefficients as a text with or without a name has them, and row by row
abbrev pub AreSame : Option Identity → Fti → ℕ → List ℕ → List ℕ → Type 0
AreSame (Some who) f n told rows = told ≡ rows
AreSame None f n told rows =
    (b i c : ℕ) → b < n → i < source_count f b → c < f.symbol_length
    → slice_index rows (source_place f b i c) ≡ slice_index told (text_place f b c i)

-- which were read, and written row by row
pub record Converts (name : Option Identity) (f : Fti) (n : ℕ)
    (left here before after : Option (List ℕ)) : Type 0 where
  pub told : List ℕ
  pub rows : List ℕ
  pub told_count : length told ≡ start_of f n * f.symbol_length
  pub rows_count : length rows ≡ start_of f n * f.symbol_length
  pub bytes : AreBytes rows
  pub same : AreSame name f n told rows
  pub consumed : Consumes left here told
  pub gained : Appends before after rows

-- a beginning of the rows of some blocks was written, which were read
pub record ConvertsSome (name : Option Identity) (f : Fti)
    (left before after : Option (List ℕ)) : Type 0 where
  pub blocks : ℕ
  pub inside : blocks ≤ block_count f
  pub here : Option (List ℕ)
  pub read : Converts name f blocks left here None None
  pub gained : AppendsSome before after read.rows

-- why coefficients weren't converted
abbrev pub IsBlockFault : ConvertFault → Fti → Option (List ℕ) → Bool → ℕ → Bool → Type 0
IsBlockFault (InText e) f left reader_failed room writer_failed =
    IsReadFault e reader_failed × (e ≡ Size → IfSome left (λ x. length x ≢ coefficient_count f))
IsBlockFault Write f left reader_failed room writer_failed =
    (writer_failed ≡ true) × IfSome left (λ x. room < length x)
