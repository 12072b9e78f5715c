-- What making and writing rows of coefficients has done.
use Rattle.std.specs.Prelude.{◌≡◌, ℕ, ◌*◌, List, length, Bool, true, Option}
use Rattle.std.specs.Io.KnownBytes.{Appends}
use Rattle.lists.specs.Bytes.{AreBytes}
use Rattle.partition.specs.Fti.{Fti, source_count}
use Rattle.certificate.specs.Certificate.{unnamed}
use Rattle.certificate.specs.CoefficientRows.{AreRowsOf}
use Rattle.cert.specs.Verdict.{GivesBlock}
use Rattle.session.specs.Pieces.{AppendsSome}
use Rattle.encoder.specs.declared.certifying_from.CertifyFromFault.{CertifyFromFault}
use Rattle.encoder.specs.declared.certifying_from.CertifyFromFault.TheVariants.{Object, Write}
use Rattle.encoder.specs.declared.certifying_from.CertifyFromFault.TheVariants.{NoMemory}
use Rattle.encoder.specs.ObjectRead.{IsObjectFault}
use Rattle.encoder.specs.Certified.{AreFirstRows}

-- a certificate with these rows of coefficients in block b gives the object's symbols there
abbrev pub RowsGive : List ℕ → Fti → ℕ → List ℕ → Type 0
RowsGive object f b rows =
    (coefficients : List ℕ) → AreRowsOf (unnamed f coefficients) b rows
    → GivesBlock object (unnamed f coefficients) b

-- such rows
pub record AreBlockRows (object : List ℕ) (f : Fti) (b : ℕ) (rows : List ℕ) : Type 0 where
  pub count : length rows ≡ source_count f b * f.symbol_length
  pub bytes : AreBytes rows
  pub gives : RowsGive object f b rows

-- such rows were written
pub record WritesBlock (object : List ℕ) (f : Fti) (b : ℕ)
    (old new : Option (List ℕ)) : Type 0 where
  pub rows : List ℕ
  pub are : AreBlockRows object f b rows
  pub gained : Appends old new rows

-- a beginning of them was
pub record BeginsBlock (object : List ℕ) (f : Fti) (b : ℕ)
    (old new : Option (List ℕ)) : Type 0 where
  pub rows : List ℕ
  pub are : AreBlockRows object f b rows
  pub gained : AppendsSome old new rows

-- the rows of the first n blocks were written
pub record WritesRows (object : List ℕ) (f : Fti) (n : ℕ) (old new : Option (List ℕ)) : Type 0 where
  pub rows : List ℕ
  pub first : AreFirstRows object f n rows
  pub gained : Appends old new rows

-- why the rows of the blocks that a reader had weren't all written
abbrev pub IsRowsFault : CertifyFromFault → Fti → Option (List ℕ) → Bool → Bool → Bool → Type 0
IsRowsFault (Object e) f left sound reader_failed writer_failed =
    IsObjectFault e f left sound reader_failed
IsRowsFault Write f left sound reader_failed writer_failed = writer_failed ≡ true
IsRowsFault NoMemory f left sound reader_failed writer_failed = ⊥
