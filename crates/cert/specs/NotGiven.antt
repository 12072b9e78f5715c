-- The reason against an object that the polynomials don't give, and how it is looked for: block by
-- block.
use Rattle.std.specs.Prelude.{ℕ, ◌<◌, List}
use Rattle.partition.specs.Fti.{source_count}
use Rattle.cert.specs.declared.verdict.Reason.{Reason}
use Rattle.cert.specs.declared.verdict.Reason.TheVariants.{NotObject}
use Rattle.certificate.specs.Certificate.{Certificate}
use Rattle.cert.specs.Verdict.{GivesAt, IsFirstNotGiven}

-- the first symbol of a column of a block at which they don't
pub record IsFirstIn (object : List ℕ) (z : Certificate) (b c i : ℕ) : Type 0 where
  pub symbol : i < source_count z.fti b
  pub wrong : ¬ GivesAt object z b c i
  pub symbols_before : (n : ℕ) → n < i → GivesAt object z b c n

-- in a block: the first column, and the first symbol in that
pub record IsFirstInBlock (object : List ℕ) (z : Certificate) (b c i : ℕ) : Type 0 where
  pub column : c < z.fti.symbol_length
  pub first : IsFirstIn object z b c i
  pub columns_before : (y n : ℕ) → y < c → n < source_count z.fti b → GivesAt object z b y n

abbrev pub IsNotGiven : List ℕ → Certificate → Reason → Type 0
IsNotGiven object z (NotObject b c i) = IsFirstNotGiven object z b c i
IsNotGiven object z _ = ⊥
