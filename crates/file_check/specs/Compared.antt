-- What comes of comparing blocks, where the files' bytes are told.
use Rattle.std.specs.Prelude.{◌<◌, ◌≤◌, ℕ, List, Option, IfSome, length}
use Rattle.certificate.specs.Certificate.{Certificate}
use Rattle.cert.specs.Tallying.{Tallied}
use Rattle.cert.specs.Verdict.{GivesBlock}
use Rattle.file_check.specs.Blocks.{AreSaid, IsWrong, limit_of}
use Rattle.file_check.specs.declared.blocks.Wrong.{Wrong}

-- a block was compared: with the object, and with the datagrams' symbols, of which this is the
-- first wrong one so far
pub record IsCompared (z : Certificate) (o : List ℕ) (t : Tallied) (datagrams : List (List ℕ))
    (b : ℕ) (before wrong : Option Wrong) : Type 0 where
  pub gives : GivesBlock o z b
  pub said : AreSaid z t datagrams b (limit_of wrong (length datagrams))
  pub is : IfSome before (IsWrong z t.scope datagrams) → IfSome wrong (IsWrong z t.scope datagrams)
  pub earlier : IfSome before (IsWrong z t.scope datagrams)
      → limit_of wrong (length datagrams) ≤ limit_of before (length datagrams)

-- so were the first blocks
pub record AreCompared (z : Certificate) (o : List ℕ) (t : Tallied) (datagrams : List (List ℕ))
    (blocks : ℕ) (wrong : Option Wrong) : Type 0 where
  pub gives : (b : ℕ) → b < blocks → GivesBlock o z b
  pub said : (b : ℕ) → b < blocks → AreSaid z t datagrams b (limit_of wrong (length datagrams))
  pub is : IfSome wrong (IsWrong z t.scope datagrams)
