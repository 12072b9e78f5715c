-- What is known where files were checked.
use Rattle.std.specs.Prelude.{◌≡◌, ◌⊎◌, ℕ, true, List, Option, Some, Result, Ok, Err}
use Rattle.std.specs.Io.KnownBytes.{Consumes, IsAtEnd}
use Rattle.partition.specs.Fti.{Fti, block_count}
use Rattle.session.specs.Frames.{frames, AreDatagrams}
use Rattle.reception.specs.declared.scope.Identity.{Identity}
use Rattle.reception.specs.Symbols.{IsObject}
use Rattle.certificate.specs.Certificate.{Certificate, is_for}
use Rattle.cert.specs.FromReader.{IsCheckedFrom}
use Rattle.cert.specs.Tallying.{IsTally, Tallied, by_certificate, nothing}
use Rattle.cert.specs.Verdict.{GivesObject, IsFirstNotGiven}
use Rattle.cert.specs.declared.tally.Tally.{Tally}
use Rattle.cert.specs.declared.verdict.Reason.{Reason}
use Rattle.cert.specs.declared.verdict.Reason.TheVariants.{NotObject, Symbol}
use Rattle.cert.specs.declared.verdict.Verdict.TheVariants.{No}
use Rattle.file_check.specs.Compared.{AreCompared}
use Rattle.file_check.specs.declared.blocks.Wrong.{Wrong}

-- the reason for which not all blocks are as they should be: the first source point that the
-- certificate doesn't give, or a symbol that is wrong, the first of all blocks
abbrev pub IsBlocksReason : Certificate → List ℕ → Tallied → List (List ℕ) → Reason → Type 0
IsBlocksReason z o t datagrams reason =
    ((b c i : ℕ) × (reason ≡ NotObject b c i) × IsFirstNotGiven o z b c i)
    ⊎ ((wrong : Wrong) × (reason ≡ Symbol wrong.place wrong.column)
    × AreCompared z o t datagrams (block_count z.fti) (Some wrong))

-- the tally of all datagrams of a session, each of them as the certificate has it
pub record IsWholeTally (who : Identity) (session : List ℕ) (z : Certificate)
    (tally : Tally) : Type 0 where
  pub datagrams : List (List ℕ)
  pub each : AreDatagrams datagrams
  pub left : Option (List ℕ)
  pub consumed : Consumes (Some session) left (frames datagrams)
  pub end : IsAtEnd left
  pub identity : tally.scope.identity ≡ who
  pub tallied : IsTally (by_certificate z) z.fti tally datagrams

-- the tally of some datagrams, whatever their symbols hold
pub record IsSomeTally (who : Identity) (f : Fti) (tally : Tally) : Type 0 where
  pub datagrams : List (List ℕ)
  pub each : AreDatagrams datagrams
  pub identity : tally.scope.identity ≡ who
  pub tallied : IsTally nothing f tally datagrams

-- What was found of a session, an object and a certificate: the tally, where each datagram is as
-- the certificate has it and the certificate gives the object; else the first reason.
abbrev pub IsFoundIn : Identity → List ℕ → List ℕ → Certificate → Result Tally Reason → Type 0
IsFoundIn who session object z (Ok tally) = IsWholeTally who session z tally
    × (is_for who z.name ≡ true) × IsObject z.fti object × GivesObject object z
IsFoundIn who session object z (Err reason) =
    (left : Option (List ℕ)) × IsCheckedFrom who (Some session) left object z (No reason)
