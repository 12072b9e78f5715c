-- What is told of a block that is short, of which a twin of the object is made.
use Rattle.std.specs.Prelude.{◌≡◌, ◌<◌, ℕ, List, length, Option, Some, None, ⊤}
use Rattle.partition.specs.Fti.{block_count, source_count}
use Rattle.session.specs.Frames.{IsFramed}
use Rattle.reception.specs.declared.scope.Identity.{Identity}
use Rattle.certificate.specs.Certificate.{Certificate}
use Rattle.cert.specs.FromReader.{IsCheckedFrom}
use Rattle.cert.specs.Twins.{IsTwin, IsTwinOfSession, different_esis}
use Rattle.cert.specs.declared.verdict.Reason.TheVariants.{Thin}
use Rattle.cert.specs.declared.verdict.Verdict.{Verdict}
use Rattle.cert.specs.declared.verdict.Verdict.TheVariants.{No}
use Rattle.file_check.specs.Files.{IsTextOf}
use Rattle.file_check.specs.declared.checking.ShortBlock.{ShortBlock}

-- the numbers of a short block are these, and a twin can be made for what came of it
pub record IsShortBlock (b have need : ℕ) (short : ShortBlock) : Type 0 where
  pub block : short.block ≡ b
  pub symbols : short.have ≡ have
  pub needed : short.need ≡ need
  pub inside : b < block_count short.fti
  pub few : length (different_esis short.arrived_esis.items) < source_count short.fti b

-- one is told just where that is the reason
abbrev pub IsShortFound : Verdict → Option ShortBlock → Type 0
IsShortFound (No (Thin b have need)) (Some short) = IsShortBlock b have need short
IsShortFound (No (Thin b have need)) None = ⊥
IsShortFound verdict (Some short) = ⊥
IsShortFound verdict None = ⊤

-- each twin that is made for what came is one of the object and the session
abbrev pub MakesTwins : Identity → List ℕ → List ℕ → Certificate → Verdict → Option ShortBlock
    → Type 0
MakesTwins who session object z (No (Thin b have need)) (Some short) = (short.fti ≡ z.fti)
    × ((datagrams : List (List ℕ)) (other : List ℕ) → IsFramed datagrams session
    → IsTwin z.fti b short.arrived_esis.items object other
    → IsTwinOfSession who z.fti b datagrams object other)
MakesTwins who session object z verdict short = ⊤

-- the verdict on a session's bytes, an object and a certificate's text, and where a block is short
-- what a twin is made of
abbrev pub IsTwinnedIn : Identity → List ℕ → List ℕ → List ℕ → Verdict → Option ShortBlock
    → Type 0
IsTwinnedIn who session object text verdict short = (z : Certificate) × IsTextOf text z
    × ((left : Option (List ℕ)) × IsCheckedFrom who (Some session) left object z verdict)
    × MakesTwins who session object z verdict short
