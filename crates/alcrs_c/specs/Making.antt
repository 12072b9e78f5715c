-- What is made of an object, by the numbers that C passes: the symbol length, and how many source
-- symbols and how many encoding symbols a block has at most.
use Rattle.std.specs.Prelude.{◌≡◌, ℕ, Bool, true, false, List, [], length, Some}
use Rattle.partition.specs.Fti.{Fti, IsValidFti, fti_from}
use Rattle.partition.specs.FtiFault.{fti_fault}
use Rattle.partition.specs.declared.FtiError.{FtiError}
use Rattle.partition.specs.declared.order.Order.{Order}
use Rattle.partition.specs.declared.order.Order.TheVariants.{Blocks, Rounds}
use Rattle.session.specs.Frames.{frames}
use Rattle.reception.specs.declared.scope.Identity.{Identity}
use Rattle.encoder.specs.Sending.{IsSessionOf}
use Rattle.encoder.specs.Certified.{IsCertifiedTo}

-- the FTI of the object and the numbers
abbrev pub fti_of : List ℕ → ℕ × ℕ × ℕ → Fti
fti_of object numbers = fti_from (length object) numbers.0 numbers.1 numbers.2

-- the order of sending, by whether it goes in rounds
abbrev pub order_of : Bool → Order
order_of true = Rounds
order_of false = Blocks

-- the bytes are the session of the object
pub record IsEncoded (object : List ℕ) (tsi toi : ℕ) (numbers : ℕ × ℕ × ℕ) (every : ℕ)
    (rounds : Bool) (bytes : List ℕ) : Type 0 where
  pub valid : IsValidFti (fti_of object numbers)
  pub datagrams : List (List ℕ)
  pub session : IsSessionOf object (fti_of object numbers) tsi toi every (order_of rounds) datagrams
  pub text : bytes ≡ frames datagrams

-- the bytes are the certificate of the object, with this name
pub record IsCertified (object : List ℕ) (numbers : ℕ × ℕ × ℕ) (who : Identity)
    (bytes : List ℕ) : Type 0 where
  pub valid : IsValidFti (fti_of object numbers)
  pub text : IsCertifiedTo object (fti_of object numbers) who (Some []) (Some bytes)

-- the first thing that is wrong with the numbers
abbrev pub IsNoFti : List ℕ → ℕ × ℕ × ℕ → FtiError → Type 0
IsNoFti object numbers e = fti_fault (fti_of object numbers) ≡ Some e
