-- Which answer is right to the symbols that came.
use Rattle.std.specs.Prelude.{◌≡◌, ℕ, ◌<◌, List, Option}
use Rattle.std.specs.List.{AllByRecursion}
use Rattle.partition.specs.Fti.{Fti, block_count, source_count}
use Rattle.reception.specs.Symbols.{Symbol, arrived_count, AllFull, FullSolvable, FitsOnly}
use Rattle.reception.specs.Symbols.{IsFirstShort, IsFirstUnsolvable}
use Rattle.reception.specs.Within.{IsWithin}
use Rattle.reception.specs.Answer as value
use Rattle.block_recovery.specs.Decoded.{IsEnoughAt}
use Rattle.block_recovery.specs.Received.{IsIndex}
use Rattle.decoder.specs.declared.answer.Short.{Short}

-- no block is short
abbrev pub NoneIsShort : Fti → (ℕ → ℕ → Option (List ℕ)) → Type 0
NoneIsShort f at = (b : ℕ) → b < block_count f → IsEnoughAt f b (at b)

-- the answer to symbols of which no datagram has a fault
abbrev pub AnswerBy : Fti → List Symbol → value.Answer → Type 0
AnswerBy f arrivals (value.NotCode b) = IsFirstUnsolvable f arrivals b
AnswerBy f arrivals (value.Missing b have need) =
    FullSolvable f arrivals × IsFirstShort f arrivals b × (have ≡ arrived_count arrivals b)
    × (need ≡ source_count f b)
AnswerBy f arrivals (value.Object object) =
    FullSolvable f arrivals × AllFull f arrivals × FitsOnly f arrivals object
AnswerBy f arrivals _ = ⊥

-- it answers all lists of symbols that stand so
abbrev pub Answers : Fti → (ℕ → ℕ → Option (List ℕ)) → value.Answer → Type 0
Answers f at answer =
    (arrivals : List Symbol) → IsIndex arrivals at → AllByRecursion (IsWithin f) arrivals
    → AnswerBy f arrivals answer

-- some symbols that the FTI has stand so
pub record Stand (f : Fti) (at : ℕ → ℕ → Option (List ℕ)) : Type 0 where
  pub arrivals : List Symbol
  pub index : IsIndex arrivals at
  pub within : AllByRecursion (IsWithin f) arrivals

-- the first block that is short, of all lists of symbols that stand so
abbrev pub IsShort : Fti → (ℕ → ℕ → Option (List ℕ)) → Short → Type 0
IsShort f at s =
    (arrivals : List Symbol) → IsIndex arrivals at → AllByRecursion (IsWithin f) arrivals
    → IsFirstShort f arrivals s.block × (s.have ≡ arrived_count arrivals s.block)
    × (s.need ≡ source_count f s.block)
