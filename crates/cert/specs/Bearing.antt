-- What a yes promises of losses: which the object bears, and which it doesn't.
use Rattle.std.specs.Prelude.{◌≡◌, ℕ, ◌+◌, ◌<◌, ◌≤◌, Bool, not, List, length}
use Rattle.lists.specs.Selection.{chosen, is_among, is_run, loss_size}
use Rattle.cert.specs.declared.verdict.Report.{Report}
use Rattle.reception.specs.declared.scope.Identity.{Identity}
use Rattle.reception.specs.Answer.{Answer, Empty, Missing, Object, IsOnlyAnswer}

-- a selection of all that a loss leaves: none of the places that are lost, and each other place at
-- least once, in any order
abbrev pub AreLeft : List (List ℕ) → (ℕ → Bool) → List ℕ → Type 0
AreLeft session lost places =
    (i : ℕ) → i < length session → is_among places i ≡ not (lost i)

-- what a decoder answers to every such selection, and nothing else
abbrev pub AnswersAfter : Identity → List (List ℕ) → (ℕ → Bool) → (Answer → Type 0) → Type 0
AnswersAfter who session lost IsRight =
    (places : List ℕ) → AreLeft session lost places
    → (answer : Answer) × IsOnlyAnswer who (chosen session places) answer × IsRight answer

-- no object: no carrier came, or a block is short
abbrev pub IsLack : Answer → Type 0
IsLack Empty = Unit {0}
IsLack (Missing b have need) = Unit {0}
IsLack _ = ⊥

-- Whichever datagrams are lost, where they are no more than the margin, or neighbours and no more
-- than the burst, the others decode to the object, and to nothing else. Where the kill is lost, or
-- one neighbour more than the burst from the place that is told, they don't.
pub record BearsLosses (who : Identity) (session : List (List ℕ)) (object : List ℕ)
    (report : Report) : Type 0 where
  pub margin : (lost : ℕ → Bool) → loss_size lost session ≤ report.margin
      → AnswersAfter who session lost (λ answer. answer ≡ Object object)
  pub burst : (place count : ℕ) → count ≤ report.burst
      → AnswersAfter who session (is_run place count) (λ answer. answer ≡ Object object)
  pub kill : AnswersAfter who session (is_among report.kill.items) IsLack
  pub one_more : AnswersAfter who session (is_run report.burst_place (report.burst + 1)) IsLack
