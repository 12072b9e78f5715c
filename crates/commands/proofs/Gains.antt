-- A line that gains a text, and then another.
use Rattle.std.proofs.Common.{◌≡◌, ◌∙◌, ℕ, List, ◌++◌, Ok, Err, ap, append_assoc}
use Rattle.std.specs.Prelude.{Result, OnOk}

pub gains_more : {T E : Type 0} (r : Result T E) (old middle new first second : List ℕ) → middle ≡ old ++ first
    → OnOk r (new ≡ middle ++ second) → OnOk r (new ≡ old ++ (first ++ second))
gains_more (Ok x) old middle new first second e h = h ∙ ap (λ (l : List ℕ). l ++ second) e ∙ append_assoc old first second
gains_more (Err x) old middle new first second e h = h

pub gain : (old middle new first second : List ℕ) → middle ≡ old ++ first → new ≡ middle ++ second → new ≡ old ++ (first ++ second)
gain old middle new first second e h = h ∙ ap (λ (l : List ℕ). l ++ second) e ∙ append_assoc old first second
