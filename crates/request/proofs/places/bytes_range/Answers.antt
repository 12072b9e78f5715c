use Rattle.std.proofs.Common.{ℕ, List, subst}
use Rattle.std.specs.Prelude.{IfNone}
use Rattle.request.specs.Places.{IsNoRange}
use Rattle.request.proofs.PlaceWords.{no_text}
use Rattle.request.proofs.places.bytes_range.Goals as goal

pub returns-in-Ok-clause-none : goal.returns-in-Ok-clause-none
returns-in-Ok-clause-none c =
    subst (λ (w : List ℕ). IfNone c.place_range.result (IsNoRange w)) c.in-Ok.ensures.cases.0 c.place_range.ensures.none

pub returns-in-Err-clause-none : goal.returns-in-Err-clause-none
returns-in-Err-clause-none c = no_text c.args.word.now c.in-Err.ensures.cases.0
