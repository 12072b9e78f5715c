-- The first that is wrong, apart from how a walk finds it.
use Rattle.std.specs.Prelude.{◌≡◌, ◌↔◌, ℕ, List, ◌∷◌, ◌++◌, Some, None}
use Rattle.alc.specs.Reading.{Reading}
use Rattle.reception.specs.declared.scope.Scope.{Scope}
use Rattle.reception.specs.Reception.{Judge, Wrong, Placed, counted, symbols, reading_wrong}
use Rattle.reception.specs.Reception.{reception_with}

-- At place i this is wrong, by the symbols that came before; and nothing is at a place before it.
pub record IsFirstAt {R : Type 0} (judge : Judge R) (scope : Scope) (xs : List Placed) (i : ℕ)
    (r : Wrong R) : Type 0 where
  pub before : List Placed
  pub here : Placed
  pub after : List Placed
  pub whole : xs ≡ before ++ here ∷ after
  pub place : here.place ≡ i
  pub wrong : reading_wrong judge scope (symbols before) here.reading ≡ Some r
  pub least : (b : List Placed) (y : Placed) (a : List Placed) → before ≡ b ++ y ∷ a
      → reading_wrong judge scope (symbols b) y.reading ≡ None

-- what a walk answers is just that
abbrev pub TellsTheFirst : {R : Type 0} → Judge R → Scope → Type 0
TellsTheFirst {R} judge known =
    (rs : List Reading) (i : ℕ) (r : Wrong R)
    → ((reception_with judge known rs).wrong ≡ Some (i, r)) ↔ IsFirstAt judge
    (reception_with judge known rs).scope (counted known.identity rs) i r
