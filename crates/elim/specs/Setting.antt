-- An entry of a matrix that is set.
use Rattle.std.specs.Prelude.{◌≡◌, ◌<◌, ℕ}

-- one entry is v, and the others stay
pub record IsSet {F : Type 0} (n i j : ℕ) (v : F) (old new : ℕ → ℕ → F) : Type 0 where
  pub here : new i j ≡ v
  pub others : (a b : ℕ) → b < n → (a ≡ i → b ≡ j → ⊥) → new a b ≡ old a b
