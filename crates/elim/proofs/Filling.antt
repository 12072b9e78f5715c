-- Loops that set one entry after another.
use Rattle.std.specs.Prelude.{◌≡◌, ◌≢◌, ◌<◌, ◌≤◌, ◌+◌, ℕ}
use Rattle.std.proofs.Common.{◌∙◌, arith, inl, inr}
use Rattle.std.proofs.lemmas.Bool.{cases_eq}
use Rattle.elim.specs.Setting.{IsSet}

-- row r has the values of f in its first places, and all else is as before
pub record IsRowTo {F : Type 0} (n r to : ℕ) (f : ℕ → F) (old new : ℕ → ℕ → F) : Type 0 where
  pub done : (j : ℕ) → j < to → new r j ≡ f j
  pub later : (i j : ℕ) → to ≤ j → j < n → new i j ≡ old i j
  pub others : (i j : ℕ) → j < n → i ≢ r → new i j ≡ old i j

-- two rows have changed places in their first places, and all else is as before
pub record IsSwappedTo {F : Type 0} (n a b to : ℕ) (old new : ℕ → ℕ → F) : Type 0 where
  pub first : (j : ℕ) → j < to → new a j ≡ old b j
  pub second : (j : ℕ) → j < to → new b j ≡ old a j
  pub later : (i j : ℕ) → to ≤ j → j < n → new i j ≡ old i j
  pub others : (i j : ℕ) → j < n → i ≢ a → i ≢ b → new i j ≡ old i j

-- the rows before i, and of row i the places before j, have the values of f
pub record IsFilledTo {F : Type 0} (n i j : ℕ) (f new : ℕ → ℕ → F) : Type 0 where
  pub rows : (a b : ℕ) → a < i → b < n → new a b ≡ f a b
  pub row : (b : ℕ) → b < j → new i b ≡ f i b

pub set_at : {F : Type 0} (n m i j : ℕ) (v : F) (old new : ℕ → ℕ → F) → n ≡ m → IsSet n i j v old new → IsSet m i j v old new
set_at n m i j v old new e h = record { here = h.here; others = rw e at h.others }

module _ {F : Type 0} (n : ℕ) where
  pub filled_more : (i j : ℕ) (v : F) (f cur new : ℕ → ℕ → F) → j < n → v ≡ f i j → IsFilledTo n i j f cur → IsSet n i j v cur new → IsFilledTo n i (j + 1) f new
  filled_more i j v f cur new lj e h s = record {
    rows = λ a b la lb. (let ne : a ≢ i = omega arith in s.others a b lb (λ h2 _. ne h2) ∙ h.rows a b la lb);
    row = λ b lb. elim (cases_eq b j) [
      | inl e2 ↦ rw e2 (s.here ∙ e)
      | inr ne ↦ (let below : b < j = omega arith in let inside : b < n = omega arith in s.others i b inside (λ _ h2. ne h2) ∙ h.row b below)
    ];
  }

  pub filled_row : (i : ℕ) (f new : ℕ → ℕ → F) → IsFilledTo n i n f new → IsFilledTo n (i + 1) 0 f new
  filled_row i f new h = record {
    rows = λ a b la lb. elim (cases_eq a i) [
      | inl e ↦ rw e (h.row b lb)
      | inr ne ↦ (let below : a < i = omega arith in h.rows a b below lb)
    ];
    row = λ b lb. absurd (omega arith);
  }
