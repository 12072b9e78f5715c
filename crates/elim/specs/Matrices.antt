-- Rows and matrices as functions of places into a field.
use Rattle.std.specs.Prelude.{◌==◌, ℕ, if◌then◌else◌}

-- each value is an element
abbrev pub AreElements : {F : Type 0} → (F → Type 0) → (ℕ → F) → Type 0
AreElements element f = (i : ℕ) → element (f i)

-- the entries of the identity
abbrev pub identity_entry : {F : Type 0} → F → F → ℕ → ℕ → F
identity_entry none one i j = if i == j then one else none
