-- The Vandermonde matrix.
use Rattle.std.specs.Prelude.{ℕ, List, slice_index_or}
use Rattle.poly.specs.Polynomial.{power_over}

-- row i has the points to the power i
abbrev pub vandermonde_entry : {F : Type 0} → (F → F → F) → F → F → List F → ℕ → ℕ → F
vandermonde_entry mul none one points i j = power_over mul one (slice_index_or points j none) i
