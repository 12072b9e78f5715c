-- The Vandermonde matrix row by row.
use Rattle.std.proofs.Common.{◌≡◌, ℕ, suc, ◌-◌, ◌<◌, List, get_or, arith, ap, refl}
use Rattle.poly.specs.Polynomial.{power_over}
use Rattle.elim.specs.Vandermonde.{vandermonde_entry}

pub first_power : {F : Type 0} (mul : F → F → F) (none one : F) (points : List F) (i j : ℕ) → i ≡ 0 → vandermonde_entry mul none one points i j ≡ one
unfolding power_over
first_power mul none one points i j e = rw e refl

pub next_power : {F : Type 0} (mul : F → F → F) (none one : F) (points : List F) (i j : ℕ) → 0 < i
    → mul (get_or points j none) (vandermonde_entry mul none one points (i - 1) j) ≡ vandermonde_entry mul none one points i j
unfolding power_over
next_power mul none one points i j pos = let e : suc (i - 1) ≡ i = omega arith in ap (λ n. vandermonde_entry mul none one points n j) e
