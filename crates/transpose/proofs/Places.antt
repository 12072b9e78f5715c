-- Places of rows.
use Rattle.std.proofs.Common.{ℕ, ◌≡◌, ◌<◌, ◌≤◌, ◌+◌, ◌*◌, arith}
use Rattle.std.proofs.Math.Nat.{mul-le-mul_right}

-- a row's bytes end before the next row's begin
pub row_ends : (r s e : ℕ) → r < s → r * e + e ≤ s * e
row_ends r s e h =
    let le : (r + 1) * e ≤ s * e = mul-le-mul_right e (omega arith) in
    let is : (r + 1) * e ≡ r * e + e = omega arith in
    omega arith
