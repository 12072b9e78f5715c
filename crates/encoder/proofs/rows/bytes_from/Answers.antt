use Rattle.std.proofs.Common.{◌≤◌, ◌*◌, ◌^◌, arith}
use Rattle.std.proofs.Math.Nat.{mul-le-mul_right}
use Rattle.gf256.proofs.RowPlaces.{part_byte}
use Rattle.encoder.proofs.rows.bytes_from.Goals as goal

pub overflow_mul-i : goal.overflow_mul-i
overflow_mul-i c =
    let most : c.args.i * c.args.size ≤ 2 ^ 48 * c.args.size = mul-le-mul_right c.args.size (omega (arith, c.requires.symbol)) in
    omega (arith, most, c.requires.size)

pub returns : goal.returns
returns c = λ p. part_byte c.args.bytes.now c.min-from.result (c.args.i * c.args.size) p (omega arith) (λ l. omega arith)
