use Rattle.std.proofs.Common.{arith}
use Rattle.lists.specs.Bytes.{IsByte}
use Rattle.gf256.specs.Arithmetic.{sum_of, product}
use Rattle.elim.proofs.OfGrids.{as_squares, singular_square}
use Rattle.elim.proofs.Replacing.{few_missing}
use Rattle.elim.proofs.Recovering.{part_regular, part_recovers}
use Rattle.elim.proofs.erasure.recovery.Goals as goal

pub part-requires-clause-few_rows : goal.part-requires-clause-few_rows
part-requires-clause-few_rows c = omega (arith, few_missing _ _ _ _ c.requires.erasures, c.rows-rows.ensures.matrix.few_rows)

pub part-requires-clause-few_cols : goal.part-requires-clause-few_cols
part-requires-clause-few_cols c = omega (arith, few_missing _ _ _ _ c.requires.erasures, c.rows-rows.ensures.matrix.few_rows, c.requires.erasures.count)

pub unreachable-requires : goal.unreachable-requires
unreachable-requires c =
    part_regular c.args.generator.now c.rows-rows.ensures.matrix.elements c.rows-rows.ensures.matrix.few_cols c.requires.code c.args.missing.now c.args.repair.now c.requires.erasures
    _ (λ i j li lj. c.in_ok-part.ensures.entries.at i j li (rw c.requires.erasures.count lj))
    (rw c.in_ok-part.ensures.shape.rows at (singular_square IsByte sum_of product 0 c.in_ok-part.part (c.in-Err-Singular.ensures.singular c.in-Err-Singular.field-0-is)))

pub returns-in-Ok-clause-recovers : goal.returns-in-Ok-clause-recovers
returns-in-Ok-clause-recovers c =
    part_recovers c.args.generator.now c.rows-rows.ensures.matrix.elements c.args.missing.now c.args.repair.now c.in_ok-part.part c.in-Ok.inverse
    (λ i j li lj. c.in_ok-part.ensures.entries.at i j li (rw c.requires.erasures.count lj)) c.in-Ok.ensures.elements
    (rw c.in_ok-part.ensures.shape.rows at (as_squares sum_of product 0 1 c.in_ok-part.part c.in-Ok.inverse c.in-Ok.ensures.inverse))
