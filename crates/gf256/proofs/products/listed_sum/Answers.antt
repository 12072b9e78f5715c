use Rattle.std.proofs.Common.{◌≡◌, ◌+◌, ◌*◌, get_or, sym, ap, ◌∙◌, arith}
use Rattle.std.specs.Int.Bits.{xor_zero_r}
use Rattle.std.proofs.lemmas.Simd.{get_or-replicate}
use Rattle.gf256.specs.ByteSums.{byte_sum}
use Rattle.gf256.specs.Slices.{horner}
use Rattle.gf256.proofs.SliceSums.{listed_next, horner_next}
use Rattle.gf256.proofs.products.listed_sum.Goals as goal

pub loop-b-init : goal.loop-b-init
unfolding horner
loop-b-init c = λ t lt. get_or-replicate 64 t 0 0 lt

pub loop-q-init : goal.loop-q-init
loop-q-init c = λ t lt. sym (xor_zero_r _)

pub loop-q-preserved : goal.loop-q-preserved
loop-q-preserved c = λ t lt. listed_next (λ q. get_or c.args.table.now (64 * (q * c.args.tiling.entries) + 8 * get_or c.args.lists.now (c.args.at + c.loop-b.b * 16 + q) 0 + t) 0) c.loop-q.q _ _ _ _
    (c.sum_lanes-sum.ensures t lt) (c.loop-q.invariant t lt) (c.lanes_at.ensures t lt ∙ ap (λ p. get_or c.args.table.now (64 * (c.loop-q.q * c.args.tiling.entries) + 8 * p + t) 0) c.from.ensures)

pub loop-b-preserved : goal.loop-b-preserved
loop-b-preserved c = λ t lt.
    let e : c.loop-q.q ≡ c.args.tiling.groups = omega arith in
    horner_next (λ b. byte_sum c.args.tiling.groups (λ q. get_or c.args.table.now (64 * (q * c.args.tiling.entries) + 8 * get_or c.args.lists.now (c.args.at + b * 16 + q) 0 + t) 0)) c.loop-b.b _ _ _ _
    (c.loop-q.invariant t lt) (c.double_lanes-sum.ensures t lt) (c.loop-b.invariant t lt) (ap (λ n. byte_sum n (λ q. get_or c.args.table.now (64 * (q * c.args.tiling.entries) + 8 * get_or c.args.lists.now (c.args.at + c.loop-b.b * 16 + q) 0 + t) 0)) e)
