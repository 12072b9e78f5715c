use Rattle.std.proofs.Common.{refl, arith}
use Rattle.std.proofs.lemmas.Simd.{get_or-replicate}
use Rattle.gf256.proofs.lanes.last_lanes.Goals as goal

pub loop-t-init : goal.loop-t-init
loop-t-init c = (refl, (λ i h. absurd (omega arith)), (λ i le lt. get_or-replicate 64 i 0 0 lt))
