use Rattle.std.proofs.Common.{◌+◌, refl, sym, ◌∙◌, arith}
use Rattle.std.proofs.lemmas.List.{get_or_past}
use Rattle.std.proofs.lemmas.Simd.{get_or-replicate}
use Rattle.evaluation.proofs.lanes.last_lanes.Goals as goal

pub returns-then-at-bytes : goal.returns-then-at-bytes
returns-then-at-bytes c = λ t lt. get_or-replicate 64 t 0 0 lt ∙ sym (get_or_past c.args.bytes.now (c.args.at + t) 0 (omega arith))

pub loop-t-init : goal.loop-t-init
loop-t-init c = (refl, (λ i h. absurd (omega arith)), (λ i le lt. get_or-replicate 64 i 0 0 lt))
