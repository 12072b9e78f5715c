use Rattle.std.proofs.Common.{◌+◌, ◌*◌, ◌∙◌, sym, arith}
use Rattle.std.proofs.lemmas.List.{get_or_past}
use Rattle.std.proofs.lemmas.Simd.{get_or-replicate}
use Rattle.gf256.proofs.SliceLanes.{below_past, below_within}
use Rattle.gf256.proofs.sources.Sources.lanes.Goals as goal

pub returns-then-i-self : goal.returns-then-i-self
returns-then-i-self c = λ t lt. get_or-replicate 64 t 0 0 lt ∙ sym (below_past c.args.self.now.count c.args.i _ c.if-i-self.true)

pub returns-then-from-self : goal.returns-then-from-self
returns-then-from-self c = λ t lt.
    get_or-replicate 64 t 0 0 lt
    ∙ sym (below_within c.args.self.now.count c.args.i _ c.if-i-self.false
    ∙ get_or_past c.args.self.now.bytes.now (c.args.i * c.args.self.now.stride + (c.args.at + t)) 0 (omega arith))
