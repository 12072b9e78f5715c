use Rattle.std.proofs.Common.{◌<◌, ◌+◌, ◌-◌, ◌*◌, ◌/◌, ◌%◌, drop, take, get_or, ap, ◌∙◌, arith}
use Rattle.std.proofs.lemmas.Simd.{get_or-chunk}
use Rattle.gf256.specs.Arithmetic.{sum_of, product}
use Rattle.evaluation.proofs.Halves.{tabled}
use Rattle.evaluation.proofs.multiples.Multiples.times.Goals as goal

pub returns : goal.returns
returns c = λ t x lt lx low high.
    let small : c.from-at.result < 256 = omega (arith, c.ranges.c.fits, c.from-at.ensures) in
    c.sum_lanes.ensures t lt
    ∙ ap (λ v. sum_of v (get_or c.looked_up-of_high.result t 0))
    (c.looked_up-of_low.ensures t lt ∙ ap (λ p. get_or (take (8192 - c.from-at.result * 32) (drop (c.from-at.result * 32) c.args.self.now.bytes)) p 0) low
    ∙ get_or-chunk (c.from-at.result * 32) (8192 - c.from-at.result * 32) c.args.self.now.bytes (x % 16) 0 (omega (arith, small)))
    ∙ ap (sum_of (get_or c.args.self.now.bytes (c.from-at.result * 32 + x % 16) 0))
    (c.looked_up-of_high.ensures t lt ∙ ap (λ p. get_or (take (8192 - (c.from-at.result * 32 + 16)) (drop (c.from-at.result * 32 + 16) c.args.self.now.bytes)) p 0) high
    ∙ get_or-chunk (c.from-at.result * 32 + 16) (8192 - (c.from-at.result * 32 + 16)) c.args.self.now.bytes (x / 16) 0 (omega (arith, small)))
    ∙ tabled c.args.self.now.bytes c.from-at.result x c.args.self.now.products small lx
    ∙ ap (λ n. product n x) c.from-at.ensures
