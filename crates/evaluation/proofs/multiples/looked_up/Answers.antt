use Rattle.std.proofs.Common.{◌≡◌, ◌+◌, ◌*◌, ◌/◌, ◌%◌, ◌<◌, take, get_or, refl, ap, ◌∙◌, arith, w8}
use Rattle.std.proofs.lemmas.Simd.{SwzOk-from_below, Each1-from_get_or, get_or-swz_l_below}
use Rattle.std.proofs.lemmas.List.{get_or-take}
use Rattle.evaluation.proofs.multiples.looked_up.Goals as goal

pub swizzle : goal.swizzle
swizzle c =
    SwzOk-from_below w8 16 4 64 0 c.args.places refl (omega (arith, c.fits-places.0))
    (Each1-from_get_or (λ j. j < 16) c.args.places 0 (λ i lt. c.requires.places i (omega (arith, c.fits-places.0))))

pub returns : goal.returns
returns c = λ t lt.
    let small = c.requires.places t lt in
    let place : (16 * ((0 + t) / 16) + get_or c.args.places t 0) % 16 ≡ get_or c.args.places t 0 = omega arith in
    get_or-swz_l_below w8 16 c.four_times.result 0 c.args.places t (omega (arith, c.fits-places.0)) small
    ∙ c.four_times.ensures (16 * ((0 + t) / 16) + get_or c.args.places t 0) (omega arith)
    ∙ ap (λ p. get_or (take 16 c.args.table.now) p 0) place
    ∙ get_or-take 16 c.args.table.now (get_or c.args.places t 0) 0 small
