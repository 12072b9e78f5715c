use Rattle.std.proofs.Common.{◌≡◌, ◌≤◌, ◌+◌, ◌-◌, ◌*◌, get_or, subst, sym, ap, ◌∙◌, inl, inr, arith}
use Rattle.std.proofs.lemmas.Bool.{cases_lt}
use Rattle.std.proofs.lemmas.Simd.{get_or-put_chunk_below, get_or-put_chunk_at, get_or-put_chunk_above}
use lib.Lanes.{put_chunk}
use Rattle.gf256.proofs.bit_lists.put_list.Goals as goal

pub returns-clause-within : goal.returns-clause-within
returns-clause-within c = λ q lt. get_or-put_chunk_at c.args.at c.args.lists.now c.args.v q 0 (let long = c.fits-v.0 in omega arith) (let long = c.fits-v.0 in omega arith)

pub returns-clause-below : goal.returns-clause-below
returns-clause-below c = λ p lt. get_or-put_chunk_below c.args.at c.args.lists.now c.args.v p 0 lt

pub returns-clause-small : goal.returns-clause-small
returns-clause-small c = λ limit old lanes p. elim (cases_lt p c.args.at) [
  | inl l ↦ subst (λ n. n + 8 ≤ 8 * limit) (sym (get_or-put_chunk_below c.args.at c.args.lists.now c.args.v p 0 l)) (old p)
  | inr g ↦ elim (cases_lt p (c.args.at + 16)) [
    | inl l ↦
        let long = c.fits-v.0 in
        let e : c.args.at + (p - c.args.at) ≡ p = omega arith in
        subst (λ n. n + 8 ≤ 8 * limit) (sym (ap (λ k. get_or (put_chunk c.args.at c.args.lists.now c.args.v) k 0) (sym e) ∙ get_or-put_chunk_at c.args.at c.args.lists.now c.args.v (p - c.args.at) 0 (omega arith) (omega arith))) (lanes (p - c.args.at) (omega arith))
    | inr m ↦
        let long = c.fits-v.0 in
        subst (λ n. n + 8 ≤ 8 * limit) (sym (get_or-put_chunk_above c.args.at c.args.lists.now c.args.v p 0 (omega arith))) (old p)
  ]
]
