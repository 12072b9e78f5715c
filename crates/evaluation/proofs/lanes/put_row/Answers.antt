use Rattle.std.proofs.Common.{◌≡◌, ◌+◌, ◌*◌, inl, inr, arith}
use Rattle.std.proofs.lemmas.Bool.{cases_lt}
use Rattle.gf256.proofs.RowPlaces.{row_ends}
use Rattle.evaluation.proofs.lanes.put_row.Goals as goal

pub returns-clause-kept : goal.returns-clause-kept
returns-clause-kept c = λ s j lj here. elim (cases_lt s c.args.r) [
  | inl l ↦
      let ends = row_ends s c.args.r c.args.width l in
      c.put_lanes.ensures.below (s * c.args.width + j) (omega (arith, ends, lj))
  | inr g ↦ elim (cases_lt c.args.r s) [
    | inl l ↦
        let ends = row_ends c.args.r s c.args.width l in
        c.put_lanes.ensures.above (s * c.args.width + j) (omega (arith, ends, c.requires.columns))
    | inr m ↦
        (let same : s ≡ c.args.r = omega arith in
        let lt = here same in
        rw same (c.put_lanes.ensures.below (c.args.r * c.args.width + j) (omega (arith, lt))))
  ]
]
