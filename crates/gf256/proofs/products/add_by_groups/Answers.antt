use Rattle.std.proofs.Common.{ℕ, ◌≡◌, ◌<◌, ◌≤◌, ◌+◌, ◌-◌, ◌*◌, length, get_or, take, drop, bit_xor, ap, sym, ◌∙◌, inl, inr, arith}
use Rattle.std.specs.Int.Bits.{xor_assoc, xor_zero_r}
use Rattle.std.proofs.lemmas.Bool.{cases_lt}
use Rattle.std.proofs.lemmas.Simd.{get_or-chunk}
use Rattle.gf256.specs.Arithmetic.{product}
use Rattle.gf256.specs.ByteSums.{byte_sum}
use Rattle.gf256.specs.Slices.{source_byte}
use Rattle.gf256.proofs.RowPlaces.{row_ends, rows_apart, rows_fit, put_below, put_at, part_long, from_row, from_row_within}
use Rattle.gf256.proofs.SliceSums.{sum_same, sum_parts}
use borrow.Rule.Slice.PartMut.{put_mid}
use Rattle.gf256.proofs.products.add_by_groups.Goals as goal

pub loop-first-init : goal.loop-first-init
loop-first-init c = record { inside = omega arith; sums = λ r j lr lj. sym (xor_zero_r _) }

pub add_table-requires-clause-room : goal.add_table-requires-clause-room
add_table-requires-clause-room c =
    let w : ℕ = c.part-part.result.width in
    let rows : ℕ = c.args.coefficients.now.rows in
    let all : rows * w ≡ rows * c.args.sources.now.width = ap (λ v. rows * v) c.part-part.ensures.width in
    let room : length c.loop-row.outputs ≡ rows * w = omega (arith, c.loop-row.auto.outputs, c.loop-first.auto.outputs, c.requires.outputs, all) in
    let long = part_long c.loop-row.outputs (c.loop-row.row * w) in
    let fit = rows_fit c.loop-row.row c.min-some.result rows w (omega arith) in
    omega (arith, room, long, fit)

pub loop-row-preserved : goal.loop-row-preserved
loop-row-preserved c =
    let row : ℕ = c.loop-row.row in
    let part = c.part-part.result in
    let w : ℕ = part.width in
    let first : ℕ = c.loop-first.first in
    let count : ℕ = c.args.coefficients.now.count in
    let rows : ℕ = c.args.coefficients.now.rows in
    let outputs = c.loop-row.outputs in
    let bytes = c.args.coefficients.now.bytes.now in
    let all : rows * w ≡ rows * c.args.sources.now.width = ap (λ v. rows * v) c.part-part.ensures.width in
    let room : length outputs ≡ rows * w = omega (arith, c.loop-row.auto.outputs, c.loop-first.auto.outputs, c.requires.outputs, all) in
    let long = part_long outputs (row * w) in
    let start : row * w ≤ length outputs = (let fit = rows_fit row 0 rows w (omega arith) in omega arith) in
    record {
      inside = omega arith;
      done = λ r j lr lj. elim (cases_lt r row) [
        | inl l ↦ let ends = row_ends r row w l in
            put_below outputs c.add_table.new.outputs _ (row * w) (r * w + j) start (omega arith) ∙ c.loop-row.invariant.done r j l lj
        | inr g ↦
            let pos = from_row row r w j g in
            let lr_all : r < rows = omega arith in
            let bound : (r - row) * w + j < length outputs - row * w = (let b = from_row_within row r rows w j g lr_all lj in omega arith) in
            let s : ℕ = r - row in
            let of_rows = take ((row + c.min-some.result) * count - row * count) (drop (row * count) bytes) in
            let sum : ℕ = byte_sum part.count (λ i. product (get_or of_rows (s * count + first + i) 0) (source_byte part i j)) in
            let old : ℕ = get_or c.loop-first.outputs (r * w + j) 0 in
            ap (λ p. get_or (put_mid (row * w) (length outputs - row * w) outputs c.add_table.new.outputs) p 0) pos
            ∙ put_at outputs c.add_table.new.outputs _ (row * w) (s * w + j) start (omega arith)
            ∙ c.add_table.ensures.sums s j (omega arith) lj
            ∙ ap (λ v. bit_xor v sum) (get_or-chunk (row * w) (length outputs - row * w) outputs (s * w + j) 0 bound
            ∙ ap (λ p. get_or outputs p 0) (sym pos) ∙ c.loop-row.invariant.left r j g lr_all lj)
            ∙ ap (bit_xor old) (sum_same part.count _ _ (λ i h.
            let here = from_row row r count (first + i) g in
            let ends = row_ends s c.min-some.result count (omega arith) in
            let apart = rows_apart row c.min-some.result count in
            let bound2 : s * count + first + i < (row + c.min-some.result) * count - row * count = omega arith in
            let back : row * count + (s * count + first + i) ≡ r * count + first + i = omega arith in
            ap (λ v. product v (source_byte part i j))
            (get_or-chunk (row * count) ((row + c.min-some.result) * count - row * count) bytes (s * count + first + i) 0 bound2
            ∙ ap (λ p. get_or bytes p 0) back)))
      ];
      left = λ r j le lr lj.
          let g : row ≤ r = omega arith in
          let pos = from_row row r w j g in
          let bound : (r - row) * w + j < length outputs - row * w = (let b = from_row_within row r rows w j g lr lj in omega arith) in
          let s : ℕ = r - row in
          let past = rows_fit 0 c.min-some.result s w (omega arith) in
          ap (λ p. get_or (put_mid (row * w) (length outputs - row * w) outputs c.add_table.new.outputs) p 0) pos
          ∙ put_at outputs c.add_table.new.outputs _ (row * w) (s * w + j) start (omega arith)
          ∙ c.add_table.ensures.above (s * w + j) (omega arith)
          ∙ get_or-chunk (row * w) (length outputs - row * w) outputs (s * w + j) 0 bound
          ∙ ap (λ p. get_or outputs p 0) (sym pos) ∙ c.loop-row.invariant.left r j g lr lj;
    }

pub loop-first-preserved : goal.loop-first-preserved
loop-first-preserved c = record {
  inside = omega arith;
  sums = λ r j lr lj.
      let part = c.part-part.result in
      let f : ℕ → ℕ = λ i. product (get_or c.args.coefficients.now.bytes.now (r * c.args.coefficients.now.count + i) 0) (source_byte c.args.sources.now i j) in
      let g : ℕ → ℕ = λ i. product (get_or c.args.coefficients.now.bytes.now (r * c.args.coefficients.now.count + c.loop-first.first + i) 0) (source_byte part i j) in
      let n : ℕ = c.min-taken.result in
      let old : ℕ = get_or c.args.outputs.now (r * c.args.sources.now.width + j) 0 in
      let same : part.width ≡ c.args.sources.now.width = c.part-part.ensures.width in
      let inside : j < part.width = omega arith in
      ap (λ w. get_or c.loop-row.outputs (r * w + j) 0) (sym same)
      ∙ c.loop-row.invariant.done r j (omega arith) inside
      ∙ ap (λ w. bit_xor (get_or c.loop-first.outputs (r * w + j) 0) (byte_sum part.count g)) same
      ∙ ap (λ v. bit_xor v (byte_sum part.count g)) (c.loop-first.invariant.sums r j lr lj)
      ∙ ap (λ m. bit_xor (bit_xor old (byte_sum c.loop-first.first f)) (byte_sum m g)) c.part-part.ensures.count
      ∙ ap (bit_xor (bit_xor old (byte_sum c.loop-first.first f))) (sum_same n _ _ (λ i h.
      let at_c : r * c.args.coefficients.now.count + c.loop-first.first + i ≡ r * c.args.coefficients.now.count + (c.loop-first.first + i) = omega arith in
      ap (λ p. product (get_or c.args.coefficients.now.bytes.now p 0) (source_byte part i j)) at_c
      ∙ ap (product (get_or c.args.coefficients.now.bytes.now (r * c.args.coefficients.now.count + (c.loop-first.first + i)) 0))
      (c.part-part.ensures.bytes i j)))
      ∙ xor_assoc old (byte_sum c.loop-first.first f) (byte_sum n (λ i. f (c.loop-first.first + i)))
      ∙ ap (bit_xor old) (sym (sum_parts n c.loop-first.first f));
}
