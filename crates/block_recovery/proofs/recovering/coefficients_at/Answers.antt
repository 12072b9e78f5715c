use Rattle.std.proofs.Common.{◌≡◌, ◌<◌, ◌≤◌, ◌+◌, ◌-◌, ◌*◌, ◌∙◌, ◌++◌, ℕ, List, length, get_or, take, drop, ap, sym, arith, inl, inr, get_or-take, length-take-le, length-append}
use Rattle.std.specs.Prelude.{slice_index}
use Rattle.std.proofs.Math.Nat.{mul-le-mul_right}
use Rattle.std.proofs.lemmas.Bool.{cases_lt}
use Rattle.std.proofs.lemmas.List.{get_or_append_left, get_or-append-add, get_or-drop, length-drop}
use Rattle.std.proofs.lemmas.Grind.{elements}
use Rattle.gf256.proofs.RowPlaces.{row_ends}
use Rattle.elim.specs.Grid.{Grid, entry}
use Rattle.block_code.specs.Columns.{AreColumns}
use Rattle.block_recovery.proofs.recovering.coefficients_at.Goals as goal

-- a column more of coefficients, behind those of the places before
module _ (g : Grid ℕ) (columns : List ℕ) (laid_out : AreColumns g columns) (j k : ℕ) (e : k ≡ g.rows) (lj : j < g.cols) (old new : List ℕ) (m : ℕ)
    (is : new ≡ old ++ take (j * k + k - j * k) (drop (j * k) columns)) (count : length old ≡ m * g.rows) where
  from : j * k ≡ j * g.rows
  from = ap (λ (v : ℕ). j * v) e

  inside : j * g.rows + g.rows ≤ length columns
  inside = let ends = row_ends j g.cols g.rows lj in omega (arith, ends, laid_out.count)

  part : take (j * k + k - j * k) (drop (j * k) columns) ≡ take g.rows (drop (j * g.rows) columns)
  part = let s : j * k + k - j * k ≡ g.rows = omega (arith, e) in ap (λ (v : ℕ). take v (drop (j * k) columns)) s ∙ ap (λ (v : ℕ). take g.rows (drop v columns)) from

  part_count : length (take g.rows (drop (j * g.rows) columns)) ≡ g.rows
  part_count = length-take-le g.rows (drop (j * g.rows) columns) (omega (arith, inside, length-drop (j * g.rows) columns))

  pub count_next : length new ≡ (m + 1) * g.rows
  count_next = ap length is ∙ length-append old _ ∙ omega (arith, count, ap length part, part_count)

  pub before : (p : ℕ) → p < length old → slice_index new p ≡ slice_index old p
  before p lt = ap (λ (l : List ℕ). get_or l p 0) is ∙ get_or_append_left old _ 0 p lt

  pub here : (i : ℕ) → i < g.rows → slice_index new (m * g.rows + i) ≡ entry 0 g i j
  here i li =
      let place : m * g.rows + i ≡ length old + i = omega (arith, count) in
      ap (λ (l : List ℕ). get_or l (m * g.rows + i) 0) is
      ∙ ap (λ (p : ℕ). get_or (old ++ take (j * k + k - j * k) (drop (j * k) columns)) p 0) place
      ∙ get_or-append-add old (take (j * k + k - j * k) (drop (j * k) columns)) i 0
      ∙ ap (λ (l : List ℕ). get_or l i 0) part
      ∙ get_or-take g.rows (drop (j * g.rows) columns) i 0 li ∙ get_or-drop (j * g.rows) columns i 0
      ∙ laid_out.entries i j li lj

pub overflow_mul-esis : goal.overflow_mul-esis
overflow_mul-esis c =
    let most : length c.args.esis.now * c.rows-k.result ≤ 255 * c.rows-k.result = mul-le-mul_right c.rows-k.result c.requires.few in
    omega (arith, most, c.rows-k.ensures.value, c.rows-k.ensures.matrix.few_rows)

pub loop-m-preserved : goal.loop-m-preserved
loop-m-preserved c =
    let g = c.args.code.now.matrix in
    let j : ℕ = c.from.result in
    let lj : c.from.result < c.args.code.now.matrix.cols = rw c.from.ensures (c.requires.within c.loop-m.m (omega arith)) in
    let is = c.in_ok-extend_from_slice.ensures.items ∙ ap (λ (l : List ℕ). c.loop-m.coefficients.items ++ take (j * c.rows-k.result + c.rows-k.result - j * c.rows-k.result) (drop (j * c.rows-k.result) l)) c.deref.ensures.value in
    record {
      count = count_next g c.args.code.now.columns.items c.args.code.now.laid_out j c.rows-k.result c.rows-k.ensures.value lj c.loop-m.coefficients.items _ c.loop-m.m is c.loop-m.invariant.count;
      entries = λ m i lm li. elim (cases_lt m c.loop-m.m) [
        | inl lt ↦
            before g c.args.code.now.columns.items c.args.code.now.laid_out j c.rows-k.result c.rows-k.ensures.value lj c.loop-m.coefficients.items _ c.loop-m.m is c.loop-m.invariant.count
            (m * g.rows + i) (let ends = row_ends m c.loop-m.m g.rows lt in omega (arith, ends, li, c.loop-m.invariant.count))
            ∙ c.loop-m.invariant.entries m i lt li
        | inr ge ↦
            (let e : m ≡ c.loop-m.m = omega arith in
            ap (λ (n : ℕ). slice_index c.extend_from_slice.new.self.items (n * g.rows + i)) e
            ∙ here g c.args.code.now.columns.items c.args.code.now.laid_out j c.rows-k.result c.rows-k.ensures.value lj c.loop-m.coefficients.items _ c.loop-m.m is c.loop-m.invariant.count i li
            ∙ ap (entry 0 g i) (c.from.ensures ∙ ap (slice_index c.args.esis.now) (sym e)))
      ];
    }

pub slice_bounds-extend_from_slice-end : goal.slice_bounds-extend_from_slice-end
slice_bounds-extend_from_slice-end c = grind (arith, elements) steps 2000000
