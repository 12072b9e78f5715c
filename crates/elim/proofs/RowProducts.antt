-- The places of a row times a matrix.
use Rattle.std.proofs.Common.{◌≡◌, ℕ, ◌+◌, ◌<◌, List, length, get_or, ap, ◌∙◌, arith}
use Rattle.std.specs.List.{range_with_len}
use Rattle.std.proofs.lemmas.List.{get_or-map, length-map}
use Rattle.std.proofs.lemmas.List.FromFn.{get_or-range_with_len, length-range_with_len}
use Rattle.gf256.specs.Sums.{row_times}
use Rattle.elim.specs.Grid.{Grid, entry, row_product}

module _ {F : Type 0} (add mul : F → F → F) (none : F) (row : List F) (g : Grid F) where
  pub length-row_product : length (row_product add mul none row g) ≡ g.cols
  length-row_product =
      length-map (range_with_len 0 g.cols) (λ j. row_times add mul none (λ i. get_or row i none) (entry none g) g.rows j)
      ∙ length-range_with_len 0 g.cols

  pub get_or-row_product : (j : ℕ) → j < g.cols → get_or (row_product add mul none row g) j none ≡ row_times add mul none (λ i. get_or row i none) (entry none g) g.rows j
  get_or-row_product j lt =
      let inside : j < length (range_with_len 0 g.cols) = omega (arith, length-range_with_len 0 g.cols) in
      let place : get_or (range_with_len 0 g.cols) j 0 ≡ j = get_or-range_with_len 0 g.cols j 0 lt ∙ (let e : 0 + j ≡ j = omega arith in e) in
      get_or-map (λ j. row_times add mul none (λ i. get_or row i none) (entry none g) g.rows j) (range_with_len 0 g.cols) j 0 none inside
      ∙ ap (λ j. row_times add mul none (λ i. get_or row i none) (entry none g) g.rows j) place
