-- Symbols that can't have a block's padding are those of no object.
use Rattle.std.specs.Prelude.{filter, is_some, slice_index, ◌||◌, ◌==◌}
use Rattle.std.proofs.Common.{◌≡◌, ◌≢◌, ℕ, ◌-◌, ◌<◌, ◌≤◌, Bool, true, false, List, Option, Some, None, length, get_or, refl, sym, ap, subst, ◌∙◌, arith}
use Rattle.std.proofs.lemmas.Bool.{or_right, eq-eqb, ne_eqb, eqb-true}
use Rattle.lists.specs.Below.{below}
use Rattle.gf256.specs.Arithmetic.{point}
use Rattle.poly.specs.Polynomial.{value}
use Rattle.poly.proofs.Lists.{all_from_places, different_from_places}
use Rattle.partition.specs.Fti.{Fti, source_count, encoding_count, source_place}
use Rattle.block_recovery.specs.Blocks.{byte_of}
use Rattle.block_recovery.specs.Columns.{ColumnExplained}
use Rattle.block_recovery.specs.Decoded.{IsEnoughAt, IsUnexplained}
use Rattle.block_recovery.specs.Differences.{weight, weighted_sum}
use Rattle.block_recovery.specs.Erasures.{AreThose}
use Rattle.block_recovery.proofs.Differences.{values_cancel}
use Rattle.block_recovery.proofs.Kept.{count_more}
use Rattle.block_recovery.proofs.Those.{none_below}

or_last : (x y : Bool) → y ≡ false → (x || y) ≡ x
or_last true y is = refl
or_last false y is = is

-- what stands at an ESI, or zero where the padding is known
byte_is : (p : List ℕ) (c j last : ℕ) (at : ℕ → Option (List ℕ)) (o : Option (List ℕ)) → at j ≡ o
    → ((y : List ℕ) → at j ≡ Some y → value p (point j) ≡ slice_index y c) → value p (point last) ≡ 0
    → (is_some (at j) || j == last) ≡ true → byte_of o c ≡ value p (point j)
byte_is p c j last at (Some y) is symbols padding known = sym (symbols y is)
byte_is p c j last at None is symbols padding known =
    let here : (j == last) ≡ true = rw is at known in
    sym (ap (λ (i : ℕ). value p (point i)) (eqb-true j last here) ∙ padding)

module _ (f : Fti) (b : ℕ) (at : ℕ → Option (List ℕ)) (some : 1 ≤ source_count f b) (c : ℕ) (inside : c < f.symbol_length)
    (past : f.transfer_length ≤ source_place f b (source_count f b - 1) c) where
  padding_is : (e : ColumnExplained f b at c) → value e.polynomial (point (source_count f b - 1)) ≡ 0
  padding_is e = e.padding (source_count f b - 1) (omega (arith, some)) past

  -- the last source symbol came, and isn't padded
  pub last_not_padded : (y : List ℕ) → at (source_count f b - 1) ≡ Some y → slice_index y c ≢ 0 → IsUnexplained f b at
  last_not_padded y came other explained =
      let e = explained c inside in
      other (sym (e.symbols (source_count f b - 1) y came) ∙ padding_is e)

  -- it didn't come, and with its padding the symbols are on no polynomial
  pub others_not_padded : (n : ℕ) (esis : List ℕ) → AreThose (λ j. is_some (at j) || j == source_count f b - 1) 0 n esis
      → n ≡ encoding_count f b → source_count f b ≤ n → n ≤ 255 → IsEnoughAt f b at → at (source_count f b - 1) ≡ None
      → weighted_sum (weight esis) (λ j. byte_of (at j) c) esis ≢ 0 → IsUnexplained f b at
  others_not_padded n esis those all least few enough none other explained =
      let e = explained c inside in
      let last = source_count f b - 1 in
      let more = count_more (λ j. is_some (at j)) (λ j. is_some (at j) || j == source_count f b - 1) n last (omega (arith, some, least)) (ap is_some none)
      (or_right _ _ (eq-eqb last last refl)) (λ i apart. or_last (is_some (at i)) (i == source_count f b - 1) (ne_eqb i last (λ z. apart (sym z)))) in
      let came : source_count f b ≤ length (filter (λ j. is_some (at j)) (below n)) = subst (λ (m : ℕ). source_count f b ≤ length (filter (λ j. is_some (at j)) (below m))) (sym all) enough in
      let fewer : source_count f b < length esis = omega (arith, those.count, more, came, none_below (λ j. is_some (at j) || j == source_count f b - 1)) in
      other (values_cancel (source_count f b) e.polynomial esis (λ j. byte_of (at j) c) e.form fewer
      (all_from_places (λ i. i < 255) 0 esis (λ i li. let m = those.most i li in omega (arith, m, few)))
      (different_from_places 0 esis (λ i j lt lj same. let less = those.rise i j lt lj in omega (arith, less, same)))
      (all_from_places (λ j. byte_of (at j) c ≡ value e.polynomial (point j)) 0 esis
      (λ i li. let j = get_or esis i 0 in byte_is e.polynomial c j last at (at j) refl (e.symbols j) (padding_is e) (those.pass i li))))
