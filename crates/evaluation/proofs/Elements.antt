-- What the transforms make of rows of coefficients: the values.
use Rattle.std.proofs.Common.{◌≡◌, ◌≢◌, ℕ, zero, suc, ◌+◌, ◌-◌, ◌*◌, ◌/◌, ◌%◌, ◌^◌, ◌<◌, ◌≤◌, Bool, true, false, cond, List, [], map, replicate, length, get_or, refl, sym, ap, subst, ◌∙◌, inl, inr, arith}
use Rattle.std.specs.Prelude.{◌==◌}
use Rattle.std.specs.List.{range_with_len}
use Rattle.std.proofs.lemmas.Bool.{cases_eq, cases_lt, eq-eqb}
use Rattle.std.proofs.lemmas.Bool.Decides.{Decides-eqb}
use Rattle.std.specs.Int.{bit_at}
use Rattle.std.proofs.lemmas.List.{length-map, get_or-replicate, length-replicate, get_or_past}
use Rattle.std.proofs.lemmas.Nat.Bits.{bit_at-pow_same, bit_at-pow_other, bit_at-zero, bit_at_above}
use Rattle.std.proofs.lemmas.List.FromFn.{get_or-map-range_with_len, length-range_with_len}
use Rattle.gf256.specs.Arithmetic.{product, alpha_to}
use Rattle.gf256.specs.ProductLaws.{product_comm, product_zero}
use Rattle.gf256.specs.Computing.{small_under}
use Rattle.gf256.specs.Slices.{lane, below}
use Rattle.gf256.proofs.SliceSums.{sum_same, sum_short, sum_zero}
use Rattle.gf256.proofs.SliceLanes.{below_past, below_within}
use Rattle.evaluation.specs.Sums.{coefficient, sum_at}
use Rattle.evaluation.specs.Transform.{AreWeighted, AreTurned, AreLoaded, row, transformed, places, place_of}
use Rattle.evaluation.proofs.ByteSums.{alpha_to_rounds}
use Rattle.evaluation.proofs.Rounds.{sum_one}
use Rattle.evaluation.proofs.Weights.{one_times}
use Rattle.evaluation.proofs.Planes.{HasPlanes, ArePlanes, planes_transformed, transformed_planes}
use Rattle.evaluation.proofs.Transforms.{unit_planes, all_unit_planes, powers_rise, passed}

-- ---- the unit matrix

-- 32 of its columns, from one on
unfoldable pub unit_row : ℕ → ℕ → List ℕ
unit_row from p = map (λ i. cond (from + i == p) 1 0) (range_with_len 0 32)

unfoldable pub units : ℕ → List (List ℕ)
units from = map (λ p. unit_row from p) (range_with_len 0 256)

unit_at : (from p i : ℕ) → p < 256 → i < 32 → lane (units from) p i ≡ cond (from + i == p) 1 0
unfolding units unit_row
unit_at from p i lp li =
    ap (λ l. get_or l i 0) (get_or-map-range_with_len (λ p. unit_row from p) 0 256 p p [] lp (omega arith))
    ∙ get_or-map-range_with_len (λ i. cond (from + i == p) 1 0) 0 32 i i 0 li (omega arith)

units_rows : (from : ℕ) → length (units from) ≡ 256
unfolding units
units_rows from = length-map (range_with_len 0 256) (λ p. unit_row from p) ∙ length-range_with_len 0 256

units_columns : (from p : ℕ) → p < 256 → length (row (units from) p) ≡ 32
unfolding units unit_row
units_columns from p lp =
    ap length (get_or-map-range_with_len (λ p. unit_row from p) 0 256 p p [] lp (omega arith))
    ∙ length-map {B = ℕ} (range_with_len 0 32) (λ i. cond (from + i == p) 1 0) ∙ length-range_with_len 0 32

bit_small : (b : Bool) → cond b 1 0 < 256
bit_small true = omega arith
bit_small false = omega arith

below_fits : (n i x : ℕ) → x < 256 → below n i x < 256
below_fits n i x h = elim (cases_lt i n) [
  | inl lt ↦ rw (below_within n i x lt) h
  | inr le ↦ rw (below_past n i x le) (omega arith)
]

abbrev one_if : Bool → ℕ
one_if b = cond b 1 0

is_one : (i p : ℕ) → i ≡ p → one_if (i == p) ≡ 1
is_one i p e = rw (eq-eqb i p e) refl

is_none : (i p : ℕ) → i ≢ p → one_if (i == p) ≡ 0
is_none i p ne = elim (i == p) as (λ v. (i == p) ≡ v → one_if v ≡ 0) [ true ↦ (λ e. absurd (ne ((Decides-eqb i p).0 e))) | false ↦ (λ e. refl) ] refl

nothing_times : (x : ℕ) → x < 256 → product 0 x ≡ 0
nothing_times x h = product_comm 0 x (omega arith) h ∙ product_zero x

bit_below : (b : Bool) → one_if b < 2 ^ 1
bit_below true = omega arith
bit_below false = omega arith

nothing_at : (n i : ℕ) → get_or {A = ℕ} (replicate n 0) i 0 ≡ 0
nothing_at n i = elim (cases_lt i n) [
  | inl lt ↦ get_or-replicate n i 0 0 lt
  | inr le ↦ get_or_past (replicate n 0) i 0 (rw (length-replicate {A = ℕ} n 0) le)
]

no_higher : (p d : ℕ) → get_or (unit_planes p) (suc d) 0 ≡ 0
unfolding unit_planes
no_higher p d = nothing_at 7 d

eight_planes : (p : ℕ) → length (unit_planes p) ≡ 8
unfolding unit_planes
eight_planes p = refl

pow_le : (b : ℕ) → b ≤ 8 → 2 ^ b ≤ 256
pow_le b le = let small = small_under 9 257 (λ b. 2 ^ b) refl b (omega arith) in omega (arith, small)

pub place_small : (j : ℕ) → j < 255 → get_or places j 0 < 256
unfolding places
place_small = small_under 255 256 (λ j. get_or places j 0) refl

-- its columns side by side
unit_lane : (p i : ℕ) → p < 256 → lane (units (32 * (i / 32))) p (i % 32) ≡ one_if (i == p)
unit_lane p i lp =
    let whole : 32 * (i / 32) + i % 32 ≡ i = omega arith in
    unit_at (32 * (i / 32)) p (i % 32) lp (omega arith) ∙ ap (λ n. one_if (n == p)) whole

unit_bits : (p i d : ℕ) → d < 8 → bit_at (get_or (unit_planes p) d 0) i ≡ bit_at (one_if (i == p)) d
unfolding unit_planes
unit_bits p i zero ld = elim (cases_eq i p) [
  | inl e ↦ rw e (bit_at-pow_same p) ∙ sym (ap (λ v. bit_at v 0) (is_one i p e))
  | inr ne ↦ bit_at-pow_other p i ne ∙ sym (ap (λ v. bit_at v 0) (is_none i p ne))
]
unit_bits p i (suc d) ld =
    let nothing : get_or (unit_planes p) (suc d) 0 ≡ 0 = no_higher p d in
    ap (λ v. bit_at v i) nothing ∙ bit_at-zero i ∙ sym (bit_at_above (one_if (i == p)) 1 (suc d) (bit_below (i == p)) (omega arith))

unit_planes_are : ArePlanes (λ c. units (32 * c)) all_unit_planes
unfolding all_unit_planes
unit_planes_are = record {
  rows = λ c. units_rows (32 * c);
  columns = λ c p lp. units_columns (32 * c) p lp;
  bytes = λ c p i lp li. (let small = bit_small (32 * c + i == p) in rw (unit_at (32 * c) p i lp li) small);
  long = length-map (range_with_len 0 256) unit_planes ∙ length-range_with_len 0 256;
  planes = λ p lp. subst (HasPlanes (λ i. lane (units (32 * (i / 32))) p (i % 32))) (sym (get_or-map-range_with_len unit_planes 0 256 p p [] lp (omega arith))) (record {
    long = eight_planes p;
    bits = λ d i ld li. unit_bits p i d ld ∙ sym (ap (λ v. bit_at v d) (unit_lane p i lp));
  });
}

-- ---- the weights after a transform

pub weight_after : (b i j : ℕ) → 6 ≤ b → b ≤ 8 → i < 2 ^ b → j < 255 → lane (transformed b (units (32 * (i / 32)))) (get_or places j 0) (i % 32) ≡ alpha_to (i * j)
weight_after b i j least most li lj =
    let are = transformed_planes (λ c. units (32 * c)) all_unit_planes unit_planes_are b (omega arith) (omega arith) in
    let u = planes_transformed b all_unit_planes in
    let p = get_or places j 0 in
    let within : 2 ^ b ≤ 256 = pow_le b most in
    powers_rise (λ i. lane (transformed b (units (32 * (i / 32)))) p (i % 32)) (row u p) (2 ^ b - 1) j (are.planes p (place_small j lj))
    (λ i li. are.bytes (i / 32) p (i % 32) (place_small j lj) (omega arith)) (omega (arith, within, li)) (passed b j least most lj) i (omega (arith, li))

module _ (bytes : List ℕ) (fits : (i : ℕ) → get_or bytes i 0 < 256) (k width at count : ℕ) where
  pub source : ℕ → ℕ → ℕ
  source i t = below k i (coefficient bytes width (at + t) i)

  -- a row's weight of a source
  weight : ℕ → ℕ → ℕ → ℕ
  weight p t i = product (lane (units (32 * (i / 32))) p (i % 32)) (source i t)

  weight_is : (p t i : ℕ) → p < 256 → weight p t i ≡ product (cond (i == p) 1 0) (source i t)
  unfolding weight
  weight_is p t i lp =
      let whole : 32 * (i / 32) + i % 32 ≡ i = omega arith in
      ap (λ v. product v (source i t)) (unit_at (32 * (i / 32)) p (i % 32) lp (omega arith) ∙ ap (λ n. cond (n == p) 1 0) whole)

  source_fits : (i t : ℕ) → source i t < 256
  unfolding source
  source_fits i t = below_fits k i (coefficient bytes width (at + t) i) (fits (i * width + (at + t)))

  same_weight : (p t i : ℕ) → p < 256 → i ≡ p → weight p t i ≡ source p t
  same_weight p t i lp e =
      weight_is p t i lp ∙ ap (λ v. product v (source i t)) (is_one i p e) ∙ one_times (source i t) (source_fits i t) ∙ ap (λ i. source i t) e

  other_weight : (p t i : ℕ) → p < 256 → i ≢ p → weight p t i ≡ 0
  other_weight p t i lp ne =
      weight_is p t i lp ∙ ap (λ v. product v (source i t)) (is_none i p ne) ∙ nothing_times (source i t) (source_fits i t)

  pub loaded : (tile : List (List ℕ)) → k ≤ count → AreLoaded bytes k width at tile → AreWeighted (λ c. units (32 * c)) count source tile
  unfolding source weight
  loaded tile enough are = record {
    rows = λ c. units_rows (32 * c);
    columns = λ c p lp. units_columns (32 * c) p lp;
    weights = λ c p i lp li. (let small = bit_small (32 * c + i == p) in rw (unit_at (32 * c) p i lp li) small);
    sources = source_fits;
    sums = λ p t lp lt. are p t lp lt ∙ sym (elim (cases_lt p count) [
      | inl l ↦ sum_one count p (weight p t) l (λ i li ne. other_weight p t i lp ne) ∙ same_weight p t p lp refl
      | inr g ↦
          sum_zero count (weight p t) (λ i li. other_weight p t i lp (λ e. omega (arith, e, li, g)))
          ∙ sym (below_past k p (coefficient bytes width (at + t) p) (omega (arith, enough, g)))
    ]);
  }

-- rounds in an exponent
same_power : (i e : ℕ) → alpha_to (i * (e % 255)) ≡ alpha_to (i * e)
same_power i e =
    let whole : i * (e % 255) + 255 * (i * (e / 255)) ≡ i * e = (let split : e ≡ e % 255 + 255 * (e / 255) = omega arith in let s : i * (e % 255 + 255 * (e / 255)) ≡ i * (e % 255) + 255 * (i * (e / 255)) = grind arith in sym s ∙ sym (ap (λ n. i * n) split)) in
    sym (alpha_to_rounds (i * (e % 255)) (i * (e / 255))) ∙ ap alpha_to whole

pub valued : (bytes : List ℕ) → ((i : ℕ) → get_or bytes i 0 < 256) → (k width at b : ℕ) (old new : List (List ℕ)) → 6 ≤ b → b ≤ 8 → k ≤ 2 ^ b
    → AreLoaded bytes k width at old → AreTurned old new (transformed b)
    → (e t : ℕ) → t < 64 → lane new (place_of e) t ≡ sum_at bytes k width (at + t) e
unfolding source
valued bytes fits k width at b old new least most enough load turned e t lt =
    let j : ℕ = e % 255 in
    let lj : e % 255 < 255 = omega arith in
    let are = turned (λ c. units (32 * c)) (2 ^ b) (source bytes fits k width at (2 ^ b)) (loaded bytes fits k width at (2 ^ b) old enough load) in
    are.sums (get_or places (e % 255) 0) t (place_small (e % 255) lj) lt
    ∙ sum_same (2 ^ b) (λ i. product (lane (transformed b (units (32 * (i / 32)))) (get_or places (e % 255) 0) (i % 32)) (below k i (coefficient bytes width (at + t) i)))
    (λ i. product (alpha_to (i * e)) (below k i (coefficient bytes width (at + t) i))) (λ i li.
    ap (λ v. product v (below k i (coefficient bytes width (at + t) i))) (weight_after b i (e % 255) least most li lj ∙ same_power i e))
    ∙ sum_short (2 ^ b) k (λ i. product (alpha_to (i * e)) (below k i (coefficient bytes width (at + t) i))) enough
    (λ i le. ap (product (alpha_to (i * e))) (below_past k i (coefficient bytes width (at + t) i) le) ∙ product_zero (alpha_to (i * e)))
    ∙ sum_same k (λ i. product (alpha_to (i * e)) (below k i (coefficient bytes width (at + t) i))) (λ i. product (alpha_to (i * e)) (coefficient bytes width (at + t) i))
    (λ i li. ap (product (alpha_to (i * e))) (below_within k i (coefficient bytes width (at + t) i) li))
