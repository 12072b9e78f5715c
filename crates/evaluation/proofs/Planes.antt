-- Rows of bytes as their bits: plane d has bit d of the byte in column i as its bit i. What a sum,
-- a doubling and a product make of all bytes of a row they make of its eight planes, which are
-- numbers.
use Rattle.std.proofs.Common.{◌≡◌, ℕ, zero, suc, ◌+◌, ◌-◌, ◌*◌, ◌/◌, ◌%◌, ◌^◌, ◌<◌, ◌≤◌, Bool, true, false, cond, List, [], ◌∷◌, length, get_or, set, replicate, bit_xor, refl, sym, ap, subst, ◌∙◌, inl, inr, arith}
use Rattle.std.specs.Prelude.{◌==◌, if◌then◌else◌}
use Rattle.std.specs.Int.{bit_at}
use Rattle.std.proofs.lemmas.Bool.{cases_eq}
use Rattle.std.proofs.lemmas.List.{length-set, get_or-replicate, length-replicate}
use Rattle.std.proofs.lemmas.Nat.Bits.{bit_at_xor, bit_at-zero}
use Rattle.std.proofs.lemmas.Simd.{length-zip2, get_or-zip2}
use lib.Lanes.{zip2}
use Rattle.gf256.specs.Arithmetic.{sum_of, doubled, product_over, product}
use Rattle.gf256.specs.Computing.{all_under, same_under}
use Rattle.gf256.specs.Doubling.{doubled_byte}
use Rattle.gf256.specs.ProductLaws.{sum_byte, product_byte}
use Rattle.gf256.specs.Rows.{plus_scaled}
use Rattle.gf256.specs.Slices.{lane}
use Rattle.gf256.proofs.SliceLanes.{zip_lane, zip_long}
use Rattle.evaluation.specs.Transform.{element, row, row_added, scaled_added, rows_added, butterfly, butterflies, group_expanded, groups_expanded, expanded, all_expanded, joined, all_joined, transformed}
use Rattle.evaluation.proofs.Places.{groups_fit, pairs_fit}
use Rattle.evaluation.proofs.Weights.{put_here, put_there}

-- ---- one row

-- these are the planes of 256 bytes
pub record HasPlanes (x : ℕ → ℕ) (r : List ℕ) : Type 0 where
  pub long : length r ≡ 8
  pub bits : (d i : ℕ) → d < 8 → i < 256 → bit_at (get_or r d 0) i ≡ bit_at (x i) d

same_planes : (x y : ℕ → ℕ) (r : List ℕ) → HasPlanes x r → ((i : ℕ) → i < 256 → x i ≡ y i) → HasPlanes y r
same_planes x y r has same = record {
  long = has.long;
  bits = λ d i ld li. has.bits d i ld li ∙ ap (λ v. bit_at v d) (same i li);
}

sum_planes : (x y : ℕ → ℕ) (r s : List ℕ) → HasPlanes x r → HasPlanes y s → HasPlanes (λ i. sum_of (x i) (y i)) (zip2 bit_xor r s)
sum_planes x y r s has other = record {
  long = length-zip2 bit_xor r s (has.long ∙ sym other.long) ∙ has.long;
  bits = λ d i ld li.
      ap (λ v. bit_at v i) (get_or-zip2 bit_xor r s d 0 0 0 (omega (arith, ld, has.long)) (omega (arith, ld, other.long)))
      ∙ bit_at_xor (get_or r d 0) (get_or s d 0) i
      ∙ ap (λ v. (v + bit_at (get_or s d 0) i) % 2) (has.bits d i ld li)
      ∙ ap (λ v. (bit_at (x i) d + v) % 2) (other.bits d i ld li)
      ∙ sym (bit_at_xor (x i) (y i) d);
}

unfoldable pub no_planes : List ℕ
no_planes = 0 ∷ 0 ∷ 0 ∷ 0 ∷ 0 ∷ 0 ∷ 0 ∷ 0 ∷ []

zeros_are : no_planes ≡ replicate 8 0
unfolding no_planes
zeros_are = refl

nothing_planes : HasPlanes (λ i. 0) no_planes
nothing_planes = record {
  long = ap length zeros_are ∙ length-replicate {A = ℕ} 8 0;
  bits = λ d i ld li. ap (λ l. bit_at (get_or l d 0) i) zeros_are ∙ ap (λ v. bit_at v i) (get_or-replicate 8 d 0 0 ld) ∙ bit_at-zero i ∙ sym (bit_at-zero d);
}

-- each bit moves up, and the highest comes in by the polynomial
unfoldable pub planes_doubled : List ℕ → List ℕ
planes_doubled r =
    get_or r 7 0 ∷ get_or r 0 0 ∷ bit_xor (get_or r 1 0) (get_or r 7 0) ∷ bit_xor (get_or r 2 0) (get_or r 7 0)
    ∷ bit_xor (get_or r 3 0) (get_or r 7 0) ∷ get_or r 4 0 ∷ get_or r 5 0 ∷ get_or r 6 0 ∷ []

eight_doubled : (r : List ℕ) → length (planes_doubled r) ≡ 8
unfolding planes_doubled
eight_doubled r = refl

-- a bit of an element doubled is that of another place
moved : (d e : ℕ) → all_under 256 (λ a. bit_at a e == bit_at (doubled a) d) ≡ true → (a : ℕ) → a < 256 → bit_at a e ≡ bit_at (doubled a) d
moved d e = same_under 256 (λ a. bit_at a e) (λ a. bit_at (doubled a) d)

-- or with the highest added to it
reduced : (d e : ℕ) → all_under 256 (λ a. (bit_at a e + bit_at a 7) % 2 == bit_at (doubled a) d) ≡ true → (a : ℕ) → a < 256
    → (bit_at a e + bit_at a 7) % 2 ≡ bit_at (doubled a) d
reduced d e = same_under 256 (λ a. (bit_at a e + bit_at a 7) % 2) (λ a. bit_at (doubled a) d)

module _ (x : ℕ → ℕ) (r : List ℕ) (has : HasPlanes x r) (small : (i : ℕ) → i < 256 → x i < 256) where
  alone : (d e i : ℕ) → e < 8 → i < 256 → all_under 256 (λ a. bit_at a e == bit_at (doubled a) d) ≡ true → bit_at (get_or r e 0) i ≡ bit_at (doubled (x i)) d
  alone d e i le li test = has.bits e i le li ∙ moved d e test (x i) (small i li)

  with_highest : (d e i : ℕ) → e < 8 → i < 256 → all_under 256 (λ a. (bit_at a e + bit_at a 7) % 2 == bit_at (doubled a) d) ≡ true
      → bit_at (bit_xor (get_or r e 0) (get_or r 7 0)) i ≡ bit_at (doubled (x i)) d
  with_highest d e i le li test =
      bit_at_xor (get_or r e 0) (get_or r 7 0) i
      ∙ ap (λ v. (v + bit_at (get_or r 7 0) i) % 2) (has.bits e i le li)
      ∙ ap (λ v. (bit_at (x i) e + v) % 2) (has.bits 7 i (omega arith) li)
      ∙ reduced d e test (x i) (small i li)

  doubled_bits : (d i : ℕ) → d < 8 → i < 256 → bit_at (get_or (planes_doubled r) d 0) i ≡ bit_at (doubled (x i)) d
  unfolding planes_doubled doubled
  doubled_bits zero i ld li = alone 0 7 i (omega arith) li refl
  doubled_bits (suc zero) i ld li = alone 1 0 i (omega arith) li refl
  doubled_bits (suc (suc zero)) i ld li = with_highest 2 1 i (omega arith) li refl
  doubled_bits (suc (suc (suc zero))) i ld li = with_highest 3 2 i (omega arith) li refl
  doubled_bits (suc (suc (suc (suc zero)))) i ld li = with_highest 4 3 i (omega arith) li refl
  doubled_bits (suc (suc (suc (suc (suc zero))))) i ld li = alone 5 4 i (omega arith) li refl
  doubled_bits (suc (suc (suc (suc (suc (suc zero)))))) i ld li = alone 6 5 i (omega arith) li refl
  doubled_bits (suc (suc (suc (suc (suc (suc (suc zero))))))) i ld li = alone 7 6 i (omega arith) li refl
  doubled_bits (suc (suc (suc (suc (suc (suc (suc (suc d)))))))) i ld li = absurd (omega arith)

  doubled_planes : HasPlanes (λ i. doubled (x i)) (planes_doubled r)
  doubled_planes = record { long = eight_doubled r; bits = doubled_bits }

unfoldable pub planes_over : ℕ → ℕ → List ℕ → List ℕ
planes_over zero c r = no_planes
planes_over (suc n) c r = zip2 bit_xor (if c % 2 == 1 then r else no_planes) (planes_over n (c / 2) (planes_doubled r))

picked_planes : (b : Bool) (x : ℕ → ℕ) (r : List ℕ) → HasPlanes x r → HasPlanes (λ i. cond b (x i) 0) (cond b r no_planes)
picked_planes true x r has = has
picked_planes false x r has = nothing_planes

over_planes : (n c : ℕ) (x : ℕ → ℕ) (r : List ℕ) → HasPlanes x r → ((i : ℕ) → i < 256 → x i < 256) → HasPlanes (λ i. product_over n c (x i)) (planes_over n c r)
unfolding planes_over product_over
over_planes zero c x r has small = nothing_planes
over_planes (suc n) c x r has small =
    sum_planes (λ i. cond (c % 2 == 1) (x i) 0) (λ i. product_over n (c / 2) (doubled (x i))) (cond (c % 2 == 1) r no_planes) (planes_over n (c / 2) (planes_doubled r))
    (picked_planes (c % 2 == 1) x r has)
    (over_planes n (c / 2) (λ i. doubled (x i)) (planes_doubled r) (doubled_planes x r has small) (λ i li. doubled_byte (x i) (small i li)))

pub product_planes : (c : ℕ) (x : ℕ → ℕ) (r : List ℕ) → HasPlanes x r → ((i : ℕ) → i < 256 → x i < 256) → HasPlanes (λ i. product c (x i)) (planes_over 8 c r)
unfolding product
product_planes c x r has small = over_planes 8 c x r has small

-- ---- matrices: those of 32 columns each, side by side, and their planes

pub record ArePlanes (w : ℕ → List (List ℕ)) (u : List (List ℕ)) : Type 0 where
  pub rows : (c : ℕ) → length (w c) ≡ 256
  pub columns : (c p : ℕ) → p < 256 → length (row (w c) p) ≡ 32
  pub bytes : (c p i : ℕ) → p < 256 → i < 32 → lane (w c) p i < 256
  pub long : length u ≡ 256
  pub planes : (p : ℕ) → p < 256 → HasPlanes (λ i. lane (w (i / 32)) p (i % 32)) (row u p)

replaced : (w : ℕ → List (List ℕ)) (u : List (List ℕ)) (p : ℕ) (r : ℕ → List ℕ) (s : List ℕ) → ArePlanes w u → p < 256
    → ((d : ℕ) → length (r d) ≡ 32) → ((d i : ℕ) → i < 32 → get_or (r d) i 0 < 256) → HasPlanes (λ i. get_or (r (i / 32)) (i % 32) 0) s
    → ArePlanes (λ d. set (w d) p (r d)) (set u p s)
replaced w u p r s are lp long bytes has = record {
  rows = λ d. length-set (w d) p (r d) ∙ are.rows d;
  columns = λ d x lt. elim (cases_eq x p) [
    | inl e ↦ rw e (ap length (put_here (w d) p (r d) (omega (arith, are.rows d, lp))) ∙ long d)
    | inr ne ↦ ap length (put_there (w d) p x (r d) ne) ∙ are.columns d x lt
  ];
  bytes = λ d x i lt li. elim (cases_eq x p) [
    | inl e ↦
        let is : lane (set (w d) p (r d)) p i ≡ get_or (r d) i 0 = ap (λ l. get_or l i 0) (put_here (w d) p (r d) (omega (arith, are.rows d, lp))) in
        let small : get_or (r d) i 0 < 256 = bytes d i li in
        rw (e, is) small
    | inr ne ↦ let is = ap (λ l. get_or l i 0) (put_there (w d) p x (r d) ne) in rw is (are.bytes d x i lt li)
  ];
  long = length-set u p s ∙ are.long;
  planes = λ x lt. elim (cases_eq x p) [
    | inl e ↦ rw e (subst (HasPlanes (λ i. lane (set (w (i / 32)) p (r (i / 32))) p (i % 32))) (sym (put_here u p s (omega (arith, are.long, lp))))
        (same_planes (λ i. get_or (r (i / 32)) (i % 32) 0) (λ i. lane (set (w (i / 32)) p (r (i / 32))) p (i % 32)) s has
        (λ i li. sym (ap (λ l. get_or l (i % 32) 0) (put_here (w (i / 32)) p (r (i / 32)) (omega (arith, are.rows (i / 32), lp)))))))
    | inr ne ↦ subst (HasPlanes (λ i. lane (set (w (i / 32)) p (r (i / 32))) x (i % 32))) (sym (put_there u p x s ne))
        (same_planes (λ i. lane (w (i / 32)) x (i % 32)) (λ i. lane (set (w (i / 32)) p (r (i / 32))) x (i % 32)) (row u x) (are.planes x lt)
        (λ i li. sym (ap (λ l. get_or l (i % 32) 0) (put_there (w (i / 32)) p x (r (i / 32)) ne))))
  ];
}

-- c times row q added to row p, by planes
unfoldable pub planes_scaled_added : ℕ → ℕ → ℕ → List (List ℕ) → List (List ℕ)
planes_scaled_added c p q u = set u p (zip2 bit_xor (row u p) (planes_over 8 c (row u q)))

module _ (w : ℕ → List (List ℕ)) (u : List (List ℕ)) (are : ArePlanes w u) where
  in_row : (p i : ℕ) → p < 256 → lane (w (i / 32)) p (i % 32) < 256
  in_row p i lp = are.bytes (i / 32) p (i % 32) lp (omega arith)

  added_planes : (p q : ℕ) → p < 256 → q < 256 → ArePlanes (λ d. row_added p q (w d)) (row_added p q u)
  unfolding row_added
  added_planes p q lp lq =
      replaced w u p (λ d. zip2 sum_of (row (w d) p) (row (w d) q)) (zip2 sum_of (row u p) (row u q)) are lp
      (λ d. zip_long sum_of 32 (row (w d) p) (row (w d) q) (are.columns d p lp) (are.columns d q lq))
      (λ d i li.
      let is = zip_lane sum_of 32 (row (w d) p) (row (w d) q) i (are.columns d p lp) (are.columns d q lq) li in
      let small = sum_byte (lane (w d) p i) (lane (w d) q i) (are.bytes d p i lp li) (are.bytes d q i lq li) in
      rw is small)
      (same_planes (λ i. sum_of (lane (w (i / 32)) p (i % 32)) (lane (w (i / 32)) q (i % 32)))
      (λ i. get_or (zip2 sum_of (row (w (i / 32)) p) (row (w (i / 32)) q)) (i % 32) 0) (zip2 sum_of (row u p) (row u q))
      (sum_planes (λ i. lane (w (i / 32)) p (i % 32)) (λ i. lane (w (i / 32)) q (i % 32)) (row u p) (row u q) (are.planes p lp) (are.planes q lq))
      (λ i li. sym (zip_lane sum_of 32 (row (w (i / 32)) p) (row (w (i / 32)) q) (i % 32) (are.columns (i / 32) p lp) (are.columns (i / 32) q lq) (omega arith))))

  scaled_planes : (c p q : ℕ) → p < 256 → q < 256 → ArePlanes (λ d. scaled_added c p q (w d)) (planes_scaled_added c p q u)
  unfolding scaled_added planes_scaled_added
  scaled_planes c p q lp lq =
      let plus : ℕ → ℕ → ℕ = λ x y. sum_of x (product c y) in
      replaced w u p (λ d. plus_scaled c (row (w d) p) (row (w d) q)) (zip2 bit_xor (row u p) (planes_over 8 c (row u q))) are lp
      (λ d. zip_long plus 32 (row (w d) p) (row (w d) q) (are.columns d p lp) (are.columns d q lq))
      (λ d i li.
      let is = zip_lane plus 32 (row (w d) p) (row (w d) q) i (are.columns d p lp) (are.columns d q lq) li in
      let small = sum_byte (lane (w d) p i) (product c (lane (w d) q i)) (are.bytes d p i lp li) (product_byte c (lane (w d) q i) (are.bytes d q i lq li)) in
      rw is small)
      (same_planes (λ i. plus (lane (w (i / 32)) p (i % 32)) (lane (w (i / 32)) q (i % 32)))
      (λ i. get_or (plus_scaled c (row (w (i / 32)) p) (row (w (i / 32)) q)) (i % 32) 0) (zip2 bit_xor (row u p) (planes_over 8 c (row u q)))
      (sum_planes (λ i. lane (w (i / 32)) p (i % 32)) (λ i. product c (lane (w (i / 32)) q (i % 32))) (row u p) (planes_over 8 c (row u q)) (are.planes p lp)
      (product_planes c (λ i. lane (w (i / 32)) q (i % 32)) (row u q) (are.planes q lq) (λ i li. in_row q i lq)))
      (λ i li. sym (zip_lane plus 32 (row (w (i / 32)) p) (row (w (i / 32)) q) (i % 32) (are.columns (i / 32) p lp) (are.columns (i / 32) q lq) (omega arith))))

-- ---- the steps of the transform

unfoldable pub planes_butterflies : ℕ → ℕ → ℕ → ℕ → List (List ℕ) → List (List ℕ)
planes_butterflies zero c p q u = u
planes_butterflies (suc n) c p q u = row_added (q + n) (p + n) (planes_scaled_added c (p + n) (q + n) (planes_butterflies n c p q u))

unfoldable pub planes_joined : ℕ → ℕ → List (List ℕ) → List (List ℕ)
planes_joined zero s u = rows_added s s 0 u
planes_joined (suc n) s u = planes_butterflies s (element (2 * (n + 1))) ((n + 1) * (2 * s)) ((n + 1) * (2 * s) + s) (planes_joined n s u)

unfoldable pub planes_all_joined : ℕ → List (List ℕ) → List (List ℕ)
planes_all_joined zero u = u
planes_all_joined (suc a) u = planes_joined (2 ^ a - 1) (2 ^ (7 - a)) (planes_all_joined a u)

module _ (w : ℕ → List (List ℕ)) (u : List (List ℕ)) (are : ArePlanes w u) where
  rows_added_planes : (n p q : ℕ) → p + n ≤ 256 → q + n ≤ 256 → ArePlanes (λ d. rows_added n p q (w d)) (rows_added n p q u)
  unfolding rows_added
  rows_added_planes zero p q lp lq = are
  rows_added_planes (suc n) p q lp lq =
      added_planes (λ d. rows_added n p q (w d)) (rows_added n p q u) (rows_added_planes n p q (omega arith) (omega arith)) (p + n) (q + n) (omega arith) (omega arith)

  butterflies_planes : (n c p q : ℕ) → p + n ≤ 256 → q + n ≤ 256 → ArePlanes (λ d. butterflies n c p q (w d)) (planes_butterflies n c p q u)
  unfolding butterflies butterfly planes_butterflies
  butterflies_planes zero c p q lp lq = are
  butterflies_planes (suc n) c p q lp lq =
      let before = butterflies_planes n c p q (omega arith) (omega arith) in
      added_planes (λ d. scaled_added c (p + n) (q + n) (butterflies n c p q (w d))) (planes_scaled_added c (p + n) (q + n) (planes_butterflies n c p q u))
      (scaled_planes (λ d. butterflies n c p q (w d)) (planes_butterflies n c p q u) before c (p + n) (q + n) (omega arith) (omega arith))
      (q + n) (p + n) (omega arith) (omega arith)

group_planes : (w : ℕ → List (List ℕ)) (u : List (List ℕ)) → ArePlanes w u → (q from : ℕ) → from + 4 * q ≤ 256
    → ArePlanes (λ d. group_expanded q from (w d)) (group_expanded q from u)
unfolding group_expanded
group_planes w u are q from le =
    rows_added_planes (λ d. rows_added q (from + 2 * q) (from + 3 * q) (w d)) (rows_added q (from + 2 * q) (from + 3 * q) u)
    (rows_added_planes w u are q (from + 2 * q) (from + 3 * q) (omega arith) (omega arith))
    q (from + q) (from + 2 * q) (omega arith) (omega arith)

module _ (w : ℕ → List (List ℕ)) (u : List (List ℕ)) (are : ArePlanes w u) where
  groups_planes : (n q : ℕ) → n * (4 * q) ≤ 256 → ArePlanes (λ d. groups_expanded n q (w d)) (groups_expanded n q u)
  unfolding groups_expanded
  groups_planes zero q le = are
  groups_planes (suc n) q le =
      let more : suc n * (4 * q) ≡ n * (4 * q) + 4 * q = grind arith in
      group_planes (λ d. groups_expanded n q (w d)) (groups_expanded n q u) (groups_planes n q (omega (arith, le, more))) q (n * (4 * q)) (omega (arith, le, more))

module _ (w : ℕ → List (List ℕ)) (u : List (List ℕ)) (are : ArePlanes w u) where
  expanded_planes : (b l : ℕ) → b < 9 → l < b → ArePlanes (λ d. expanded b l (w d)) (expanded b l u)
  unfolding expanded
  expanded_planes b zero lb ll = are
  expanded_planes b (suc l) lb ll =
      groups_planes (λ d. expanded b l (w d)) (expanded b l u) (expanded_planes b l lb (omega arith)) (2 ^ l) (2 ^ (b - 2 - l)) (groups_fit b l lb (omega arith))

module _ (w : ℕ → List (List ℕ)) (u : List (List ℕ)) (are : ArePlanes w u) where
  all_expanded_planes : (b a : ℕ) → 0 < b → b < 9 → ArePlanes (λ d. all_expanded b a (w d)) (all_expanded b a u)
  unfolding all_expanded
  all_expanded_planes b zero some lb = are
  all_expanded_planes b (suc a) some lb =
      expanded_planes (λ d. all_expanded b a (w d)) (all_expanded b a u) (all_expanded_planes b a some lb) b (b - 1 - a) lb (omega arith)

  joined_planes : (n s : ℕ) → (n + 1) * (2 * s) ≤ 256 → ArePlanes (λ d. joined n s (w d)) (planes_joined n s u)
  unfolding joined planes_joined
  joined_planes zero s le = rows_added_planes w u are s s 0 (omega (arith, le)) (omega (arith, le))
  joined_planes (suc n) s le =
      let more : (suc n + 1) * (2 * s) ≡ (n + 1) * (2 * s) + 2 * s = grind arith in
      butterflies_planes (λ d. joined n s (w d)) (planes_joined n s u) (joined_planes n s (omega (arith, le, more)))
      s (element (2 * (n + 1))) ((n + 1) * (2 * s)) ((n + 1) * (2 * s) + s) (omega (arith, le, more)) (omega (arith, le, more))

module _ (w : ℕ → List (List ℕ)) (u : List (List ℕ)) (are : ArePlanes w u) where
  all_joined_planes : (a : ℕ) → a ≤ 8 → ArePlanes (λ d. all_joined a (w d)) (planes_all_joined a u)
  unfolding all_joined planes_all_joined
  all_joined_planes zero le = are
  all_joined_planes (suc a) le =
      joined_planes (λ d. all_joined a (w d)) (planes_all_joined a u) (all_joined_planes a (omega arith)) (2 ^ a - 1) (2 ^ (7 - a)) (pairs_fit a (omega arith))

-- the transform by planes
abbrev pub planes_transformed : ℕ → List (List ℕ) → List (List ℕ)
planes_transformed b u = planes_all_joined 8 (all_expanded b (b - 1) u)

pub transformed_planes : (w : ℕ → List (List ℕ)) (u : List (List ℕ)) → ArePlanes w u → (b : ℕ) → 0 < b → b < 9
    → ArePlanes (λ d. transformed b (w d)) (planes_transformed b u)
transformed_planes w u are b some lb =
    all_joined_planes (λ d. all_expanded b (b - 1) (w d)) (all_expanded b (b - 1) u) (all_expanded_planes w u are b (b - 1) some lb) 8 (omega arith)
