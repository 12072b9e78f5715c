-- Rows of a tile that are sums of sources, and what steps on them make of their weights.
use Rattle.std.proofs.Common.{◌≡◌, ◌≢◌, ℕ, suc, ◌+◌, ◌-◌, ◌*◌, ◌/◌, ◌%◌, ◌^◌, ◌<◌, List, [], length, get_or, set, sym, ap, subst, ◌∙◌, inl, inr, arith}
use Rattle.std.proofs.lemmas.Bool.{cases_eq}
use Rattle.std.proofs.lemmas.List.{length-set, get_or-set_same, get_or-set_other}
use lib.Lanes.{zip2}
use Rattle.gf256.specs.Arithmetic.{sum_of, product}
use Rattle.gf256.specs.Rows.{plus_scaled}
use Rattle.gf256.specs.ProductLaws.{sum_byte, product_sum, product_comm, product_assoc, product_one, product_byte}
use Rattle.gf256.specs.ByteSums.{byte_sum}
use Rattle.gf256.specs.Slices.{lane}
use Rattle.gf256.proofs.SliceSums.{sum_same, sum_adds, sum_fits}
use Rattle.gf256.proofs.SliceLanes.{zip_lane, zip_long}
use Rattle.evaluation.specs.Transform.{AreWeighted, element, row, row_added, scaled_added, rows_added, butterfly, butterflies, groups_expanded, group_expanded, expanded, all_expanded, joined, all_joined}
use Rattle.evaluation.proofs.ByteSums.{sum_scaled}

-- ---- one row

-- a list in the place of another
pub put_here : (w : List (List ℕ)) (p : ℕ) (r : List ℕ) → p < length w → get_or (set w p r) p [] ≡ r
put_here w p r lt = get_or-set_same w p r [] lt

pub put_there : (w : List (List ℕ)) (p x : ℕ) (r : List ℕ) → x ≢ p → get_or (set w p r) x [] ≡ get_or w x []
put_there w p x r ne = get_or-set_other w p x r [] ne

-- a weight that is the sum of one and a multiple of another
weighed : (a b c s : ℕ) → a < 256 → b < 256 → c < 256 → s < 256 → product (sum_of a (product c b)) s ≡ sum_of (product a s) (product c (product b s))
weighed a b c s ha hb hc hs =
    let hcb : product c b < 256 = product_byte c b hb in
    product_comm (sum_of a (product c b)) s (sum_byte a (product c b) ha hcb) hs
    ∙ product_sum s a (product c b) ha hcb
    ∙ ap (λ v. sum_of v (product s (product c b))) (product_comm s a hs ha)
    ∙ ap (sum_of (product a s)) (product_comm s (product c b) hs hcb ∙ product_assoc c b s hc hb hs)

-- a row to which c times another is added
pub combined : (w : ℕ → List (List ℕ)) (count : ℕ) (source : ℕ → ℕ → ℕ) (tile new : List (List ℕ)) (c p q : ℕ) (r : ℕ → List ℕ)
    → AreWeighted w count source tile → c < 256 → p < 256 → q < 256 → ((d : ℕ) → length (r d) ≡ 32)
    → ((d i : ℕ) → i < 32 → get_or (r d) i 0 ≡ sum_of (lane (w d) p i) (product c (lane (w d) q i)))
    → ((t : ℕ) → t < 64 → lane new p t ≡ sum_of (lane tile p t) (product c (lane tile q t)))
    → ((x t : ℕ) → x ≢ p → lane new x t ≡ lane tile x t)
    → AreWeighted (λ d. set (w d) p (r d)) count source new
combined w count source tile new c p q r are hc hp hq long items here others = record {
  rows = λ d. length-set (w d) p (r d) ∙ are.rows d;
  columns = λ d x lt. elim (cases_eq x p) [
    | inl e ↦ rw e (ap length (put_here (w d) p (r d) (omega (arith, are.rows d, hp))) ∙ long d)
    | inr ne ↦ ap length (put_there (w d) p x (r d) ne) ∙ are.columns d x lt
  ];
  weights = λ d x i lt li. elim (cases_eq x p) [
    | inl e ↦
        let is : lane (set (w d) p (r d)) p i ≡ sum_of (lane (w d) p i) (product c (lane (w d) q i)) = ap (λ l. get_or l i 0) (put_here (w d) p (r d) (omega (arith, are.rows d, hp))) ∙ items d i li in
        let small : sum_of (lane (w d) p i) (product c (lane (w d) q i)) < 256 = sum_byte _ _ (are.weights d p i hp li) (product_byte c _ (are.weights d q i hq li)) in
        rw (e, is) small
    | inr ne ↦ let is = ap (λ l. get_or l i 0) (put_there (w d) p x (r d) ne) in rw is (are.weights d x i lt li)
  ];
  sources = are.sources;
  sums = λ x t lt lt2. elim (cases_eq x p) [
    | inl e ↦ rw e (
        here t lt2
        ∙ ap (λ v. sum_of v (product c (lane tile q t))) (are.sums p t hp lt2)
        ∙ ap (λ v. sum_of (byte_sum count (λ i. product (lane (w (i / 32)) p (i % 32)) (source i t))) (product c v)) (are.sums q t hq lt2)
        ∙ ap (sum_of (byte_sum count (λ i. product (lane (w (i / 32)) p (i % 32)) (source i t))))
        (sum_scaled c count (λ i. product (lane (w (i / 32)) q (i % 32)) (source i t)) (λ i. product_byte _ _ (are.sources i t)))
        ∙ sym (sum_adds count (λ i. product (lane (w (i / 32)) p (i % 32)) (source i t)) (λ i. product c (product (lane (w (i / 32)) q (i % 32)) (source i t))))
        ∙ sum_same count (λ i. sum_of (product (lane (w (i / 32)) p (i % 32)) (source i t)) (product c (product (lane (w (i / 32)) q (i % 32)) (source i t))))
        (λ i. product (lane (set (w (i / 32)) p (r (i / 32))) p (i % 32)) (source i t)) (λ i li.
        let within : i % 32 < 32 = omega arith in
        sym (ap (λ v. product v (source i t)) (ap (λ l. get_or l (i % 32) 0) (put_here (w (i / 32)) p (r (i / 32)) (omega (arith, are.rows (i / 32), hp))) ∙ items (i / 32) (i % 32) within)
        ∙ weighed (lane (w (i / 32)) p (i % 32)) (lane (w (i / 32)) q (i % 32)) c (source i t) (are.weights (i / 32) p (i % 32) hp within) (are.weights (i / 32) q (i % 32) hq within) hc (are.sources i t))))
    | inr ne ↦
        others x t ne ∙ are.sums x t lt lt2
        ∙ sum_same count (λ i. product (lane (w (i / 32)) x (i % 32)) (source i t)) (λ i. product (lane (set (w (i / 32)) p (r (i / 32))) x (i % 32)) (source i t)) (λ i li.
        sym (ap (λ l. product (get_or l (i % 32) 0) (source i t)) (put_there (w (i / 32)) p x (r (i / 32)) ne)))
  ];
}

pub scaled_is : (w : ℕ → List (List ℕ)) (count : ℕ) (source : ℕ → ℕ → ℕ) (tile new : List (List ℕ)) (c p q : ℕ)
    → AreWeighted w count source tile → c < 256 → p < 256 → q < 256
    → ((t : ℕ) → t < 64 → lane new p t ≡ sum_of (lane tile p t) (product c (lane tile q t)))
    → ((x t : ℕ) → x ≢ p → lane new x t ≡ lane tile x t)
    → AreWeighted (λ d. scaled_added c p q (w d)) count source new
unfolding scaled_added
scaled_is w count source tile new c p q are hc hp hq here others =
    combined w count source tile new c p q (λ d. plus_scaled c (row (w d) p) (row (w d) q)) are hc hp hq
    (λ d. zip_long (λ x y. sum_of x (product c y)) 32 (row (w d) p) (row (w d) q) (are.columns d p hp) (are.columns d q hq))
    (λ d i li. zip_lane (λ x y. sum_of x (product c y)) 32 (row (w d) p) (row (w d) q) i (are.columns d p hp) (are.columns d q hq) li)
    here others

pub lane_byte : (w : ℕ → List (List ℕ)) (count : ℕ) (source : ℕ → ℕ → ℕ) (tile : List (List ℕ)) (q t : ℕ) → AreWeighted w count source tile → q < 256 → t < 64 → lane tile q t < 256
lane_byte w count source tile q t are hq lt =
    let small = sum_fits count (λ i. product (lane (w (i / 32)) q (i % 32)) (source i t)) (λ i. product_byte _ _ (are.sources i t)) in
    rw (are.sums q t hq lt) small

pub one_times : (x : ℕ) → x < 256 → product 1 x ≡ x
one_times x h = product_comm 1 x (omega arith) h ∙ product_one x h

pub added_is : (w : ℕ → List (List ℕ)) (count : ℕ) (source : ℕ → ℕ → ℕ) (tile new : List (List ℕ)) (p q : ℕ)
    → AreWeighted w count source tile → p < 256 → q < 256
    → ((t : ℕ) → t < 64 → lane new p t ≡ sum_of (lane tile p t) (lane tile q t))
    → ((x t : ℕ) → x ≢ p → lane new x t ≡ lane tile x t)
    → AreWeighted (λ d. row_added p q (w d)) count source new
unfolding row_added
added_is w count source tile new p q are hp hq here others =
    combined w count source tile new 1 p q (λ d. zip2 sum_of (row (w d) p) (row (w d) q)) are (omega arith) hp hq
    (λ d. zip_long sum_of 32 (row (w d) p) (row (w d) q) (are.columns d p hp) (are.columns d q hq))
    (λ d i li.
    zip_lane sum_of 32 (row (w d) p) (row (w d) q) i (are.columns d p hp) (are.columns d q hq) li
    ∙ sym (ap (sum_of (lane (w d) p i)) (one_times (lane (w d) q i) (are.weights d q i hq li))))
    (λ t lt. here t lt ∙ sym (ap (sum_of (lane tile p t)) (one_times (lane tile q t) (lane_byte w count source tile q t are hq lt))))
    others

-- a row written into a tile
pub written : (tile : List (List ℕ)) (p t : ℕ) (v : List ℕ) → p < length tile → lane (set tile p v) p t ≡ get_or v t 0
written tile p t v lt = ap (λ l. get_or l t 0) (put_here tile p v lt)

pub kept : (tile : List (List ℕ)) (p x t : ℕ) (v : List ℕ) → x ≢ p → lane (set tile p v) x t ≡ lane tile x t
kept tile p x t v ne = ap (λ l. get_or l t 0) (put_there tile p x v ne)

-- ---- one step more

module _ (w : ℕ → List (List ℕ)) (count : ℕ) (source : ℕ → ℕ → ℕ) (tile : List (List ℕ)) where
  pub rows_next : (n p q : ℕ) → AreWeighted (λ d. row_added (p + n) (q + n) (rows_added n p q (w d))) count source tile → AreWeighted (λ d. rows_added (n + 1) p q (w d)) count source tile
  unfolding rows_added
  rows_next n p q are = let e : n + 1 ≡ suc n = omega arith in rw e are

  pub butterflies_next : (n c p q : ℕ) → AreWeighted (λ d. butterfly c (p + n) (q + n) (butterflies n c p q (w d))) count source tile → AreWeighted (λ d. butterflies (n + 1) c p q (w d)) count source tile
  unfolding butterflies
  butterflies_next n c p q are = let e : n + 1 ≡ suc n = omega arith in rw e are

  pub groups_next : (n q : ℕ) → AreWeighted (λ d. group_expanded q (n * (4 * q)) (groups_expanded n q (w d))) count source tile → AreWeighted (λ d. groups_expanded (n + 1) q (w d)) count source tile
  unfolding groups_expanded
  groups_next n q are = let e : n + 1 ≡ suc n = omega arith in rw e are

  pub expanded_next : (b l n q : ℕ) → n ≡ 2 ^ l → q ≡ 2 ^ (b - 2 - l) → AreWeighted (λ d. groups_expanded n q (expanded b l (w d))) count source tile → AreWeighted (λ d. expanded b (l + 1) (w d)) count source tile
  unfolding expanded
  expanded_next b l n q en eq are =
      let e : l + 1 ≡ suc l = omega arith in
      let of_n : AreWeighted (λ d. groups_expanded (2 ^ l) q (expanded b l (w d))) count source tile = subst (λ n. AreWeighted (λ d. groups_expanded n q (expanded b l (w d))) count source tile) en are in
      rw e (subst (λ q. AreWeighted (λ d. groups_expanded (2 ^ l) q (expanded b l (w d))) count source tile) eq of_n)

  pub all_expanded_next : (b a : ℕ) → AreWeighted (λ d. expanded b (b - 1 - a) (all_expanded b a (w d))) count source tile → AreWeighted (λ d. all_expanded b (a + 1) (w d)) count source tile
  unfolding all_expanded
  all_expanded_next b a are = let e : a + 1 ≡ suc a = omega arith in rw e are

  pub joined_next : (n s c p q : ℕ) → c ≡ element (2 * (n + 1)) → p ≡ (n + 1) * (2 * s) → q ≡ (n + 1) * (2 * s) + s → AreWeighted (λ d. butterflies s c p q (joined n s (w d))) count source tile → AreWeighted (λ d. joined (n + 1) s (w d)) count source tile
  unfolding joined
  joined_next n s c p q ec ep eq are =
      let e : n + 1 ≡ suc n = omega arith in
      let of_c : AreWeighted (λ d. butterflies s (element (2 * (n + 1))) p q (joined n s (w d))) count source tile = subst (λ c. AreWeighted (λ d. butterflies s c p q (joined n s (w d))) count source tile) ec are in
      let of_p : AreWeighted (λ d. butterflies s (element (2 * (n + 1))) ((n + 1) * (2 * s)) q (joined n s (w d))) count source tile = subst (λ p. AreWeighted (λ d. butterflies s (element (2 * (n + 1))) p q (joined n s (w d))) count source tile) ep of_c in
      let of_q : AreWeighted (λ d. butterflies s (element (2 * (n + 1))) ((n + 1) * (2 * s)) ((n + 1) * (2 * s) + s) (joined n s (w d))) count source tile = subst (λ q. AreWeighted (λ d. butterflies s (element (2 * (n + 1))) ((n + 1) * (2 * s)) q (joined n s (w d))) count source tile) eq of_p in
      subst (λ m. AreWeighted (λ d. joined m s (w d)) count source tile) (sym e) of_q

  pub all_joined_next : (a n s : ℕ) → n ≡ 2 ^ a - 1 → s ≡ 2 ^ (7 - a) → AreWeighted (λ d. joined n s (all_joined a (w d))) count source tile → AreWeighted (λ d. all_joined (a + 1) (w d)) count source tile
  unfolding all_joined
  all_joined_next a n s en es are =
      let e : a + 1 ≡ suc a = omega arith in
      let of_n : AreWeighted (λ d. joined (2 ^ a - 1) s (all_joined a (w d))) count source tile = subst (λ n. AreWeighted (λ d. joined n s (all_joined a (w d))) count source tile) en are in
      rw e (subst (λ s. AreWeighted (λ d. joined (2 ^ a - 1) s (all_joined a (w d))) count source tile) es of_n)
