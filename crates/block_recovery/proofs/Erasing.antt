-- What is missing of a block and what came beside it, where enough symbols came.
use Rattle.std.specs.Prelude.{slice_index, is_some, not, filter}
use Rattle.std.proofs.Common.{◌≡◌, ℕ, ◌*◌, ◌<◌, ◌≤◌, true, List, Option, Some, None, length, get_or, take, arith, ap, ◌∙◌, sym, refl, subst, inl, inr, get_or-take, length-take-le}
use Rattle.std.proofs.lemmas.Bool.{cases_lt}
use Rattle.lists.specs.Below.{below}
use Rattle.gf256.specs.Arithmetic.{product}
use Rattle.gf256.specs.ProductLaws.{product_comm}
use Rattle.gf256.specs.ByteSums.{byte_sum}
use Rattle.gf256.proofs.SliceSums.{sum_same}
use Rattle.elim.specs.Erasures.{AreErasures}
use Rattle.block_recovery.specs.Blocks.{byte_of}
use Rattle.block_recovery.specs.Erasures.{AreErased}
use Rattle.block_recovery.proofs.Those.{those_same_as, as_many, few_pass}

-- nothing came
pub none_byte : (o : Option (List ℕ)) (c : ℕ) → not (is_some o) ≡ true → byte_of o c ≡ 0
none_byte None c none = refl
none_byte (Some y) c none = absurd (cc)

-- a product of sums, the factors changed
pub factors_changed : (n : ℕ) (a x e : ℕ → ℕ) → ((i : ℕ) → i < n → a i < 256) → ((i : ℕ) → x i < 256) → ((i : ℕ) → i < n → a i ≡ e i)
    → byte_sum n (λ i. product (a i) (x i)) ≡ byte_sum n (λ i. product (x i) (e i))
factors_changed n a x e small_a small_x same =
    sum_same n (λ i. product (a i) (x i)) (λ i. product (x i) (e i)) (λ i li. product_comm (a i) (x i) (small_a i li) (small_x i) ∙ ap (product (x i)) (same i li))

-- where there is a place, rows aren't empty
pub some_bytes : (p count size : ℕ) → p < count * size → 0 < size
some_bytes p count size lt = elim (cases_lt 0 size) [
  | inl some ↦ some
  | inr none ↦ (let e : size ≡ 0 = omega arith in let z : count * size ≡ count * 0 = ap (λ (n : ℕ). count * n) e in absurd (omega (arith, z, lt)))
]

module _ (at : ℕ → Option (List ℕ)) where
  pub erased_as : (k k2 n n2 : ℕ) (m m2 r r2 : List ℕ) → AreErased at k n m r → k ≡ k2 → n ≡ n2 → m2 ≡ m → r2 ≡ r → AreErased at k2 n2 m2 r2
  erased_as k k2 n n2 m m2 r r2 h e1 e2 e3 e4 = record {
    lost = those_same_as (λ j. not (is_some (at j))) 0 0 k k2 m m2 h.lost refl e1 e3;
    arrivals = those_same_as (λ j. is_some (at j)) k k2 n n2 r r2 h.arrivals e1 e2 e4;
  }

  module _ (k n : ℕ) (m r : List ℕ) (h : AreErased at k n m r) where
    pub enough_repair : k ≤ length (filter (λ j. is_some (at j)) (below n)) → length m ≤ length r
    enough_repair enough = as_many (λ j. is_some (at j)) k n m r h.lost h.arrivals enough

    pub few_repair : length r ≤ n
    few_repair = omega (arith, h.arrivals.count, few_pass (λ j. is_some (at j)) n)

    pub erasures_of : (used : List ℕ) → length m ≤ length r → used ≡ take (length m) r → 0 < length m → AreErasures k n m used
    erasures_of used le is some =
        let count : length used ≡ length m = ap length is ∙ length-take-le (length m) r le in
        let here : (i : ℕ) → i < length used → slice_index used i ≡ slice_index r i = λ i l. ap (λ (x : List ℕ). get_or x i 0) is ∙ get_or-take (length m) r i 0 (omega (arith, l, count)) in
        record {
          some = some;
          count = count;
          source = h.lost.most;
          beyond = λ i l. subst (λ (v : ℕ). k ≤ v) (sym (here i l)) (h.arrivals.least i (omega (arith, l, count, le)));
          within = λ i l. subst (λ (v : ℕ). v < n) (sym (here i l)) (h.arrivals.most i (omega (arith, l, count, le)));
          missing_rise = h.lost.rise;
          repair_rise = λ i j lt l.
              let low = here i (omega (arith, lt, l)) in
              let high = here j l in
              omega (arith, low, high, h.arrivals.rise i j lt (omega (arith, l, count, le)));
        }
