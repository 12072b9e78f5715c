-- Elimination: each step on the rows of two matrices keeps the solutions of one system of
-- equations.
use Rattle.std.specs.Prelude.{◌≡◌, ◌≢◌, ◌<◌, ◌≤◌, ℕ, refl, cond, nat_lt}
use Rattle.std.proofs.Common.{◌∙◌, sym, ap, arith, inl, inr}
use Rattle.std.proofs.lemmas.Bool.{cases_eq, cases_lt}
use Rattle.std.proofs.lemmas.Bool.Decides.{nat_tests}
use Rattle.gf256.specs.FieldLaws.{IsField}
use Rattle.poly.proofs.Roots.{mul_zero, one_mul}
use Rattle.gf256.specs.Sums.{dot}
use Rattle.elim.specs.Matrices.{AreElements, identity_entry}
use Rattle.elim.specs.Steps.{IsSwapped, IsRowSet, System, KeepsSolutions, SameSolutions, HasUnitColumns}
use Rattle.elim.proofs.Sums.{sum_one_place}
use Rattle.elim.proofs.RowTimes.{unit_here, unit_there, zero_mul, unit_element, unit_swapped, dot_same, dot_scaled, dot_of_sums, dot_swapped, dot_none, dot_picks, picks_dot}
use Rattle.elim.specs.Squares.{AreInverseSquares, IsSingularSquare}

-- a system of these entries
abbrev pub system : {F : Type 0} → (ℕ → ℕ → F) → (ℕ → ℕ → F) → System F
system w r = record { matrix = w; right = r }

abbrev pub transposed_entry : {F : Type 0} → (ℕ → ℕ → F) → ℕ → ℕ → F
transposed_entry m i j = m j i

-- a system on its way from that of m, whose first p columns are cleared
pub record IsReduced {F : Type 0} (element : F → Type 0) (add mul : F → F → F) (none one : F) (k p : ℕ) (m w r : ℕ → ℕ → F) : Type 0 where
  pub same : SameSolutions element add mul none k (system (transposed_entry m) (identity_entry none one)) (system w r)
  pub cleared : HasUnitColumns none one k p w

pub swapped_back : {F : Type 0} (k a b : ℕ) (old new : ℕ → ℕ → F) → IsSwapped k k a b old new → IsSwapped k k a b new old
swapped_back k a b old new s = record {
  first = λ j lt. sym (s.second j lt);
  second = λ j lt. sym (s.first j lt);
  others = λ i j li lj na nb. sym (s.others i j li lj na nb);
}

module _ {F : Type 0} (element : F → Type 0) (add mul : F → F → F) (none one : F) (field : IsField element add mul none one) where
  pub equal_then : (k : ℕ) (w r w2 r2 w3 r3 : ℕ → ℕ → F) → SameSolutions element add mul none k (system w r) (system w2 r2) → SameSolutions element add mul none k (system w2 r2) (system w3 r3) → SameSolutions element add mul none k (system w r) (system w3 r3)
  equal_then k w r w2 r2 w3 r3 a b = record {
    there = record { to = λ x z ex ez h. b.there.to x z ex ez (a.there.to x z ex ez h) };
    back = record { to = λ x z ex ez h. a.back.to x z ex ez (b.back.to x z ex ez h) };
  }

  same_leads : (k : ℕ) (w r w2 r2 : ℕ → ℕ → F) → ((i j : ℕ) → i < k → j < k → w2 i j ≡ w i j) → ((i j : ℕ) → i < k → j < k → r2 i j ≡ r i j)
      → KeepsSolutions element add mul none k (system w r) (system w2 r2)
  same_leads k w r w2 r2 hw hr = record {
    to = λ x z ex ez h i lt.
        dot_same element add mul none one field x (w2 i) (w i) k (λ j lj. hw i j lt lj)
        ∙ h i lt
        ∙ sym (dot_same element add mul none one field z (r2 i) (r i) k (λ j lj. hr i j lt lj));
  }

  -- entries that are the same have the same solutions
  pub same_equal : (k : ℕ) (w r w2 r2 : ℕ → ℕ → F) → ((i j : ℕ) → i < k → j < k → w2 i j ≡ w i j) → ((i j : ℕ) → i < k → j < k → r2 i j ≡ r i j)
      → SameSolutions element add mul none k (system w r) (system w2 r2)
  same_equal k w r w2 r2 hw hr = record {
    there = same_leads k w r w2 r2 hw hr;
    back = same_leads k w2 r2 w r (λ i j li lj. sym (hw i j li lj)) (λ i j li lj. sym (hr i j li lj));
  }

  swapped_leads : (k a b : ℕ) (w r w2 r2 : ℕ → ℕ → F) → a < k → b < k → IsSwapped k k a b w w2 → IsSwapped k k a b r r2 → KeepsSolutions element add mul none k (system w r) (system w2 r2)
  swapped_leads k a b w r w2 r2 la lb sw sr = record {
    to = λ x z ex ez h i lt. elim (cases_eq i a) [
      | inl ea ↦ rw ea (dot_same element add mul none one field x (w2 a) (w b) k sw.first
          ∙ h b lb ∙ sym (dot_same element add mul none one field z (r2 a) (r b) k sr.first))
      | inr na ↦ elim (cases_eq i b) [
        | inl eb ↦ rw eb (dot_same element add mul none one field x (w2 b) (w a) k sw.second
            ∙ h a la ∙ sym (dot_same element add mul none one field z (r2 b) (r a) k sr.second))
        | inr nb ↦ dot_same element add mul none one field x (w2 i) (w i) k (λ j lj. sw.others i j lt lj na nb)
            ∙ h i lt ∙ sym (dot_same element add mul none one field z (r2 i) (r i) k (λ j lj. sr.others i j lt lj na nb))
      ]
    ];
  }

  pub swapped_equal : (k a b : ℕ) (w r w2 r2 : ℕ → ℕ → F) → a < k → b < k → IsSwapped k k a b w w2 → IsSwapped k k a b r r2 → SameSolutions element add mul none k (system w r) (system w2 r2)
  swapped_equal k a b w r w2 r2 la lb sw sr = record {
    there = swapped_leads k a b w r w2 r2 la lb sw sr;
    back = swapped_leads k a b w2 r2 w r la lb (swapped_back k a b w w2 sw) (swapped_back k a b r r2 sr);
  }

  scaled_leads : (k p : ℕ) (c : F) (w r w2 r2 : ℕ → ℕ → F) → element c → ((i : ℕ) → AreElements element (w i)) → ((i : ℕ) → AreElements element (r i))
      → IsRowSet k k p (λ j. mul c (w p j)) w w2 → IsRowSet k k p (λ j. mul c (r p j)) r r2 → KeepsSolutions element add mul none k (system w r) (system w2 r2)
  scaled_leads k p c w r w2 r2 ec ew er sw sr = record {
    to = λ x z ex ez h i lt. elim (cases_eq i p) [
      | inl e ↦ (let lp : p < k = rw e at lt in
          rw e (dot_same element add mul none one field x (w2 p) (λ j. mul c (w p j)) k sw.here
          ∙ dot_scaled element add mul none one field x (w p) c k ex (ew p) ec
          ∙ ap (mul c) (h p lp)
          ∙ sym (dot_scaled element add mul none one field z (r p) c k ez (er p) ec)
          ∙ sym (dot_same element add mul none one field z (r2 p) (λ j. mul c (r p j)) k sr.here)))
      | inr ne ↦ dot_same element add mul none one field x (w2 i) (w i) k (λ j lj. sw.others i j lt lj ne)
          ∙ h i lt ∙ sym (dot_same element add mul none one field z (r2 i) (r i) k (λ j lj. sr.others i j lt lj ne))
    ];
  }

  scaled_back : (k p : ℕ) (c d : F) (old new : ℕ → ℕ → F) → p < k → element c → element d → mul d c ≡ one → ((i : ℕ) → AreElements element (old i))
      → IsRowSet k k p (λ j. mul c (old p j)) old new → IsRowSet k k p (λ j. mul d (new p j)) new old
  scaled_back k p c d old new lp ec ed e eo s = record {
    here = λ j lt. let e1 = s.here j lt in
        let e2 = field.mul_assoc d c (old p j) ed ec (eo p j) in
        let e3 = one_mul element add mul none one field (old p j) (eo p j) in
        (cc);
    others = λ i j li lj ne. sym (s.others i j li lj ne);
  }

  pub scaled_equal : (k p : ℕ) (c d : F) (w r w2 r2 : ℕ → ℕ → F) → p < k → element c → element d → mul d c ≡ one
      → ((i : ℕ) → AreElements element (w i)) → ((i : ℕ) → AreElements element (r i)) → ((i : ℕ) → AreElements element (w2 i)) → ((i : ℕ) → AreElements element (r2 i))
      → IsRowSet k k p (λ j. mul c (w p j)) w w2 → IsRowSet k k p (λ j. mul c (r p j)) r r2 → SameSolutions element add mul none k (system w r) (system w2 r2)
  scaled_equal k p c d w r w2 r2 lp ec ed e ew er ew2 er2 sw sr = record {
    there = scaled_leads k p c w r w2 r2 ec ew er sw sr;
    back = scaled_leads k p d w2 r2 w r ed ew2 er2 (scaled_back k p c d w w2 lp ec ed e ew sw) (scaled_back k p c d r r2 lp ec ed e er sr);
  }

  added_leads : (k q : ℕ) (c : F) (p : ℕ) (w r w2 r2 : ℕ → ℕ → F) → p < k → element c → ((i : ℕ) → AreElements element (w i)) → ((i : ℕ) → AreElements element (r i))
      → IsRowSet k k q (λ j. add (w q j) (mul c (w p j))) w w2 → IsRowSet k k q (λ j. add (r q j) (mul c (r p j))) r r2 → KeepsSolutions element add mul none k (system w r) (system w2 r2)
  added_leads k q c p w r w2 r2 lp ec ew er sw sr = record {
    to = λ x z ex ez h i lt. elim (cases_eq i q) [
      | inl e ↦ (let lq : q < k = rw e at lt in
          let e1 = dot_same element add mul none one field x (w2 q) (λ j. add (w q j) (mul c (w p j))) k sw.here in
          let e2 = dot_of_sums element add mul none one field x (w q) (λ j. mul c (w p j)) k ex (ew q) (λ j. field.mul_element _ _ ec (ew p j)) in
          let e3 = dot_scaled element add mul none one field x (w p) c k ex (ew p) ec in
          let e4 = h q lq in
          let e5 = h p lp in
          let f1 = dot_same element add mul none one field z (r2 q) (λ j. add (r q j) (mul c (r p j))) k sr.here in
          let f2 = dot_of_sums element add mul none one field z (r q) (λ j. mul c (r p j)) k ez (er q) (λ j. field.mul_element _ _ ec (er p j)) in
          let f3 = dot_scaled element add mul none one field z (r p) c k ez (er p) ec in
          rw e (e1 ∙ e2 ∙ ap (add (dot add mul none x (w q) k)) (e3 ∙ ap (mul c) e5) ∙ ap (λ v. add v (mul c (dot add mul none z (r p) k))) e4
          ∙ sym (f1 ∙ f2 ∙ ap (add (dot add mul none z (r q) k)) f3)))
      | inr ne ↦ dot_same element add mul none one field x (w2 i) (w i) k (λ j lj. sw.others i j lt lj ne)
          ∙ h i lt ∙ sym (dot_same element add mul none one field z (r2 i) (r i) k (λ j lj. sr.others i j lt lj ne))
    ];
  }

  added_back : (k q : ℕ) (c : F) (p : ℕ) (old new : ℕ → ℕ → F) → p < k → q ≢ p → element c → ((i : ℕ) → AreElements element (old i))
      → IsRowSet k k q (λ j. add (old q j) (mul c (old p j))) old new → IsRowSet k k q (λ j. add (new q j) (mul c (new p j))) new old
  added_back k q c p old new lp apart ec eo s = record {
    here = λ j lt. let e1 = s.here j lt in
        let m = mul c (old p j) in
        let em : element (mul c (old p j)) = field.mul_element c (old p j) ec (eo p j) in
        let e2 = s.others p j lp lt (λ h. apart (sym h)) in
        let e3 = field.add_assoc (old q j) (mul c (old p j)) (mul c (old p j)) (eo q j) em em in
        let e4 = field.add_self (mul c (old p j)) em in
        let e5 = field.add_zero (old q j) (eo q j) in
        (cc);
    others = λ i j li lj ne. sym (s.others i j li lj ne);
  }

  pub added_equal : (k q : ℕ) (c : F) (p : ℕ) (w r w2 r2 : ℕ → ℕ → F) → p < k → q ≢ p → element c
      → ((i : ℕ) → AreElements element (w i)) → ((i : ℕ) → AreElements element (r i)) → ((i : ℕ) → AreElements element (w2 i)) → ((i : ℕ) → AreElements element (r2 i))
      → IsRowSet k k q (λ j. add (w q j) (mul c (w p j))) w w2 → IsRowSet k k q (λ j. add (r q j) (mul c (r p j))) r r2 → SameSolutions element add mul none k (system w r) (system w2 r2)
  added_equal k q c p w r w2 r2 lp apart ec ew er ew2 er2 sw sr = record {
    there = added_leads k q c p w r w2 r2 lp ec ew er sw sr;
    back = added_leads k q c p w2 r2 w r lp ec ew2 er2 (added_back k q c p w w2 lp apart ec ew sw) (added_back k q c p r r2 lp apart ec er sr);
  }

  -- a step on rows from p on keeps the columns before p

  pub swapped_cleared : (k p q : ℕ) (w w2 : ℕ → ℕ → F) → p ≤ q → q < k → IsSwapped k k p q w w2 → HasUnitColumns none one k p w → HasUnitColumns none one k p w2
  swapped_cleared k p q w w2 le lq s u = record {
    at = λ i j li lj.
        let lp : p < k = omega arith in
        let lj2 : j < k = omega arith in
        let np : p ≢ j = omega arith in
        let nq : q ≢ j = omega arith in
        elim (cases_eq i p) [
          | inl e ↦ rw e (s.first j lj2 ∙ u.at q j lq lj ∙ unit_there none one q j nq ∙ sym (unit_there none one p j np))
          | inr na ↦ elim (cases_eq i q) [
            | inl e ↦ rw e (s.second j lj2 ∙ u.at p j lp lj ∙ unit_there none one p j np ∙ sym (unit_there none one q j nq))
            | inr nb ↦ s.others i j li lj2 na nb ∙ u.at i j li lj
          ]
        ];
  }

  pub scaled_cleared : (k p : ℕ) (c : F) (w w2 : ℕ → ℕ → F) → p < k → element c → IsRowSet k k p (λ j. mul c (w p j)) w w2 → HasUnitColumns none one k p w → HasUnitColumns none one k p w2
  scaled_cleared k p c w w2 lp ec s u = record {
    at = λ i j li lj.
        let lj2 : j < k = omega arith in
        let np : p ≢ j = omega arith in
        elim (cases_eq i p) [
          | inl e ↦ rw e (s.here j lj2 ∙ ap (mul c) (u.at p j lp lj ∙ unit_there none one p j np) ∙ mul_zero element add mul none one field c ec ∙ sym (unit_there none one p j np))
          | inr ne ↦ s.others i j li lj2 ne ∙ u.at i j li lj
        ];
  }

  pub added_cleared : (k q : ℕ) (c : F) (p : ℕ) (w w2 : ℕ → ℕ → F) → p < k → element c → IsRowSet k k q (λ j. add (w q j) (mul c (w p j))) w w2 → HasUnitColumns none one k p w → HasUnitColumns none one k p w2
  added_cleared k q c p w w2 lp ec s u = record {
    at = λ i j li lj.
        let lj2 : j < k = omega arith in
        let np : p ≢ j = omega arith in
        elim (cases_eq i q) [
          | inl e ↦ (let lq : q < k = rw e at li in
              rw e (s.here j lj2
              ∙ ap (λ v. add v (mul c (w p j))) (u.at q j lq lj)
              ∙ ap (add (identity_entry none one q j)) (ap (mul c) (u.at p j lp lj ∙ unit_there none one p j np) ∙ mul_zero element add mul none one field c ec)
              ∙ field.add_zero (identity_entry none one q j) (unit_element element add mul none one field q j)))
          | inr ne ↦ s.others i j li lj2 ne ∙ u.at i j li lj
        ];
  }

  -- at the beginning nothing is cleared
  pub reduced_none : (k : ℕ) (m w r : ℕ → ℕ → F) → ((i j : ℕ) → i < k → j < k → w i j ≡ m j i) → ((i j : ℕ) → i < k → j < k → r i j ≡ identity_entry none one i j)
      → IsReduced element add mul none one k 0 m w r
  reduced_none k m w r hw hr = record {
    same = same_equal k (transposed_entry m) (identity_entry none one) w r hw hr;
    cleared = record { at = λ i j li lj. absurd (omega arith) };
  }

  -- where all columns are cleared, the other matrix is the inverse, transposed_entry
  pub inverse_all : (k : ℕ) (m w r : ℕ → ℕ → F) → ((i : ℕ) → AreElements element (m i)) → ((i : ℕ) → AreElements element (w i)) → ((i : ℕ) → AreElements element (r i))
      → IsReduced element add mul none one k k m w r → AreInverseSquares add mul none one k m (transposed_entry r)
  inverse_all k m w r em ew er h = record {
    left = λ i j li lj.
        h.same.back.to (λ l. r l i) (identity_entry none one i) (λ l. er l i) (unit_element element add mul none one field i)
        (λ l ll. dot_same element add mul none one field (λ n. r n i) (w l) (identity_entry none one l) k (λ n ln. h.cleared.at l n ll ln)
        ∙ dot_picks element add mul none one field (λ n. r n i) k l (λ n. er n i) ll
        ∙ sym (picks_dot element add mul none one field (r l) k i (er l) li)) j lj
        ∙ dot_picks element add mul none one field (identity_entry none one i) k j (unit_element element add mul none one field i) lj;
    right = λ i j li lj.
        sym (h.same.there.to (identity_entry none one i) (m i) (unit_element element add mul none one field i) (em i)
        (λ l ll. picks_dot element add mul none one field (λ n. m n l) k i (λ n. em n l) li
        ∙ sym (dot_picks element add mul none one field (m i) k l (em i) ll)) j lj)
        ∙ picks_dot element add mul none one field (w j) k i (ew j) li
        ∙ h.cleared.at j i lj li ∙ unit_swapped element add mul none one field j i;
  }

  -- where column p has nothing in the rows from p on, some row that isn't zero is sent to zero
  module _ (k p : ℕ) (w : ℕ → ℕ → F) (lp : p < k) (ew : (i : ℕ) → AreElements element (w i)) (u : HasUnitColumns none one k p w) (empty : (i : ℕ) → p ≤ i → i < k → w i p ≡ none) where
    before : ℕ → F
    before j = cond (nat_lt j p) (w j p) none

    lost : ℕ → F
    lost j = add (before j) (identity_entry none one p j)

    before_low : (j : ℕ) → j < p → before j ≡ w j p
    unfolding before
    before_low j lt = grind (arith, nat_tests)

    before_high : (j : ℕ) → p ≤ j → before j ≡ none
    unfolding before
    before_high j le = grind (arith, nat_tests)

    before_element : AreElements element before
    before_element j = elim (cases_lt j p) [ inl lt ↦ rw (before_low j lt) (ew j p) | inr le ↦ rw (before_high j le) field.zero_element ]

    lost_element : AreElements element lost
    unfolding lost
    lost_element j = field.add_element _ _ (before_element j) (unit_element element add mul none one field p j)

    lost_here : lost p ≡ one
    unfolding lost
    lost_here =
        let e1 = before_high p (omega arith) in
        let e2 = unit_here none one p p refl in
        let e3 = field.add_comm none one field.zero_element field.one_element in
        let e4 = field.add_zero one field.one_element in
        (cc)

    before_dot : (i : ℕ) → i < k → dot add mul none before (w i) k ≡ before i
    before_dot i li =
        sum_one_place element add mul none one field (λ j. mul (before j) (w i j)) k i li (field.mul_element _ _ (before_element i) (ew i i))
        (λ j lj ne. elim (cases_lt j p) [
          | inl lt ↦ ap (mul (before j)) (u.at i j li lt ∙ unit_there none one i j (λ h. ne (sym h))) ∙ mul_zero element add mul none one field (before j) (before_element j)
          | inr le ↦ ap (λ v. mul v (w i j)) (before_high j le) ∙ zero_mul element add mul none one field (w i j) (ew i j)
        ])
        ∙ elim (cases_lt i p) [
          | inl lt ↦ ap (mul (before i)) (u.at i i li lt ∙ unit_here none one i i refl) ∙ field.mul_one (before i) (before_element i)
          | inr le ↦ ap (λ v. mul v (w i i)) (before_high i le) ∙ zero_mul element add mul none one field (w i i) (ew i i) ∙ sym (before_high i le)
        ]

    lost_dot : (i : ℕ) → i < k → dot add mul none lost (w i) k ≡ none
    unfolding lost
    lost_dot i li =
        dot_swapped element add mul none one field lost (w i) k lost_element (ew i)
        ∙ dot_of_sums element add mul none one field (w i) before (identity_entry none one p) k (ew i) before_element (unit_element element add mul none one field p)
        ∙ ap (λ v. add v (dot add mul none (w i) (identity_entry none one p) k)) (dot_swapped element add mul none one field (w i) before k (ew i) before_element ∙ before_dot i li)
        ∙ ap (add (before i)) (dot_picks element add mul none one field (w i) k p (ew i) lp)
        ∙ elim (cases_lt i p) [
          | inl lt ↦ ap (λ v. add v (w i p)) (before_low i lt) ∙ field.add_self (w i p) (ew i p)
          | inr le ↦ (let e1 = before_high i le in let e2 = empty i le li in let e3 = field.add_zero none field.zero_element in (cc))
        ]

    pub singular_here : (m r : ℕ → ℕ → F) → ((i : ℕ) → AreElements element (r i)) → IsReduced element add mul none one k p m w r → IsSingularSquare element add mul none k m
    singular_here m r er h = record {
      row = lost;
      elements = lost_element;
      place = p;
      within = lp;
      apart = λ e. field.apart (sym e ∙ lost_here);
      gone = λ j lj.
          h.same.back.to lost (λ _. none) lost_element (λ _. field.zero_element)
          (λ i li. lost_dot i li ∙ sym (dot_none element add mul none one field (r i) k (er i))) j lj
          ∙ dot_none element add mul none one field (identity_entry none one j) k (unit_element element add mul none one field j);
    }
