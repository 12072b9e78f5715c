-- One column of the elimination.
use Rattle.std.specs.Prelude.{◌≡◌, ◌≢◌, ◌<◌, ◌≤◌, ◌+◌, ℕ}
use Rattle.std.proofs.Common.{◌∙◌, sym, ap, arith, inl, inr}
use Rattle.std.proofs.lemmas.Bool.{cases_eq}
use Rattle.gf256.specs.FieldLaws.{IsField}
use Rattle.elim.specs.Matrices.{AreElements, identity_entry}
use Rattle.elim.specs.Steps.{IsSwapped, IsRowSet, System, SameSolutions, HasUnitColumns}
use Rattle.elim.proofs.Sums.{sum_same}
use Rattle.elim.proofs.Elimination.{system, transposed_entry, IsReduced, equal_then, swapped_equal, scaled_equal, added_equal, swapped_cleared, scaled_cleared, added_cleared}
use Rattle.elim.specs.Squares.{AreInverseSquares}

-- both systems have the same solutions, the columns before p are kept, and the entry at p, p is one
pub record IsNormalized {F : Type 0} (element : F → Type 0) (add mul : F → F → F) (none one : F) (k p : ℕ) (old new : System F) : Type 0 where
  pub equal : SameSolutions element add mul none k old new
  pub kept : HasUnitColumns none one k p old.matrix → HasUnitColumns none one k p new.matrix
  pub here : new.matrix p p ≡ one

-- both systems have the same solutions, and one column more is cleared
pub record ClearsColumn {F : Type 0} (element : F → Type 0) (add mul : F → F → F) (none one : F) (k p : ℕ) (old new : System F) : Type 0 where
  pub equal : SameSolutions element add mul none k old new
  pub more : HasUnitColumns none one k p old.matrix → HasUnitColumns none one k (p + 1) new.matrix

-- on the way of clearing column p: the rows before i have nothing in it, but for row p
pub record IsClearedTo {F : Type 0} (element : F → Type 0) (add mul : F → F → F) (none one : F) (k p i : ℕ) (w r w2 r2 : ℕ → ℕ → F) : Type 0 where
  pub equal : SameSolutions element add mul none k (system w r) (system w2 r2)
  pub kept : HasUnitColumns none one k p w → HasUnitColumns none one k p w2
  pub here : w2 p p ≡ one
  pub gone : (a : ℕ) → a < i → a ≢ p → w2 a p ≡ none

pub swapped_at : {F : Type 0} (a b c d k : ℕ) (old new : ℕ → ℕ → F) → c ≡ k → d ≡ k → IsSwapped c d a b old new → IsSwapped k k a b old new
swapped_at a b c d k old new e f h = record { first = rw (← f) h.first; second = rw (← f) h.second; others = rw (e, f) at h.others }

pub set_at : {F : Type 0} (r : ℕ) (row : ℕ → F) (c d k : ℕ) (old new : ℕ → ℕ → F) → c ≡ k → d ≡ k → IsRowSet c d r row old new → IsRowSet k k r row old new
set_at r row c d k old new e f h = record { here = rw (← f) h.here; others = rw (e, f) at h.others }

module _ {F : Type 0} (element : F → Type 0) (add mul : F → F → F) (none one : F) (field : IsField element add mul none one) where
  pub normal : (k p q : ℕ) (c : F) (w r w2 r2 w3 r3 : ℕ → ℕ → F) → p ≤ q → q < k → element c → mul (w q p) c ≡ one
      → ((i : ℕ) → AreElements element (w i)) → ((i : ℕ) → AreElements element (w2 i)) → ((i : ℕ) → AreElements element (r2 i)) → ((i : ℕ) → AreElements element (w3 i)) → ((i : ℕ) → AreElements element (r3 i))
      → IsSwapped k k p q w w2 → IsSwapped k k p q r r2 → IsRowSet k k p (λ j. mul c (w2 p j)) w2 w3 → IsRowSet k k p (λ j. mul c (r2 p j)) r2 r3
      → IsNormalized element add mul none one k p (system w r) (system w3 r3)
  normal k p q c w r w2 r2 w3 r3 le lq ec e ew ew2 er2 ew3 er3 sw sr tw tr =
      let lp : p < k = omega arith in
      let ed = ew q p in
      record {
        equal = equal_then element add mul none one field k w r w2 r2 w3 r3
            (swapped_equal element add mul none one field k p q w r w2 r2 lp lq sw sr)
            (scaled_equal element add mul none one field k p c (w q p) w2 r2 w3 r3 lp ec ed e ew2 er2 ew3 er3 tw tr);
        kept = λ u. scaled_cleared element add mul none one field k p c w2 w3 lp ec tw (swapped_cleared element add mul none one field k p q w w2 le lq sw u);
        here = tw.here p lp ∙ ap (mul c) (sw.first p lp) ∙ field.mul_comm c (w q p) ec ed ∙ e;
      }

  pub clearing_passed : (k p i : ℕ) (w r w2 r2 : ℕ → ℕ → F) → i ≡ p → IsClearedTo element add mul none one k p i w r w2 r2 → IsClearedTo element add mul none one k p (i + 1) w r w2 r2
  clearing_passed k p i w r w2 r2 e h = record { equal = h.equal; kept = h.kept; here = h.here; gone = λ a la ne. h.gone a (omega arith) ne }

  pub clearing_more : (k p i : ℕ) (c : F) (w r w2 r2 w3 r3 : ℕ → ℕ → F) → p < k → i < k → i ≢ p → c ≡ w2 i p
      → ((i : ℕ) → AreElements element (w2 i)) → ((i : ℕ) → AreElements element (r2 i)) → ((i : ℕ) → AreElements element (w3 i)) → ((i : ℕ) → AreElements element (r3 i))
      → IsRowSet k k i (λ j. add (w2 i j) (mul c (w2 p j))) w2 w3 → IsRowSet k k i (λ j. add (r2 i j) (mul c (r2 p j))) r2 r3
      → IsClearedTo element add mul none one k p i w r w2 r2 → IsClearedTo element add mul none one k p (i + 1) w r w3 r3
  clearing_more k p i c w r w2 r2 w3 r3 lp li ne e ew2 er2 ew3 er3 sw sr h =
      let ec : element c = rw e (ew2 i p) in
      record {
        equal = equal_then element add mul none one field k w r w2 r2 w3 r3 h.equal (added_equal element add mul none one field k i c p w2 r2 w3 r3 lp ne ec ew2 er2 ew3 er3 sw sr);
        kept = λ u. added_cleared element add mul none one field k i c p w2 w3 lp ec sw (h.kept u);
        here = sw.others p p lp lp (λ e2. ne (sym e2)) ∙ h.here;
        gone = λ a la na. elim (cases_eq a i) [
          | inl e2 ↦ rw e2 (sw.here p lp ∙ ap (λ v. add (w2 i p) (mul c v)) h.here ∙ ap (add (w2 i p)) (field.mul_one c ec ∙ e) ∙ field.add_self (w2 i p) (ew2 i p))
          | inr other ↦ (let below : a < i = omega arith in let inside : a < k = omega arith in sw.others a p inside lp other ∙ h.gone a below na)
        ];
      }

  pub step_then : (k p : ℕ) (w r w2 r2 w3 r3 : ℕ → ℕ → F) → IsNormalized element add mul none one k p (system w r) (system w2 r2) → ClearsColumn element add mul none one k p (system w2 r2) (system w3 r3) → ClearsColumn element add mul none one k p (system w r) (system w3 r3)
  step_then k p w r w2 r2 w3 r3 a b = record { equal = equal_then element add mul none one field k w r w2 r2 w3 r3 a.equal b.equal; more = λ u. b.more (a.kept u) }

  pub reduced_more : (k p : ℕ) (m w r w2 r2 : ℕ → ℕ → F) → IsReduced element add mul none one k p m w r → ClearsColumn element add mul none one k p (system w r) (system w2 r2) → IsReduced element add mul none one k (p + 1) m w2 r2
  reduced_more k p m w r w2 r2 h s = record {
    same = equal_then element add mul none one field k (transposed_entry m) (identity_entry none one) w r w2 r2 h.same s.equal;
    cleared = s.more h.cleared;
  }

  pub step_at : (k n p : ℕ) (w r w2 r2 : ℕ → ℕ → F) → k ≡ n → ClearsColumn element add mul none one k p (system w r) (system w2 r2) → ClearsColumn element add mul none one n p (system w r) (system w2 r2)
  step_at k n p w r w2 r2 e h = rw e at h

  pub normal_at : (k n p : ℕ) (w r w2 r2 : ℕ → ℕ → F) → k ≡ n → IsNormalized element add mul none one k p (system w r) (system w2 r2) → IsNormalized element add mul none one n p (system w r) (system w2 r2)
  normal_at k n p w r w2 r2 e h = rw e at h

  pub reduced_at : (k p n : ℕ) (m w r : ℕ → ℕ → F) → p ≡ n → IsReduced element add mul none one k p m w r → IsReduced element add mul none one k n m w r
  reduced_at k p n m w r e h = rw e at h

  -- entries that are the same have the same inverse
  pub inverse_same : (k : ℕ) (m w w2 : ℕ → ℕ → F) → ((i j : ℕ) → i < k → j < k → w2 i j ≡ w i j) → AreInverseSquares add mul none one k m w → AreInverseSquares add mul none one k m w2
  inverse_same k m w w2 same h = record {
    left = λ i j li lj. sum_same element add mul none one field (λ l. mul (w2 i l) (m l j)) (λ l. mul (w i l) (m l j)) k (λ l ll. ap (λ v. mul v (m l j)) (same i l li ll)) ∙ h.left i j li lj;
    right = λ i j li lj. sum_same element add mul none one field (λ l. mul (m i l) (w2 l j)) (λ l. mul (m i l) (w l j)) k (λ l ll. ap (mul (m i l)) (same l j ll lj)) ∙ h.right i j li lj;
  }
