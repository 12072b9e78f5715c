-- Missing symbols as sums of the source symbols that came and of repair symbols in the places of the
-- missing ones.
use Rattle.std.proofs.Common.{◌≡◌, ◌≢◌, ◌+◌, ◌*◌, ℕ, ◌<◌, List, length, get_or, ap, ◌∙◌, sym, inl, inr, refl}
use Rattle.std.specs.Prelude.{slice_index}
use Rattle.std.specs.Int.Bits.{xor_zero_r}
use Rattle.std.proofs.lemmas.Bool.{cases_eq}
use Rattle.lists.specs.Bytes.{IsByte}
use Rattle.gf256.specs.Arithmetic.{sum_of, product}
use Rattle.gf256.specs.ByteField.{byte_field}
use Rattle.gf256.specs.Sums.{row_times}
use Rattle.elim.specs.Matrices.{AreElements, identity_entry}
use Rattle.elim.specs.Grid.{Grid, entry, HasElements}
use Rattle.elim.specs.Erasures.{AreRising}
use Rattle.poly.proofs.Roots.{mul_zero}
use Rattle.elim.proofs.Sums.{sum_same, sum_of_sums}
use Rattle.elim.proofs.RowTimes.{unit_here, unit_there, unit_element, zero_mul, dot_picks, dot_element, row_times_twice}
use Rattle.elim.proofs.Rising.{place_same}
use Rattle.elim.proofs.Replacing.{kept_or_replaced}
use Rattle.elim.proofs.Entries.{elements_by_row}
use Rattle.block_recovery.specs.Erasures.{IsApart}
use Rattle.block_recovery.specs.Recoveries.{AreResiduals}
use Rattle.block_recovery.proofs.Erased.{sum_with_none, row_same}
use Rattle.block_recovery.proofs.Erasing.{factors_changed}

module _ (missing : List ℕ) (rise : AreRising missing) (k : ℕ) (inside : (a : ℕ) → a < length missing → get_or missing a 0 < k) where
  -- What a repair symbol q lacks: m are its coefficients, e those of all source symbols, x has the source symbols that came and zeros, z the same and repair symbols y.
  module _ (m e x z y : ℕ → ℕ) (em : AreElements IsByte m) (ee : AreElements IsByte e) (ex : AreElements IsByte x) (ez : AreElements IsByte z) (ey : AreElements IsByte y)
      (q : ℕ) (lq : q < length missing) (same : (i : ℕ) → i < k → IsApart missing i → m i ≡ e i) (kept : (i : ℕ) → i < k → IsApart missing i → z i ≡ x i)
      (own : (p : ℕ) → p < length missing → m (get_or missing p 0) ≡ identity_entry 0 1 p q) (repair : (p : ℕ) → p < length missing → z (get_or missing p 0) ≡ y p)
      (none : (p : ℕ) → p < length missing → x (get_or missing p 0) ≡ 0) where
    abbrev place : ℕ
    place = get_or missing q 0

    constant : AreElements IsByte (λ _. y q)
    constant i = ey q

    abbrev share : ℕ → ℕ
    share i = product (y q) (identity_entry 0 1 place i)

    unit_byte : (i j : ℕ) → IsByte (identity_entry 0 1 i j)
    unit_byte i j = unit_element IsByte sum_of product 0 1 byte_field i j

    share_bytes : AreElements IsByte share
    share_bytes i = byte_field.mul_element (y q) (identity_entry 0 1 place i) (ey q) (unit_byte place i)

    share_none : (i : ℕ) → place ≢ i → share i ≡ 0
    share_none i ne = ap (product (y q)) (unit_there 0 1 place i ne) ∙ mul_zero IsByte sum_of product 0 1 byte_field (y q) (ey q)

    old_none : (i : ℕ) → x i ≡ 0 → product (x i) (e i) ≡ 0
    old_none i h = ap (λ (v : ℕ). product v (e i)) h ∙ zero_mul IsByte sum_of product 0 1 byte_field (e i) (ee i)

    at_apart : (i : ℕ) → i < k → IsApart missing i → product (z i) (m i) ≡ sum_of (share i) (product (x i) (e i))
    at_apart i li apart =
        ap (λ (v : ℕ). product v (m i)) (kept i li apart) ∙ ap (product (x i)) (same i li apart)
        ∙ sym (ap (λ (v : ℕ). sum_of v (product (x i) (e i))) (share_none i (apart q lq)) ∙ sum_with_none (product (x i) (e i)))

    at_missing : (p : ℕ) → p < length missing → product (z (get_or missing p 0)) (m (get_or missing p 0)) ≡ sum_of (share (get_or missing p 0)) (product (x (get_or missing p 0)) (e (get_or missing p 0)))
    at_missing p lp =
        let i : ℕ = get_or missing p 0 in
        let left : product (z i) (m i) ≡ product (y p) (identity_entry 0 1 p q) = ap (λ (v : ℕ). product v (m i)) (repair p lp) ∙ ap (product (y p)) (own p lp) in
        let right : sum_of (share i) (product (x i) (e i)) ≡ share i = ap (sum_of (share i)) (old_none i (none p lp)) ∙ xor_zero_r (share i) in
        elim (cases_eq p q) [
          | inl is ↦ left ∙ ap (λ (n : ℕ). product (y n) (identity_entry 0 1 n q)) is ∙ ap (product (y q)) (unit_here 0 1 q q refl ∙ sym (unit_here 0 1 place i (ap (λ (n : ℕ). get_or missing n 0) (sym is)))) ∙ sym right
          | inr ne ↦ left ∙ ap (product (y p)) (unit_there 0 1 p q ne) ∙ mul_zero IsByte sum_of product 0 1 byte_field (y p) (ey p)
              ∙ sym (share_none i (λ h. ne (sym (place_same missing rise q p lq lp h)))) ∙ sym right
        ]

    pub residual : row_times sum_of product 0 z (λ i _. m i) k q ≡ sum_of (y q) (row_times sum_of product 0 x (λ i _. e i) k q)
    residual =
        sum_same IsByte sum_of product 0 1 byte_field (λ i. product (z i) (m i)) (λ i. sum_of (share i) (product (x i) (e i))) k
        (λ i li. elim (kept_or_replaced (λ a. get_or missing a 0) (λ a. 0) (length missing) i) [
          | inl kept ↦ at_apart i li kept.apart
          | inr gone ↦ ap (λ (n : ℕ). product (z n) (m n)) (sym gone.from) ∙ at_missing gone.place gone.inside
              ∙ ap (λ (n : ℕ). sum_of (share n) (product (x n) (e n))) gone.from
        ])
        ∙ sum_of_sums IsByte sum_of product 0 1 byte_field share (λ i. product (x i) (e i)) k share_bytes (λ i. byte_field.mul_element (x i) (e i) (ex i) (ee i))
        ∙ ap (λ (v : ℕ). sum_of v (row_times sum_of product 0 x (λ i _. e i) k q)) (dot_picks IsByte sum_of product 0 1 byte_field (λ _. y q) k place constant (inside q lq))

-- what the combined coefficients make of such rows is what the matrix w makes of what the repair symbols lack
module _ (g : Grid ℕ) (generator : HasElements IsByte 0 g) (missing repair : List ℕ) (rise : AreRising missing) (inside : (a : ℕ) → a < length missing → get_or missing a 0 < g.rows)
    (w : Grid ℕ) (elements : HasElements IsByte 0 w) (residuals : ℕ → ℕ → ℕ) (are : AreResiduals g missing repair residuals) (coefficients : List ℕ)
    (made : (a i : ℕ) → a < length missing → i < g.rows → slice_index coefficients (a * g.rows + i) ≡ row_times sum_of product 0 (λ q. residuals q i) (entry 0 w) (length missing) a)
    (x z y lacks : ℕ → ℕ) (ex : AreElements IsByte x) (ez : AreElements IsByte z) (ey : AreElements IsByte y)
    (kept : (i : ℕ) → i < g.rows → IsApart missing i → z i ≡ x i) (given_back : (p : ℕ) → p < length missing → z (get_or missing p 0) ≡ y p)
    (none : (p : ℕ) → p < length missing → x (get_or missing p 0) ≡ 0)
    (lack : (q : ℕ) → q < length missing → lacks q ≡ sum_of (y q) (row_times sum_of product 0 x (entry 0 g) g.rows (get_or repair q 0))) where
  lacked : (q : ℕ) → q < length missing → row_times sum_of product 0 z (λ i q. residuals q i) g.rows q ≡ lacks q
  lacked q lq =
      residual missing rise g.rows inside (residuals q) (λ i. entry 0 g i (get_or repair q 0)) x z y (are.small q) (λ i. elements_by_row IsByte 0 g generator i (get_or repair q 0)) ex ez ey q lq
      (λ i li apart. are.apart q i lq li apart) kept (λ p lp. are.own q p lq lp) given_back none
      ∙ sym (lack q lq)

  pub combined : (a : ℕ) → a < length missing → row_times sum_of product 0 (λ i. slice_index coefficients (a * g.rows + i)) (λ i _. z i) g.rows a ≡ row_times sum_of product 0 lacks (entry 0 w) (length missing) a
  combined a la =
      factors_changed g.rows (λ i. slice_index coefficients (a * g.rows + i)) z (λ i. row_times sum_of product 0 (λ q. residuals q i) (entry 0 w) (length missing) a)
      (λ i li. rw (made a i la li) (dot_element IsByte sum_of product 0 1 byte_field (λ q. residuals q i) (λ q. entry 0 w q a) (length missing) (λ q. are.small q i) (λ q. elements_by_row IsByte 0 w elements q a))) ez (λ i li. made a i la li)
      ∙ sym (row_times_twice IsByte sum_of product 0 1 byte_field z (λ i q. residuals q i) (entry 0 w) g.rows (length missing) a ez (λ i q. are.small q i) (elements_by_row IsByte 0 w elements))
      ∙ row_same (row_times sum_of product 0 z (λ i q. residuals q i) g.rows) lacks (entry 0 w) (length missing) a lacked
