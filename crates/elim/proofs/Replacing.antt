-- Numbers below k, the missing ones of which are replaced by others from k on.
use Rattle.std.specs.Prelude.{◌==◌, if◌then◌else◌}
use Rattle.std.proofs.Common.{◌≡◌, ◌≢◌, ℕ, zero, suc, ◌-◌, ◌<◌, ◌≤◌, ◌⊎◌, List, length, get_or, arith, ap, ◌∙◌, sym, refl, inl, inr}
use Rattle.std.proofs.lemmas.Bool.{cases_eq, cases_lt}
use Rattle.std.proofs.lemmas.Bool.Decides.{nat_tests}
use Rattle.elim.specs.Erasures.{AreErasures}
use Rattle.elim.proofs.Rising.{place_same, place_at_most}

-- the number i, or the one that takes its place
abbrev pub replaced : (ℕ → ℕ) → (ℕ → ℕ) → ℕ → ℕ → ℕ
replaced missing repair zero i = i
replaced missing repair (suc e) i = if i == missing e then repair e else replaced missing repair e i

-- the number i stays
pub record IsKept (missing repair : ℕ → ℕ) (e i : ℕ) : Type 0 where
  pub same : replaced missing repair e i ≡ i
  pub apart : (a : ℕ) → a < e → missing a ≢ i

-- the number i is replaced by that at some place
pub record IsReplaced (missing repair : ℕ → ℕ) (e i : ℕ) : Type 0 where
  pub place : ℕ
  pub inside : place < e
  pub from : missing place ≡ i
  pub to : replaced missing repair e i ≡ repair place

test_same : (i m a b : ℕ) → i ≡ m → (if i == m then a else b) ≡ a
test_same i m a b e = grind (arith, nat_tests)

test_other : (i m a b : ℕ) → i ≢ m → (if i == m then a else b) ≡ b
test_other i m a b ne = grind (arith, nat_tests)

module _ (missing repair : ℕ → ℕ) where
  pub kept_or_replaced : (e i : ℕ) → IsKept missing repair e i ⊎ IsReplaced missing repair e i
  kept_or_replaced zero i = inl (record { same = refl; apart = λ a lt. absurd (omega arith) })
  kept_or_replaced (suc e) i = elim (cases_eq i (missing e)) [
    | inl same ↦ inr (record { place = e; inside = omega arith; from = sym same; to = test_same i (missing e) (repair e) (replaced missing repair e i) same })
    | inr other ↦ elim (kept_or_replaced e i) [
      | inl kept ↦ inl (record {
        same = test_other i (missing e) (repair e) (replaced missing repair e i) other ∙ kept.same;
        apart = λ a lt. elim (cases_eq a e) [
          | inl last ↦ (λ h. other (sym h ∙ ap missing last))
          | inr before ↦ kept.apart a (omega arith)
        ];
      })
      | inr gone ↦ inr (record {
        place = gone.place;
        inside = (let lt = gone.inside in omega arith);
        from = gone.from;
        to = test_other i (missing e) (repair e) (replaced missing repair e i) other ∙ gone.to;
      })
    ]
  ]

-- at most k are missing
pub few_missing : (k n : ℕ) (missing repair : List ℕ) → AreErasures k n missing repair → length missing ≤ k
few_missing k n missing repair h = elim (cases_lt 0 (length missing)) [
  | inl lt ↦ (let last = h.source (length missing - 1) (omega arith) in
      let place = place_at_most missing h.missing_rise (length missing - 1) (omega arith) in
      omega arith)
  | inr none ↦ omega arith
]

-- what is left is different
pub replaced_apart : (k n : ℕ) (missing repair : List ℕ) → AreErasures k n missing repair → (i j : ℕ) → i < k → j < k
    → replaced (λ a. get_or missing a 0) (λ a. get_or repair a 0) (length missing) i ≡ replaced (λ a. get_or missing a 0) (λ a. get_or repair a 0) (length missing) j → i ≡ j
replaced_apart k n missing repair h i j li lj e =
    elim (kept_or_replaced (λ a. get_or missing a 0) (λ a. get_or repair a 0) (length missing) i) [
      | inl ki ↦ elim (kept_or_replaced (λ a. get_or missing a 0) (λ a. get_or repair a 0) (length missing) j) [
        | inl kj ↦ sym ki.same ∙ e ∙ kj.same
        | inr rj ↦ absurd (let e1 = ki.same in let e2 = rj.to in let past = h.beyond rj.place (omega (arith, rj.inside, h.count)) in omega arith)
      ]
      | inr ri ↦ elim (kept_or_replaced (λ a. get_or missing a 0) (λ a. get_or repair a 0) (length missing) j) [
        | inl kj ↦ absurd (let e1 = kj.same in let e2 = ri.to in let past = h.beyond ri.place (omega (arith, ri.inside, h.count)) in omega arith)
        | inr rj ↦ (let same : ri.place ≡ rj.place = place_same repair h.repair_rise ri.place rj.place (omega (arith, ri.inside, h.count)) (omega (arith, rj.inside, h.count)) (sym ri.to ∙ e ∙ rj.to) in
            sym ri.from ∙ ap (λ (a : ℕ). get_or missing a 0) same ∙ rj.from)
      ]
    ]
