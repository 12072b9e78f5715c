-- Pairs of numbers, in order and compared.
use Rattle.std.specs.Prelude.{◌&&◌, ◌==◌}
use Rattle.std.specs.Cmp.{IsTotalOrder, IsEquivalence}
use Rattle.std.specs.Ordering.{nat_cmp, is_eq, ordering_then, eq_by_cmp}
use Rattle.std.specs.declared.cmp.Ordering.{Ordering}
use Rattle.std.specs.declared.cmp.Ordering.TheVariants.{Less, Equal, Greater}
use Rattle.std.proofs.Common.{◌≡◌, ◌∙◌, ℕ, Bool, inl, inr, refl, subst, arith}
use Rattle.std.proofs.lemmas.Cmp.{then_total, on_total, nat_cmp_total, eq_by_cmp_equiv}
use Rattle.std.proofs.lemmas.Bool.{cases_order, eq-eqb, ne_eqb, lt-ltb, le-ltb}
use Rattle.std.proofs.lemmas.Map.Lookups.{CmpEqualImpliesEq, exact_pairs, exact_unsigned}
use Rattle.inventory.specs.Packets.{same_ids}
use Rattle.inventory.specs.Tally.{pair_cmp}

pub pair_total : IsTotalOrder pair_cmp
pair_total = then_total (on_total (λ (p : ℕ × ℕ). p.0) nat_cmp_total) (on_total (λ (p : ℕ × ℕ). p.1) nat_cmp_total)

pub pair_exact : CmpEqualImpliesEq pair_cmp
pair_exact = exact_pairs nat_cmp nat_cmp exact_unsigned exact_unsigned

-- two numbers compare as equal where they are
same_number : (x y : ℕ) → is_eq (nat_cmp x y) ≡ (x == y)
same_number x y = elim (cases_order x y) [
  | inl same ↦ (rw (le-ltb x y (omega (arith, same)), eq-eqb x y same) refl)
  | inr (inl less) ↦ (rw (lt-ltb x y less, ne_eqb x y (λ e. omega (arith, e, less))) refl)
  | inr (inr more) ↦ (rw (le-ltb x y (omega (arith, more)), ne_eqb x y (λ e. omega (arith, e, more))) refl)
]

pub both_equal : (a b : Ordering) → is_eq (ordering_then a b) ≡ (is_eq a && is_eq b)
both_equal Less b = refl
both_equal Equal b = refl
both_equal Greater b = refl

pub same_is : (x y : ℕ × ℕ) → is_eq (pair_cmp x y) ≡ same_ids x y
same_is x y = both_equal (nat_cmp x.0 y.0) (nat_cmp x.1 y.1) ∙ rw (same_number x.0 y.0, same_number x.1 y.1) refl

pub one_test : eq_by_cmp pair_cmp ≡ same_ids
one_test = λ i x y. same_is x y i

pub same_laws : IsEquivalence same_ids
same_laws = subst (λ (e : ℕ × ℕ → ℕ × ℕ → Bool). IsEquivalence e) one_test (eq_by_cmp_equiv pair_total)
