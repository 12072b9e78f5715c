-- Symbols that stand at ESIs: one more, and how many there are.
use Rattle.std.specs.Prelude.{filter}
use Rattle.std.proofs.Math.Path.{fun_ext}
use Rattle.std.proofs.Common.{◌≡◌, ◌≢◌, ℕ, zero, suc, ◌+◌, ◌<◌, Bool, true, false, List, Option, Some, length, refl, sym, ap, ◌∙◌, inl, inr, arith}
use Rattle.std.proofs.lemmas.Bool.{cases_Bool, cases_eq, eq-eqb, ne_eqb}
use Rattle.lists.specs.Below.{below}
use Rattle.lists.proofs.Below.{all_below}
use Rattle.lists.proofs.Lists.{filter_same}
use Rattle.block_recovery.specs.Arrivals.{with_esi}
use Rattle.block_recovery.proofs.Counts.{one_more_held, none_more_held}
use Rattle.block_recovery.proofs.Those.{none_below}

pub with_here : (at : ℕ → Option (List ℕ)) (j i : ℕ) (y : List ℕ) → j ≡ i → with_esi at j y i ≡ Some y
with_here at j i y e = rw (eq-eqb j i e) refl

pub with_other : (at : ℕ → Option (List ℕ)) (j i : ℕ) (y : List ℕ) → j ≢ i → with_esi at j y i ≡ at i
with_other at j i y ne = rw (ne_eqb j i ne) refl

-- the symbol that stands at an ESI changes nothing there
pub with_same : (at : ℕ → Option (List ℕ)) (j : ℕ) (y : List ℕ) → at j ≡ Some y → with_esi at j y ≡ at
with_same at j y stands = fun_ext (λ i. elim (cases_eq j i) [
  | inl e ↦ (with_here at j i y e ∙ sym (ap at (sym e) ∙ stands))
  | inr ne ↦ with_other at j i y ne
])

-- none passes
pub count_none : (t : ℕ → Bool) (n : ℕ) → ((i : ℕ) → t i ≡ false) → length (filter t (below n)) ≡ 0
count_none t zero none = none_below t
count_none t (suc n) none = none_more_held t n (none n) ∙ count_none t n none

pub count_same : (t u : ℕ → Bool) (n : ℕ) → ((i : ℕ) → i < n → t i ≡ u i) → length (filter t (below n)) ≡ length (filter u (below n))
count_same t u n same = ap length (filter_same t u (below n) (all_below (λ i. t i ≡ u i) n same))

-- one passes that didn't
pub count_more : (t u : ℕ → Bool) (n j : ℕ) → j < n → t j ≡ false → u j ≡ true → ((i : ℕ) → j ≢ i → u i ≡ t i)
    → length (filter u (below n)) ≡ length (filter t (below n)) + 1
count_more t u zero j lj before now others = absurd (omega (arith, lj))
count_more t u (suc n) j lj before now others = elim (cases_eq j n) [
  | inl e ↦
      (let b : t n ≡ false = ap t (sym e) ∙ before in
      let h : u n ≡ true = ap u (sym e) ∙ now in
      let same = count_same u t n (λ i li. others i (λ x. omega (arith, x, e, li))) in
      omega (arith, one_more_held u n h, none_more_held t n b, same))
  | inr ne ↦
      (let rest = count_more t u n j (omega (arith, lj, ne)) before now others in
      let here = others n ne in
      elim (cases_Bool (t n)) [
        | inl passes ↦ omega (arith, one_more_held u n (here ∙ passes), one_more_held t n passes, rest)
        | inr other ↦ omega (arith, none_more_held u n (here ∙ other), none_more_held t n other, rest)
      ])
]
