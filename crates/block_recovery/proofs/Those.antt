-- Numbers that pass a test, listed one by one.
use Rattle.std.specs.Prelude.{filter, not, Option, Some, None, option_map, is_some}
use Rattle.std.specs.Borrow.{Bor}
use Rattle.std.proofs.Common.{◌≡◌, ℕ, zero, suc, ◌+◌, ◌<◌, ◌≤◌, Bool, true, false, List, [], ◌∷◌, ◌++◌, length, get_or, arith, ap, ◌∙◌, sym, refl, inl, inr, subst}
use Rattle.std.proofs.lemmas.Bool.{cases_Bool, cases_eq, cases_lt}
use Rattle.std.proofs.lemmas.List.{get_or_append_left, get_or_push, length-append}
use Rattle.elim.proofs.Rising.{rising_more}
use Rattle.lists.specs.Below.{below}
use Rattle.block_recovery.specs.Erasures.{AreThose}
use Rattle.block_recovery.proofs.Counts.{one_more_held, none_more_held}

-- a member of a list that has one more
behind : (P : ℕ → Type 0) (xs : List ℕ) (v : ℕ) → ((i : ℕ) → i < length xs → P (get_or xs i 0)) → P v → (i : ℕ) → i < length (xs ++ v ∷ []) → P (get_or (xs ++ v ∷ []) i 0)
behind P xs v each here i l = elim (cases_lt i (length xs)) [
  | inl lt ↦ subst P (sym (get_or_append_left xs (v ∷ []) 0 i lt)) (each i lt)
  | inr past ↦
      (let last : i ≡ length xs = omega (arith, past, l, length-append xs (v ∷ [])) in
      subst (λ (n : ℕ). P (get_or (xs ++ v ∷ []) n 0)) (sym last) (subst P (sym (get_or_push xs v 0 (length xs) refl)) here))
]

pub those_more : (t : ℕ → Bool) (from to : ℕ) (xs : List ℕ) → AreThose t from to xs → from ≤ to → t to ≡ true → AreThose t from (to + 1) (xs ++ to ∷ [])
those_more t from to xs those order passes = record {
  least = behind (λ v. from ≤ v) xs to those.least order;
  most = behind (λ v. v < to + 1) xs to (λ i l. let h = those.most i l in omega (arith, h)) (omega arith);
  pass = behind (λ v. t v ≡ true) xs to those.pass passes;
  all = λ j a b h. elim (cases_lt j to) [
    | inl lt ↦
        (let w = those.all j a lt h in
        (w.0, omega (arith, w.1, length-append xs (to ∷ [])), get_or_append_left xs (to ∷ []) 0 w.0 w.1 ∙ w.2))
    | inr past ↦ (length xs, omega (arith, length-append xs (to ∷ [])), get_or_push xs to 0 (length xs) refl ∙ (let e : to ≡ j = omega (arith, past, b) in e))
  ];
  rise = rising_more xs to those.most those.rise;
  count = (let s : to + 1 ≡ suc to = omega arith in rw s (omega (arith, one_more_held t to passes, those.count, length-append xs (to ∷ []))));
}

pub those_same : (t : ℕ → Bool) (from to : ℕ) (xs : List ℕ) → AreThose t from to xs → t to ≡ false → AreThose t from (to + 1) xs
those_same t from to xs those other = record {
  least = those.least;
  most = λ i l. let h = those.most i l in omega (arith, h);
  pass = those.pass;
  all = λ j a b h. elim (cases_eq j to) [
    | inl e ↦ (let x : t j ≡ t to = ap t e in absurd (cc))
    | inr ne ↦ those.all j a (omega (arith, ne, b)) h
  ];
  rise = those.rise;
  count = (let s : to + 1 ≡ suc to = omega arith in rw s (omega (arith, none_more_held t to other, those.count)));
}

-- whether a symbol came, read where it stands
pub came_is : (o : Option (Bor (List ℕ))) → is_some (option_map (λ s. s.now) o) ≡ is_some o
came_is None = refl
came_is (Some s) = refl

pub none_below : (t : ℕ → Bool) → length (filter t (below 0)) ≡ 0
unfolding below
none_below t = refl

-- those below a number that pass, and those that don't, are all
parts : (t : ℕ → Bool) (n : ℕ) → length (filter t (below n)) + length (filter (λ j. not (t j)) (below n)) ≡ n
parts t zero = omega (arith, none_below t, none_below (λ j. not (t j)))
parts t (suc n) = elim (cases_Bool (t n)) [
  | inl passes ↦ omega (arith, parts t n, one_more_held t n passes, none_more_held (λ j. not (t j)) n (rw passes refl))
  | inr other ↦ omega (arith, parts t n, none_more_held t n other, one_more_held (λ j. not (t j)) n (rw other refl))
]

pub few_pass : (t : ℕ → Bool) (n : ℕ) → length (filter t (below n)) ≤ n
few_pass t n = omega (arith, parts t n)

-- where k of all pass, at least as many of those from k on do as don't below k
pub as_many : (t : ℕ → Bool) (k n : ℕ) (others passing : List ℕ) → AreThose (λ j. not (t j)) 0 k others → AreThose t k n passing → k ≤ length (filter t (below n)) → length others ≤ length passing
as_many t k n others passing ho hp enough = omega (arith, parts t k, ho.count, hp.count, enough, none_below (λ j. not (t j)))

-- the same between equal bounds, in an equal list
pub those_same_as : (t : ℕ → Bool) (from from2 to to2 : ℕ) (xs ys : List ℕ) → AreThose t from to xs → from ≡ from2 → to ≡ to2 → ys ≡ xs → AreThose t from2 to2 ys
those_same_as t from from2 to to2 xs ys those e1 e2 e3 =
    subst (λ (n : ℕ). AreThose t n to2 ys) e1 (subst (λ (n : ℕ). AreThose t from n ys) e2 (subst (AreThose t from to) (sym e3) those))
