-- The burst: one less than the least run that leaves some block short.
use Rattle.std.specs.Prelude.{◌≡◌, ℕ, ◌+◌, ◌<◌, ◌≤◌, Bool, true, false, ◌&&◌, ◌||◌, nat_le, nat_lt, cond, List, [], ◌∷◌, length, filter, refl}
use Rattle.std.specs.List.{list_any}
use Rattle.std.proofs.Common.{arith, leb-true, ltb-true}
use Rattle.std.proofs.lemmas.Bool.{le-leb, lt-ltb}
use Rattle.lists.specs.Selection.{is_run, rest, rest_from}
use Rattle.lists.specs.Below.{below}
use Rattle.losses.specs.Numbers.{has, is_number, present}
use Rattle.losses.specs.Number.{Number}

-- m neighbours from place a on are places of the list, and without them block b has fewer than k
-- symbols
pub record IsShortRun (b k : ℕ) (ps : List Number) (a m : ℕ) : Type 0 where
  pub within : a + m ≤ length ps
  pub short : length (present b (rest (is_run a m) ps)) < k

-- the length of a least such run
pub record IsLeastRun (b k : ℕ) (ps : List Number) (w : ℕ) : Type 0 where
  pub start : ℕ
  pub is : IsShortRun b k ps start w
  pub least : (a m : ℕ) → IsShortRun b k ps a m → w ≤ m

-- a greater loss leaves less
any_less : {X : Type 0} (p : X → Bool) (lost more : ℕ → Bool) → ((k : ℕ) → lost k ≡ true → more k ≡ true)
    → (i : ℕ) (xs : List X) → list_any p (rest_from i more xs) ≡ true → list_any p (rest_from i lost xs) ≡ true
any_less p lost more h i [] e = e
any_less p lost more h i (x ∷ xs) e =
    let ih = any_less p lost more h (i + 1) xs in
    elim (more i) as (λ v. more i ≡ v → list_any p (cond v (rest_from (i + 1) more xs) (x ∷ rest_from (i + 1) more xs)) ≡ true → list_any p (rest_from i lost (x ∷ xs)) ≡ true) [
      | true ↦ λ g d.
          elim (lost i) as (λ w. list_any p (cond w (rest_from (i + 1) lost xs) (x ∷ rest_from (i + 1) lost xs)) ≡ true) [
            | true ↦ ih d
            | false ↦
                elim (p x) as (λ u. (u || list_any p (rest_from (i + 1) lost xs)) ≡ true) [ true ↦ refl | false ↦ ih d ]
          ]
      | false ↦ λ g d.
          elim (lost i) as (λ w. lost i ≡ w → list_any p (cond w (rest_from (i + 1) lost xs) (x ∷ rest_from (i + 1) lost xs)) ≡ true) [
            | true ↦ λ c. (let k = h i c in absurd (cc))
            | false ↦ λ c.
                elim (p x) as (λ u. (u || list_any p (rest_from (i + 1) more xs)) ≡ true → (u || list_any p (rest_from (i + 1) lost xs)) ≡ true) [ true ↦ λ k. refl | false ↦ λ k. ih k ] d
          ] refl
    ] refl e

pub filter_fewer : {X : Type 0} (t u : X → Bool) (xs : List X) → ((x : X) → t x ≡ true → u x ≡ true) → length (filter t xs) ≤ length (filter u xs)
filter_fewer t u [] h = omega arith
filter_fewer t u (x ∷ xs) h =
    let ih = filter_fewer t u xs h in
    elim (t x) as (λ v. t x ≡ v → length (cond v (x ∷ filter t xs) (filter t xs)) ≤ length (cond (u x) (x ∷ filter u xs) (filter u xs))) [
      | true ↦ λ e. (let d = h x e in rw d (omega (arith, ih)))
      | false ↦ λ e. elim (u x) as (λ w. length (filter t xs) ≤ length (cond w (x ∷ filter u xs) (filter u xs))) [ true ↦ omega (arith, ih) | false ↦ omega (arith, ih) ]
    ] refl

pub fewer_present : (b : ℕ) (lost more : ℕ → Bool) (ps : List Number) → ((k : ℕ) → lost k ≡ true → more k ≡ true)
    → length (present b (rest more ps)) ≤ length (present b (rest lost ps))
fewer_present b lost more ps h = filter_fewer (has b (rest more ps)) (has b (rest lost ps)) (below 256) (λ j. any_less (is_number b j) lost more h 0 ps)

run_true : (a m k : ℕ) → is_run a m k ≡ true → (a ≤ k) × (k < a + m)
run_true a m k h =
    elim (nat_le a k) as (λ v. nat_le a k ≡ v → (v && nat_lt k (a + m)) ≡ true → (a ≤ k) × (k < a + m)) [
      | true ↦ λ e g. (leb-true a k e, ltb-true k (a + m) g)
      | false ↦ λ e g. absurd (cc)
    ] refl h

run_is : (a m k : ℕ) → a ≤ k → k < a + m → is_run a m k ≡ true
run_is a m k l g = let e : nat_le a k ≡ true = le-leb a k l in let d : nat_lt k (a + m) ≡ true = lt-ltb k (a + m) g in rw (e, d) refl

pub wider_run : (a m c n k : ℕ) → c ≤ a → a + m ≤ c + n → is_run a m k ≡ true → is_run c n k ≡ true
wider_run a m c n k l g h = let r = run_true a m k h in run_is c n k (omega (arith, r.0, l)) (omega (arith, r.1, g))
