-- Rising lists of which one has all that the other has.
use Rattle.std.specs.Prelude.{◌≡◌, ℕ, suc, ◌<◌, ◌≤◌, true, false, ◌||◌, ◌==◌, List, [], ◌∷◌, length, refl}
use Rattle.std.specs.List.{AllByRecursion}
use Rattle.std.proofs.Common.{arith}
use Rattle.std.proofs.lemmas.Bool.{eqb-true}
use Rattle.lists.specs.Selection.{is_among}
use Rattle.lists.proofs.Lists.{all_to}
use Rattle.lists.specs.Places.{IsRising}

among_above : (y x : ℕ) (ys : List ℕ) → AllByRecursion (λ z. y < z) ys → is_among ys x ≡ true → y < x
among_above y x [] h g = absurd (cc)
among_above y x (z ∷ zs) h g =
    elim (z == x) as (λ v. (z == x) ≡ v → (v || is_among zs x) ≡ true → y < x) [
      | true ↦ λ e k. (let s = eqb-true z x e in let a = h.0 in omega (arith, s, a))
      | false ↦ λ e k. among_above y x zs h.1 k
    ] refl g

drop_first : (y : ℕ) (ys xs : List ℕ) → AllByRecursion (λ x. y < x) xs → AllByRecursion (λ x. is_among (y ∷ ys) x ≡ true) xs → AllByRecursion (λ x. is_among ys x ≡ true) xs
drop_first y ys [] a h = tt
drop_first y ys (x ∷ xs) a h = (
  (elim (y == x) as (λ v. (y == x) ≡ v → (v || is_among ys x) ≡ true → is_among ys x ≡ true) [
    | true ↦ λ e k. absurd (let s = eqb-true y x e in let l = a.0 in omega (arith, s, l))
    | false ↦ λ e k. k
  ] refl h.0),
  drop_first y ys xs a.1 h.1,
)

above : (x y : ℕ) → y ≤ x → (xs : List ℕ) → AllByRecursion (λ z. x < z) xs → AllByRecursion (λ z. y < z) xs
above x y l xs h = all_to (λ z. x < z) (λ z. y < z) (λ z g. omega (arith, l, g)) xs h

sub_length : (xs ys : List ℕ) → IsRising xs → IsRising ys → AllByRecursion (λ x. is_among ys x ≡ true) xs → length xs ≤ length ys
sub_length [] ys rx ry h = omega arith
sub_length (x ∷ xs) [] rx ry h = let a = h.0 in absurd (cc)
sub_length (x ∷ xs) (y ∷ ys) rx ry h =
    elim (y == x) as (λ v. (y == x) ≡ v → (v || is_among ys x) ≡ true → suc (length xs) ≤ suc (length ys)) [
      | true ↦ λ e k.
          (let s = eqb-true y x e in
          let ih = sub_length xs ys rx.1 ry.1 (drop_first y ys xs (above x y (omega (arith, s)) xs rx.0) h.1) in
          omega (arith, ih))
      | false ↦ λ e k.
          (let l = among_above y x ys ry.0 k in
          let ih = sub_length (x ∷ xs) ys rx ry.1 (k, drop_first y ys xs (above x y (omega (arith, l)) xs rx.0) h.1) in
          omega (arith, ih))
    ] refl h.0

-- where the other isn't longer, they are one
pub sub_same : (xs ys : List ℕ) → IsRising xs → IsRising ys → AllByRecursion (λ x. is_among ys x ≡ true) xs → length ys ≤ length xs → xs ≡ ys
sub_same [] [] rx ry h n = refl
sub_same [] (y ∷ ys) rx ry h n = absurd (omega (arith, n))
sub_same (x ∷ xs) [] rx ry h n = let a = h.0 in absurd (cc)
sub_same (x ∷ xs) (y ∷ ys) rx ry h n =
    elim (y == x) as (λ v. (y == x) ≡ v → (v || is_among ys x) ≡ true → x ∷ xs ≡ y ∷ ys) [
      | true ↦ λ e k.
          (let s = eqb-true y x e in
          let ih = sub_same xs ys rx.1 ry.1 (drop_first y ys xs (above x y (omega (arith, s)) xs rx.0) h.1) (omega (arith, n)) in
          (cc))
      | false ↦ λ e k.
          (let l = among_above y x ys ry.0 k in
          let m = sub_length (x ∷ xs) ys rx ry.1 (k, drop_first y ys xs (above x y (omega (arith, l)) xs rx.0) h.1) in
          absurd (omega (arith, m, n)))
    ] refl h.0
