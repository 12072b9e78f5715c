-- Copies of a block's symbols in a list of numbers (block, ESI), and what a loss leaves of them.
use Rattle.std.specs.Prelude.{◌≡◌, ℕ, zero, suc, ◌+◌, ◌<◌, ◌≤◌, Bool, true, false, ◌&&◌, ◌==◌, nat_lt, cond, List, [], ◌∷◌, ◌++◌, length, filter, refl}
use Rattle.std.specs.List.{AllByRecursion}
use Rattle.std.proofs.Common.{◌∙◌, sym, ap, arith, ltb-true}
use Rattle.std.proofs.lemmas.Bool.{eqb-true, eq-eqb, ltb-false, lt-ltb, le-ltb}
use Rattle.std.proofs.lemmas.List.Elements.{filter-append}
use Rattle.lists.specs.Selection.{lost_from, rest_from}
use Rattle.lists.proofs.Lists.{all_to}
use Rattle.losses.specs.Costs.{copies, count, total}
use Rattle.lists.specs.Below.{below}
use Rattle.losses.specs.Number.{Number}

-- whether a number is one of block b's whose ESI passes
abbrev pub is_of_those : ℕ → (ℕ → Bool) → Number → Bool
is_of_those b t p = p.block == b && t p.esi

abbrev pub HasByteEsi : Number → Type 0
HasByteEsi p = p.esi < 256

pub total-append : {X : Type 0} (f : X → ℕ) (xs ys : List X) → total f (xs ++ ys) ≡ total f xs + total f ys
total-append f [] ys = omega arith
total-append f (x ∷ xs) ys = let e = total-append f xs ys in omega (arith, e)

pub total_same : {X : Type 0} (f g : X → ℕ) (xs : List X) → AllByRecursion (λ x. f x ≡ g x) xs → total f xs ≡ total g xs
total_same f g [] h = refl
total_same f g (x ∷ xs) h = let e = total_same f g xs h.1 in let d = h.0 in omega (arith, e, d)

pub total_sum : {X : Type 0} (f g h : X → ℕ) (xs : List X) → AllByRecursion (λ x. f x ≡ g x + h x) xs → total f xs ≡ total g xs + total h xs
total_sum f g h [] a = omega arith
total_sum f g h (x ∷ xs) a = let e = total_sum f g h xs a.1 in let d = a.0 in omega (arith, e, d)

pub filter_filter : {X : Type 0} (t u : X → Bool) (xs : List X) → filter u (filter t xs) ≡ filter (λ x. t x && u x) xs
filter_filter t u [] = refl
filter_filter t u (x ∷ xs) =
    let e = filter_filter t u xs in
    elim (t x) as (λ v. filter u (cond v (x ∷ filter t xs) (filter t xs)) ≡ cond (v && u x) (x ∷ filter (λ y. t y && u y) xs) (filter (λ y. t y && u y) xs)) [
      | true ↦ ap (λ ys. cond (u x) (x ∷ ys) ys) e
      | false ↦ e
    ]

pub length_count : {X : Type 0} (t : X → Bool) (xs : List X) → length (filter t xs) ≡ count t xs
length_count t [] = refl
length_count t (x ∷ xs) =
    let e = length_count t xs in
    elim (t x) as (λ v. length (cond v (x ∷ filter t xs) (filter t xs)) ≡ cond v 1 0 + count t xs) [
      | true ↦ omega (arith, e)
      | false ↦ omega (arith, e)
    ]

pub total_none : {X : Type 0} (f : X → ℕ) (xs : List X) → AllByRecursion (λ x. f x ≡ 0) xs → total f xs ≡ 0
total_none f [] h = refl
total_none f (x ∷ xs) h = let e = total_none f xs h.1 in let d = h.0 in omega (arith, e, d)

pub all_in : {X : Type 0} (P : X → Type 0) → ((x : X) → P x) → (xs : List X) → AllByRecursion P xs
all_in P f [] = tt
all_in P f (x ∷ xs) = (f x, all_in P f xs)

gated : (a t : Bool) → cond (a && (t && true)) 1 0 ≡ cond (a && (t && false)) 1 0 + cond (t && (a && true)) 1 0
gated true true = refl
gated true false = refl
gated false true = refl
gated false false = refl

shut : (a t : Bool) → ◌≡◌ {A = ℕ} (cond (t && (a && false)) 1 0) 0
shut true true = refl
shut true false = refl
shut false true = refl
shut false false = refl

and_false : (a t : Bool) → ◌≡◌ {A = ℕ} (cond (a && (t && false)) 1 0) 0
and_false true true = refl
and_false true false = refl
and_false false true = refl
and_false false false = refl

bits : (a t1 tn l1 l2 q : Bool) → (q ≡ true → (l2 ≡ true) × (l1 ≡ false) × (t1 ≡ tn)) → (q ≡ false → l2 ≡ l1)
    → cond (a && (t1 && l2)) 1 0 ≡ cond (a && (t1 && l1)) 1 0 + cond (tn && (a && q)) 1 0
bits a t1 tn l1 l2 true h g = let k = h refl in let k0 = k.0 in let k1 = k.1 in let k2 = k.2 in rw (k0, k1, k2) (gated a tn)
bits a t1 tn l1 l2 false h g = let k = g refl in let z = shut a tn in rw k (omega (arith, z))

lt_suc : (e n : ℕ) → (e == n) ≡ false → nat_lt e (suc n) ≡ nat_lt e n
lt_suc e n q =
    let ne : e ≡ n → ⊥ = λ x. (let y = eq-eqb e n x in absurd (cc)) in
    elim (nat_lt e n) as (λ v. nat_lt e n ≡ v → nat_lt e (suc n) ≡ v) [
      | true ↦ λ h. (let l = ltb-true e n h in lt-ltb e (suc n) (let m : e < suc n = omega arith in m))
      | false ↦ λ h. (let l = ltb-false e n h in le-ltb e (suc n) (let m : suc n ≤ e = omega arith in m))
    ] refl

-- one more number below: those of the block with an ESI below n + 1
step : (b n : ℕ) (t : ℕ → Bool) (p : Number) →
    cond (p.block == b && (t p.esi && nat_lt p.esi (suc n))) 1 0 ≡ cond (p.block == b && (t p.esi && nat_lt p.esi n)) 1 0 + cond (t n && (p.block == b && p.esi == n)) 1 0
step b n t p =
    bits (p.block == b) (t p.esi) (t n) (nat_lt p.esi n) (nat_lt p.esi (suc n)) (p.esi == n)
    (λ q.
    (let e = eqb-true p.esi n q in
    (lt-ltb p.esi (suc n) (let m : p.esi < suc n = omega arith in m), le-ltb p.esi n (let m : n ≤ p.esi = omega arith in m), ap t e)))
    (λ q. lt_suc p.esi n q)

total_one : (b n : ℕ) (a : Bool) (ps : List Number) → total (copies b ps) (cond a (n ∷ []) []) ≡ total (λ (p : Number). cond (a && (p.block == b && p.esi == n)) 1 0) ps
total_one b n true ps = omega arith
total_one b n false ps = sym (total_none (λ (p : Number). 0) ps (all_in _ (λ p. refl) ps))

-- the copies of the symbols that pass are the numbers of those
pub copies_total_below : (b : ℕ) (t : ℕ → Bool) (ps : List Number) (n : ℕ)
    → total (copies b ps) (filter t (below n)) ≡ count (λ p. p.block == b && (t p.esi && nat_lt p.esi n)) ps
unfolding below
copies_total_below b t ps zero =
    sym (total_none (λ (p : Number). cond (p.block == b && (t p.esi && nat_lt p.esi 0)) 1 0) ps
    (all_in _ (λ p. (let e : nat_lt p.esi 0 ≡ false = le-ltb p.esi 0 (let m : 0 ≤ p.esi = omega arith in m) in rw e (and_false (p.block == b) (t p.esi)))) ps))
copies_total_below b t ps (suc n) =
    let e = copies_total_below b t ps n in
    let s = total_sum (λ (p : Number). cond (p.block == b && (t p.esi && nat_lt p.esi (suc n))) 1 0) (λ p. cond (p.block == b && (t p.esi && nat_lt p.esi n)) 1 0) (λ p. cond (t n && (p.block == b && p.esi == n)) 1 0) ps (all_in _ (step b n t) ps) in
    let a = ap (total (copies b ps)) (filter-append t (below n) (n ∷ [])) in
    let c = total-append (copies b ps) (filter t (below n)) (filter t (n ∷ [])) in
    let d : total (copies b ps) (filter t (n ∷ [])) ≡ total (λ (p : Number). cond (t n && (p.block == b && p.esi == n)) 1 0) ps = total_one b n (t n) ps in
    a ∙ c ∙ omega (arith, e, s, d)

count_same : (p q : Number → Bool) (ps : List Number) → AllByRecursion (λ x. p x ≡ q x) ps → count p ps ≡ count q ps
count_same p q ps h = total_same (λ x. cond (p x) 1 0) (λ x. cond (q x) 1 0) ps (all_to (λ x. p x ≡ q x) _ (λ x e. ap (λ (v : Bool). cond v 1 0) e) ps h)

and_true : (a : Bool) → (a && true) ≡ a
and_true true = refl
and_true false = refl

pub copies_total : (b : ℕ) (t : ℕ → Bool) (ps : List Number) → AllByRecursion HasByteEsi ps
    → total (copies b ps) (filter t (below 256)) ≡ count (is_of_those b t) ps
copies_total b t ps small =
    copies_total_below b t ps 256
    ∙ count_same (λ p. p.block == b && (t p.esi && nat_lt p.esi 256)) (is_of_those b t) ps
    (all_to HasByteEsi _ (λ p l. (let e : nat_lt p.esi 256 ≡ true = lt-ltb p.esi 256 l in ap (λ (v : Bool). p.block == b && v) (ap (λ (v : Bool). t p.esi && v) e ∙ and_true (t p.esi)))) ps small)

-- a number that passes and isn't left was lost
pub lost_at_least : {X : Type 0} (g : X → Bool) (lost : ℕ → Bool) (ps : List X) (i : ℕ)
    → count g ps ≤ count g (rest_from i lost ps) + lost_from i lost (length ps)
lost_at_least g lost [] i = omega arith
lost_at_least g lost (p ∷ ps) i =
    let e = lost_at_least g lost ps (i + 1) in
    let one : cond (g p) 1 0 ≤ 1 = elim (g p) as (λ v. cond v 1 0 ≤ 1) [ true ↦ omega arith | false ↦ omega arith ] in
    elim (lost i) as (λ v. cond (g p) 1 0 + count g ps ≤ count g (cond v (rest_from (i + 1) lost ps) (p ∷ rest_from (i + 1) lost ps)) + (cond v 1 0 + lost_from (i + 1) lost (length ps))) [
      | true ↦ omega (arith, e, one)
      | false ↦ omega (arith, e)
    ]
