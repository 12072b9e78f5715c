-- Values added to the first column of symbols of t bytes each, of which s stand before them.
use Rattle.std.proofs.Common.{◌≡◌, ◌<◌, ◌≤◌, ◌+◌, ◌*◌, ◌-◌, ◌/◌, ◌%◌, ℕ, Bool, true, false, ◌&&◌, suc, cond, List, [], ◌∷◌, ◌++◌, map, length, get_or, set, get_or-set_same, get_or-set_other, refl, sym, ap, ◌∙◌, arith, leb-true, ltb-true}
use Rattle.std.specs.Prelude.{◌==◌, nat_le, nat_lt, filter}
use Rattle.std.proofs.lemmas.Bool.{eqb-true, eqb-false, eq-eqb, le-leb, lt-ltb, le-ltb}
use Rattle.std.proofs.lemmas.Nat.{div-mul-add, mod-mul-add}
use Rattle.std.proofs.Math.Nat.{div-add-mod}
use Rattle.std.proofs.lemmas.List.{append-nil, map-append}
use Rattle.std.proofs.lemmas.List.Elements.{filter-append}
use Rattle.gf256.specs.Arithmetic.{sum_of, point}
use Rattle.lists.specs.Below.{below}
use Rattle.lists.proofs.Lists.{both}
use Rattle.cert.specs.TwinBytes.{is_first_of}

-- what bytes are after values were added at n of these symbols
abbrev pub added : ℕ → ℕ → ℕ → (ℕ → ℕ) → List ℕ → ℕ → ℕ
added t s n v object x =
    cond (is_first_of t s n x) (sum_of (get_or object x 0) (v (x / t - s))) (get_or object x 0)

module _ (t : ℕ) (some : 0 < t) (s : ℕ) where
  none_yet : (x : ℕ) → is_first_of t s 0 x ≡ false
  none_yet x =
      elim (is_first_of t s 0 x) as (λ v. is_first_of t s 0 x ≡ v → v ≡ false) [
        | false ↦ λ e. refl
        | true ↦ λ e.
            (let w : ((x % t == 0) ≡ true) × ((nat_le s (x / t) && nat_lt (x / t) (s + 0)) ≡ true) = both _ _ e in
            let u : (nat_le s (x / t) ≡ true) × (nat_lt (x / t) (s + 0) ≡ true) = both _ _ w.1 in
            let low : s ≤ x / t = leb-true _ _ u.0 in
            let high : x / t < s + 0 = ltb-true _ _ u.1 in
            absurd (omega (arith, low, high)))
      ] refl

  pub added_none : (v : ℕ → ℕ) (object : List ℕ) (x : ℕ) → get_or object x 0 ≡ added t s 0 v object x
  added_none v object x = rw (none_yet x) refl

  module _ (i : ℕ) where
    row : (s + i) * t / t ≡ s + i
    row = ap (λ (y : ℕ). y / t) (let e : (s + i) * t ≡ (s + i) * t + 0 = omega arith in e) ∙ div-mul-add (s + i) t 0 some

    column : (s + i) * t % t ≡ 0
    column = ap (λ (y : ℕ). y % t) (let e : (s + i) * t ≡ (s + i) * t + 0 = omega arith in e) ∙ mod-mul-add (s + i) t 0 some

    here_next : is_first_of t s (i + 1) ((s + i) * t) ≡ true
    here_next =
        let x : ((s + i) * t % t == 0) ≡ true = eq-eqb _ _ column in
        let y : nat_le s ((s + i) * t / t) ≡ true = le-leb _ _ (omega (arith, row)) in
        let z : nat_lt ((s + i) * t / t) (s + (i + 1)) ≡ true = lt-ltb _ _ (omega (arith, row)) in
        rw (x, y, z) refl

    here_yet : is_first_of t s i ((s + i) * t) ≡ false
    here_yet =
        let x : ((s + i) * t % t == 0) ≡ true = eq-eqb _ _ column in
        let y : nat_le s ((s + i) * t / t) ≡ true = le-leb _ _ (omega (arith, row)) in
        let z : nat_lt ((s + i) * t / t) (s + i) ≡ false = le-ltb _ _ (omega (arith, row)) in
        rw (x, y, z) refl

    -- which place the i-th source symbol's first byte has
    only_here : (x : ℕ) → x % t ≡ 0 → x / t ≡ s + i → x ≡ (s + i) * t
    only_here x c r =
        let d = div-add-mod x t in
        let e = ap (λ (y : ℕ). t * y) r in
        omega (arith, c, d, e)

    elsewhere : (x : ℕ) → (x ≡ (s + i) * t → ⊥) → is_first_of t s (i + 1) x ≡ is_first_of t s i x
    elsewhere x ne =
        elim (x % t == 0) as (λ v. (x % t == 0) ≡ v → (v && (nat_le s (x / t) && nat_lt (x / t) (s + (i + 1)))) ≡ (v && (nat_le s (x / t) && nat_lt (x / t) (s + i)))) [
          | false ↦ λ e. refl
          | true ↦ λ e.
              (let c = eqb-true _ _ e in
              let other : x / t ≡ s + i → ⊥ = λ r. ne (only_here x c r) in
              ap (λ (v : Bool). nat_le s (x / t) && v)
              (elim (nat_lt (x / t) (s + i)) as (λ v. nat_lt (x / t) (s + i) ≡ v → nat_lt (x / t) (s + (i + 1)) ≡ v) [
                | true ↦ λ g. (let l = ltb-true _ _ g in lt-ltb _ _ (omega (arith, l)))
                | false ↦ λ g. (let l = not_lt g in le-ltb _ _ (omega (arith, l, other)))
              ] refl))
        ] refl
      where
        not_lt : {p q : ℕ} → nat_lt p q ≡ false → q ≤ p
        not_lt {p} {q} g =
            elim (nat_le q p) as (λ v. nat_le q p ≡ v → q ≤ p) [
              | true ↦ λ e. leb-true q p e
              | false ↦ λ e. (let l : p < q = omega (arith, λ (h : q ≤ p). (let y = le-leb q p h in let z : ⊥ = cc in z)) in let y = lt-ltb p q l in absurd (cc))
            ] refl

    -- one more
    pub added_more : (v : ℕ → ℕ) (object now next : List ℕ) (byte : ℕ) → (s + i) * t < length now
        → next ≡ set now ((s + i) * t) byte
        → byte ≡ sum_of (get_or now ((s + i) * t) 0) (v i)
        → ((x : ℕ) → get_or now x 0 ≡ added t s i v object x) → (x : ℕ) → get_or next x 0 ≡ added t s (i + 1) v object x
    added_more v object now next byte within is byte_is before x =
        let place = (s + i) * t in
        elim (x == (s + i) * t) as (λ w. (x == (s + i) * t) ≡ w → get_or next x 0 ≡ added t s (i + 1) v object x) [
          | true ↦ λ e.
              (let at : x ≡ (s + i) * t = eqb-true _ _ e in
              let index : (s + i) * t / t - s ≡ i = omega (arith, row) in
              let old : get_or now ((s + i) * t) 0 ≡ get_or object ((s + i) * t) 0 =
              before ((s + i) * t) ∙ rw here_yet refl in
              ap (λ (xs : List ℕ). get_or xs x 0) is
              ∙ ap (λ (y : ℕ). get_or (set now ((s + i) * t) byte) y 0) at
              ∙ get_or-set_same now ((s + i) * t) byte 0 within
              ∙ byte_is
              ∙ ap (λ (y : ℕ). sum_of y (v i)) old
              ∙ sym (ap (λ (y : ℕ). added t s (i + 1) v object y) at ∙ rw (here_next, index) refl))
          | false ↦ λ e.
              (let ne : x ≡ (s + i) * t → ⊥ = eqb-false _ _ e in
              ap (λ (xs : List ℕ). get_or xs x 0) is
              ∙ get_or-set_other now ((s + i) * t) x byte 0 ne
              ∙ before x
              ∙ (let same = elsewhere x ne in rw same refl))
        ] refl

-- the numbers below n that pass, one number more
pub filter_more : (t : ℕ → Bool) (n : ℕ) → filter t (below (n + 1)) ≡ filter t (below n) ++ cond (t n) (n ∷ []) []
unfolding below
filter_more t n = let e : n + 1 ≡ suc n = omega arith in ap (λ (m : ℕ). filter t (below m)) e ∙ filter-append t (below n) (n ∷ [])

pub points_none : (t : ℕ → Bool) → [] ≡ map point (filter t (below 0))
unfolding below
points_none t = refl

module _ (t : ℕ → Bool) (n : ℕ) (points : List ℕ) (so_far : points ≡ map point (filter t (below n))) where
  pub points_yes : t n ≡ true → points ++ point n ∷ [] ≡ map point (filter t (below (n + 1)))
  points_yes h =
      ap (λ (ps : List ℕ). ps ++ point n ∷ []) so_far
      ∙ sym (ap (λ (js : List ℕ). map point js) (filter_more t n ∙ ap (λ (v : Bool). filter t (below n) ++ cond v (n ∷ []) []) h) ∙ map-append point (filter t (below n)) (n ∷ []))

  pub points_no : t n ≡ false → points ≡ map point (filter t (below (n + 1)))
  points_no h =
      so_far ∙ sym (ap (λ (js : List ℕ). map point js) (filter_more t n ∙ ap (λ (v : Bool). filter t (below n) ++ cond v (n ∷ []) []) h ∙ append-nil (filter t (below n))))
