-- What is left outside a window of members.
use Rattle.std.proofs.Common.{◌≡◌, ℕ, zero, suc, ◌+◌, ◌-◌, ◌<◌, ◌≤◌, ◌⊎◌, Bool, true, false, cond, List, get_or, set, get_or-set_same, get_or-set_other, take, drop, nat_lt, ◌==◌, [], ◌∷◌, length, refl, ap, sym, ◌∙◌, arith, inl, inr}
use Rattle.std.specs.Prelude.{filter, count_by}
use Rattle.std.proofs.lemmas.List.Sums.{sum_by-cons, sum_by-take-drop, sum_by_more, sum_by-drop_more}
use Rattle.std.proofs.lemmas.Bool.{lt-ltb, le-ltb, ltb-true, ltb-false, eqb-true, eq-eqb}
use Rattle.losses.proofs.Filled.{same_count}
use Rattle.losses.proofs.Runs.{filter_fewer}
use Rattle.losses.specs.Members.{different_outside, has_esi, outside}
use Rattle.losses.specs.Starts.{IsFirstGap}
use Rattle.losses.specs.Windows.{ArePlaced, IsLeastGap, IsShortWindow, filled, member, place_at}
use Rattle.lists.specs.Below.{below}
use Rattle.losses.specs.declared.groups.Member.{Member}

-- a short window of that size, and all that start before it go further
pub record IsFound (qs : List Member) (k place gap : ℕ) : Type 0 where
  pub start : ℕ
  pub end : ℕ
  pub is : IsShortWindow qs k start end
  pub from : place_at qs start ≡ place
  pub size : place_at qs start + gap ≡ place_at qs (end - 1)
  pub wider : (x y : ℕ) → x < start → IsShortWindow qs k x y → place_at qs x + gap < place_at qs (y - 1)

count_take_le : (p : Member → Bool) (x y : ℕ) (qs : List Member) → x ≤ y → count_by p (take x qs) ≤ count_by p (take y qs)
count_take_le p zero y qs l = omega arith
count_take_le p (suc x) zero qs l = absurd (omega arith)
count_take_le p (suc x) (suc y) [] l = omega arith
count_take_le p (suc x) (suc y) (q ∷ qs) l =
    let e = count_take_le p x y qs (omega arith) in
    let a = sum_by-cons (λ z. cond (p z) 1 0) q (take x qs) in
    let b = sum_by-cons (λ z. cond (p z) 1 0) q (take y qs) in
    omega (arith, e, a, b)

all_count : (p : Member → Bool) (x : ℕ) (qs : List Member) → count_by p (take x qs) + count_by p (drop x qs) ≡ count_by p qs
all_count p x qs = sum_by-take-drop (λ z. cond (p z) 1 0) qs x

empty : (xs : List ℕ) → length (filter (λ j. false) xs) ≡ 0
empty [] = refl
empty (x ∷ xs) = empty xs

drop_whole : (p : Member → Bool) (qs : List Member) → count_by p (drop (length qs) qs) ≡ 0
drop_whole p [] = refl
drop_whole p (q ∷ qs) = drop_whole p qs

module _ (qs : List Member) where
  pub outside_le : (x y x2 y2 j : ℕ) → x ≤ x2 → y2 ≤ y → outside qs x y j ≤ outside qs x2 y2 j
  outside_le x y x2 y2 j l g =
      let a = count_take_le (has_esi j) x x2 qs l in
      let b = count_take_le (has_esi j) y2 y qs g in
      let c = all_count (has_esi j) y qs in
      let d = all_count (has_esi j) y2 qs in
      omega (arith, a, b, c, d)

  pub different_le : (x y x2 y2 : ℕ) → x ≤ x2 → y2 ≤ y → different_outside qs x y ≤ different_outside qs x2 y2
  unfolding different_outside
  different_le x y x2 y2 l g =
      filter_fewer (λ j. nat_lt 0 (outside qs x y j)) (λ j. nat_lt 0 (outside qs x2 y2 j)) (below 256)
      (λ j h. let a = outside_le x y x2 y2 j l g in let b = ltb-true 0 (outside qs x y j) h in lt-ltb 0 (outside qs x2 y2 j) (omega (arith, a, b)))

  pub filled_is : (counts : List ℕ) (x y : ℕ) → ((j : ℕ) → j < 256 → get_or counts j 0 ≡ outside qs x y j) → filled counts ≡ different_outside qs x y
  unfolding filled different_outside
  filled_is counts x y h = same_count (λ j. nat_lt 0 (outside qs x y j)) (λ j. nat_lt 0 (get_or counts j 0)) 256 (λ j l. ap (nat_lt 0) (h j l))

  pub end_step : (x y j : ℕ) → y < length qs → outside qs x y j ≡ outside qs x (y + 1) j + cond (has_esi j (get_or qs y (member 0 0))) 1 0
  end_step x y j l = let e = sum_by-drop_more (λ z. cond (has_esi j z) 1 0) qs y (member 0 0) l in omega (arith, e)

  pub start_step : (x y j : ℕ) → x < length qs → outside qs (x + 1) y j ≡ outside qs x y j + cond (has_esi j (get_or qs x (member 0 0))) 1 0
  start_step x y j l = let e = sum_by_more (λ z. cond (has_esi j z) 1 0) qs x (member 0 0) l in omega (arith, e)

  pub nothing_lost : (x : ℕ) → different_outside qs x x ≡ different_outside qs 0 0
  unfolding different_outside
  nothing_lost x =
      same_count (λ j. nat_lt 0 (outside qs 0 0 j)) (λ j. nat_lt 0 (outside qs x x j)) 256
      (λ j l. ap (nat_lt 0) (let a = all_count (has_esi j) x qs in let b = all_count (has_esi j) 0 qs in omega (arith, a, b)))

  none : (n : ℕ) (t : ℕ → Bool) → ((j : ℕ) → j < n → t j ≡ false) → length (filter t (below n)) ≡ 0
  none n t h = same_count (λ j. false) t n h ∙ empty (below n)

  pub all_lost : different_outside qs 0 (length qs) ≡ 0
  unfolding different_outside
  all_lost =
      none 256 (λ j. nat_lt 0 (outside qs 0 (length qs) j))
      (λ j l. le-ltb 0 (outside qs 0 (length qs) j) (let e = drop_whole (has_esi j) qs in omega (arith, e)))

other : (a b : ℕ) → (a ≡ b → ⊥) → (a == b) ≡ false
other a b ne = elim (a == b) as (λ v. (a == b) ≡ v → v ≡ false) [ true ↦ λ e. absurd (ne (eqb-true a b e)) | false ↦ λ e. refl ] refl

bit_at : (a b : ℕ) → a ≡ b → ◌≡◌ {A = ℕ} (cond (a == b) 1 0) 1
bit_at a b e = ap (λ (v : Bool). cond {A = ℕ} v 1 0) (eq-eqb a b e)

bit_off : (a b : ℕ) → (a ≡ b → ⊥) → ◌≡◌ {A = ℕ} (cond (a == b) 1 0) 0
bit_off a b ne = ap (λ (v : Bool). cond {A = ℕ} v 1 0) (other a b ne)

module _ (qs : List Member) (counts new : List ℕ) (x y e : ℕ) (long : length counts ≡ 256) (small : e < 256)
    (known : (j : ℕ) → j < 256 → get_or counts j 0 ≡ outside qs x y j) where
  -- the window grows at its end
  pub lost_copies : y < length qs → e ≡ (get_or qs y (member 0 0)).esi → new ≡ set counts e (get_or counts e 0 - 1) → (j : ℕ) → j < 256 → get_or new j 0 ≡ outside qs x (y + 1) j
  lost_copies within is new_is j l =
      let s = end_step qs x y j within in
      let k = known j l in
      elim (e == j) as (λ v. (e == j) ≡ v → get_or new j 0 ≡ outside qs x (y + 1) j) [
        | true ↦ λ q.
            (let d = eqb-true e j q in
            let b = bit_at (get_or qs y (member 0 0)).esi j (sym is ∙ d) in
            let g = get_or-set_same counts e (get_or counts e 0 - 1) 0 (omega (arith, long, small)) in
            let n = ap (λ (xs : List ℕ). get_or xs e 0) new_is in
            let m = ap (λ (i : ℕ). get_or new i 0) d in
            let o = ap (λ (i : ℕ). get_or counts i 0) d in
            omega (arith, s, k, b, g, n, m, o))
        | false ↦ λ q.
            (let ne : e ≡ j → ⊥ = λ z. (let w = eq-eqb e j z in absurd (cc)) in
            let ne2 : j ≡ e → ⊥ = λ z. ne (sym z) in
            let b = bit_off (get_or qs y (member 0 0)).esi j (λ z. ne (is ∙ z)) in
            let g = get_or-set_other counts e j (get_or counts e 0 - 1) 0 ne2 in
            let n = ap (λ (xs : List ℕ). get_or xs j 0) new_is in
            omega (arith, s, k, b, g, n))
      ] refl

  -- and shrinks at its start
  pub given_copies : x < length qs → e ≡ (get_or qs x (member 0 0)).esi → new ≡ set counts e (get_or counts e 0 + 1) → (j : ℕ) → j < 256 → get_or new j 0 ≡ outside qs (x + 1) y j
  given_copies within is new_is j l =
      let s = start_step qs x y j within in
      let k = known j l in
      elim (e == j) as (λ v. (e == j) ≡ v → get_or new j 0 ≡ outside qs (x + 1) y j) [
        | true ↦ λ q.
            (let d = eqb-true e j q in
            let b = bit_at (get_or qs x (member 0 0)).esi j (sym is ∙ d) in
            let g = get_or-set_same counts e (get_or counts e 0 + 1) 0 (omega (arith, long, small)) in
            let n = ap (λ (xs : List ℕ). get_or xs e 0) new_is in
            let m = ap (λ (i : ℕ). get_or new i 0) d in
            let o = ap (λ (i : ℕ). get_or counts i 0) d in
            omega (arith, s, k, b, g, n, m, o))
        | false ↦ λ q.
            (let ne : e ≡ j → ⊥ = λ z. (let w = eq-eqb e j z in absurd (cc)) in
            let ne2 : j ≡ e → ⊥ = λ z. ne (sym z) in
            let b = bit_off (get_or qs x (member 0 0)).esi j (λ z. ne (is ∙ z)) in
            let g = get_or-set_other counts e j (get_or counts e 0 + 1) 0 ne2 in
            let n = ap (λ (xs : List ℕ). get_or xs j 0) new_is in
            omega (arith, s, k, b, g, n))
      ] refl

module _ (qs : List Member) (k : ℕ) (placed : ArePlaced qs) (enough : k ≤ different_outside qs 0 0) where
  pub short_some : (x y : ℕ) → x ≤ y → different_outside qs x y < k → x < y
  short_some x y l h =
      elim (nat_lt x y) as (λ v. nat_lt x y ≡ v → x < y) [
        | true ↦ λ e. ltb-true x y e
        | false ↦ λ e.
            (let g = ltb-false x y e in
            let same : x ≡ y = omega (arith, l, g) in
            let a = nothing_lost qs x in
            let b = ap (λ (z : ℕ). different_outside qs x z) same in
            absurd (omega (arith, a, b, h, enough)))
      ] refl

  pub place_le : (i j : ℕ) → i ≤ j → j < length qs → place_at qs i ≤ place_at qs j
  place_le i j l h =
      elim (nat_lt i j) as (λ v. nat_lt i j ≡ v → place_at qs i ≤ place_at qs j) [
        | true ↦ λ e. (let g = placed i j (ltb-true i j e) h in omega (arith, g))
        | false ↦ λ e.
            (let g = ltb-false i j e in
            let same : i ≡ j = omega (arith, l, g) in
            let a = ap (place_at qs) same in
            omega (arith, a))
      ] refl

  -- the gap of the window from this start is among those seen
  pub more_least : (start end old n gap : ℕ) → IsShortWindow qs k start end
      → ((y : ℕ) → y < end → k ≤ different_outside qs start y) → place_at qs start + gap ≡ place_at qs (end - 1)
      → ((x y : ℕ) → x < start → IsShortWindow qs k x y → place_at qs x + old ≤ place_at qs (y - 1))
      → n ≤ gap → ((start ≡ 0) ⊎ (n ≤ old))
      → (x y : ℕ) → x < start + 1 → IsShortWindow qs k x y → place_at qs x + n ≤ place_at qs (y - 1)
  more_least start end old n gap short before size seen low keep x y l h =
      elim (nat_lt x start) as (λ v. nat_lt x start ≡ v → place_at qs x + n ≤ place_at qs (y - 1)) [
        | true ↦ λ e.
            (let g = ltb-true x start e in
            let a = seen x y g h in
            elim keep [ inl z ↦ absurd (omega (arith, z, g)) | inr z ↦ omega (arith, a, z) ])
        | false ↦ λ e.
            (let g = ltb-false x start e in
            let same : x ≡ start = omega (arith, l, g) in
            let s = ap (place_at qs) same in
            let d = ap (λ (z : ℕ). different_outside qs z y) same in
            let hs = h.short in
            let hw = h.within in
            let ss = short.some in
            elim (nat_lt y end) as (λ v. nat_lt y end ≡ v → place_at qs x + n ≤ place_at qs (y - 1)) [
              | true ↦ λ f. (let b = before y (ltb-true y end f) in absurd (omega (arith, b, d, hs)))
              | false ↦ λ f.
                  (let b = ltb-false y end f in
                  let p = place_le (end - 1) (y - 1) (omega (arith, b)) (omega (arith, b, hw, ss)) in
                  omega (arith, p, s, size, low))
            ] refl)
      ] refl

  -- it is the first of its size
  found_first : (place gap : ℕ) → IsFound qs k place gap → IsFirstGap qs k place gap
  found_first place gap w =
      let f = w.from in
      let z = w.size in
      record {
        window = record { start = w.start; end = w.end; is = w.is; from = omega (arith, f); to = omega (arith, f, z) };
        first = λ x y h g.
            elim (nat_lt x w.start) as (λ v. nat_lt x w.start ≡ v → place ≤ place_at qs x) [
              | true ↦ λ e. (let l = w.wider x y (ltb-true x w.start e) h in absurd (omega (arith, l, g)))
              | false ↦ λ e.
                  (let l = ltb-false x w.start e in
                  let s = h.some in
                  let t = h.within in
                  let p = place_le w.start x l (omega (arith, s, t)) in
                  omega (arith, p, f))
            ] refl;
      }

  -- no window starts later
  pub done_early : (start place least : ℕ) → 0 < k → k ≤ different_outside qs start (length qs)
      → ((x y : ℕ) → x < start → IsShortWindow qs k x y → place_at qs x + least ≤ place_at qs (y - 1))
      → ((start ≡ 0) ⊎ IsFound qs k place least) → IsLeastGap qs k least × IsFirstGap qs k place least
  done_early start place least some full seen found =
      elim found [
        | inl z ↦
            (let a = all_lost qs in
            let b = ap (λ (x : ℕ). different_outside qs x (length qs)) z in
            absurd (omega (arith, a, b, some, full)))
        | inr w ↦ (
          record {
            start = w.start;
            end = w.end;
            is = w.is;
            size = w.size;
            least = λ x y h.
                elim (nat_lt x start) as (λ v. nat_lt x start ≡ v → place_at qs x + least ≤ place_at qs (y - 1)) [
                  | true ↦ λ e. seen x y (ltb-true x start e) h
                  | false ↦ λ e.
                      (let g = ltb-false x start e in
                      let m = different_le qs start (length qs) x y g h.within in
                      let s = h.short in
                      absurd (omega (arith, m, s, full)))
                ] refl;
          },
          found_first place least w,
        )
      ]

  pub done_all : (start place least : ℕ) → 0 < k → length qs ≤ start
      → ((x y : ℕ) → x < start → IsShortWindow qs k x y → place_at qs x + least ≤ place_at qs (y - 1))
      → ((start ≡ 0) ⊎ IsFound qs k place least) → IsLeastGap qs k least × IsFirstGap qs k place least
  done_all start place least some end seen found =
      elim found [
        | inl z ↦
            (let a = all_lost qs in
            let len : length qs ≡ 0 = omega (arith, z, end) in
            let b = ap (λ (x : ℕ). different_outside qs 0 x) len in
            absurd (omega (arith, a, b, some, enough)))
        | inr w ↦ (
          record {
            start = w.start;
            end = w.end;
            is = w.is;
            size = w.size;
            least = λ x y h. (let s = h.some in let t = h.within in seen x y (omega (arith, s, t, end)) h);
          },
          found_first place least w,
        )
      ]
