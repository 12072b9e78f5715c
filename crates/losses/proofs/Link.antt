-- The members of a block tell all of it: copies, what a loss leaves, and its least short run.
use Rattle.std.specs.Prelude.{◌≡◌, ℕ, zero, suc, ◌+◌, ◌<◌, ◌≤◌, Bool, true, false, ◌&&◌, ◌||◌, ◌==◌, not, cond, List, [], ◌∷◌, length, count_by, take, refl}
use Rattle.std.specs.List.{list_any}
use Rattle.std.proofs.Common.{ap, arith}
use Rattle.lists.specs.Selection.{rest_from}
use Rattle.losses.proofs.Grouping.{count_cons}
use Rattle.losses.specs.Costs.{copies, count}
use Rattle.losses.specs.Members.{has_esi, outside}
use Rattle.losses.specs.Windows.{member, members, place_at}
use Rattle.losses.specs.Numbers.{has, is_number}
use Rattle.losses.specs.declared.groups.Member.{Member}
use Rattle.losses.specs.Number.{Number}

-- a member with this ESI that isn't lost
abbrev pub is_left : (ℕ → Bool) → ℕ → Member → Bool
is_left lost j q = not (lost q.place) && q.esi == j

-- what a loss leaves of a block
pub has_rest : (b j : ℕ) (lost : ℕ → Bool) (i : ℕ) (ps : List Number) → has b (rest_from i lost ps) j ≡ list_any (is_left lost j) (members b i ps)
has_rest b j lost i [] = refl
has_rest b j lost i (p ∷ ps) =
    let e = has_rest b j lost (i + 1) ps in
    elim (lost i) as (λ v. lost i ≡ v → has b (cond v (rest_from (i + 1) lost ps) (p ∷ rest_from (i + 1) lost ps)) j ≡ list_any (is_left lost j) (cond (p.block == b) (member i p.esi ∷ members b (i + 1) ps) (members b (i + 1) ps))) [
      | true ↦ λ h.
          elim (p.block == b) as (λ v. has b (rest_from (i + 1) lost ps) j ≡ list_any (is_left lost j) (cond v (member i p.esi ∷ members b (i + 1) ps) (members b (i + 1) ps))) [
            | true ↦ rw h e
            | false ↦ e
          ]
      | false ↦ λ h.
          elim (p.block == b) as (λ v. ((v && p.esi == j) || has b (rest_from (i + 1) lost ps) j) ≡ list_any (is_left lost j) (cond v (member i p.esi ∷ members b (i + 1) ps) (members b (i + 1) ps))) [
            | true ↦ rw h (ap (λ (v : Bool). (p.esi == j) || v) e)
            | false ↦ e
          ]
    ] refl

pub copies_are : (b j i : ℕ) (ps : List Number) → copies b ps j ≡ count_by (has_esi j) (members b i ps)
copies_are b j i [] = refl
copies_are b j i (p ∷ ps) =
    let e = copies_are b j (i + 1) ps in
    elim (p.block == b) as (λ v. cond (v && p.esi == j) 1 0 + count (is_number b j) ps ≡ count_by (has_esi j) (cond v (member i p.esi ∷ members b (i + 1) ps) (members b (i + 1) ps))) [
      | true ↦ (let d = count_cons (has_esi j) (member i p.esi) (members b (i + 1) ps) in omega (arith, d, e))
      | false ↦ omega (arith, e)
    ]

-- a loss that takes the members from x up to y
pub record IsWindow (qs : List Member) (lost : ℕ → Bool) (x y : ℕ) : Type 0 where
  pub order : x ≤ y
  pub early : (i : ℕ) → i < length qs → i < x → lost (place_at qs i) ≡ false
  pub inner : (i : ℕ) → i < length qs → x ≤ i → i < y → lost (place_at qs i) ≡ true
  pub late : (i : ℕ) → i < length qs → y ≤ i → lost (place_at qs i) ≡ false

left_bit : (lost : ℕ → Bool) (j : ℕ) (q : Member) (v : Bool) → lost q.place ≡ v → ◌≡◌ {A = ℕ} (cond (is_left lost j q) 1 0) (cond v 0 (cond (has_esi j q) 1 0))
left_bit lost j q true h = rw h refl
left_bit lost j q false h = rw h refl

pub window_left : (qs : List Member) (lost : ℕ → Bool) (x y j : ℕ) → IsWindow qs lost x y → count_by (is_left lost j) qs ≡ outside qs x y j
window_left [] lost zero zero j w = refl
window_left [] lost zero (suc y) j w = refl
window_left [] lost (suc x) zero j w = refl
window_left [] lost (suc x) (suc y) j w = refl
window_left (q ∷ qs) lost (suc x) zero j w = absurd (let o = w.order in omega (arith, o))
window_left (q ∷ qs) lost zero zero j w =
    let e = window_left qs lost zero zero j (record { order = omega arith; early = λ i l m. absurd (omega arith); inner = λ i l m n. absurd (omega arith); late = λ i l m. w.late (suc i) (omega arith) (omega arith) }) in
    let d = count_cons (is_left lost j) q qs in
    let a = count_cons (has_esi j) q qs in
    let b = left_bit lost j q false (w.late 0 (omega arith) (omega arith)) in
    omega (arith, e, d, a, b)
window_left (q ∷ qs) lost zero (suc y) j w =
    let e = window_left qs lost zero y j (record { order = omega arith; early = λ i l m. absurd (omega arith); inner = λ i l m n. w.inner (suc i) (omega arith) (omega arith) (omega arith); late = λ i l m. w.late (suc i) (omega arith) (omega arith) }) in
    let d = count_cons (is_left lost j) q qs in
    let b = left_bit lost j q true (w.inner 0 (omega arith) (omega arith) (omega arith)) in
    omega (arith, e, d, b)
window_left (q ∷ qs) lost (suc x) (suc y) j w =
    let o = w.order in
    let e = window_left qs lost x y j (record { order = omega (arith, o); early = λ i l m. w.early (suc i) (omega arith) (omega arith); inner = λ i l m n. w.inner (suc i) (omega arith) (omega arith) (omega arith); late = λ i l m. w.late (suc i) (omega arith) (omega arith) }) in
    let d = count_cons (is_left lost j) q qs in
    let a = count_cons (has_esi j) q (take x qs) in
    let b = left_bit lost j q false (w.early 0 (omega arith) (omega arith)) in
    omega (arith, e, d, a, b)
