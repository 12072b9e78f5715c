-- A group's members as one number for each place: of block 0 where a member is, and else of block
-- 1.
use Rattle.std.specs.Prelude.{◌≡◌, ℕ, zero, suc, ◌+◌, ◌<◌, ◌≤◌, Bool, true, false, ◌&&◌, ◌||◌, ◌==◌, not, cond, List, [], ◌∷◌, length, refl}
use Rattle.std.specs.List.{list_any, AllByRecursion}
use Rattle.std.proofs.Common.{◌∙◌, sym, ap, subst, arith}
use Rattle.std.proofs.lemmas.Bool.{eqb-true, eqb-false}
use Rattle.lists.specs.Selection.{rest_from, rest, is_among}
use Rattle.losses.specs.Number.{Number}
use Rattle.losses.specs.declared.groups.Member.{Member}
use Rattle.losses.specs.Numbers.{has}
use Rattle.losses.specs.Windows.{member, members}
use Rattle.losses.specs.Groups.{places, is_at}
use Rattle.losses.proofs.Copies.{HasByteEsi}
use Rattle.losses.proofs.Link.{is_left, has_rest}
use Rattle.losses.specs.Ordered.{AreMembersFrom}

abbrev pub here : ℕ → Number
here j = record { block = 0; esi = j }

abbrev pub nobody : Number
nobody = record { block = 1; esi = 0 }

-- the numbers of n places from i on
abbrev pub line : ℕ → ℕ → List Member → List Number
line i zero qs = []
line i (suc n) [] = nobody ∷ line (i + 1) n []
line i (suc n) (q ∷ qs) = cond (q.place == i) (here q.esi ∷ line (i + 1) n qs) (nobody ∷ line (i + 1) n (q ∷ qs))

pub line_length : (i n : ℕ) (qs : List Member) → length (line i n qs) ≡ n
line_length i zero qs = refl
line_length i (suc n) [] = let e = line_length (i + 1) n [] in omega (arith, e)
line_length i (suc n) (q ∷ qs) =
    let a = line_length (i + 1) n qs in
    let b = line_length (i + 1) n (q ∷ qs) in
    elim (q.place == i) as (λ v. length (cond v (here q.esi ∷ line (i + 1) n qs) (nobody ∷ line (i + 1) n (q ∷ qs))) ≡ suc n) [
      | true ↦ omega (arith, a)
      | false ↦ omega (arith, b)
    ]

pub places_length : (i n : ℕ) → length (places i n) ≡ n
places_length i zero = refl
places_length i (suc n) = let e = places_length (i + 1) n in omega (arith, e)

-- the members of such a list
pub line_members : (i n m : ℕ) (qs : List Member) → i + n ≡ m → AreMembersFrom i m qs → members 0 i (line i n qs) ≡ qs
line_members i zero m [] e h = refl
line_members i zero m (q ∷ qs) e h = absurd (let a = h.0 in let b = h.1 in omega (arith, a, b, e))
line_members i (suc n) m [] e h = line_members (i + 1) n m [] (omega (arith, e)) tt
line_members i (suc n) m (q ∷ qs) e h =
    elim (q.place == i) as (λ v. (q.place == i) ≡ v → members 0 i (cond v (here q.esi ∷ line (i + 1) n qs) (nobody ∷ line (i + 1) n (q ∷ qs))) ≡ q ∷ qs) [
      | true ↦ λ t.
          (let same : q.place ≡ i = eqb-true _ _ t in
          let later = subst (λ (x : ℕ). AreMembersFrom (x + 1) m qs) same h.3 in
          let ih = line_members (i + 1) n m qs (omega (arith, e)) later in
          let one : member i q.esi ≡ q = ap (λ (x : ℕ). member x q.esi) (sym same) in
          (cc))
      | false ↦ λ t.
          (let other = eqb-false _ _ t in
          let low = h.0 in
          line_members (i + 1) n m (q ∷ qs) (omega (arith, e)) (omega (arith, low, other), h.1, h.2, h.3))
    ] refl

pub line_small : (i n m : ℕ) (qs : List Member) → AreMembersFrom i m qs → AllByRecursion HasByteEsi (line i n qs)
line_small i zero m qs h = tt
line_small i (suc n) m [] h = (omega arith, line_small (i + 1) n m [] tt)
line_small i (suc n) m (q ∷ qs) h =
    elim (q.place == i) as (λ v. (q.place == i) ≡ v → AllByRecursion HasByteEsi (cond v (here q.esi ∷ line (i + 1) n qs) (nobody ∷ line (i + 1) n (q ∷ qs)))) [
      | true ↦ λ t. (h.2, line_small (i + 1) n m qs (subst (λ (x : ℕ). AreMembersFrom (x + 1) m qs) (eqb-true _ _ t) h.3))
      | false ↦ λ t.
          (let other = eqb-false _ _ t in
          let low = h.0 in
          (omega arith, line_small (i + 1) n m (q ∷ qs) (omega (arith, low, other), h.1, h.2, h.3)))
    ] refl

-- what is left of n places
pub left_places : (lost : ℕ → Bool) (i n p : ℕ) → i ≤ p → p < i + n → is_among (rest_from i lost (places i n)) p ≡ not (lost p)
left_places lost i zero p l g = absurd (omega (arith, l, g))
left_places lost i (suc n) p l g =
    elim (i == p) as (λ v. (i == p) ≡ v → is_among (cond (lost i) (rest_from (i + 1) lost (places (i + 1) n)) (i ∷ rest_from (i + 1) lost (places (i + 1) n))) p ≡ not (lost p)) [
      | true ↦ λ e. subst (λ (x : ℕ). is_among (cond (lost i) (rest_from (i + 1) lost (places (i + 1) n)) (i ∷ rest_from (i + 1) lost (places (i + 1) n))) p ≡ not (lost x)) (eqb-true i p e) (at_first e (lost i))
      | false ↦ λ e.
          (let ne = eqb-false i p e in
          let ih = left_places lost (i + 1) n p (omega (arith, ne, l)) (omega (arith, g)) in
          elim (lost i) as (λ w. is_among (cond w (rest_from (i + 1) lost (places (i + 1) n)) (i ∷ rest_from (i + 1) lost (places (i + 1) n))) p ≡ not (lost p)) [
            | true ↦ ih
            | false ↦ rw e ih
          ])
    ] refl
  where
    above : (lost : ℕ → Bool) (k m : ℕ) → p < k → is_among (rest_from k lost (places k m)) p ≡ false
    above lost k zero a = refl
    above lost k (suc m) a =
        let ih = above lost (k + 1) m (omega (arith, a)) in
        elim (lost k) as (λ w. is_among (cond w (rest_from (k + 1) lost (places (k + 1) m)) (k ∷ rest_from (k + 1) lost (places (k + 1) m))) p ≡ false) [
          | true ↦ ih
          | false ↦
              (elim (k == p) as (λ v. (k == p) ≡ v → (v || is_among (rest_from (k + 1) lost (places (k + 1) m)) p) ≡ false) [
                | true ↦ λ d. absurd (let s = eqb-true k p d in omega (arith, s, a))
                | false ↦ λ d. ih
              ] refl)
        ]

    at_first : (i == p) ≡ true → (w : Bool) → is_among (cond w (rest_from (i + 1) lost (places (i + 1) n)) (i ∷ rest_from (i + 1) lost (places (i + 1) n))) p ≡ not w
    at_first e true = above lost (i + 1) n (let s = eqb-true i p e in omega (arith, s))
    at_first e false = rw e refl

-- a member is left where its place is
pub any_left : (lost : ℕ → Bool) (i n m j : ℕ) (qs : List Member) → AreMembersFrom i n qs → m ≡ n
    → list_any (is_at (rest lost (places 0 m)) j) qs ≡ list_any (is_left lost j) qs
any_left lost i n m j [] h e = refl
any_left lost i n m j (q ∷ qs) h e =
    let a : is_among (rest lost (places 0 m)) q.place ≡ not (lost q.place) = left_places lost 0 m q.place (omega arith) (let b = h.1 in omega (arith, b, e)) in
    let ih = any_left lost (q.place + 1) n m j qs h.3 e in
    ap (λ (v : Bool). (v && q.esi == j) || list_any (is_at (rest lost (places 0 m)) j) qs) a
    ∙ ap (λ (v : Bool). is_left lost j q || v) ih

pub line_left : (lost : ℕ → Bool) (n j : ℕ) (qs : List Member) → AreMembersFrom 0 n qs
    → list_any (is_at (rest lost (places 0 n)) j) qs ≡ has 0 (rest lost (line 0 n qs)) j
line_left lost n j qs h =
    any_left lost 0 n n j qs h refl
    ∙ ap (λ (xs : List Member). list_any (is_left lost j) xs) (sym (line_members 0 n n qs (omega arith) h))
    ∙ sym (has_rest 0 j lost 0 (line 0 n qs))

pub nothing : {X : Type 0} (i : ℕ) (xs : List X) → rest_from i (λ k. false) xs ≡ xs
nothing i [] = refl
nothing i (x ∷ xs) = ap (λ ys. x ∷ ys) (nothing (i + 1) xs)

pub line_whole : (n j : ℕ) (qs : List Member) → AreMembersFrom 0 n qs → list_any (is_at (places 0 n) j) qs ≡ has 0 (line 0 n qs) j
line_whole n j qs h =
    ap (λ (xs : List ℕ). list_any (is_at xs j) qs) (sym (nothing 0 (places 0 n)))
    ∙ line_left (λ k. false) n j qs h
    ∙ ap (λ (ps : List Number). has 0 ps j) (nothing 0 (line 0 n qs))
