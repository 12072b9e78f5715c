-- Lists that are joined, one member more.
use Rattle.std.proofs.Common.{◌≡◌, ◌≢◌, ◌<◌, ◌≤◌, ◌+◌, ◌⊎◌, ℕ, zero, suc, Bool, true, false, eqb, leb, List, [], ◌∷◌, ◌++◌, length, take, get_or, set, refl, sym, ap, ◌∙◌, arith, append_assoc, length-append, inl, inr, subst}
use Rattle.std.specs.Prelude.{flat_map}
use Rattle.std.specs.Option.{option_to_list}
use Rattle.std.proofs.Math.Nat.{max-le, le-max_left, le-max_right}
use Rattle.std.proofs.lemmas.Bool.{eqb-true, eqb-false, leb-true, leb-false}
use Rattle.std.proofs.lemmas.Grind.{flat_map-append}
use Rattle.std.proofs.lemmas.List.{append-nil, take_more, get_or_append_left, get_or_push, length_push, get_or-set_same, get_or-set_other}
use Rattle.std.proofs.lemmas.Option.{slice_get-get_or, slice_get_past}
use Rattle.lists.specs.Below.{below}
use Rattle.session.specs.Joined.{round, joined}
use Rattle.session.specs.Turns.{at_round, rounds, longest, in_turns, one_after_other, taken}

pub at_place : {X : Type 0} (r : ℕ) (xs : List X) (d : X) → r < length xs → at_round r xs ≡ get_or xs r d ∷ []
at_place r xs d l = ap option_to_list (slice_get-get_or xs r d l)

pub past_end : {X : Type 0} (r : ℕ) (xs : List X) → length xs ≤ r → at_round r xs ≡ []
past_end r xs l = ap option_to_list (slice_get_past xs r l)

-- one list more
round_more : {X : Type 0} (lists : List (List X)) (i r : ℕ) → i < length lists
    → round (take (i + 1) lists) r ≡ round (take i lists) r ++ at_round r (get_or lists i [])
round_more {X = X} lists i r l =
    ap (λ ls. round ls r) (take_more lists i [] l) ∙ flat_map-append (at_round r) (take i lists) (get_or lists i [] ∷ [])
    ∙ ap (λ (xs : List X). round (take i lists) r ++ xs) (append-nil (at_round r (get_or lists i [])))

pub round_with : {X : Type 0} (lists : List (List X)) (i r : ℕ) (d : X) → i < length lists → r < length (get_or lists i [])
    → round (take (i + 1) lists) r ≡ round (take i lists) r ++ get_or (get_or lists i []) r d ∷ []
round_with {X = X} lists i r d l h =
    round_more lists i r l ∙ ap (λ (xs : List X). round (take i lists) r ++ xs) (at_place r (get_or lists i []) d h)

pub round_without : {X : Type 0} (lists : List (List X)) (i r : ℕ) → i < length lists → length (get_or lists i []) ≤ r
    → round (take (i + 1) lists) r ≡ round (take i lists) r
round_without {X = X} lists i r l h =
    round_more lists i r l ∙ ap (λ (xs : List X). round (take i lists) r ++ xs) (past_end r (get_or lists i []) h)
    ∙ append-nil (round (take i lists) r)

-- ---- a list that gains a member

pub same_or_not : (i p : ℕ) → (i ≡ p) ⊎ (i ≢ p)
same_or_not i p = elim (eqb i p) as (λ v. eqb i p ≡ v → (i ≡ p) ⊎ (i ≢ p)) [
  | true ↦ λ e. inl (eqb-true i p e)
  | false ↦ λ e. inr (eqb-false i p e)
] refl

-- what is at each place, when one is replaced
pub each_set : {X : Type 0} (P : ℕ → X → Type 0) (xs : List X) (p : ℕ) (y d : X) → p < length xs → P p y
    → ((i : ℕ) → i ≢ p → P i (get_or xs i d)) → (i : ℕ) → P i (get_or (set xs p y) i d)
each_set {X = X} P xs p y d l here others i = elim (same_or_not i p) [
  | inl e ↦ subst (λ n. P n (get_or (set xs p y) n d)) (sym e) (subst (λ (x : X). P p x) (sym (get_or-set_same xs p y d l)) here)
  | inr n ↦ subst (λ (x : X). P i x) (sym (get_or-set_other xs p i y d n)) (others i n)
]

nothing_at : {X Y : Type 0} (f : List X → List Y) (lists : List (List X)) → ((i : ℕ) → i < length lists → f (get_or lists i []) ≡ []) → flat_map f lists ≡ []
nothing_at f [] h = refl
nothing_at {Y = Y} f (xs ∷ lists) h =
    ap (λ (ys : List Y). ys ++ flat_map f lists) (h 0 (omega arith)) ∙ nothing_at f lists (λ i l. h (suc i) (omega arith))

same_at : {X Y : Type 0} (f : List X → List Y) (lists : List (List X)) (p : ℕ) (ys : List X) → f ys ≡ f (get_or lists p []) → p < length lists
    → flat_map f (set lists p ys) ≡ flat_map f lists
same_at f [] p ys e l = absurd (omega arith)
same_at {Y = Y} f (xs ∷ lists) zero ys e l = ap (λ (zs : List Y). zs ++ flat_map f lists) e
same_at {Y = Y} f (xs ∷ lists) (suc p) ys e l = ap (λ (zs : List Y). f xs ++ zs) (same_at f lists p ys e (omega arith))

more_at : {X Y : Type 0} (f : List X → List Y) (lists : List (List X)) (p : ℕ) (ys : List X) (zs : List Y) → f ys ≡ f (get_or lists p []) ++ zs
    → ((i : ℕ) → p < i → f (get_or lists i []) ≡ []) → p < length lists → flat_map f (set lists p ys) ≡ flat_map f lists ++ zs
more_at f [] p ys zs e h l = absurd (omega arith)
more_at {Y = Y} f (xs ∷ lists) zero ys zs e h l =
    let none : flat_map f lists ≡ [] = nothing_at f lists (λ i m. h (suc i) (omega arith)) in
    let all : f xs ++ flat_map f lists ≡ f xs = ap (λ (ws : List Y). f xs ++ ws) none ∙ append-nil (f xs) in
    ap (λ (ws : List Y). f ys ++ ws) none ∙ append-nil (f ys) ∙ e ∙ ap (λ (ws : List Y). ws ++ zs) (sym all)
more_at {Y = Y} f (xs ∷ lists) (suc p) ys zs e h l =
    ap (λ (ws : List Y). f xs ++ ws) (more_at f lists p ys zs e (λ i m. h (suc i) (omega arith)) (omega arith))
    ∙ sym (append_assoc (f xs) (flat_map f lists) zs)

-- one after the other: the last list that isn't empty gains one
pub next_whole : {X : Type 0} (lists : List (List X)) (p : ℕ) (x : X) → p < length lists → ((i : ℕ) → p < i → get_or lists i [] ≡ [])
    → one_after_other (set lists p (get_or lists p [] ++ x ∷ [])) ≡ one_after_other lists ++ x ∷ []
next_whole lists p x l h = more_at (λ xs. xs) lists p (get_or lists p [] ++ x ∷ []) (x ∷ []) refl h l

-- ---- in turns

longest_within : {X : Type 0} (lists : List (List X)) (n : ℕ) → ((i : ℕ) → length (get_or lists i []) ≤ n) → longest lists ≤ n
longest_within [] n h = omega arith
longest_within (xs ∷ lists) n h = max-le (h 0) (longest_within lists n (λ i. h (suc i)))

none_after : {X : Type 0} (lists : List (List X)) (r : ℕ) → longest lists ≤ r → round lists r ≡ []
none_after [] r h = refl
none_after {X = X} (xs ∷ lists) r h =
    let here = le-max_left (length xs) (longest lists) in
    let later = le-max_right (length xs) (longest lists) in
    ap (λ (ys : List X). ys ++ round lists r) (past_end r xs (omega (arith, h, here))) ∙ none_after lists r (omega (arith, h, later))

-- so many rounds are all
enough : {X : Type 0} (lists : List (List X)) (n : ℕ) → longest lists ≤ n → rounds lists n ≡ in_turns lists
enough lists zero h = let none : 0 ≡ longest lists = omega (arith, h) in ap (rounds lists) none
enough {X = X} lists (suc n) h =
    (elim (leb (longest lists) n) as (λ v. leb (longest lists) n ≡ v → rounds lists (suc n) ≡ in_turns lists) [
      | true ↦ λ e.
          (let before : longest lists ≤ n = leb-true _ _ e in
          ap (λ (ys : List X). rounds lists n ++ ys) (none_after lists n before) ∙ append-nil (rounds lists n) ∙ enough lists n before)
      | false ↦ λ e. (let past = leb-false _ _ e in let same : suc n ≡ longest lists = omega (arith, past, h) in ap (rounds lists) same)
    ]) refl

rounds_same : {X : Type 0} (lists : List (List X)) (p : ℕ) (ys : List X) (r : ℕ) → p < length lists
    → ((q : ℕ) → q < r → at_round q ys ≡ at_round q (get_or lists p [])) → rounds (set lists p ys) r ≡ rounds lists r
rounds_same lists p ys zero l h = refl
rounds_same {X = X} lists p ys (suc r) l h =
    ap (λ (zs : List X). zs ++ round (set lists p ys) r) (rounds_same lists p ys r l (λ q m. h q (omega arith)))
    ∙ ap (λ (zs : List X). rounds lists r ++ zs) (same_at (at_round r) lists p ys (h r (omega arith)) l)

module _ {X : Type 0} (xs : List X) (x : X) (r : ℕ) (size : length xs ≡ r) where
  before_last : (q : ℕ) → q < r → at_round q (xs ++ x ∷ []) ≡ at_round q xs
  before_last q l =
      let more = length_push xs x in
      at_place q (xs ++ x ∷ []) x (omega (arith, more, size)) ∙ ap (λ (y : X). y ∷ []) (get_or_append_left xs (x ∷ []) x q (omega (arith, size)))
      ∙ sym (at_place q xs x (omega (arith, size)))

  last_at : at_round r (xs ++ x ∷ []) ≡ at_round r xs ++ x ∷ []
  last_at =
      let more = length_push xs x in
      at_place r (xs ++ x ∷ []) x (omega (arith, more, size)) ∙ ap (λ (y : X). y ∷ []) (get_or_push xs x x r size)
      ∙ ap (λ (ys : List X). ys ++ x ∷ []) (sym (past_end r xs (omega (arith, size))))

-- in turns: the next list in round r gains one
pub next_turn : {X : Type 0} (lists : List (List X)) (p : ℕ) (x : X) (r : ℕ) → p < length lists → length (get_or lists p []) ≡ r
    → ((i : ℕ) → i < p → length (get_or lists i []) ≤ r + 1) → ((i : ℕ) → p < i → length (get_or lists i []) ≤ r)
    → in_turns (set lists p (get_or lists p [] ++ x ∷ [])) ≡ in_turns lists ++ x ∷ []
next_turn {X = X} lists p x r l size before behind =
    let xs : List X = get_or lists p [] in
    let ys : List X = xs ++ x ∷ [] in
    let long : length ys ≤ suc r = (let more = length_push xs x in omega (arith, more, size)) in
    let within : longest lists ≤ suc r = longest_within lists (suc r) bound in
    let within_then : longest (set lists p ys) ≤ suc r = longest_within (set lists p ys) (suc r)
    (each_set (λ i zs. length zs ≤ suc r) lists p ys [] l long (λ i n. bound i)) in
    let front = rounds_same lists p ys r l (before_last xs x r size) in
    let last = more_at (at_round r) lists p ys (x ∷ []) (last_at xs x r size) (λ i m. past_end r (get_or lists i []) (behind i m)) l in
    sym (enough (set lists p ys) (suc r) within_then)
    ∙ ap (λ (zs : List X). zs ++ round (set lists p ys) r) front
    ∙ ap (λ (zs : List X). rounds lists r ++ zs) last
    ∙ sym (append_assoc (rounds lists r) (round lists r) (x ∷ []))
    ∙ ap (λ (zs : List X). zs ++ x ∷ []) (enough lists (suc r) within)
  where
    bound : (i : ℕ) → length (get_or lists i []) ≤ suc r
    bound i = elim (same_or_not i p) [
      | inl e ↦ let s : length (get_or lists i []) ≡ r = subst (λ n. length (get_or lists n []) ≡ r) (sym e) size in omega (arith, s)
      | inr n ↦ elim (leb i p) as (λ v. leb i p ≡ v → length (get_or lists i []) ≤ suc r) [
        | true ↦ λ e. (let le = leb-true _ _ e in let b = before i (lt_of i p le n) in omega (arith, b))
        | false ↦ λ e. (let lt = leb-false _ _ e in let b = behind i (omega (arith, lt)) in omega (arith, b))
      ] refl
    ]
      where
        lt_of : (a b : ℕ) → a ≤ b → a ≢ b → a < b
        lt_of a b le n = omega (arith, le, n)

-- ---- up to any place behind the longest list's end

rounds_below : {X : Type 0} (lists : List (List X)) (n : ℕ) → flat_map (round lists) (below n) ≡ rounds lists n
unfolding below
rounds_below lists zero = refl
rounds_below {X = X} lists (suc n) =
    flat_map-append (round lists) (below n) (n ∷ []) ∙ ap (λ (ys : List X). flat_map (round lists) (below n) ++ ys) (append-nil (round lists n))
    ∙ ap (λ (ys : List X). ys ++ round lists n) (rounds_below lists n)

longest_total : {X : Type 0} (lists : List (List X)) → longest lists ≤ length (one_after_other lists)
longest_total [] = omega arith
longest_total (xs ∷ lists) =
    let l = length-append xs (one_after_other lists) in
    max-le (omega (arith, l)) (let h = longest_total lists in omega (arith, h, l))

pub same_joined : {X : Type 0} (turns : Bool) (lists : List (List X)) → joined turns lists ≡ taken turns lists
same_joined false lists = refl
same_joined true lists = rounds_below lists (length (one_after_other lists)) ∙ enough lists (length (one_after_other lists)) (longest_total lists)
