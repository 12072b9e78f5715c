-- Symbols that came, one more, and whether any did.
use Rattle.std.specs.Prelude.{is_some, not, option_map, ◌==◌, ◌&&◌, IsNone, IfSome}
use Rattle.std.specs.Option.{unwrap_or}
use Rattle.std.specs.Borrow.{Bor}
use Rattle.std.specs.BTreeMap.{BTreeMap, get}
use Rattle.std.specs.List.{All, Contains}
use Rattle.std.specs.Ordering.{nat_cmp, is_eq}
use Rattle.std.proofs.Common.{◌≡◌, ◌≢◌, ℕ, suc, ◌+◌, ◌<◌, ◌≤◌, Bool, true, false, List, [], ◌∷◌, ◌++◌, Option, Some, None, length, get_or, set, take, refl, sym, ap, ◌∙◌, inl, inr, arith}
use Rattle.std.proofs.lemmas.Bool.{cases_eq, eq-eqb, ne_eqb}
use Rattle.std.proofs.lemmas.Grind.{get_or-set_at}
use Rattle.std.proofs.lemmas.List.{take_more, get_or-set_other, get_or_default}
use Rattle.block_recovery.specs.Blocks.{bytes_of_esi}
use Rattle.block_recovery.specs.Arrivals.{with_esi, with_arrived, arrived_at, seen_at}
use Rattle.shared_lists.specs.SharedLists.{list_at, share_of, index_of}
use Rattle.shared_lists.specs.declared.sharing.Sharing.{Sharing}
use Rattle.shared_lists.proofs.Numbers.{apart}
use Rattle.block_recovery.specs.Received.{came_at, listed}
use Rattle.block_recovery.specs.declared.symbols.Symbols.{Symbols}
use Rattle.block_recovery.specs.declared.arrivals.Arrival.{Arrival}
use Rattle.block_recovery.specs.declared.shared_arrivals.SharedArrivals.{SharedArrivals}
use Rattle.block_recovery.proofs.Index.{number_eq}
use Rattle.block_recovery.proofs.Kept.{with_here, with_other}

abbrev arrival : {S : Type 0} → ℕ → S → Arrival S
arrival j s = record { esi = j; symbol = s }

module _ {S : Type 0} (held : S → List ℕ) where
  with_arrived_more : (at : ℕ → Option (List ℕ)) (xs : List (Arrival S)) (a : Arrival S) → with_arrived held at (xs ++ a ∷ []) ≡ with_esi (with_arrived held at xs) a.esi (held a.symbol)
  with_arrived_more at [] a = refl
  with_arrived_more at (x ∷ xs) a = with_arrived_more (with_esi at x.esi (held x.symbol)) xs a

  -- one symbol more came at its ESI
  pub arrived_more : (xs : List (Arrival S)) (a : Arrival S) → arrived_at held (xs ++ a ∷ []) ≡ with_esi (arrived_at held xs) a.esi (held a.symbol)
  arrived_more xs a = with_arrived_more (λ j. None) xs a

  -- and so of those that were looked at
  pub arrived_front : (xs : List (Arrival S)) (i : ℕ) (a : Arrival S) → i < length xs → a ≡ get_or xs i a → (j : ℕ)
      → arrived_at held (take (i + 1) xs) j ≡ with_esi (arrived_at held (take i xs)) a.esi (held a.symbol) j
  arrived_front xs i a li is j =
      ap (λ (g : ℕ → Option (List ℕ)). g j)
      (ap (arrived_at held) (take_more xs i a li) ∙ ap (λ (x : Arrival S). arrived_at held (take i xs ++ x ∷ [])) (sym is) ∙ arrived_more (take i xs) a)

  module _ (xs : List (Arrival S)) (i : ℕ) (a : Arrival S) (li : i < length xs) (is : a ≡ get_or xs i a) where
    module _ (m : ℕ) (esi : m ≡ a.esi) (j : ℕ) where
      -- an ESI is marked as that of the symbol that is looked at
      pub marked : (seen : List Bool) → m < length seen → seen_at seen j ≡ is_some (arrived_at held (take i xs) j) → seen_at (set seen m true) j ≡ is_some (arrived_at held (take (i + 1) xs) j)
      marked seen lm before = rw (arrived_front xs i a li is j, ← esi) (elim (cases_eq m j) [
        | inl e ↦ rw (with_here (arrived_at held (take i xs)) m j (held a.symbol) e) (get_or-set_at seen m j true false (sym e) lm)
        | inr ne ↦ rw (with_other (arrived_at held (take i xs)) m j (held a.symbol) ne) (get_or-set_other seen m j true false (λ e. ne (sym e)) ∙ before)
      ])

      -- the symbol that is looked at is put at its ESI
      pub placed : (arr : List (Option (Bor (List ℕ)))) (y : Bor (List ℕ)) → m < length arr → y.now ≡ held a.symbol → bytes_of_esi arr j ≡ arrived_at held (take i xs) j
          → bytes_of_esi (set arr m (Some y)) j ≡ arrived_at held (take (i + 1) xs) j
      placed arr y lm bytes before = rw (arrived_front xs i a li is j, ← esi) (elim (cases_eq m j) [
        | inl e ↦
            (ap (option_map (λ (s : Bor (List ℕ)). s.now)) (get_or-set_at arr m j (Some y) None (sym e) lm) ∙ ap Some bytes
            ∙ sym (with_here (arrived_at held (take i xs)) m j (held a.symbol) e))
        | inr ne ↦
            (ap (option_map (λ (s : Bor (List ℕ)). s.now)) (get_or-set_other arr m j (Some y) None (λ e. ne (sym e))) ∙ before
            ∙ sym (with_other (arrived_at held (take i xs)) m j (held a.symbol) ne))
      ])

      -- it is none of this ESI
      pub passed_over : m ≢ j → arrived_at held (take i xs) j ≡ arrived_at held (take (i + 1) xs) j
      passed_over ne = rw (arrived_front xs i a li is j, ← esi) (sym (with_other (arrived_at held (take i xs)) m j (held a.symbol) ne))

  -- a symbol stays, whatever comes behind it
  with_some : (at : ℕ → Option (List ℕ)) (xs : List (Arrival S)) (j : ℕ) → is_some (at j) ≡ true → is_some (with_arrived held at xs j) ≡ true
  with_some at [] j some = some
  with_some at (x ∷ xs) j some = with_some (with_esi at x.esi (held x.symbol)) xs j (elim (cases_eq x.esi j) [
    | inl e ↦ ap is_some (with_here at x.esi j (held x.symbol) e)
    | inr ne ↦ (ap is_some (with_other at x.esi j (held x.symbol) ne) ∙ some)
  ])

  -- where something came, it stands at its ESI
  pub some_arrived : (xs : List (Arrival S)) → 0 < length xs → (j : ℕ) × (is_some (arrived_at held xs j) ≡ true)
  some_arrived [] some = absurd (omega (arith, some))
  some_arrived (x ∷ xs) some = (x.esi, with_some (with_esi (λ j. None) x.esi (held x.symbol)) xs x.esi (ap is_some (with_here (λ j. None) x.esi x.esi (held x.symbol) refl)))

  -- the symbol that came last stands at its ESI
  pub more_here : (xs more : List (Arrival S)) (a : Arrival S) → more ≡ xs ++ a ∷ [] → arrived_at held more a.esi ≡ Some (held a.symbol)
  more_here xs more a is =
      ap (λ (l : List (Arrival S)). arrived_at held l a.esi) is
      ∙ ap (λ (g : ℕ → Option (List ℕ)). g a.esi) (arrived_more xs a)
      ∙ with_here (arrived_at held xs) a.esi a.esi (held a.symbol) refl

  -- no symbol stands where none has its ESI
  with_past : (at : ℕ → Option (List ℕ)) (n : ℕ) (xs : List (Arrival S)) → All (λ a. a.esi < n) xs → (j : ℕ) → n ≤ j → at j ≡ None → with_arrived held at xs j ≡ None
  with_past at n [] all j lj none = none
  with_past at n (x ∷ xs) all j lj none =
      with_past (with_esi at x.esi (held x.symbol)) n xs (λ k d lk. all (suc k) d (omega (arith, lk))) j lj
      (with_other at x.esi j (held x.symbol) (λ e. let l = all 0 x (omega arith) in omega (arith, l, e, lj)) ∙ none)

  pub none_past : (n : ℕ) (xs : List (Arrival S)) → All (λ a. a.esi < n) xs → (j : ℕ) → n ≤ j → arrived_at held xs j ≡ None
  none_past n xs all j lj = with_past (λ j. None) n xs all j lj refl

-- a symbol that is looked at for an ESI
module _ {S : Type 0} (xs : List (Arrival S)) (i : ℕ) (a : Arrival S) (li : i < length xs) (is : a ≡ get_or xs i a) (esi : ℕ) where
  -- it is found
  pub found_here : a.esi ≡ esi → (held : S → List ℕ) → option_map held (Some a.symbol) ≡ arrived_at held (take (i + 1) xs) esi
  found_here e held = sym (arrived_front held xs i a li is esi ∙ with_here (arrived_at held (take i xs)) a.esi esi (held a.symbol) e)

  pub listed_here : a.esi ≡ esi → Contains xs (record { esi = esi; symbol = a.symbol })
  listed_here e =
      let found : Arrival S = record { esi = esi; symbol = a.symbol } in
      (i, li, sym (get_or_default xs i a found li) ∙ sym is ∙ ap (λ (j : ℕ). arrival {S = S} j a.symbol) e)

  -- or one before it
  pub found_before : (a.esi ≡ esi → ⊥) → (held : S → List ℕ) (found : Option S) → option_map held found ≡ arrived_at held (take i xs) esi
      → option_map held found ≡ arrived_at held (take (i + 1) xs) esi
  found_before ne held found before = before ∙ sym (arrived_front held xs i a li is esi ∙ with_other (arrived_at held (take i xs)) a.esi esi (held a.symbol) ne)

pub some_length : {A : Type 0} (xs : List A) → not (length xs == 0) ≡ true → 0 < length xs
some_length [] some = absurd (cc)
some_length (x ∷ xs) some = omega arith

-- the symbols of a block, or none where it has none
pub arrived_or : {S : Type 0} (held : S → List ℕ) (s : Symbols S) (b : ℕ) (o : Option (Bor (List (Arrival S)))) (d came : Bor (List (Arrival S))) → came ≡ unwrap_or o d → d.now ≡ []
    → (IsNone o → (h : S → List ℕ) (j : ℕ) → came_at h s b j ≡ None)
    → IfSome o (λ v. (h : S → List ℕ) (j : ℕ) → arrived_at h v.now j ≡ came_at h s b j) → (j : ℕ) → arrived_at held came.now j ≡ came_at held s b j
arrived_or {S} held s b None d came is empty none some j =
    ap (λ (l : List (Arrival S)). arrived_at held l j) (ap (λ (x : Bor (List (Arrival S))). x.now) is ∙ empty) ∙ sym (none refl held j)
arrived_or {S} held s b (Some v) d came is empty none some j = ap (λ (x : Bor (List (Arrival S))). arrived_at held x.now j) is ∙ some held j

-- where one block has one symbol more, all else is as before
pub more_elsewhere : {S : Type 0} (held : S → List ℕ) (old new : ℕ → List (Arrival S)) (block : ℕ) (a : Arrival S) → new block ≡ old block ++ a ∷ []
    → ((b : ℕ) → (block == b) ≡ false → new b ≡ old b) → (b j : ℕ) → (block == b && a.esi == j) ≡ false → arrived_at held (new b) j ≡ arrived_at held (old b) j
more_elsewhere {S} held old new block a more others b j other = elim (cases_eq block b) [
  | inr ne ↦ ap (λ (l : List (Arrival S)). arrived_at held l j) (others b (ne_eqb block b ne))
  | inl same ↦ elim (cases_eq a.esi j) [
    | inl e ↦ absurd (let t = rw (eq-eqb block b same, eq-eqb a.esi j e) at other in cc)
    | inr ne ↦ rw (← same) (
        ap (λ (l : List (Arrival S)). arrived_at held l j) more
        ∙ ap (λ (g : ℕ → Option (List ℕ)). g j) (arrived_more held (old block) a)
        ∙ with_other (arrived_at held (old block)) a.esi j (held a.symbol) ne)
  ]
]

-- what changes where the symbols of a block do, among those of the blocks that share an allocation
module _ {S : Type 0} (sharing : Sharing) (m new : BTreeMap ℕ (SharedArrivals S)) (block share index : ℕ) (at_share : share ≡ share_of sharing block) (at_index : index ≡ index_of sharing block)
    (w : SharedArrivals S) (old : ℕ → List (Arrival S)) (was : (i : ℕ) → listed (get nat_cmp m share) i ≡ old i) (is : get nat_cmp new share ≡ Some w)
    (others : (q : ℕ) → is_eq (nat_cmp share q) ≡ false → get nat_cmp new q ≡ get nat_cmp m q) (kept : (i : ℕ) → index ≢ i → list_at w.lists i ≡ old i) where
  pub list_more : (a : Arrival S) → list_at w.lists index ≡ old index ++ a ∷ []
      → listed (get nat_cmp new (share_of sharing block)) (index_of sharing block) ≡ listed (get nat_cmp m (share_of sharing block)) (index_of sharing block) ++ a ∷ []
  list_more a pushed = rw (← at_share, ← at_index) (
      ap (λ (o : Option (SharedArrivals S)). listed o index) is ∙ pushed ∙ ap (λ (l : List (Arrival S)). l ++ a ∷ []) (sym (was index)))

  pub list_others : (b : ℕ) → (block == b) ≡ false
      → listed (get nat_cmp new (share_of sharing b)) (index_of sharing b) ≡ listed (get nat_cmp m (share_of sharing b)) (index_of sharing b)
  list_others b other = elim (cases_eq share (share_of sharing b)) [
    | inr ne ↦ ap (λ (o : Option (SharedArrivals S)). listed o (index_of sharing b)) (others (share_of sharing b) (sym (number_eq share (share_of sharing b)) ∙ ne_eqb share (share_of sharing b) ne))
    | inl same ↦
        (let differs : block ≢ b = λ e. let t = rw (eq-eqb block b e) at other in cc in
        let away : index ≢ index_of sharing b = λ e. apart sharing block b differs (sym at_share ∙ same) (sym at_index ∙ e) in
        rw (← same) (
        ap (λ (o : Option (SharedArrivals S)). listed o (index_of sharing b)) is ∙ kept (index_of sharing b) away ∙ sym (was (index_of sharing b))))
  ]

  pub list_same : list_at w.lists index ≡ old index → (b : ℕ)
      → listed (get nat_cmp new (share_of sharing b)) (index_of sharing b) ≡ listed (get nat_cmp m (share_of sharing b)) (index_of sharing b)
  list_same same b = elim (cases_eq block b) [
    | inr ne ↦ list_others b (ne_eqb block b ne)
    | inl e ↦ rw (← e, ← at_share, ← at_index) (ap (λ (o : Option (SharedArrivals S)). listed o index) is ∙ same ∙ sym (was index))
  ]
