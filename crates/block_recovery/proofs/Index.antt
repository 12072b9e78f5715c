-- Symbols found by block and ESI.
use Rattle.std.specs.Prelude.{◌||◌, ◌&&◌, ◌==◌, not}
use Rattle.std.proofs.Common.{◌≡◌, ◌⊎◌, ℕ, Bool, true, false, List, [], ◌∷◌, ◌++◌, Option, Some, None, refl, sym, ap, subst, ◌∙◌, inl, inr, eqb, arith}
use Rattle.std.specs.Ordering.{is_eq, nat_cmp}
use Rattle.std.specs.List.{AllByRecursion}
use Rattle.std.specs.Cmp.Lexicographic.{pointwise}
use Rattle.std.proofs.lemmas.Bool.{cases_Bool, cases_order, or_parts, or_from, or_left, or_right, and_left, and_parts, eqb-true, eq-eqb, ne_eqb, le-ltb, lt-ltb, not-false}
use Rattle.std.proofs.lemmas.List.Folds.{list_any-append}
use Rattle.alc.proofs.Chosen.{same_is}
use Rattle.reception.specs.Symbols.{Symbol, is_of, has_arrived}
use Rattle.reception.specs.Answer.{clashes}
use Rattle.block_recovery.specs.Received.{HasBytes, IsIndex}
use Rattle.std.specs.Str.{bytes_eq as same}

pub pointwise_same : (xs ys : List ℕ) → pointwise eqb xs ys ≡ same xs ys
pointwise_same [] [] = refl
pointwise_same [] (y ∷ ys) = refl
pointwise_same (x ∷ xs) [] = refl
pointwise_same (x ∷ xs) (y ∷ ys) = refl

absorbs : (h t : Bool) → (t || (h && t)) ≡ t
absorbs h true = refl
absorbs true false = refl
absorbs false false = refl

-- whether a packet clashes, by the bytes that all symbols of its block and ESI have
clash_is : (p : Symbol) (y : List ℕ) (arrivals : List Symbol) → AllByRecursion (λ s. is_of p.block p.esi s ≡ true → s.bytes ≡ y) arrivals
    → clashes arrivals p ≡ (has_arrived arrivals p.block p.esi && not (same y p.bytes))
clash_is p y [] all = refl
clash_is p y (s ∷ ss) all = elim (cases_Bool (is_of p.block p.esi s)) [
  | inl of ↦
      (let rest = clash_is p y ss all.1 in
      let here = all.0 of in
      rw (of, here, rest) (absorbs (has_arrived ss p.block p.esi) (not (same y p.bytes))))
  | inr other ↦ (rw other (clash_is p y ss all.1))
]

no_clash : (p : Symbol) (arrivals : List Symbol) → has_arrived arrivals p.block p.esi ≡ false → clashes arrivals p ≡ false
no_clash p [] h = refl
no_clash p (s ∷ ss) h =
    let w = or_parts (is_of p.block p.esi s) (has_arrived ss p.block p.esi) h in
    or_from _ _ (and_left _ _ w.0) (no_clash p ss w.1)

pub clash_none : (p : Symbol) (arrivals : List Symbol) (at : ℕ → ℕ → Option (List ℕ)) → IsIndex arrivals at → at p.block p.esi ≡ None → false ≡ clashes arrivals p
clash_none p arrivals at index none = sym (no_clash p arrivals (index.none p.block p.esi none))

pub clash_some : (p : Symbol) (arrivals : List Symbol) (at : ℕ → ℕ → Option (List ℕ)) (y : List ℕ) → IsIndex arrivals at → at p.block p.esi ≡ Some y
    → not (pointwise eqb y p.bytes) ≡ clashes arrivals p
clash_some p arrivals at y index some =
    let c = index.some p.block p.esi y some in
    ap not (pointwise_same y p.bytes) ∙ sym (clash_is p y arrivals c.same ∙ rw c.is_there refl)

-- two numbers compare as equal where they are
pub number_eq : (x y : ℕ) → (x == y) ≡ is_eq (nat_cmp x y)
number_eq x y = elim (cases_order x y) [
  | inl same ↦ (rw (le-ltb x y (omega (arith, same)), eq-eqb x y same) refl)
  | inr (inl less) ↦ (rw (lt-ltb x y less, ne_eqb x y (λ e. omega (arith, e, less))) refl)
  | inr (inr more) ↦ (rw (le-ltb x y (omega (arith, more)), ne_eqb x y (λ e. omega (arith, e, more))) refl)
]

-- what is the case of one symbol that came, of all: the list has one more
pub record Gains (arrivals more : List Symbol) (s : Symbol) : Type 1 where
  pub is_held_more : (b j : ℕ) → has_arrived more b j ≡ (is_of b j s || has_arrived arrivals b j)
  pub all_more : (P : Symbol → Type 0) → P s → AllByRecursion P arrivals → AllByRecursion P more

all_behind : (P : Symbol → Type 0) (arrivals : List Symbol) (s : Symbol) → P s → AllByRecursion P arrivals → AllByRecursion P (arrivals ++ s ∷ [])
all_behind P [] s here rest = (here, tt)
all_behind P (x ∷ xs) s here rest = (rest.0, all_behind P xs s here rest.1)

or_swap : (x y : Bool) → (x || (y || false)) ≡ (y || x)
or_swap true true = refl
or_swap true false = refl
or_swap false true = refl
or_swap false false = refl

pub behind : (arrivals : List Symbol) (s : Symbol) → Gains arrivals (arrivals ++ s ∷ []) s
behind arrivals s = record {
  is_held_more = λ b j. list_any-append (is_of b j) arrivals (s ∷ []) ∙ or_swap (has_arrived arrivals b j) (is_of b j s);
  all_more = λ P here rest. all_behind P arrivals s here rest;
}

-- what is said of none of them
vacuous : (P : Symbol → Type 0) (b j : ℕ) (arrivals : List Symbol) → has_arrived arrivals b j ≡ false → AllByRecursion (λ s. is_of b j s ≡ true → P s) arrivals
vacuous P b j [] h = tt
vacuous P b j (s ∷ ss) h =
    let w = or_parts (is_of b j s) (has_arrived ss b j) h in
    ((λ of. absurd (cc)), vacuous P b j ss w.1)

-- the place where a symbol goes is empty or has its bytes
pub unclashed : (p : Symbol) (arrivals : List Symbol) (at : ℕ → ℕ → Option (List ℕ)) → IsIndex arrivals at → clashes arrivals p ≡ false
    → (o : Option (List ℕ)) → at p.block p.esi ≡ o → (o ≡ None) ⊎ (o ≡ Some p.bytes)
unclashed p arrivals at index free None is = inl refl
unclashed p arrivals at index free (Some y) is =
    let c = index.some p.block p.esi y is in
    let t : clashes arrivals p ≡ not (same y p.bytes) = clash_is p y arrivals c.same ∙ rw c.is_there refl in
    let e : not (same y p.bytes) ≡ false = sym t ∙ free in
    inr (ap Some (same_is y p.bytes (not-false (same y p.bytes) e)))

module _ (arrivals more : List Symbol) (s : Symbol) (gains : Gains arrivals more s) (at new : ℕ → ℕ → Option (List ℕ)) (index : IsIndex arrivals at)
    (free : (at s.block s.esi ≡ None) ⊎ (at s.block s.esi ≡ Some s.bytes)) (here : new s.block s.esi ≡ Some s.bytes)
    (elsewhere : (b j : ℕ) → is_of b j s ≡ false → new b j ≡ at b j) where
  of_parts : (b j : ℕ) → is_of b j s ≡ true → (s.block ≡ b) × (s.esi ≡ j)
  of_parts b j of = let w = and_parts (s.block == b) (s.esi == j) of in (eqb-true s.block b w.0, eqb-true s.esi j w.1)

  none_more : (b j : ℕ) → new b j ≡ None → has_arrived more b j ≡ false
  none_more b j none = elim (cases_Bool (is_of b j s)) [
    | inl of ↦ (let w = of_parts b j of in absurd (cc))
    | inr other ↦ (gains.is_held_more b j ∙ or_from _ _ other (index.none b j (sym (elsewhere b j other) ∙ none)))
  ]

  others_same : (b j : ℕ) → is_of b j s ≡ true → AllByRecursion (λ x. is_of b j x ≡ true → x.bytes ≡ s.bytes) arrivals
  others_same b j of =
      let w = of_parts b j of in
      elim free [
        | inl none ↦ (vacuous (λ x. x.bytes ≡ s.bytes) b j arrivals (index.none b j (rw w.0 at rw w.1 at none)))
        | inr some ↦ ((index.some b j s.bytes (rw w.0 at rw w.1 at some)).same)
      ]

  some_more : (b j : ℕ) (bytes : List ℕ) → new b j ≡ Some bytes → HasBytes more b j bytes
  some_more b j bytes some = elim (cases_Bool (is_of b j s)) [
    | inl of ↦
        (let w = of_parts b j of in
        let e : s.bytes ≡ bytes = (cc) in
        subst (HasBytes more b j) e record {
          is_there = gains.is_held_more b j ∙ or_left _ _ of;
          same = gains.all_more (λ x. is_of b j x ≡ true → x.bytes ≡ s.bytes) (λ _. refl) (others_same b j of);
        })
    | inr other ↦
        (let c = index.some b j bytes (sym (elsewhere b j other) ∙ some) in
        record {
          is_there = gains.is_held_more b j ∙ or_right _ _ c.is_there;
          same = gains.all_more (λ x. is_of b j x ≡ true → x.bytes ≡ bytes) (λ of. absurd (cc)) c.same;
        })
  ]

  pub index_more : IsIndex more new
  index_more = record { none = none_more; some = some_more }
