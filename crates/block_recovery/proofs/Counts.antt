-- How many of a block's symbols came, counted at their ESIs.
use Rattle.std.specs.Prelude.{filter, is_some, ◌==◌, ◌-◌}
use Rattle.std.proofs.Common.{◌≡◌, ℕ, suc, zero, ◌+◌, ◌<◌, ◌≤◌, Bool, true, false, List, [], ◌∷◌, Option, Some, None, refl, sym, ap, subst, ◌∙◌, arith, length, length-append, add-zero, add-suc}
use Rattle.std.specs.List.{AllByRecursion}
use Rattle.std.proofs.lemmas.Bool.{and_parts, or_from, eqb-true, false_from_ne_true}
use Rattle.std.proofs.lemmas.List.Elements.{filter-append}
use Rattle.lists.specs.Below.{below}
use Rattle.lists.proofs.Lists.{filter_same, all_of}
use Rattle.partition.specs.Fti.{Fti, encoding_count}
use Rattle.partition.proofs.Laws.{counts}
use Rattle.reception.specs.Symbols.{Symbol, is_of, has_arrived, arrived_count}
use Rattle.reception.specs.Within.{IsWithin}
use Rattle.block_recovery.specs.Received.{IsIndex}

parts_count : (t : ℕ → Bool) (n : ℕ) → length (filter t (below (suc n))) ≡ length (filter t (below n)) + length (filter t (n ∷ []))
unfolding below
parts_count t n = ap length (filter-append t (below n) (n ∷ [])) ∙ length-append (filter t (below n)) (filter t (n ∷ []))

-- one number more that passes
pub one_more_held : (t : ℕ → Bool) (n : ℕ) → t n ≡ true → length (filter t (below (suc n))) ≡ length (filter t (below n)) + 1
one_more_held t n h = parts_count t n ∙ rw h refl

-- one number more, which doesn't
pub none_more_held : (t : ℕ → Bool) (n : ℕ) → t n ≡ false → length (filter t (below (suc n))) ≡ length (filter t (below n))
none_more_held t n h = parts_count t n ∙ rw h (add-zero (length (filter t (below n))))

none_beyond : (t : ℕ → Bool) (n d : ℕ) → ((j : ℕ) → n ≤ j → t j ≡ false) → length (filter t (below (n + d))) ≡ length (filter t (below n))
none_beyond t n zero none = rw add-zero refl
none_beyond t n (suc d) none = rw add-suc (none_more_held t (n + d) (none (n + d) (omega arith)) ∙ none_beyond t n d none)

-- a symbol came where one stands at its block and ESI
pub held_at : (arrivals : List Symbol) (at : ℕ → ℕ → Option (List ℕ)) → IsIndex arrivals at → (b j : ℕ) (o : Option (List ℕ)) → at b j ≡ o → has_arrived arrivals b j ≡ is_some o
held_at arrivals at index b j None none = index.none b j none
held_at arrivals at index b j (Some y) some = (index.some b j y some).is_there

-- no symbol came at an ESI that the block hasn't
none_held : (f : Fti) (b j : ℕ) → encoding_count f b ≤ j → (arrivals : List Symbol) → AllByRecursion (IsWithin f) arrivals → has_arrived arrivals b j ≡ false
none_held f b j past [] within = refl
none_held f b j past (s ∷ ss) within =
    or_from _ _
    (false_from_ne_true (is_of b j s) (λ of.
    let w = and_parts (s.block == b) (s.esi == j) of in
    let block = eqb-true s.block b w.0 in
    let esi = eqb-true s.esi j w.1 in
    let here : s.esi < encoding_count f b = subst (λ (x : ℕ). s.esi < encoding_count f x) block within.0.esi in
    omega arith))
    (none_held f b j past ss within.1)

-- how many different ESIs of a block came, by what stands at the ESIs that it has
pub held_is : (f : Fti) (arrivals : List Symbol) (at : ℕ → ℕ → Option (List ℕ)) (b : ℕ) → IsIndex arrivals at → AllByRecursion (IsWithin f) arrivals
    → encoding_count f b ≤ 255 → arrived_count arrivals b ≡ length (filter (λ j. is_some (at b j)) (below (encoding_count f b)))
held_is f arrivals at b index within few =
    let t = λ (j : ℕ). is_some (at b j) in
    let n = encoding_count f b in
    let tests = filter_same (has_arrived arrivals b) t (below 256) (all_of (λ j. has_arrived arrivals b j ≡ is_some (at b j)) (λ j. held_at arrivals at index b j (at b j) refl) (below 256)) in
    let none : (j : ℕ) → n ≤ j → t j ≡ false = λ j past. sym (held_at arrivals at index b j (at b j) refl) ∙ none_held f b j past arrivals within in
    let whole : n + (256 - n) ≡ 256 = omega arith in
    ap length tests ∙ subst (λ (x : ℕ). length (filter t (below x)) ≡ length (filter t (below n))) whole (none_beyond t n (256 - n) none)

-- and so a count of them at the ESIs that it has
pub counted_held : (f : Fti) (arrivals : List Symbol) (at : ℕ → ℕ → Option (List ℕ)) (b n count : ℕ) → IsIndex arrivals at → AllByRecursion (IsWithin f) arrivals
    → n ≡ encoding_count f b → n ≤ 255 → count ≡ length (filter (λ j. is_some (at b j)) (below n)) → count ≡ arrived_count arrivals b
counted_held f arrivals at b n count index within is few counts =
    counts ∙ ap (λ (x : ℕ). length (filter (λ j. is_some (at b j)) (below x))) is ∙ sym (held_is f arrivals at b index within (omega (arith, is, few)))
