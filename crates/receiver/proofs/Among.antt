-- The symbols of a block that stand in its bytes one behind the other.
use Rattle.std.specs.Prelude.{filter, is_some, slice_index, Result, Ok, Err, OnOk, OnErr, ⊤}
use Rattle.std.proofs.Math.Seq.{drop-append_seam, take-append_seam}
use Rattle.std.proofs.Common.{◌≡◌, ◌≢◌, ℕ, zero, suc, ◌+◌, ◌*◌, ◌<◌, ◌≤◌, ◌==◌, ◌||◌, true, false, List, [], ◌∷◌, ◌++◌, Option, Some, None, length, take, drop, refl, sym, ap, subst, ◌∙◌, inl, inr, arith, length-append}
use Rattle.std.proofs.lemmas.Bool.{cases_Bool, cases_eq, cases_lt, lt-leb, or_parts, or_left, or_right, eqb-false, eq-eqb, ne_eqb}
use Rattle.std.proofs.lemmas.List.{take-take, drop-take, length-take-le, length-take}
use Rattle.std.proofs.lemmas.List.Elements.{All-append}
use Rattle.std.proofs.lemmas.Nat.{mul-lt}
use Rattle.lists.specs.Below.{below}
use Rattle.lists.proofs.Lists.{at_old, at_end}
use Rattle.partition.specs.Fti.{Fti, source_count, encoding_count}
use Rattle.block_recovery.specs.Arrivals.{with_esi}
use Rattle.block_recovery.proofs.Kept.{with_here, with_other, count_more, count_none}
use Rattle.receiver.specs.Stored.{is_among, is_solved, symbol_in, AreSymbols, IsOf, IsPending, IsStored}
use Rattle.receiver.specs.declared.receiver.FeedFault.{FeedFault}
use Rattle.receiver.proofs.Pending.{among_place}

-- ---- among ESIs

pub among_at : (esis : List ℕ) (i : ℕ) → i < length esis → is_among esis (slice_index esis i) ≡ true
among_at [] i li = absurd (omega (arith, li))
among_at (e ∷ esis) zero li = or_left (e == e) (is_among esis e) (eq-eqb e e refl)
among_at (e ∷ esis) (suc i) li = or_right (e == slice_index esis i) (is_among esis (slice_index esis i)) (among_at esis i (omega (arith, li)))

pub none_among : (esis : List ℕ) (j : ℕ) → ((i : ℕ) → i < length esis → slice_index esis i ≢ j) → is_among esis j ≡ false
none_among esis j none = elim (cases_Bool (is_among esis j)) [
  | inl is ↦ (let w = among_place esis j is in absurd (none w.0 w.1 w.2))
  | inr isnt ↦ isnt
]

pub among_more : (esis : List ℕ) (e j : ℕ) → is_among (esis ++ e ∷ []) j ≡ (e == j || is_among esis j)
among_more [] e j = refl
among_more (x ∷ esis) e j = elim (cases_Bool (x == j)) [
  | inl here ↦ (or_left (x == j) (is_among (esis ++ e ∷ []) j) here ∙ sym (or_right (e == j) (x == j || is_among esis j) (or_left (x == j) (is_among esis j) here)))
  | inr other ↦ rw (other, among_more esis e j) refl
]

-- with a symbol at an ESI, that ESI is among those at which one stands
pub among_with : (at : ℕ → Option (List ℕ)) (esis : List ℕ) (e : ℕ) (y : List ℕ) → ((j : ℕ) → is_some (at j) ≡ is_among esis j) → (j : ℕ) → is_among (esis ++ e ∷ []) j ≡ is_some (with_esi at e y j)
among_with at esis e y is j = among_more esis e j ∙ elim (cases_eq e j) [
  | inl same ↦ (or_left (e == j) (is_among esis j) (eq-eqb e j same) ∙ sym (ap is_some (with_here at e j y same)))
  | inr ne ↦ (rw (ne_eqb e j ne) refl ∙ sym (is j) ∙ sym (ap is_some (with_other at e j y ne)))
]

-- ---- in the bytes

-- a symbol is the same where the bytes are up to its end
pub same_symbol : (size i m : ℕ) (x y : List ℕ) → i * size + size ≤ m → take m y ≡ take m x → symbol_in size y i ≡ symbol_in size x i
same_symbol size i m x y inside same =
    let end = i * size + size in
    sym (drop-take (i * size) size y)
    ∙ ap (drop (i * size)) (sym (take-take end m y inside) ∙ ap (take end) same ∙ take-take end m x inside)
    ∙ drop-take (i * size) size x

-- and it is what was put there
pub symbol_put : (size n : ℕ) (x y s : List ℕ) → length s ≡ size → n * size ≤ length x → take (n * size + length s) y ≡ take (n * size) x ++ s → symbol_in size y n ≡ s
symbol_put size n x y s len whole put =
    let front : length (take (n * size) x) ≡ n * size = length-take-le (n * size) x whole in
    sym (drop-take (n * size) size y)
    ∙ ap (λ (k : ℕ). drop (n * size) (take (n * size + k) y)) (sym len)
    ∙ ap (drop (n * size)) put
    ∙ ap (λ (k : ℕ). drop k (take (n * size) x ++ s)) (sym front)
    ∙ drop-append_seam (take (n * size) x) s

pub put_front : (m : ℕ) (x y s : List ℕ) → m ≤ length x → take (m + length s) y ≡ take m x ++ s → take m y ≡ take m x
put_front m x y s whole put =
    let front : length (take m x) ≡ m = length-take-le m x whole in
    sym (take-take m (m + length s) y (omega arith)) ∙ ap (take m) put
    ∙ ap (λ (k : ℕ). take k (take m x ++ s)) (sym front) ∙ take-append_seam (take m x) s

pub put_long : (m : ℕ) (x y s : List ℕ) → m ≤ length x → take (m + length s) y ≡ take m x ++ s → m + length s ≤ length y
put_long m x y s whole put =
    let len = ap length put ∙ length-append (take m x) s in
    let front : length (take m x) ≡ m = length-take-le m x whole in
    let most = length-take (m + length s) y in
    omega (arith, len, front, most)

below_place : (i n size : ℕ) → i < n → i * size + size ≤ n * size
below_place i n size li = ring_le i n size li
  where
    ring_le : (i n size : ℕ) → i < n → i * size + size ≤ n * size
    ring_le i zero size li = absurd (omega (arith, li))
    ring_le i (suc n) size li = elim (cases_eq i n) [
      | inl e ↦ (let w : i * size ≡ n * size = ap (λ (k : ℕ). k * size) e in omega (arith, w))
      | inr ne ↦ (let w = ring_le i n size (omega (arith, li, ne)) in omega (arith, w))
    ]

module _ (size : ℕ) (esis : List ℕ) (at : ℕ → Option (List ℕ)) where
  -- bytes behind the symbols say nothing
  pub symbols_same : (x y : List ℕ) → take (length esis * size) y ≡ take (length esis * size) x → AreSymbols size esis x at → AreSymbols size esis y at
  symbols_same x y same h = record {
    whole =
        (let a = length-take (length esis * size) y in
        let b : length (take (length esis * size) y) ≡ length esis * size = ap length same ∙ length-take-le (length esis * size) x h.whole in
        omega (arith, a, b));
    came = λ i li. h.came i li ∙ ap Some (sym (same_symbol size i (length esis * size) x y (below_place i (length esis) size li) same));
    others = h.others;
  }

  -- one symbol more
  pub symbols_more : (x y s : List ℕ) (e : ℕ) → is_among esis e ≡ false → length s ≡ size → take (length esis * size + length s) y ≡ take (length esis * size) x ++ s
      → AreSymbols size esis x at → AreSymbols size (esis ++ e ∷ []) y (with_esi at e s)
  symbols_more x y s e free len put h =
      let n = length esis in
      let front = put_front (n * size) x y s h.whole put in
      let count : length (esis ++ e ∷ []) ≡ n + 1 = length-append esis (e ∷ []) in
      record {
        whole =
            (let long = put_long (n * size) x y s h.whole put in
            let w : length (esis ++ e ∷ []) * size ≡ (n + 1) * size = ap (λ (k : ℕ). k * size) count in
            let v : (n + 1) * size ≡ n * size + size = omega arith in
            omega (arith, long, len, w, v));
        came = λ i li. elim (cases_lt i n) [
          | inl old ↦
              (let here : slice_index (esis ++ e ∷ []) i ≡ slice_index esis i = at_old esis e 0 i old in
              let differs : e ≢ slice_index esis i = λ is. absurd (both i old is) in
              ap (with_esi at e s) here ∙ with_other at e (slice_index esis i) s differs
              ∙ h.came i old ∙ ap Some (sym (same_symbol size i (n * size) x y (below_place i n size old) front)))
          | inr last ↦
              (let is : i ≡ n = omega (arith, last, li, count) in
              let here : slice_index (esis ++ e ∷ []) i ≡ e = at_end esis e 0 i (omega (arith, is)) in
              ap (with_esi at e s) here ∙ with_here at e e s refl
              ∙ ap Some (sym (symbol_put size n x y s len h.whole put)) ∙ ap (λ (k : ℕ). Some (symbol_in size y k)) (sym is))
        ];
        others = λ j none.
            (let w = or_parts (e == j) (is_among esis j) (sym (among_more esis e j) ∙ none) in
            with_other at e j s (eqb-false e j w.0) ∙ h.others j w.1);
      } where
        both : (i : ℕ) → i < length esis → e ≡ slice_index esis i → ⊥
        both i li is = let a = among_at esis i li in let b = ap (is_among esis) is in absurd (cc)

-- ---- a block

pub among_one_more : (esis : List ℕ) (n e : ℕ) → e < n → is_among esis e ≡ false
    → length (filter (is_among (esis ++ e ∷ [])) (below n)) ≡ length (filter (is_among esis) (below n)) + 1
among_one_more esis n e le free =
    count_more (is_among esis) (is_among (esis ++ e ∷ [])) n e le free (among_more esis e e ∙ or_left (e == e) (is_among esis e) (eq-eqb e e refl))
    (λ i ne. among_more esis e i ∙ rw (ne_eqb e i ne) refl)

-- a block's ESIs with one more
pub of_more : (f : Fti) (b : ℕ) (esis : List ℕ) (e : ℕ) → IsOf f b esis → e < encoding_count f b → is_among esis e ≡ false → IsOf f b (esis ++ e ∷ [])
of_more f b esis e h le free = record {
  within = All-append (λ (x : ℕ). x < encoding_count f b) esis (e ∷ []) h.within (λ k d lk. let z : k ≡ 0 = omega (arith, lk) in rw z le);
  once = length-append esis (e ∷ []) ∙ ap (λ (n : ℕ). n + 1) h.once ∙ sym (among_one_more esis (encoding_count f b) e le free);
}

-- where one more was kept, or none, the ESIs are still the block's
pub of_kept : (f : Fti) (b : ℕ) (old new : List ℕ) (e : ℕ) (r : Result ⊤ FeedFault) → OnOk r (new ≡ old ++ e ∷ []) → OnErr r (new ≡ old) → IsOf f b old → e < encoding_count f b → is_among old e ≡ false → IsOf f b new
of_kept f b old new e (Ok x) kept same h within free = subst (IsOf f b) (sym kept) (of_more f b old e h within free)
of_kept f b old new e (Err x) kept same h within free = subst (IsOf f b) (sym same) h

-- and where they are too few with it, the block is solved neither before nor now
pub too_few_kept : (f : Fti) (b : ℕ) (old new : List ℕ) (e : ℕ) (r : Result ⊤ FeedFault) → OnOk r (new ≡ old ++ e ∷ []) → OnErr r (new ≡ old) → length old + 1 < source_count f b → is_solved f b new ≡ is_solved f b old
too_few_kept f b old new e (Ok x) kept same few =
    lt-leb (source_count f b) (length new) (omega (arith, ap length kept, length-append old (e ∷ []), few)) ∙ sym (lt-leb (source_count f b) (length old) (omega (arith, few)))
too_few_kept f b old new e (Err x) kept same few = ap (is_solved f b) same

pub pending_more : (f : Fti) (b : ℕ) (esis x y s : List ℕ) (at : ℕ → Option (List ℕ)) (e : ℕ) → IsPending f b x esis at → e < encoding_count f b → is_among esis e ≡ false → length esis + 1 < source_count f b
    → length s ≡ f.symbol_length → take (length esis * f.symbol_length + length s) y ≡ take (length esis * f.symbol_length) x ++ s → IsPending f b y (esis ++ e ∷ []) (with_esi at e s)
pending_more f b esis x y s at e h le free few len put = record {
  of = of_more f b esis e h.of le free;
  few = let n = length-append esis (e ∷ []) in omega (arith, n, few);
  symbols = symbols_more f.symbol_length esis at x y s e free len put h.symbols;
}

-- of a block of which nothing came
pub of_none : (f : Fti) (b : ℕ) → IsOf f b []
of_none f b = record {
  within = λ k d lk. absurd (omega (arith, lk));
  once = sym (count_none (is_among []) (encoding_count f b) (λ j. refl));
}

pub stored_none : (f : Fti) (b : ℕ) (x : List ℕ) (at : ℕ → Option (List ℕ)) → 1 ≤ source_count f b → ((j : ℕ) → at j ≡ None) → IsStored f b x [] at
stored_none f b x at some none = inl record {
  of = of_none f b;
  few = omega (arith, some);
  symbols = record { whole = omega arith; came = λ i li. absurd (omega (arith, li)); others = λ j _. none j };
}

-- a symbol's place in memory
pub place_fits : (i size : ℕ) → i < 256 → size < 65536 → i * size < 18446744073709551616
place_fits i size li ls = let w = mul-lt i size 256 65536 li ls in omega (arith, w)
