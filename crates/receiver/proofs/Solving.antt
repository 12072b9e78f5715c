-- A block whose last symbol came that it needs.
use Rattle.std.specs.Prelude.{is_some, option_map, filter, take, drop}
use Rattle.std.specs.Borrow.{Bor}
use Rattle.std.specs.List.{All}
use Rattle.std.proofs.Math.Path.{fun_ext}
use Rattle.std.proofs.Math.Seq.{take-length}
use Rattle.std.proofs.Common.{◌≡◌, ℕ, ◌+◌, ◌*◌, ◌<◌, ◌≤◌, ◌==◌, ◌||◌, false, List, [], ◌∷◌, ◌++◌, Option, None, length, length-append, refl, sym, ap, subst, ◌∙◌, inl, inr, arith}
use Rattle.std.proofs.lemmas.Bool.{cases_Bool, cases_lt, eq-eqb, ne_eqb, or_left}
use Rattle.std.proofs.lemmas.List.{get_or_past}
use Rattle.lists.specs.Below.{below}
use Rattle.partition.specs.Fti.{Fti, source_count, encoding_count}
use Rattle.block_recovery.specs.Arrivals.{with_esi}
use Rattle.block_recovery.specs.Blocks.{bytes_of_esi}
use Rattle.block_recovery.specs.Decoded.{IsEnoughAt, IsUnexplained, AreRows}
use Rattle.block_recovery.proofs.Kept.{with_other, count_more, count_same}
use Rattle.receiver.specs.Putting.{IsNoCode}
use Rattle.receiver.specs.Stored.{is_among, AreSymbols, IsOf, IsPending, IsSolved}
use Rattle.receiver.proofs.Among.{among_with, of_more, symbols_same}
use Rattle.receiver.proofs.Pending.{among_place, pending_some}

abbrev Symbols : Type 0
Symbols = List (Option (Bor (List ℕ)))

none_past : (esis : List ℕ) (n j : ℕ) → All (λ e. e < n) esis → n ≤ j → is_among esis j ≡ false
none_past esis n j all past = elim (cases_Bool (is_among esis j)) [
  | inl is ↦
      (let w = among_place esis j is in
      let l = all w.0 0 w.1 in
      absurd (omega (arith, l, w.2, past)))
  | inr isnt ↦ isnt
]

-- with one symbol more, one more stands
with_one : (esis : List ℕ) (n e : ℕ) → e < n → is_among esis e ≡ false
    → length (filter (λ j. e == j || is_among esis j) (below n)) ≡ length (filter (is_among esis) (below n)) + 1
with_one esis n e le free =
    count_more (is_among esis) (λ j. e == j || is_among esis j) n e le free (or_left (e == e) (is_among esis e) (eq-eqb e e refl)) (λ i ne. rw (ne_eqb e i ne) refl)

module _ (f : Fti) (b : ℕ) (esis : List ℕ) (of : IsOf f b esis) (e : ℕ) (le : e < encoding_count f b) (free : is_among esis e ≡ false)
    (last : source_count f b ≤ length esis + 1) (arr : Symbols)
    (some : (j : ℕ) → j < encoding_count f b → is_some (bytes_of_esi arr j) ≡ (e == j || is_among esis j)) where
  -- they are enough, whatever they are
  pub enough_of : IsEnoughAt f b (bytes_of_esi arr)
  enough_of =
      let n = encoding_count f b in
      let same = count_same (λ j. is_some (bytes_of_esi arr j)) (λ j. e == j || is_among esis j) n some in
      omega (arith, last, of.once, same, with_one esis n e le free)

module _ (f : Fti) (b : ℕ) (esis x : List ℕ) (at : ℕ → Option (List ℕ)) (h : IsPending f b x esis at) where
  -- what was read of the block
  pub read_symbols : (came : List ℕ) (m : ℕ) → m ≡ length esis * f.symbol_length → length came ≡ m → came ≡ take (length came) (drop 0 x) → AreSymbols f.symbol_length esis came at
  read_symbols came m is len bytes =
      let n = length esis * f.symbol_length in
      let all : length came ≡ n = len ∙ is in
      let own : came ≡ take n x = bytes ∙ ap (λ (k : ℕ). take k x) all in
      symbols_same f.symbol_length esis at x came (ap (λ (k : ℕ). take k came) (sym all) ∙ take-length came ∙ own) h.symbols

  module _ (e : ℕ) (y : List ℕ) (le : e < encoding_count f b) (free : is_among esis e ≡ false) (last : source_count f b ≤ length esis + 1) (arr : Symbols)
      (len : length arr ≡ encoding_count f b) (are : (j : ℕ) → j < encoding_count f b → bytes_of_esi arr j ≡ with_esi at e y j) where
    pub arrived : bytes_of_esi arr ≡ with_esi at e y
    arrived = fun_ext all where
      all : (j : ℕ) → bytes_of_esi arr j ≡ with_esi at e y j
      all j = elim (cases_lt j (encoding_count f b)) [
        | inl lj ↦ are j lj
        | inr past ↦
            (ap (option_map (λ (s : Bor (List ℕ)). s.now)) (get_or_past arr j None (omega (arith, past, len)))
            ∙ sym (h.symbols.others j (none_past esis (encoding_count f b) j h.of.within past))
            ∙ sym (with_other at e j y (λ is. omega (arith, is, le, past))))
      ]

    pub no_code : IsEnoughAt f b (bytes_of_esi arr) → IsUnexplained f b (bytes_of_esi arr) → IsNoCode f b at e y
    no_code enough unexplained = record {
      free = h.symbols.others e free;
      enough = subst (IsEnoughAt f b) arrived enough;
      unexplained = subst (IsUnexplained f b) arrived unexplained;
    }

    -- the source symbols in the place of those that came
    pub solved_now : (rows z : List ℕ) → AreRows f b (bytes_of_esi arr) rows → take (length rows) z ≡ rows → IsSolved f b z (esis ++ e ∷ []) (with_esi at e y)
    solved_now rows z are_rows put = record {
      of = of_more f b esis e h.of le free;
      enough = let n = length-append esis (e ∷ []) in omega (arith, n, last);
      rows =
          (let own : take (source_count f b * f.symbol_length) z ≡ rows = ap (λ (k : ℕ). take k z) (sym are_rows.count) ∙ put in
          subst (λ (g : ℕ → Option (List ℕ)). AreRows f b g (take (source_count f b * f.symbol_length) z)) arrived (rw own are_rows));
      seen = among_with at esis e y (pending_some f.symbol_length esis x at h.symbols);
    }

pub put_rows : (bytes rows z : List ℕ) → bytes ≡ rows → take (0 + length bytes) z ≡ bytes → take (length rows) z ≡ rows
put_rows bytes rows z is put =
    let all : 0 + length bytes ≡ length rows = omega (arith, ap length is) in
    ap (λ (k : ℕ). take k z) (sym all) ∙ put ∙ is
