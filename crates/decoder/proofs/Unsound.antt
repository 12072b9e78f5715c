-- What each listed block's being sound says of all blocks.
use Rattle.std.specs.Prelude.{Option, Some, None, is_some, filter, IfSome, IsNone}
use Rattle.std.proofs.Common.{◌≡◌, ℕ, zero, suc, ◌+◌, ◌<◌, ◌≤◌, Bool, true, List, sym, ap, subst, ◌∙◌, inl, inr, arith, length, get_or}
use Rattle.std.specs.List.{AllByRecursion}
use Rattle.std.proofs.lemmas.Bool.{cases_Bool, cases_eq, le-leb, leb-true}
use Rattle.lists.specs.Below.{below}
use Rattle.partition.specs.Fti.{Fti, IsValidFti, block_count, source_count, encoding_count}
use Rattle.partition.proofs.Laws.{counts}
use Rattle.reception.specs.Symbols.{Symbol, arrived_count, is_full, Solvable, FullSolvable, IsFirstUnsolvable}
use Rattle.reception.specs.Within.{IsWithin}
use Rattle.block_recovery.specs.Columns.{ColumnExplained}
use Rattle.block_recovery.specs.Decoded.{AreRows, IsEnoughAt}
use Rattle.decoder.specs.Answered.{Stand}
use Rattle.block_recovery.specs.Received.{IsIndex}
use Rattle.decoder.specs.Unsolvable.{IsSound, IsUnsound, SomeUnsound}
use Rattle.block_recovery.proofs.Counts.{held_is, none_more_held}
use Rattle.block_recovery.specs.Listed.{Stands}
use Rattle.decoder.proofs.Solving.{solvable_from, solvable_gives}
use Rattle.block_recovery.proofs.Those.{none_below}

-- the polynomials of the rows' columns explain the block
pub rows_explain : (f : Fti) (b : ℕ) (at : ℕ → Option (List ℕ)) (rows : List ℕ) → AreRows f b at rows → (c : ℕ) → c < f.symbol_length → ColumnExplained f b at c
rows_explain f b at rows are c hc =
    let w = are.columns c hc in
    record {
      polynomial = w.polynomial;
      form = w.form;
      symbols = w.symbols;
      padding = λ i hi past. w.source i hi ∙ are.padding i c hi hc past;
    }

-- below what is below the least so far
less_all : (least : Option ℕ) (x y : ℕ) → IfSome least (λ a. y < a) → x < y → IfSome least (λ a. x < a)
less_all None x y below lt = tt
less_all (Some a) x y below lt = omega (arith, below, lt)

-- the blocks looked at, of which the least isn't sound
pub record LeastSoFar (f : Fti) (at : ℕ → ℕ → Option (List ℕ)) (blocks : List ℕ) (n : ℕ) (least : Option ℕ) : Type 0 where
  pub unsound : IfSome least (IsUnsound f at)
  pub sound : (i : ℕ) → i < n → IfSome least (λ a. get_or blocks i 0 < a) → IsSound f at (get_or blocks i 0)

module _ (f : Fti) (at : ℕ → ℕ → Option (List ℕ)) (blocks : List ℕ) (n : ℕ) (least : Option ℕ) (so_far : LeastSoFar f at blocks n least) where
  -- one more that is sound where it's below
  pub least_stays : (IfSome least (λ a. get_or blocks n 0 < a) → IsSound f at (get_or blocks n 0)) → LeastSoFar f at blocks (n + 1) least
  least_stays sound = record {
    unsound = so_far.unsound;
    sound = λ i li below. elim (cases_eq i n) [
      | inl e ↦ subst (λ (j : ℕ). IsSound f at (get_or blocks j 0)) (sym e) (sound (subst (λ (j : ℕ). IfSome least (λ a. get_or blocks j 0 < a)) e below))
      | inr ne ↦ so_far.sound i (omega (arith, li, ne)) below
    ];
  }

  -- one more that is below, and isn't sound
  pub least_falls : IfSome least (λ a. get_or blocks n 0 < a) → IsUnsound f at (get_or blocks n 0) → LeastSoFar f at blocks (n + 1) (Some (get_or blocks n 0))
  least_falls below unsound = record {
    unsound = unsound;
    sound = λ i li less. elim (cases_eq i n) [
      | inl e ↦ (let same : get_or blocks i 0 ≡ get_or blocks n 0 = ap (λ (j : ℕ). get_or blocks j 0) e in absurd (omega (arith, same, less)))
      | inr ne ↦ so_far.sound i (omega (arith, li, ne)) (less_all least (get_or blocks i 0) (get_or blocks n 0) below less)
    ];
  }

-- too few came of a block
pub sound_short : (f : Fti) (at : ℕ → ℕ → Option (List ℕ)) (b n have : ℕ) → n ≡ encoding_count f b → have ≡ length (filter (λ j. is_some (at b j)) (below n)) → have < source_count f b → IsSound f at b
sound_short f at b n have is counted short enough =
    let same = counted ∙ ap (λ (x : ℕ). length (filter (λ j. is_some (at b j)) (below x))) is in
    absurd (omega (arith, same, short, enough))

pub enough_counted : (f : Fti) (at : ℕ → ℕ → Option (List ℕ)) (b n have : ℕ) → n ≡ encoding_count f b → have ≡ length (filter (λ j. is_some (at b j)) (below n)) → source_count f b ≤ have → IsEnoughAt f b (at b)
enough_counted f at b n have is counted enough =
    let same = counted ∙ ap (λ (x : ℕ). length (filter (λ j. is_some (at b j)) (below x))) is in
    omega (arith, same, enough)

pub some_explain : {V : Type 0} (items : V → List ℕ) (f : Fti) (b : ℕ) (at : ℕ → Option (List ℕ)) (o : Option V) → IfSome o (λ v. AreRows f b at (items v)) → is_some o ≡ true
    → (c : ℕ) → c < f.symbol_length → ColumnExplained f b at c
some_explain items f b at None rows some = absurd (cc)
some_explain items f b at (Some v) rows some = rows_explain f b at (items v) rows

-- where some numbers pass, one does
one_passes : (t : ℕ → Bool) (n : ℕ) → 0 < length (filter t (below n)) → (j : ℕ) × (t j ≡ true)
one_passes t zero some = absurd (omega (arith, some, none_below t))
one_passes t (suc n) some = elim (cases_Bool (t n)) [
  | inl passes ↦ (n, passes)
  | inr other ↦ one_passes t n (omega (arith, some, none_more_held t n other))
]

module _ (f : Fti) (valid : IsValidFti f) (arrivals : List Symbol) (at : ℕ → ℕ → Option (List ℕ)) (index : IsIndex arrivals at) (within : AllByRecursion (IsWithin f) arrivals) where
  held_at_esis : (b : ℕ) → b < block_count f → arrived_count arrivals b ≡ length (filter (λ j. is_some (at b j)) (below (encoding_count f b)))
  held_at_esis b hb = held_is f arrivals at b index within (counts f valid b hb).2

  enough_of_full : (b : ℕ) → b < block_count f → is_full f arrivals b ≡ true → IsEnoughAt f b (at b)
  enough_of_full b hb full = let l = leb-true (source_count f b) (arrived_count arrivals b) full in omega (arith, l, held_at_esis b hb)

  pub full_of_enough : (b : ℕ) → b < block_count f → IsEnoughAt f b (at b) → is_full f arrivals b ≡ true
  full_of_enough b hb enough = le-leb (source_count f b) (arrived_count arrivals b) (omega (arith, enough, held_at_esis b hb))

  -- something came of a full block
  something : (b : ℕ) → b < block_count f → is_full f arrivals b ≡ true → (j : ℕ) × (is_some (at b j) ≡ true)
  something b hb full = one_passes (λ j. is_some (at b j)) (encoding_count f b) (omega (arith, enough_of_full b hb full, (counts f valid b hb).0))

  module _ (blocks : List ℕ) (all : (b j : ℕ) → is_some (at b j) ≡ true → Stands blocks b) where
    -- a full block is solvable where it's below the least that isn't sound
    solvable_below : (o : Option ℕ) → ((i : ℕ) → i < length blocks → IfSome o (λ x. get_or blocks i 0 < x) → IsSound f at (get_or blocks i 0))
        → (a : ℕ) → a < block_count f → IfSome o (λ x. a < x) → is_full f arrivals a ≡ true → Solvable f arrivals a
    solvable_below o sound a ha before full =
        let w = something a ha full in
        let s = all a w.0 w.1 in
        let here = sound s.0 s.1 (subst (λ (x : ℕ). IfSome o (λ y. x < y)) (sym s.2) before) in
        solvable_from f arrivals at index a (subst (IsSound f at) s.2 here (enough_of_full a ha full))

    all_sound : (o : Option ℕ) → ((i : ℕ) → i < length blocks → IfSome o (λ x. get_or blocks i 0 < x) → IsSound f at (get_or blocks i 0))
        → IsNone o → FullSolvable f arrivals
    all_sound None sound none = λ b hb full. solvable_below None sound b hb tt full
    all_sound (Some b) sound none = absurd (cc)

    first_is : (b : ℕ) → IsUnsound f at b → ((i : ℕ) → i < length blocks → get_or blocks i 0 < b → IsSound f at (get_or blocks i 0))
        → IsFirstUnsolvable f arrivals b
    first_is b unsound sound = record {
      in_range = unsound.in_range;
      full = full_of_enough b unsound.in_range unsound.enough;
      unsolvable = λ solvable. unsound.unexplained (solvable_gives f arrivals at index b solvable);
      least = λ a less full. solvable_below (Some b) sound a (let r = unsound.in_range in omega (arith, less, r)) less full;
    }

-- what each listed block's being sound says, of any list of the symbols
module _ (f : Fti) (valid : IsValidFti f) (at : ℕ → ℕ → Option (List ℕ)) (blocks : List ℕ) (all : (b j : ℕ) → is_some (at b j) ≡ true → Stands blocks b) where
  pub none_gives : (o : Option ℕ) → LeastSoFar f at blocks (length blocks) o → IsNone o
      → (arrivals : List Symbol) → IsIndex arrivals at → AllByRecursion (IsWithin f) arrivals → FullSolvable f arrivals
  none_gives o so_far none arrivals index within = all_sound f valid arrivals at index within blocks all o so_far.sound none

  pub some_gives : (o : Option ℕ) → LeastSoFar f at blocks (length blocks) o
      → IfSome o (λ b. (arrivals : List Symbol) → IsIndex arrivals at → AllByRecursion (IsWithin f) arrivals → IsFirstUnsolvable f arrivals b)
  some_gives (Some b) so_far = λ arrivals index within. first_is f valid arrivals at index within blocks all b so_far.unsound so_far.sound
  some_gives None so_far = tt

-- where each full block is solvable, none is unsound
pub none_unsound : (f : Fti) → IsValidFti f → (at : ℕ → ℕ → Option (List ℕ)) (s : Stand f at) → SomeUnsound f at → FullSolvable f s.arrivals → ⊥
none_unsound f valid at s some solvable =
    let (b, unsound) = some in
    unsound.unexplained (solvable_gives f s.arrivals at s.index b
    (solvable b unsound.in_range (full_of_enough f valid s.arrivals at s.index s.within b unsound.in_range unsound.enough)))
