-- An object that is put together block by block.
use Rattle.std.specs.List.{AllByRecursion}
use Rattle.std.proofs.Common.{◌≡◌, ℕ, suc, ◌+◌, ◌-◌, ◌*◌, ◌<◌, ◌≤◌, List, [], ◌++◌, Option, length, min, get_or, take, get_or-take, length-take-le, length-append, arith, ap, ◌∙◌, sym, subst, refl, inl, inr}
use Rattle.std.proofs.lemmas.Bool.{cases_lt, le-leb}
use Rattle.std.proofs.Math.Nat.{mul-le-mul_right}
use Rattle.std.proofs.lemmas.List.{get_or_append_left, get_or-append-add, get_or_past}
use Rattle.lists.specs.Bytes.{AreBytes}
use Rattle.partition.specs.Fti.{Fti, IsValidFti, symbol_count, block_count, source_count, start_of, source_place, source_byte, block_bytes}
use Rattle.partition.proofs.Laws.{counts, in_object, start_step, start_end, rising_to, symbols_bounds}
use Rattle.reception.specs.Symbols.{Symbol, AllFull, IsObject}
use Rattle.reception.specs.Within.{IsWithin}
use Rattle.reception.specs.Answer as value_of
use Rattle.block_recovery.specs.Columns.{BlockColumn}
use Rattle.block_recovery.specs.Decoded.{IsEnoughAt, AreRows, IsUnexplained}
use Rattle.decoder.specs.Answered.{Answers}
use Rattle.block_recovery.specs.Received.{IsIndex}
use Rattle.block_recovery.specs.Decoded.{row_byte}
use Rattle.block_recovery.proofs.Counts.{held_is}
use Rattle.decoder.proofs.Solving.{solvable_from, solvable_gives, all_solvable, fits_only_from}

-- a block's rows have its bytes of the object
pub has_bytes : (f : Fti) (at : ℕ → Option (List ℕ)) (b : ℕ) (rows : List ℕ) → AreRows f b at rows → block_bytes f b ≤ length rows
has_bytes f at b rows made = omega (arith, made.count)

-- the object has the source symbols of the blocks before b
pub record SoFar (f : Fti) (at : ℕ → ℕ → Option (List ℕ)) (b : ℕ) (object : List ℕ) : Type 0 where
  pub count : b < block_count f → length object ≡ start_of f b * f.symbol_length
  pub whole : b ≡ block_count f → length object ≡ f.transfer_length
  pub bytes : AreBytes object
  pub columns : (a c : ℕ) → a < b → c < f.symbol_length → BlockColumn f object a (at a) c

start_zero : (f : Fti) → 0 ≡ start_of f 0 * f.symbol_length
unfolding start_of
start_zero f = omega arith

pub nothing_yet : (f : Fti) (at : ℕ → ℕ → Option (List ℕ)) → 0 < block_count f → SoFar f at 0 []
nothing_yet f at some = record {
  count = λ l. start_zero f;
  whole = λ e. absurd (omega (arith, some, e));
  bytes = λ i. omega arith;
  columns = λ a c l. absurd (omega (arith, l));
}

module _ (f : Fti) (valid : IsValidFti f) (at : ℕ → ℕ → Option (List ℕ)) (b : ℕ) (object rows front : List ℕ) (so_far : SoFar f at b object) (hb : b < block_count f)
    (made : AreRows f b (at b) rows) (is_front : front ≡ take (block_bytes f b) rows) where
  here : length object ≡ start_of f b * f.symbol_length
  here = so_far.count hb

  is : front ≡ take (min (f.transfer_length - length object) (length rows)) rows
  is = is_front ∙ ap (λ (n : ℕ). take n rows) (rw (here, made.count) refl)

  front_count : length front ≡ min (f.transfer_length - length object) (length rows)
  front_count = ap length is ∙ length-take-le (min (f.transfer_length - length object) (length rows)) rows (omega arith)

  front_here : (q : ℕ) → q < length front → get_or front q 0 ≡ get_or rows q 0
  front_here q lt =
      ap (λ (l : List ℕ). get_or l q 0) is ∙ get_or-take (min (f.transfer_length - length object) (length rows)) rows q 0 (omega (arith, lt, front_count))

  front_bytes : (q : ℕ) → get_or front q 0 < 256
  front_bytes q = elim (cases_lt q (length front)) [
    | inl lt ↦ (let e = front_here q lt in omega (arith, e, made.bytes q))
    | inr past ↦ (let e = get_or_past front q 0 past in omega (arith, e))
  ]

  count_now : suc b < block_count f → length (object ++ front) ≡ start_of f (suc b) * f.symbol_length
  count_now l =
      let sized : start_of f (suc b) * f.symbol_length ≡ (start_of f b + source_count f b) * f.symbol_length = ap (λ (n : ℕ). n * f.symbol_length) (start_step f valid b) in
      let next = in_object f valid (suc b) 0 l (omega (arith, counts f valid (suc b) l)) in
      omega (arith, length-append object front, front_count, here, made.count, sized, next)

  whole_now : suc b ≡ block_count f → length (object ++ front) ≡ f.transfer_length
  whole_now e =
      let end : start_of f (suc b) ≡ symbol_count f = ap (start_of f) e ∙ start_end f valid in
      let sized : (start_of f b + source_count f b) * f.symbol_length ≡ symbol_count f * f.symbol_length = ap (λ (n : ℕ). n * f.symbol_length) (sym (start_step f valid b) ∙ end) in
      let first = in_object f valid b 0 hb (omega (arith, counts f valid b hb)) in
      omega (arith, length-append object front, front_count, here, made.count, sized, symbols_bounds f valid, first)

  bytes_now : (q : ℕ) → get_or (object ++ front) q 0 < 256
  bytes_now q = elim (cases_lt q (length object)) [
    | inl lt ↦ (let e = get_or_append_left object front 0 q lt in omega (arith, e, so_far.bytes q))
    | inr past ↦
        (let back : length object + (q - length object) ≡ q = omega (arith, past) in
        let e : get_or (object ++ front) q 0 ≡ get_or front (q - length object) 0 =
        ap (λ (n : ℕ). get_or (object ++ front) n 0) (sym back) ∙ get_or-append-add object front (q - length object) 0 in
        omega (arith, e, front_bytes (q - length object)))
  ]

  -- the blocks before stay
  earlier_same : (a i c : ℕ) → a < b → i < source_count f a → c < f.symbol_length → source_byte f (object ++ front) a i c ≡ source_byte f object a i c
  earlier_same a i c la li lc =
      let ends : start_of f (suc a) ≤ start_of f b = rising_to f valid (suc a) b (omega (arith, la)) in
      let low : start_of f a + i + 1 ≤ start_of f b = omega (arith, ends, start_step f valid a, li) in
      let sized : (start_of f a + i + 1) * f.symbol_length ≤ start_of f b * f.symbol_length = mul-le-mul_right f.symbol_length low in
      get_or_append_left object front 0 (source_place f a i c) (omega (arith, sized, here, lc))

  -- the block's own source symbols
  own_here : (i c : ℕ) → i < source_count f b → c < f.symbol_length → source_byte f (object ++ front) b i c ≡ row_byte rows f.symbol_length c i
  own_here i c li lc =
      let place : source_place f b i c ≡ length object + (i * f.symbol_length + c) = omega (arith, here) in
      ap (λ (n : ℕ). get_or (object ++ front) n 0) place ∙ get_or-append-add object front (i * f.symbol_length + c) 0
      ∙ elim (cases_lt (i * f.symbol_length + c) (length front)) [
        | inl lt ↦ front_here (i * f.symbol_length + c) lt
        | inr past ↦
            (let sized : (i + 1) * f.symbol_length ≤ source_count f b * f.symbol_length = mul-le-mul_right f.symbol_length (omega (arith, li)) in
            let over : f.transfer_length ≤ source_place f b i c = omega (arith, past, front_count, place, made.count, sized, lc) in
            get_or_past front (i * f.symbol_length + c) 0 past ∙ sym (made.padding i c li lc over))
      ]

  column_now : (a c : ℕ) → a < suc b → c < f.symbol_length → BlockColumn f (object ++ front) a (at a) c
  column_now a c la lc = elim (cases_lt a b) [
    | inl lt ↦
        (let w = so_far.columns a c lt lc in
        record { polynomial = w.polynomial; form = w.form; source = λ i li. w.source i li ∙ sym (earlier_same a i c lt li lc); symbols = w.symbols })
    | inr past ↦
        (let same : b ≡ a = omega (arith, la, past) in
        let w = made.columns c lc in
        subst (λ (n : ℕ). BlockColumn f (object ++ front) n (at n) c) same
        (record { polynomial = w.polynomial; form = w.form; source = λ i li. w.source i li ∙ sym (own_here i c li lc); symbols = w.symbols }))
  ]

  pub one_more_block : SoFar f at (b + 1) (object ++ front)
  one_more_block =
      let e : suc b ≡ b + 1 = omega arith in
      subst (λ (n : ℕ). SoFar f at n (object ++ front)) e (record { count = count_now; whole = whole_now; bytes = bytes_now; columns = column_now })

-- all blocks are full
full_of : (f : Fti) (valid : IsValidFti f) (at : ℕ → ℕ → Option (List ℕ)) → ((b : ℕ) → b < block_count f → IsEnoughAt f b (at b))
    → (arrivals : List Symbol) → IsIndex arrivals at → AllByRecursion (IsWithin f) arrivals → AllFull f arrivals
full_of f valid at enough arrivals index within b hb =
    le-leb _ _ (omega (arith, held_is f arrivals at b index within (omega (arith, counts f valid b hb)), enough b hb))

-- the object where there are no more blocks
pub object_answers : (f : Fti) (valid : IsValidFti f) (at : ℕ → ℕ → Option (List ℕ)) (b : ℕ) (object : List ℕ) → SoFar f at b object → b ≡ block_count f
    → ((b : ℕ) → b < block_count f → IsEnoughAt f b (at b)) → Answers f at (value_of.Object object)
object_answers f valid at b object so_far end enough arrivals index within =
    let form : IsObject f object = record { count = so_far.whole end; bytes = so_far.bytes } in
    let columns = λ (a c : ℕ) (la : a < block_count f) (lc : c < f.symbol_length). so_far.columns a c (omega (arith, la, end)) lc in
    let full = full_of f valid at enough arrivals index within in
    (all_solvable f arrivals at index within object form columns, full, fits_only_from f arrivals at index within object form columns valid full)

-- a block that isn't explained, where those before it are
pub not_code_answers : (f : Fti) (valid : IsValidFti f) (at : ℕ → ℕ → Option (List ℕ)) (b : ℕ) (object : List ℕ) → SoFar f at b object → b < block_count f → IsUnexplained f b (at b)
    → ((b : ℕ) → b < block_count f → IsEnoughAt f b (at b)) → Answers f at (value_of.NotCode b)
not_code_answers f valid at b object so_far hb none enough arrivals index within =
    let first = in_object f valid b 0 hb (omega (arith, counts f valid b hb)) in
    record {
      in_range = hb;
      full = full_of f valid at enough arrivals index within b hb;
      unsolvable = λ s. none (solvable_gives f arrivals at index b s);
      least = λ a la full. solvable_from f arrivals at index a (λ c lc.
          let w = so_far.columns a c la lc in
          record {
            polynomial = w.polynomial;
            form = w.form;
            symbols = w.symbols;
            padding = λ i li past. w.source i li ∙ get_or_past object (source_place f a i c) 0 (omega (arith, past, first, so_far.count hb));
          });
    }
