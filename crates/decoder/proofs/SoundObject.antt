-- Sound blocks of which none is short are those of an object.
use Rattle.std.proofs.Common.{◌≡◌, ◌∙◌, ℕ, zero, suc, ◌+◌, ◌*◌, ◌/◌, ◌%◌, ◌<◌, ◌≤◌, List, [], ◌++◌, Option, take, refl, sym, ap, subst, inl, inr, arith}
use Rattle.std.proofs.Math.Nat.{mul-le-mul_right}
use Rattle.std.proofs.lemmas.Bool.{cases_lt}
use Rattle.std.proofs.lemmas.Nat.{div-mul-add, mod-mul-add}
use Rattle.gf256.specs.Arithmetic.{point}
use Rattle.poly.specs.Polynomial.{value}
use Rattle.partition.specs.Fti.{Fti, IsValidFti, block_bytes, block_count, source_count}
use Rattle.partition.proofs.Laws.{some_block}
use Rattle.reception.specs.Answer as value_of
use Rattle.block_code.proofs.SourceRows.{row_of, length-row_of, get_or-row_of, bytes-row_of}
use Rattle.block_recovery.specs.Columns.{ColumnExplained}
use Rattle.block_recovery.specs.Decoded.{IsEnoughAt, row_byte, AreRows}
use Rattle.decoder.specs.Answered.{Answers}
use Rattle.decoder.specs.Unsolvable.{AreSound}
use Rattle.decoder.proofs.ObjectSoFar.{SoFar, nothing_yet, one_more_block, object_answers}
use Rattle.block_recovery.proofs.Words.{values_bytes}

-- the rows of a block that polynomials explain
module _ (f : Fti) (b : ℕ) (at : ℕ → Option (List ℕ)) (explained : (c : ℕ) → c < f.symbol_length → ColumnExplained f b at c) where
  -- a column's polynomial, and some polynomial past the columns
  record OfColumn (c : ℕ) : Type 0 where
    polynomial : List ℕ
    small : (j : ℕ) → value polynomial (point j) < 256
    is : c < f.symbol_length → (e : ColumnExplained f b at c) × (e.polynomial ≡ polynomial)

  of_column : (c : ℕ) → OfColumn c
  of_column c = elim (cases_lt c f.symbol_length) [
    | inl lt ↦
        (let e = explained c lt in
        record { polynomial = e.polynomial; small = values_bytes (source_count f b) e.polynomial e.form; is = λ _. (e, refl) })
    | inr past ↦ record { polynomial = []; small = values_bytes 0 [] (record { count = refl; bytes = λ i. omega arith }); is = λ lt. absurd (omega (arith, lt, past)) }
  ]

  made : ℕ → ℕ
  made m = value (of_column (m % f.symbol_length)).polynomial (point (m / f.symbol_length))

  rows : List ℕ
  rows = row_of made (source_count f b * f.symbol_length)

  made_at : (i c : ℕ) → c < f.symbol_length → made (i * f.symbol_length + c) ≡ value (of_column c).polynomial (point i)
  unfolding made
  made_at i c lc =
      ap (λ (m : ℕ). value (of_column m).polynomial (point ((i * f.symbol_length + c) / f.symbol_length))) (mod-mul-add i f.symbol_length c lc)
      ∙ ap (λ (m : ℕ). value (of_column c).polynomial (point m)) (div-mul-add i f.symbol_length c lc)

  row_is : (i c : ℕ) → i < source_count f b → c < f.symbol_length → row_byte rows f.symbol_length c i ≡ value (of_column c).polynomial (point i)
  unfolding rows
  row_is i c li lc =
      let sized : (i + 1) * f.symbol_length ≤ source_count f b * f.symbol_length = mul-le-mul_right f.symbol_length (omega (arith, li)) in
      get_or-row_of made (source_count f b * f.symbol_length) (i * f.symbol_length + c) (omega (arith, sized, lc)) ∙ made_at i c lc

  are_rows : AreRows f b at rows
  unfolding rows made
  are_rows = record {
    count = length-row_of made (source_count f b * f.symbol_length);
    bytes = bytes-row_of made (source_count f b * f.symbol_length) (λ m. (of_column (m % f.symbol_length)).small (m / f.symbol_length));
    columns = λ c lc.
        let w = (of_column c).is lc in
        record {
          polynomial = w.0.polynomial;
          form = w.0.form;
          source = λ i li. ap (λ (p : List ℕ). value p (point i)) w.1 ∙ sym (row_is i c li lc);
          symbols = w.0.symbols;
        };
    padding = λ i c li lc past.
        let w = (of_column c).is lc in
        row_is i c li lc ∙ sym (ap (λ (p : List ℕ). value p (point i)) w.1) ∙ w.0.padding i li past;
  }

  pub rows_of : (l : List ℕ) × AreRows f b at l
  rows_of = (rows, are_rows)

module _ (f : Fti) (valid : IsValidFti f) (at : ℕ → ℕ → Option (List ℕ)) (enough : (b : ℕ) → b < block_count f → IsEnoughAt f b (at b)) (sound : AreSound f at) where
  object_below : (n : ℕ) → n ≤ block_count f → (object : List ℕ) × SoFar f at n object
  object_below zero most = ([], nothing_yet f at (some_block f valid))
  object_below (suc n) most =
      let before = object_below n (omega (arith, most)) in
      let hb : n < block_count f = omega (arith, most) in
      let made = rows_of f n (at n) (sound n hb (enough n hb)) in
      let front = take (block_bytes f n) made.0 in
      let next : n + 1 ≡ suc n = omega arith in (
        before.0 ++ front,
        subst (λ (m : ℕ). SoFar f at m (before.0 ++ front)) next (one_more_block f valid at n before.0 made.0 front before.1 hb made.1 refl),
      )

  -- the object that they answer
  pub sound_object : (object : List ℕ) × Answers f at (value_of.Object object)
  sound_object =
      let w = object_below (block_count f) (omega arith) in
      (w.0, object_answers f valid at (block_count f) w.0 w.1 refl enough)
