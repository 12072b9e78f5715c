-- Rows of all blocks: those of one block that are put at their place, and those of the blocks before.
use Rattle.std.proofs.Common.{◌≡◌, ℕ, ◌+◌, ◌-◌, ◌*◌, ◌<◌, ◌≤◌, List, ◌++◌, length, get_or, take, drop, ap, sym, subst, ◌∙◌, arith, inl, inr, length-take-le, length-take, length-drop, length-append}
use Rattle.std.proofs.lemmas.Bool.{cases_eq}
use Rattle.std.proofs.lemmas.List.{ext_get_or}
use Rattle.gf256.proofs.RowPlaces.{row_ends, rows_apart, put_at}
use Rattle.partition.specs.Fti.{Fti, block_count, encoding_count}
use Rattle.reception.specs.Symbols.{Agrees}
use Rattle.encoder.specs.Rows.{row_at}
use Rattle.encoder.specs.Rounds.{AreMade, AreMadeOf}
use Rattle.encoder.proofs.EncodedRows.{get_or-row_at, length-row_at}
use Rattle.encoder.proofs.InPasses.{row_agrees}

-- a row of a part that was put back, from row `row` on
pub row_here : (size count : ℕ) (old y end : List ℕ) (from row r : ℕ) → from ≤ length old → from ≡ row * size → length y ≡ count * size → r < count
    → row_at size (take from old ++ (y ++ end)) (row + r) ≡ row_at size y r
row_here size count old y end from row r inside at long lt =
    let ends = row_ends r count size lt in
    let apart = rows_apart row r size in
    let front : length (take from old) ≡ from = omega (arith, length-take from old, inside) in
    let whole : length (take from old ++ (y ++ end)) ≡ from + (length y + length end) = omega (arith, length-append (take from old) (y ++ end), length-append y end, front) in
    let room : size ≤ length (drop ((row + r) * size) (take from old ++ (y ++ end))) = omega (arith, length-drop ((row + r) * size) (take from old ++ (y ++ end)), whole, apart, at, ends, long) in
    let here : length (row_at size (take from old ++ (y ++ end)) (row + r)) ≡ size = length-take-le size (drop ((row + r) * size) (take from old ++ (y ++ end))) room in
    ext_get_or 0 (row_at size (take from old ++ (y ++ end)) (row + r)) (row_at size y r) (here ∙ sym (length-row_at size count y r long lt))
    (λ c lc.
    let hc : c < size = rw here at lc in
    let place : (row + r) * size + c ≡ from + (r * size + c) = omega (arith, apart, at) in
    get_or-row_at size (take from old ++ (y ++ end)) (row + r) c hc
    ∙ ap (λ (p : ℕ). get_or (take from old ++ (y ++ end)) p 0) place
    ∙ put_at old y end from (r * size + c) inside (omega (arith, ends, hc, long))
    ∙ sym (get_or-row_at size y r c hc))

-- a row before a place from which on bytes have changed
pub row_before : (size : ℕ) (old new : List ℕ) (limit i : ℕ) → length new ≡ length old → ((p : ℕ) → p < limit → get_or new p 0 ≡ get_or old p 0)
    → i * size + size ≤ limit → row_at size old i ≡ row_at size new i
row_before size old new limit i many same within =
    let long : length (row_at size old i) ≡ length (row_at size new i) =
    omega (arith, length-take size (drop (i * size) old), length-take size (drop (i * size) new), length-drop (i * size) old, length-drop (i * size) new, many) in
    ext_get_or 0 (row_at size old i) (row_at size new i) long
    (λ c lc.
    let hc : c < size = omega (arith, lc, length-take size (drop (i * size) old)) in
    get_or-row_at size old i c hc ∙ sym (same (i * size + c) (omega (arith, within, hc))) ∙ sym (get_or-row_at size new i c hc))

-- the rows of a block stand before those of a later one
pub row_of_earlier : (x b count r size : ℕ) → x < b → r < count → (x * count + r) * size + size ≤ b * (count * size)
row_of_earlier x b count r size lt lr =
    let rows = row_ends x b count lt in
    let inside : x * count + r < b * count = omega (arith, rows, lr) in
    let ends = row_ends (x * count + r) (b * count) size inside in
    let e : b * count * size ≡ b * (count * size) = omega arith in
    omega (arith, ends, e)

-- the rows of a block that was made, and of those before
pub made_more : (object : List ℕ) (f : Fti) (first count b : ℕ) (old new : List ℕ) → length new ≡ length old
    → ((p : ℕ) → p < b * (count * f.symbol_length) → get_or new p 0 ≡ get_or old p 0)
    → ((x : ℕ) → x < b → AreMadeOf object f first count x old)
    → AreMadeOf object f first count b new
    → (x : ℕ) → x < b + 1 → AreMadeOf object f first count x new
made_more object f first count b old new many same before here x lx r lr lj = elim (cases_eq x b) [
  | inl e ↦
      (let P : ℕ → Type 0 = λ v. AreMadeOf object f first count v new in
      let made : P x = subst P (sym e) here in
      made r lr lj)
  | inr ne ↦
      (let lt : x < b = omega arith in
      let row = row_before f.symbol_length old new (b * (count * f.symbol_length)) (x * count + r) many same (row_of_earlier x b count r f.symbol_length lt lr) in
      subst (λ (y : List ℕ). Agrees f object (record { block = x; esi = first + r; bytes = y })) row (before x lt r lr lj))
]

-- the symbol with an ESI that was made, as a part of the rows
pub made_at : (object : List ℕ) (f : Fti) (first count : ℕ) (rows : List ℕ) → AreMade object f first count rows → (b j from size : ℕ) → b < block_count f → from ≡ j → first ≤ j
    → j < first + count → j < encoding_count f b → size ≡ f.symbol_length
    → Agrees f object (record {
      block = b;
      esi = j;
      bytes = take ((b * count + (from - first) + 1) * size - (b * count + (from - first)) * size) (drop ((b * count + (from - first)) * size) rows);
    })
made_at object f first count rows made b j from size hb is ge lt within same =
    let e : first + (from - first) ≡ j = omega (arith, is, ge) in
    let inside : first + (from - first) < encoding_count f b = omega (arith, e, within) in
    let agrees = made b hb (from - first) (omega (arith, is, ge, lt)) inside in
    row_agrees object f b j size (b * count + (from - first)) rows same
    (subst (λ (v : ℕ). Agrees f object (record { block = b; esi = v; bytes = row_at f.symbol_length rows (b * count + (from - first)) })) e agrees)
