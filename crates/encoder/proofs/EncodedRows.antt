-- Encoding symbols that stand one behind the other: source symbols, and then repair symbols.
use Rattle.std.proofs.Common.{◌≡◌, ℕ, ◌+◌, ◌-◌, ◌*◌, ◌<◌, ◌≤◌, List, ◌++◌, length, get_or, take, drop, ap, sym, subst, ◌∙◌, arith, length-take-le, length-drop, length-append, get_or-take}
use Rattle.std.proofs.lemmas.List.{get_or_append_left, get_or-append_right, get_or-drop}
use Rattle.lists.specs.Bytes.{AreBytes}
use Rattle.gf256.specs.Arithmetic.{product}
use Rattle.gf256.specs.ByteSums.{byte_sum}
use Rattle.gf256.proofs.SliceSums.{sum_same}
use Rattle.gf256.proofs.RowPlaces.{row_ends, rows_apart}
use Rattle.partition.specs.Fti.{Fti, block_count, source_count, encoding_count, source_byte}
use Rattle.elim.specs.Grid.{Grid}
use Rattle.reception.specs.Symbols.{Agrees}
use Rattle.block_code.specs.CodesOf.{IsCodeOf}
use Rattle.encoder.specs.Rows.{row_at}
use Rattle.block_code.specs.Columns.{AreColumns}
use Rattle.block_code.proofs.ColumnPlaces.{column_product}
use Rattle.encoder.proofs.Columns.{made_agrees, source_agrees}

-- a byte of a row
pub get_or-row_at : (size : ℕ) (rows : List ℕ) (r c : ℕ) → c < size → get_or (row_at size rows r) c 0 ≡ get_or rows (r * size + c) 0
get_or-row_at size rows r c lt = get_or-take size (drop (r * size) rows) c 0 lt ∙ get_or-drop (r * size) rows c 0

pub length-row_at : (size m : ℕ) (rows : List ℕ) (r : ℕ) → length rows ≡ m * size → r < m → length (row_at size rows r) ≡ size
length-row_at size m rows r long lt =
    let ends = row_ends r m size lt in
    length-take-le size (drop (r * size) rows) (omega (arith, length-drop (r * size) rows, long, ends))

-- the rows of a place in a slice
pub row_between : (size : ℕ) (rows : List ℕ) (r : ℕ) → take ((r + 1) * size - r * size) (drop (r * size) rows) ≡ row_at size rows r
row_between size rows r = let e : (r + 1) * size - r * size ≡ size = omega arith in ap (λ (n : ℕ). take n (drop (r * size) rows)) e

module _ (f : Fti) (object : List ℕ) (b : ℕ) (g : Grid ℕ) (code : IsCodeOf f b g) (bytes : AreBytes object) (hb : b < block_count f)
    (s rest : List ℕ) (first m count : ℕ) (front : length s ≡ m * f.symbol_length) (back : length rest ≡ (count - m) * f.symbol_length) (le : m ≤ count) where
  both_long : length (s ++ rest) ≡ count * f.symbol_length
  both_long =
      let e : m + (count - m) ≡ count = omega arith in
      let split = rows_apart m (count - m) f.symbol_length in
      let whole : (m + (count - m)) * f.symbol_length ≡ count * f.symbol_length = ap (λ (v : ℕ). v * f.symbol_length) e in
      omega (arith, length-append s rest, front, back, split, whole)

  pub source_row : (from : List ℕ) (r : ℕ) → r < m → first + m ≤ source_count f b
      → ((p : ℕ) → p < length s → get_or s p 0 ≡ get_or from p 0)
      → ((i c : ℕ) → i < m → c < f.symbol_length → get_or from (i * f.symbol_length + c) 0 ≡ source_byte f object b (first + i) c)
      → Agrees f object (record { block = b; esi = first + r; bytes = row_at f.symbol_length (s ++ rest) r })
  source_row from r lr within copied is =
      let ends = row_ends r m f.symbol_length lr in
      source_agrees f object b g code bytes (first + r) (row_at f.symbol_length (s ++ rest) r) hb (omega arith)
      (length-row_at f.symbol_length count (s ++ rest) r both_long (omega arith))
      (λ c hc.
      let inside : r * f.symbol_length + c < length s = omega (arith, front, ends, hc) in
      get_or-row_at f.symbol_length (s ++ rest) r c hc
      ∙ get_or_append_left s rest 0 (r * f.symbol_length + c) inside
      ∙ copied (r * f.symbol_length + c) inside ∙ is r c lr hc)

  pub repair_row : (columns part : List ℕ) (r : ℕ) → m ≤ r → r < count → first + count ≤ encoding_count f b → AreBytes columns → AreColumns g columns
      → ((i : ℕ) → i < source_count f b → get_or part ((r - m) * source_count f b + i) 0 ≡ get_or columns ((first + r) * source_count f b + i) 0)
      → ((c : ℕ) → c < f.symbol_length → get_or rest ((r - m) * f.symbol_length + c) 0
      ≡ byte_sum (source_count f b) (λ i. product (get_or part ((r - m) * source_count f b + i) 0) (source_byte f object b i c)))
      → Agrees f object (record { block = b; esi = first + r; bytes = row_at f.symbol_length (s ++ rest) r })
  repair_row columns part r ge lr within fits are part_is sums =
      let k = source_count f b in
      let e : m + (r - m) ≡ r = omega arith in
      let split = rows_apart m (r - m) f.symbol_length in
      let whole : (m + (r - m)) * f.symbol_length ≡ r * f.symbol_length = ap (λ (v : ℕ). v * f.symbol_length) e in
      let inside : first + r < encoding_count f b = omega arith in
      let column : first + r < g.cols = rw code.cols inside in
      made_agrees f object b g code bytes (first + r) (row_at f.symbol_length (s ++ rest) r) hb inside
      (length-row_at f.symbol_length count (s ++ rest) r both_long lr)
      (λ c hc.
      let past : length s ≤ r * f.symbol_length + c = omega (arith, front, split, whole) in
      let place : r * f.symbol_length + c - m * f.symbol_length ≡ (r - m) * f.symbol_length + c = omega (arith, split, whole) in
      get_or-row_at f.symbol_length (s ++ rest) r c hc
      ∙ get_or-append_right s rest (m * f.symbol_length) (r * f.symbol_length + c) 0 front (omega (arith, front, past))
      ∙ ap (λ (p : ℕ). get_or rest p 0) place
      ∙ sums c hc
      ∙ sum_same k (λ i. product (get_or part ((r - m) * source_count f b + i) 0) (source_byte f object b i c)) (λ i. product (get_or columns ((first + r) * source_count f b + i) 0) (source_byte f object b i c))
      (λ i li. ap (λ (v : ℕ). product v (source_byte f object b i c)) (part_is i li))
      ∙ column_product g columns (λ i. source_byte f object b i c) (source_count f b) (first + r) fits are code.rows column (λ i. bytes _))

-- a part of the columns
column_in_part : (columns : List ℕ) (k first m count r i : ℕ) → m ≤ r → r < count → i < k → (first + count) * k ≤ length columns
    → get_or (take ((first + count) * k - (first + m) * k) (drop ((first + m) * k) columns)) ((r - m) * k + i) 0 ≡ get_or columns ((first + r) * k + i) 0
column_in_part columns k first m count r i ge lr li room =
    let ends = row_ends (r - m) (count - m) k (omega arith) in
    let e : first + m + (count - m) ≡ first + count = omega arith in
    let split = rows_apart (first + m) (count - m) k in
    let whole : (first + m + (count - m)) * k ≡ (first + count) * k = ap (λ (v : ℕ). v * k) e in
    let e2 : first + m + (r - m) ≡ first + r = omega arith in
    let split2 = rows_apart (first + m) (r - m) k in
    let whole2 : (first + m + (r - m)) * k ≡ (first + r) * k = ap (λ (v : ℕ). v * k) e2 in
    let inside : (r - m) * k + i < (first + count) * k - (first + m) * k = omega (arith, ends, split, whole, li) in
    let place : (first + m) * k + ((r - m) * k + i) ≡ (first + r) * k + i = omega (arith, split2, whole2) in
    get_or-take ((first + count) * k - (first + m) * k) (drop ((first + m) * k) columns) ((r - m) * k + i) 0 inside
    ∙ get_or-drop ((first + m) * k) columns ((r - m) * k + i) 0 ∙ ap (λ (p : ℕ). get_or columns p 0) place

pub part_column : (columns : List ℕ) (k n first m count r i : ℕ) → n ≡ k → m ≤ r → r < count → i < k → (first + count) * k ≤ length columns
    → get_or (take ((first + count) * n - (first + m) * n) (drop ((first + m) * n) columns)) ((r - m) * k + i) 0 ≡ get_or columns ((first + r) * k + i) 0
part_column columns k n first m count r i e ge lr li room =
    subst (λ (v : ℕ). get_or (take ((first + count) * v - (first + m) * v) (drop ((first + m) * v) columns)) ((r - m) * k + i) 0 ≡ get_or columns ((first + r) * k + i) 0) (sym e)
    (column_in_part columns k first m count r i ge lr li room)

pub length-part : (columns : List ℕ) (k first m count : ℕ) → m ≤ count → (first + count) * k ≤ length columns
    → length (take ((first + count) * k - (first + m) * k) (drop ((first + m) * k) columns)) ≡ (count - m) * k
length-part columns k first m count le room =
    let e : first + m + (count - m) ≡ first + count = omega arith in
    let split = rows_apart (first + m) (count - m) k in
    let whole : (first + m + (count - m)) * k ≡ (first + count) * k = ap (λ (v : ℕ). v * k) e in
    length-take-le ((first + count) * k - (first + m) * k) (drop ((first + m) * k) columns) (omega (arith, length-drop ((first + m) * k) columns, room))
    ∙ omega (arith, split, whole)
