-- Places of rows of bytes.
use Rattle.std.proofs.Common.{◌≡◌, ◌≢◌, ℕ, ◌+◌, ◌-◌, ◌*◌, ◌/◌, ◌%◌, ◌<◌, ◌≤◌, List, ◌++◌, length, get_or, take, drop, get_or-take, length-take, length-append, arith, ap, ◌∙◌, sym, inl, inr}
use Rattle.std.proofs.lemmas.Bool.{cases_lt}
use Rattle.std.proofs.lemmas.List.{get_or_past, get_or-drop, get_or_append_left, get_or-append-add}
use Rattle.std.proofs.lemmas.Nat.{div-add-mod'}
use Rattle.std.proofs.Math.Nat.{mod-lt, div-lt_iff_lt-mul, mul-le-mul_right}

length-take-most : (n : ℕ) (xs : List ℕ) → length (take n xs) ≤ n
length-take-most n xs = simp length-take (omega arith)

-- what stands behind a place is zero
pub zero_behind : (rows : List ℕ) (used : ℕ) → ((p : ℕ) → get_or (take (length rows - used) (drop used rows)) p 0 ≡ 0) → (q : ℕ) → used ≤ q → get_or rows q 0 ≡ 0
zero_behind rows used zero q past = elim (cases_lt q (length rows)) [
  | inl lt ↦
      (let inside : q - used < length rows - used = omega (arith, lt, past) in
      let back : used + (q - used) ≡ q = omega (arith, past) in
      ap (λ (n : ℕ). get_or rows n 0) (sym back) ∙ sym (get_or-drop used rows (q - used) 0) ∙ sym (get_or-take (length rows - used) (drop used rows) (q - used) 0 inside) ∙ zero (q - used))
  | inr over ↦ get_or_past rows q 0 over
]

-- a byte behind a place, that isn't zero
pub other_behind : (rows : List ℕ) (used p : ℕ) → p < length (take (length rows - used) (drop used rows)) → get_or (take (length rows - used) (drop used rows)) p 0 ≢ 0
    → (used + p < length rows) × (get_or rows (used + p) 0 ≢ 0)
other_behind rows used p lt ne =
    let few : p < length rows - used = omega (arith, lt, length-take-most (length rows - used) (drop used rows)) in
    (omega (arith, few), λ e. ne (get_or-take (length rows - used) (drop used rows) p 0 few ∙ get_or-drop used rows p 0 ∙ e))

-- a place is that of a column in a row
pub row_and_column : (q k size : ℕ) → 0 < size → q < k * size → (i : ℕ) × (c : ℕ) × (i < k) × (c < size) × (i * size + c ≡ q)
row_and_column q k size some lt =
    (q / size, q % size, (div-lt_iff_lt-mul {k = size} {x = q} {y = k} some).1 lt, mod-lt q some, div-add-mod' q size)

-- one row more behind the others
module _ (bytes row : List ℕ) (m size : ℕ) (given : ℕ → ℕ → ℕ) (count : length bytes ≡ m * size) (long : length row ≡ size) (here : (c : ℕ) → c < size → get_or row c 0 ≡ given m c)
    (so_far : (k c : ℕ) → k < m → c < size → get_or bytes (k * size + c) 0 ≡ given k c) where
  pub row_count : length (bytes ++ row) ≡ (m + 1) * size
  row_count = omega (arith, length-append bytes row, count, long)

  pub row_more : (k c : ℕ) → k < m + 1 → c < size → get_or (bytes ++ row) (k * size + c) 0 ≡ given k c
  row_more k c lk lc = elim (cases_lt k m) [
    | inl lt ↦
        (let ends : (k + 1) * size ≤ m * size = mul-le-mul_right size (omega (arith, lt)) in
        get_or_append_left bytes row 0 (k * size + c) (omega (arith, ends, count, lc)) ∙ so_far k c lt lc)
    | inr past ↦
        (let is : m ≡ k = omega (arith, lk, past) in
        let place : length bytes + c ≡ k * size + c = omega (arith, count, ap (λ (n : ℕ). n * size) is) in
        ap (λ (n : ℕ). get_or (bytes ++ row) n 0) (sym place) ∙ get_or-append-add bytes row c 0 ∙ here c lc ∙ ap (λ (n : ℕ). given n c) is)
  ]
