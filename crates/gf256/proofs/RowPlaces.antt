use Rattle.std.proofs.Common.{ℕ, ◌≡◌, ◌<◌, ◌≤◌, ◌+◌, ◌-◌, ◌*◌, List, ◌++◌, length, get_or, take, drop, sym, ◌∙◌, ap, inl, inr, arith}
use Rattle.std.proofs.lemmas.Bool.{cases_lt}
use Rattle.std.proofs.Math.Nat.{mul-le-mul_right}
use Rattle.std.proofs.lemmas.List.{get_or_append_left, get_or-append_right, get_or_past, get_or-take, length-take, length-drop}
use Rattle.std.proofs.lemmas.Simd.{get_or-chunk}

-- a row's bytes end before the next row's begin
pub row_ends : (r s e : ℕ) → r < s → r * e + e ≤ s * e
row_ends r s e h =
    let le : (r + 1) * e ≤ s * e = mul-le-mul_right e (omega arith) in
    let is : (r + 1) * e ≡ r * e + e = omega arith in
    omega arith

pub rows_apart : (a i e : ℕ) → (a + i) * e ≡ a * e + i * e
rows_apart a i e = omega arith

pub rows_fit : (a i m e : ℕ) → a + i ≤ m → a * e + i * e ≤ m * e
rows_fit a i m e h =
    let le : (a + i) * e ≤ m * e = mul-le-mul_right e h in
    let is : (a + i) * e ≡ a * e + i * e = rows_apart a i e in
    omega arith

-- a part of a list put back
take_long : (xs : List ℕ) (a : ℕ) → a ≤ length xs → length (take a xs) ≡ a
take_long xs a h = omega (arith, length-take a xs)

pub put_below : (xs sub end : List ℕ) (a p : ℕ) → a ≤ length xs → p < a → get_or (take a xs ++ (sub ++ end)) p 0 ≡ get_or xs p 0
put_below xs sub end a p h lt =
    let long : length (take a xs) ≡ a = take_long xs a h in
    get_or_append_left (take a xs) (sub ++ end) 0 p (omega arith) ∙ get_or-take a xs p 0 lt

pub put_at : (xs sub end : List ℕ) (a j : ℕ) → a ≤ length xs → j < length sub → get_or (take a xs ++ (sub ++ end)) (a + j) 0 ≡ get_or sub j 0
put_at xs sub end a j h lt =
    let e : a + j - a ≡ j = omega arith in
    get_or-append_right (take a xs) (sub ++ end) a (a + j) 0 (take_long xs a h) (omega arith)
    ∙ ap (λ k. get_or (sub ++ end) k 0) e ∙ get_or_append_left sub end 0 j lt

pub part_long : (xs : List ℕ) (a : ℕ) → length (take (length xs - a) (drop a xs)) ≡ length xs - a
part_long xs a = omega (arith, length-take (length xs - a) (drop a xs), length-drop a xs)

-- a byte of what stands from a place on, or from the end where the place is past it
pub part_byte : (xs : List ℕ) (from at p : ℕ) → from ≤ at → (from < length xs → from ≡ at)
    → get_or (take (length xs - from) (drop from xs)) p 0 ≡ get_or xs (at + p) 0
part_byte xs from at p le same = elim (cases_lt p (length xs - from)) [
  | inl lt ↦ let is = same (omega arith) in
      get_or-chunk from (length xs - from) xs p 0 lt ∙ ap (λ a. get_or xs (a + p) 0) is
  | inr ge ↦ get_or_past (take (length xs - from) (drop from xs)) p 0 (let long = part_long xs from in omega arith)
      ∙ sym (get_or_past xs (at + p) 0 (omega arith))
]

-- a byte of row r, seen from the beginning of an earlier row
pub from_row : (row r e j : ℕ) → row ≤ r → r * e + j ≡ row * e + ((r - row) * e + j)
from_row row r e j h =
    let back : row + (r - row) ≡ r = omega arith in
    let whole : (row + (r - row)) * e ≡ r * e = ap (λ s. s * e) back in
    let apart = rows_apart row (r - row) e in
    omega arith

pub from_row_within : (row r rows e j : ℕ) → row ≤ r → r < rows → j < e → (r - row) * e + j < rows * e - row * e
from_row_within row r rows e j h lr lj =
    let is = from_row row r e j h in
    let ends = row_ends r rows e lr in
    omega arith
