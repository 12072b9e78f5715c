-- The places of a block's source symbols in the object.
use Rattle.std.proofs.Common.{◌≡◌, ℕ, ◌+◌, ◌*◌, List, get_or, ap, ◌∙◌, arith}
use Rattle.gf256.proofs.RowPlaces.{rows_apart}
use Rattle.partition.specs.Fti.{Fti, start_of, source_byte}

-- bytes behind those of the first source symbol of a block
pub source_from : (f : Fti) (object : List ℕ) (b size start i c : ℕ) → size ≡ f.symbol_length → start ≡ start_of f b
    → get_or object (start * size + (i * f.symbol_length + c)) 0 ≡ source_byte f object b i c
source_from f object b size start i c e s =
    let same : start * size ≡ start_of f b * f.symbol_length = ap (λ (v : ℕ). start * v) e ∙ ap (λ (v : ℕ). v * f.symbol_length) s in
    let whole : (start_of f b + i) * f.symbol_length ≡ start_of f b * f.symbol_length + i * f.symbol_length = rows_apart (start_of f b) i f.symbol_length in
    let place : start * size + (i * f.symbol_length + c) ≡ (start_of f b + i) * f.symbol_length + c = omega (arith, same, whole) in
    ap (λ (p : ℕ). get_or object p 0) place

-- bytes behind those of another one
pub row_from : (bytes : List ℕ) (first size e i c : ℕ) → size ≡ e → get_or bytes (first * size + (i * e + c)) 0 ≡ get_or bytes ((first + i) * e + c) 0
row_from bytes first size e i c is =
    let same : first * size ≡ first * e = ap (λ (v : ℕ). first * v) is in
    let place : first * size + (i * e + c) ≡ (first + i) * e + c = omega (arith, same, rows_apart first i e) in
    ap (λ (p : ℕ). get_or bytes p 0) place
