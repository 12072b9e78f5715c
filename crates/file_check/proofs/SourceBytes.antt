-- The object's bytes in a block, as they are read from its file.
use Rattle.std.proofs.Common.{◌≡◌, ℕ, ◌+◌, ◌-◌, ◌*◌, ◌<◌, ◌≤◌, List, Some, length, get_or, take, length-take-le, sym, ap, ◌∙◌, inl, inr, arith}
use Rattle.std.specs.Prelude.{replicate}
use Rattle.std.proofs.lemmas.Bool.{cases_lt}
use Rattle.std.proofs.lemmas.List.{get_or-take, get_or_past, get_or-replicate, length-replicate}
use Rattle.std.proofs.lemmas.Simd.{get_or-chunk}
use Rattle.gf256.proofs.RowPlaces.{row_ends, rows_apart, put_below, put_at}
use Rattle.partition.specs.Fti.{Fti, source_count, start_of, source_place}
use Rattle.streams.specs.Offsets.{EndsBy, StandsAt}
use Rattle.file_check.specs.Blocks.{AreSourceOf}
use borrow.Rule.Slice.PartMut.{put_mid, post_of}

pub zeros_only : (n : ℕ) (zeros : List ℕ) → zeros ≡ replicate n 0 → (p : ℕ) → get_or zeros p 0 ≡ 0
zeros_only n zeros is p = elim (cases_lt p n) [
  | inl lt ↦ ap (λ (l : List ℕ). get_or l p 0) is ∙ get_or-replicate n p 0 0 lt
  | inr ge ↦
      let long : length zeros ≡ n = ap (λ (l : List ℕ). length l) is ∙ length-replicate n 0 in
      get_or_past zeros p 0 (omega (arith, long, ge))
]

-- the bytes that were read, and zeros behind them
module _ (o : List ℕ) (from count : ℕ) (bytes zeros : List ℕ) (within : count ≤ length bytes) (none : (p : ℕ) → get_or zeros p 0 ≡ 0) (long : length zeros ≡ length bytes - count)
    (stands : StandsAt (Some o) from (take count bytes)) (ends : count < length bytes → EndsBy (Some o) (from + count)) where
  pub byte_read : (p : ℕ) → p < length bytes → get_or (put_mid count (length bytes - count) bytes zeros) p 0 ≡ get_or o (from + p) 0
  byte_read p lp = elim (cases_lt p count) [
    | inl lt ↦
        let size : length (take count bytes) ≡ count = length-take-le count bytes within in
        put_below bytes zeros (post_of count (length bytes - count) bytes) count p within lt
        ∙ sym (get_or-take count bytes p 0 lt)
        ∙ ap (λ (l : List ℕ). get_or l p 0) stands
        ∙ get_or-chunk from (length (take count bytes)) o p 0 (omega (arith, lt, size))
    | inr ge ↦
        let back : count + (p - count) ≡ p = omega (arith, ge) in
        let end : length o ≤ from + count = ends (omega (arith, ge, lp)) in
        ap (λ (n : ℕ). get_or (put_mid count (length bytes - count) bytes zeros) n 0) (sym back)
        ∙ put_at bytes zeros (post_of count (length bytes - count) bytes) count (p - count) within (omega (arith, long, ge, lp))
        ∙ none (p - count)
        ∙ sym (get_or_past o (from + p) 0 (omega (arith, end, ge)))
  ]

  pub source_read : (f : Fti) (b : ℕ) → from ≡ start_of f b * f.symbol_length → length bytes ≡ source_count f b * f.symbol_length
      → AreSourceOf f o b (put_mid count (length bytes - count) bytes zeros)
  source_read f b begin size = λ i c li lc.
      let end = row_ends i (source_count f b) f.symbol_length li in
      let apart = rows_apart (start_of f b) i f.symbol_length in
      let place : from + (i * f.symbol_length + c) ≡ source_place f b i c = omega (arith, begin, apart) in
      byte_read (i * f.symbol_length + c) (omega (arith, end, lc, size))
      ∙ ap (λ (p : ℕ). get_or o p 0) place
