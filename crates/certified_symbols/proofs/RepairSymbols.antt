-- The kept symbols, one block more and one of them.
use Rattle.std.proofs.Common.{◌≡◌, ℕ, ◌+◌, ◌-◌, ◌*◌, ◌<◌, ◌≤◌, List, ◌++◌, length, length-append, get_or, take, drop, ap, ◌∙◌, inl, inr, arith}
use Rattle.std.proofs.lemmas.Bool.{cases_lt}
use Rattle.std.proofs.lemmas.List.{get_or_append_left, get_or-append_right}
use Rattle.std.proofs.lemmas.Simd.{get_or-chunk}
use Rattle.gf256.proofs.RowPlaces.{row_ends}
use Rattle.partition.specs.Fti.{source_count, block_count}
use Rattle.certificate.specs.Certificate.{Certificate, certified_byte}
use Rattle.certified_symbols.specs.CertifiedSymbol.{IsCertifiedSymbol}
use Rattle.certificate.specs.BlockSymbols.{AreSymbols}
use Rattle.certified_symbols.specs.RepairSymbols.{AreKeptOf, AreKept}

module _ (z : Certificate) (n : ℕ) where
  -- the symbols of one block more, behind those of the blocks before
  pub one_block_more : (b : ℕ) (kept symbols : List ℕ) → length kept ≡ b * (n * z.fti.symbol_length) → ((x : ℕ) → x < b → AreKeptOf z n x kept)
      → AreSymbols z b (source_count z.fti b) n symbols → length symbols ≡ n * z.fti.symbol_length
      → (x : ℕ) → x < b + 1 → AreKeptOf z n x (kept ++ symbols)
  one_block_more b kept symbols long before here whole x lx r c lr lc =
      let size = n * z.fti.symbol_length in
      let row = row_ends r n z.fti.symbol_length lr in
      elim (cases_lt x b) [
        | inl lt ↦
            let ends = row_ends x b (n * z.fti.symbol_length) lt in
            get_or_append_left kept symbols 0 (x * (n * z.fti.symbol_length) + (r * z.fti.symbol_length + c)) (omega (arith, ends, row, lc, long)) ∙ before x lt r c lr lc
        | inr ge ↦
            let same : x ≡ b = omega arith in
            let at : b * (n * z.fti.symbol_length) + (r * z.fti.symbol_length + c) - b * (n * z.fti.symbol_length) ≡ r * z.fti.symbol_length + c = omega arith in
            rw same
            (get_or-append_right kept symbols (b * (n * z.fti.symbol_length)) (b * (n * z.fti.symbol_length) + (r * z.fti.symbol_length + c)) 0 long (omega arith)
            ∙ ap (λ (p : ℕ). get_or symbols p 0) at ∙ here r c lr lc)
      ]

  -- one of the symbols that are kept of a block
  pub kept_symbol : (b j width k : ℕ) (bytes : List ℕ) → width ≡ z.fti.symbol_length → k ≡ source_count z.fti b → k ≤ j → j - k < n → AreKeptOf z n b bytes
      → IsCertifiedSymbol z b j (take (b * (n * width) + (j - k) * width + width - (b * (n * width) + (j - k) * width)) (drop (b * (n * width) + (j - k) * width) bytes))
  kept_symbol b j width k bytes width_is k_is low lt are = λ c lc.
      let from = b * (n * width) + (j - k) * width in
      let inside : c < b * (n * width) + (j - k) * width + width - (b * (n * width) + (j - k) * width) = omega (arith, lc, width_is) in
      let place : b * (n * width) + (j - k) * width + c ≡ b * (n * width) + ((j - k) * width + c) = omega arith in
      let back : source_count z.fti b + (j - k) ≡ j = omega (arith, k_is, low) in
      get_or-chunk (b * (n * width) + (j - k) * width) (b * (n * width) + (j - k) * width + width - (b * (n * width) + (j - k) * width)) bytes c 0 inside
      ∙ ap (λ (p : ℕ). get_or bytes p 0) place
      ∙ ap (λ (w : ℕ). get_or bytes (b * (n * w) + ((j - k) * w + c)) 0) width_is
      ∙ are (j - k) c lt lc
      ∙ ap (λ (i : ℕ). certified_byte z b i c) back

-- the block behind those that are kept is kept
pub next_kept : (z : Certificate) (n blocks k : ℕ) (bytes symbols : List ℕ) → AreKept z n blocks bytes → blocks < block_count z.fti → k ≡ source_count z.fti blocks
    → AreSymbols z blocks (0 + k) (k + n - k) symbols → length symbols ≡ (k + n - k) * z.fti.symbol_length
    → AreKept z n (blocks + 1) (bytes ++ symbols)
next_kept z n blocks k bytes symbols kept lt k_is are long =
    let many : k + n - k ≡ n = omega arith in
    let first : 0 + k ≡ source_count z.fti blocks = omega (arith, k_is) in
    let here : AreSymbols z blocks (source_count z.fti blocks) n symbols = rw (many, first) at are in
    let size : length symbols ≡ n * z.fti.symbol_length = long ∙ ap (λ (m : ℕ). m * z.fti.symbol_length) many in
    record {
      valid = kept.valid;
      most = kept.most;
      within = omega (arith, lt);
      room = omega (arith, kept.room, size, length-append bytes symbols);
      symbols = one_block_more z n blocks bytes symbols kept.room kept.symbols here size;
    }
