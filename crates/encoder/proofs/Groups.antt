-- Groups of blocks that are read: their encoding symbols, one block more, and what holds of the object.
use Rattle.std.proofs.Common.{◌≡◌, ℕ, ◌+◌, ◌-◌, ◌*◌, ◌<◌, List, Option, length, get_or, take, drop, sym, ap, subst, ◌∙◌, inl, inr, arith}
use Rattle.std.proofs.lemmas.Bool.{cases_eq}
use Rattle.partition.specs.Fti.{Fti, IsValidFti, block_count, encoding_count}
use Rattle.reception.specs.Symbols.{Agrees}
use Rattle.encoder.specs.BlocksRead.{HasRead}
use Rattle.encoder.specs.Rows.{row_at}
use Rattle.encoder.specs.RoundPlaces.{AreSymbolsAt, AreSymbolsOf, ReadsBlock}
use Rattle.encoder.proofs.InPasses.{first_most, row_agrees}
use Rattle.encoder.proofs.RoundRows.{row_before, row_of_earlier}
use Rattle.encoder.proofs.ObjectBlocks.{next_read}

module _ (object : List ℕ) (f : Fti) where
  -- the symbols of a block that was made, and of those before
  pub symbols_more : IsValidFti f → (first count : ℕ) (old new : List ℕ) → length new ≡ length old
      → ((p : ℕ) → p < count * (encoding_count f 0 * f.symbol_length) → get_or new p 0 ≡ get_or old p 0)
      → AreSymbolsOf object f first count old → AreSymbolsAt object f count (first + count) new → AreSymbolsOf object f first (count + 1) new
  symbols_more valid first count old new many same made here i li j lj = elim (cases_eq i count) [
    | inl e ↦
        (let At : ℕ → Type 0 = λ k. AreSymbolsAt object f k (first + k) new in
        let own : At i = subst At (sym e) here in
        own j lj)
    | inr ne ↦
        (let lt : i < count = omega arith in
        let few : j < encoding_count f 0 = omega (arith, lj, first_most f valid (first + i)) in
        let row = row_before f.symbol_length old new (count * (encoding_count f 0 * f.symbol_length)) (i * encoding_count f 0 + j) many same
        (row_of_earlier i count (encoding_count f 0) j f.symbol_length lt few) in
        subst (λ (y : List ℕ). Agrees f object (record { block = first + i; esi = j; bytes = y })) row (made i lt j lj))
  ]

  -- a symbol of the group, as a part of the rows
  pub symbol_at : (first count i j part at size : ℕ) (rows : List ℕ) → AreSymbolsOf object f first count rows → i < count → j < encoding_count f (first + i)
      → part ≡ encoding_count f 0 → at ≡ j → size ≡ f.symbol_length
      → Agrees f object (record {
        block = first + i;
        esi = j;
        bytes = take ((i * part + at + 1) * size - (i * part + at) * size) (drop ((i * part + at) * size) rows);
      })
  symbol_at first count i j part at size rows made lt has is here same =
      let e : i * encoding_count f 0 + j ≡ i * part + at = sym (ap (λ (n : ℕ). i * n + at) is ∙ ap (λ (n : ℕ). i * encoding_count f 0 + n) here) in
      row_agrees object f (first + i) j size (i * part + at) rows same
      (subst (λ (n : ℕ). Agrees f object (record { block = first + i; esi = j; bytes = row_at f.symbol_length rows n })) e (made i lt j has))

-- what holds of the object, put in other words
pub then_read : (f : Fti) (n : ℕ) (left here : Option (List ℕ)) (P Q : List ℕ → Type 0) → ((object : List ℕ) → P object → Q object) → HasRead f n left here P → HasRead f n left here Q
then_read f n left here P Q more h = record {
  front = h.front;
  count = h.count;
  bytes = h.bytes;
  consumed = h.consumed;
  holds = λ object form begins. more object (h.holds object form begins);
}

-- one block more was read
pub block_more : (f : Fti) (valid : IsValidFti f) (n : ℕ) (left here there : Option (List ℕ)) (P H Q : List ℕ → Type 0) → HasRead f n left here P → n < block_count f
    → ReadsBlock f n here there H → ((object : List ℕ) → H object → P object → Q object) → HasRead f (n + 1) left there Q
block_more f valid n left here there P H Q done inside r more =
    next_read f valid n left here P done inside there r.block r.count r.bytes r.consumed Q (λ object bytes are before. more object (r.holds object bytes are) before)
