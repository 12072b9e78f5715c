-- Another object that agrees with all that came, where a block is short.
use Rattle.std.specs.Prelude.{◌≡◌, ◌≢◌, ◌<◌, ◌==◌, ◌↔◌, true, if◌then◌else◌, ℕ, List, [], ◌∷◌, map}
use Rattle.std.specs.Prelude.{filter, flat_map}
use Rattle.gf256.specs.Arithmetic.{sum_of, product, point}
use Rattle.poly.specs.Polynomial.{root_product_over}
use Rattle.lists.specs.Selection.{is_among}
use Rattle.lists.specs.Below.{below}
use Rattle.partition.specs.Fti.{Fti, source_count, block_count, source_byte}
use Rattle.alc.specs.Reading.{Reading}
use Rattle.reception.specs.declared.scope.Identity.{Identity}
use Rattle.cert.specs.declared.verdict.Verdict.TheVariants.{No}
use Rattle.cert.specs.declared.verdict.Reason.TheVariants.{Thin}
use Rattle.reception.specs.Symbols.{Symbol, Agrees, AreTwins, IsObject}
use Rattle.certificate.specs.Certificate.{Certificate}
use Rattle.reception.specs.Reception.{ReadAll, counted, symbols}
use Rattle.cert.specs.Verdict.{IsVerdict}

-- the different ESIs among these, rising; 255, which no block has, is none
abbrev pub different_esis : List ℕ → List ℕ
different_esis arrived_esis = filter (is_among arrived_esis) (below 255)

-- the product of z + point(j) over the different ESIs j
abbrev pub root_value : List ℕ → ℕ → ℕ
root_value arrived_esis z =
    root_product_over sum_of product 1 (map point (different_esis arrived_esis)) z

-- The other object is the object with that product's value at the point of each source symbol of
-- block b added to the symbol's first byte; it is not the object; and a symbol of another block, or
-- of block b with one of these ESIs, is one of the one exactly where it is one of the other.
pub record IsTwin (f : Fti) (b : ℕ) (arrived_esis object other : List ℕ) : Type 0 where
  pub form : IsObject f other
  pub differ : object ≢ other
  pub changed : (i : ℕ) → i < source_count f b
      → source_byte f other b i 0
      ≡ sum_of (source_byte f object b i 0) (root_value arrived_esis (point i))
  pub unchanged : (d i c : ℕ) → d < block_count f → i < source_count f d → c < f.symbol_length
      → ((d ≡ b) × (c ≡ 0) → ⊥)
      → source_byte f other d i c ≡ source_byte f object d i c
  pub alike : (s : Symbol) → (s.block ≡ b → is_among arrived_esis s.esi ≡ true)
      → Agrees f object s ↔ Agrees f other s

-- the verdict is that this block is the least that has too few symbols
abbrev pub IsShortIn : Identity → List (List ℕ) → List ℕ → Certificate → ℕ → Type 0
IsShortIn who datagrams object z b =
    (have : ℕ) × (need : ℕ) × IsVerdict who datagrams object z (No (Thin b have need))

-- the ESIs of this block that came, repeats and all
abbrev pub esis_of : ℕ → List Symbol → List ℕ
esis_of b arrivals = flat_map (λ s. if s.block == b then s.esi ∷ [] else []) arrivals

-- the other object is a twin made for the ESIs of this block that came, and agrees with all of the
-- identity's symbols that came, as the object does
pub record IsTwinOfSession (who : Identity) (f : Fti) (b : ℕ) (datagrams : List (List ℕ))
    (object other : List ℕ) : Type 0 where
  pub readings : List Reading
  pub read : ReadAll datagrams readings
  pub made : IsTwin f b (esis_of b (symbols (counted who readings))) object other
  pub twins : AreTwins f (symbols (counted who readings)) object other
