-- What the polynomials of a block's columns say of the symbols that came.
use Rattle.std.proofs.Common.{◌≡◌, ℕ, ◌<◌, true, false, List, [], ◌∷◌, Option, Some, None, refl, sym, ap, subst, ◌∙◌, arith, slice_index}
use Rattle.std.specs.List.{AllByRecursion}
use Rattle.std.proofs.lemmas.Bool.{and_from, or_parts, eq-eqb}
use Rattle.std.proofs.lemmas.List.{get_or_past}
use Rattle.gf256.specs.Arithmetic.{point}
use Rattle.poly.specs.Polynomial.{value}
use Rattle.partition.specs.Fti.{Fti, IsValidFti, block_count, source_place}
use Rattle.lists.proofs.Lists.{all_both, all_to}
use Rattle.reception.specs.Symbols.{Symbol, is_of, has_arrived, IsObject, Agrees, Fits, Solvable, AllFull, FullSolvable, FitsOnly}
use Rattle.reception.specs.Within.{IsWithin}
use Rattle.reception.proofs.Full.{found, fits_only}
use Rattle.block_recovery.specs.Received.{IsIndex}
use Rattle.block_recovery.specs.Columns.{ColumnExplained, BlockColumn}

-- what a list of symbols has of an index, and its tail too
record IsIndexed (arrivals : List Symbol) (at : ℕ → ℕ → Option (List ℕ)) : Type 0 where
  none : (b j : ℕ) → at b j ≡ None → has_arrived arrivals b j ≡ false
  some : (b j : ℕ) (bytes : List ℕ) → at b j ≡ Some bytes → AllByRecursion (λ s. is_of b j s ≡ true → s.bytes ≡ bytes) arrivals

of_self : (s : Symbol) → is_of s.block s.esi s ≡ true
of_self s = and_from _ _ (eq-eqb s.block s.block refl) (eq-eqb s.esi s.esi refl)

stands : (s : Symbol) (ss : List Symbol) (at : ℕ → ℕ → Option (List ℕ)) → IsIndexed (s ∷ ss) at
    → (o : Option (List ℕ)) → at s.block s.esi ≡ o → at s.block s.esi ≡ Some s.bytes
stands s ss at index None is = let w = or_parts (is_of s.block s.esi s) (has_arrived ss s.block s.esi) (index.none s.block s.esi is) in let e = of_self s in absurd (cc)
stands s ss at index (Some y) is = is ∙ ap Some (sym ((index.some s.block s.esi y is).0 (of_self s)))

all_indexed : (arrivals : List Symbol) (at : ℕ → ℕ → Option (List ℕ)) → IsIndexed arrivals at → AllByRecursion (λ s. at s.block s.esi ≡ Some s.bytes) arrivals
all_indexed [] at index = tt
all_indexed (s ∷ ss) at index = (
  stands s ss at index (at s.block s.esi) refl,
  all_indexed ss at record {
    none = λ b j none. (or_parts (is_of b j s) (has_arrived ss b j) (index.none b j none)).1;
    some = λ b j y some. (index.some b j y some).1;
  },
)

-- each symbol that came stands at its block and ESI
pub all_stand : (arrivals : List Symbol) (at : ℕ → ℕ → Option (List ℕ)) → IsIndex arrivals at → AllByRecursion (λ s. at s.block s.esi ≡ Some s.bytes) arrivals
all_stand arrivals at index = all_indexed arrivals at record { none = index.none; some = λ b j y some. (index.some b j y some).same }

module _ (f : Fti) (arrivals : List Symbol) (at : ℕ → ℕ → Option (List ℕ)) (index : IsIndex arrivals at) where
  -- a block whose columns have polynomials is solvable
  pub solvable_from : (b : ℕ) → ((c : ℕ) → c < f.symbol_length → ColumnExplained f b (at b) c) → Solvable f arrivals b
  solvable_from b columns = λ c hc.
      let w = columns c hc in
      record {
        polynomial = w.polynomial;
        form = w.form;
        symbols = all_to (λ s. at s.block s.esi ≡ Some s.bytes) (λ s. s.block ≡ b → value w.polynomial (point s.esi) ≡ slice_index s.bytes c)
            (λ s stand block. w.symbols s.esi s.bytes (subst (λ (x : ℕ). at x s.esi ≡ Some s.bytes) block stand)) arrivals (all_stand arrivals at index);
        padding = w.padding;
      }

  -- the polynomials of a solvable block's columns
  pub solvable_gives : (b : ℕ) → Solvable f arrivals b → (c : ℕ) → c < f.symbol_length → ColumnExplained f b (at b) c
  solvable_gives b solvable c hc =
      let w = solvable c hc in
      record {
        polynomial = w.polynomial;
        form = w.form;
        symbols = λ j y some.
            let here = index.some b j y some in
            let P = λ (s : Symbol). s.block ≡ b → value w.polynomial (point s.esi) ≡ slice_index s.bytes c in
            let Q = λ (s : Symbol). is_of b j s ≡ true → s.bytes ≡ y in
            let s = found (λ s. P s × Q s) b j arrivals here.is_there (all_both P Q arrivals w.symbols here.same) in
            s.1.0 refl ∙ ap (λ (x : List ℕ). slice_index x c) (s.1.1 (of_self (record { block = b; esi = j; bytes = s.0 })));
        padding = w.padding;
      }

  module _ (within : AllByRecursion (IsWithin f) arrivals) (object : List ℕ) (form : IsObject f object)
      (columns : (b c : ℕ) → b < block_count f → c < f.symbol_length → BlockColumn f object b (at b) c) where
    agrees_at : (s : Symbol) → IsWithin f s × (at s.block s.esi ≡ Some s.bytes) → Agrees f object s
    agrees_at s w = record {
      block = w.0.block;
      esi = w.0.esi;
      count = w.0.count;
      columns = λ c hc.
          let p = columns s.block c w.0.block hc in
          record { polynomial = p.polynomial; form = p.form; source = p.source; symbol = p.symbols s.esi s.bytes w.1 };
    }

    -- the object agrees with all that came
    pub fits_from : Fits f arrivals object
    fits_from = record {
      form = form;
      agrees = all_to (λ s. IsWithin f s × (at s.block s.esi ≡ Some s.bytes)) (Agrees f object) agrees_at arrivals
          (all_both (IsWithin f) (λ s. at s.block s.esi ≡ Some s.bytes) arrivals within (all_stand arrivals at index));
    }

    -- padding is past the object's end
    explained : (b c : ℕ) → b < block_count f → c < f.symbol_length → ColumnExplained f b (at b) c
    explained b c hb hc =
        let p = columns b c hb hc in
        record {
          polynomial = p.polynomial;
          form = p.form;
          symbols = p.symbols;
          padding = λ i hi past. p.source i hi ∙ get_or_past object (source_place f b i c) 0 (let e = form.count in omega (arith, e, past));
        }

    pub solvable_of_fits : (b : ℕ) → b < block_count f → Solvable f arrivals b
    solvable_of_fits b hb = solvable_from b (λ c hc. explained b c hb hc)

    pub all_solvable : FullSolvable f arrivals
    all_solvable = λ b hb full. solvable_of_fits b hb

    -- where all blocks are full, no other object does
    pub fits_only_from : IsValidFti f → AllFull f arrivals → FitsOnly f arrivals object
    fits_only_from valid full = fits_only f arrivals object valid full fits_from
