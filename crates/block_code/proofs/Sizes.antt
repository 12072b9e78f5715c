-- The sizes that source blocks have: the first block's and the last block's.
use Rattle.std.proofs.Common.{◌≡◌, ◌≢◌, ℕ, ◌-◌, ◌<◌, ◌≤◌, ◌*◌, ◌/◌, ◌⊎◌, ◌==◌, true, false, arith, ap, ◌∙◌, sym, subst, inl, inr, refl, Some, None, Result, Ok, Err}
use Rattle.std.specs.Prelude.{IfOk}
use Rattle.std.proofs.lemmas.Bool.{cases_lt, eq-eqb, ne_eqb}
use Rattle.partition.specs.Fti.{Fti, IsValidFti, block_count, source_count, encoding_count, large_blocks}
use Rattle.partition.proofs.Laws.{shares, large_count, other_count}
use Rattle.elim.specs.Grid.{Grid, HasShape}
use Rattle.elim.specs.Generator.{IsGenerator, Encodes, Interpolates}
use Rattle.block_code.specs.declared.code.Code.{Code}
use Rattle.block_code.specs.declared.codes.BlockCodes.{BlockCodes}
use Rattle.block_code.specs.declared.codes.Kind.{Kind}
use Rattle.block_code.specs.declared.codes.Kind.TheVariants.{Generator, Interpolator}
use Rattle.block_code.specs.Codes.{code_for, EachBlockHas, IsEncoder, IsInterpolator, MakesCoefficients, IsOfKind, IsOfBlock, least_by_values}

-- two facts of one value, and what follows from them
pub both : {T E : Type 0} (A B C : T → Type 0) (r : Result T E) → ((x : T) → A x → B x → C x) → IfOk r A → IfOk r B → IfOk r C
both A B C (Ok x) f a b = f x a b
both A B C (Err e) f a b = tt

-- a block is as large as the first or as the last
two_sizes : (f : Fti) → IsValidFti f → (b : ℕ) → b < block_count f
    → (source_count f b ≡ source_count f 0) ⊎ (source_count f b ≡ source_count f (block_count f - 1))
two_sizes f valid b hb =
    let fewer = (shares f valid).1 in
    let last : large_blocks f ≤ block_count f - 1 = omega (arith, fewer, hb) in
    elim (cases_lt b (large_blocks f)) [
      | inl lt ↦ inl (let some : 0 < large_blocks f = omega arith in large_count f valid b lt ∙ sym (large_count f valid 0 some))
      | inr past ↦ inr (other_count f valid b past ∙ sym (other_count f valid (block_count f - 1) last))
    ]

same_encoding : (f : Fti) (a b : ℕ) → source_count f a ≡ source_count f b → encoding_count f a ≡ encoding_count f b
unfolding encoding_count
same_encoding f a b e = ap (λ (k : ℕ). k * f.max_symbols / f.block_length) e

pub encoder_from : (k n : ℕ) (g : Grid ℕ) → IsGenerator k n g → Encodes k n g → IsEncoder k n g
encoder_from k n g made encodes = record { rows = made.rows; cols = made.cols; encodes = encodes }

pub interpolator_from : (k : ℕ) (g : Grid ℕ) → HasShape k k g → Interpolates k g → IsInterpolator k g
interpolator_from k g shape made = record { rows = shape.rows; cols = shape.cols; interpolates = made }

pub few_from : (k : ℕ) (g : Grid ℕ) → k < least_by_values → HasShape k k g → Interpolates k g → MakesCoefficients k g
few_from k g few shape made =
    record { rows = shape.rows; at_once = λ lt. interpolator_from k g shape made; by_values = λ le. absurd (omega (arith, few, le)) }

pub many_from : (k : ℕ) (g : Grid ℕ) → least_by_values ≤ k → IsGenerator k 255 g → Encodes k 255 g → MakesCoefficients k g
many_from k g many made encodes =
    record { rows = made.rows; at_once = λ lt. absurd (omega (arith, many, lt)); by_values = λ le. encoder_from k 255 g made encodes }

pub rows_of_kind : (kind : Kind) (k n : ℕ) (g : Grid ℕ) → IsOfKind kind k n g → g.rows ≡ k
rows_of_kind Generator k n g h = h.rows
rows_of_kind Interpolator k n g h = h.rows

-- a matrix for these counts is that of a block with them
pub of_counts : (kind : Kind) (f : Fti) (b k n : ℕ) (g : Grid ℕ) → k ≡ source_count f b → n ≡ encoding_count f b → IsOfKind kind k n g → IsOfBlock kind f b g
of_counts kind f b k n g hk hn h = subst (λ (x : ℕ). IsOfKind kind x (encoding_count f b) g) hk (subst (λ (x : ℕ). IsOfKind kind k x g) hn h)

-- the matrix of one block is that of each block of its size
same_size : (kind : Kind) (f : Fti) (a b : ℕ) (g : Grid ℕ) → source_count f b ≡ source_count f a → IsOfBlock kind f a g → IsOfBlock kind f b g
same_size kind f a b g e h = of_counts kind f b (source_count f a) (encoding_count f a) g (sym e) (same_encoding f a b (sym e)) h

large_chosen : (k : ℕ) (large small : Code) → large.matrix.rows ≡ k → code_for k large (Some small) ≡ large
large_chosen k large small e = let t : (large.matrix.rows == k) ≡ true = eq-eqb _ _ e in rw t refl

small_chosen : (k : ℕ) (large small : Code) → large.matrix.rows ≢ k → code_for k large (Some small) ≡ small
small_chosen k large small ne = let t : (large.matrix.rows == k) ≡ false = ne_eqb _ _ ne in rw t refl

module _ (kind : Kind) (f : Fti) (valid : IsValidFti f) (large : Code) (first : IsOfBlock kind f 0 large.matrix) where
  -- all blocks are of one size
  pub one_size : source_count f (block_count f - 1) ≡ source_count f 0 → EachBlockHas (IsOfBlock kind f) f (record { large = large; small = None })
  one_size same b hb =
      let e : source_count f b ≡ source_count f 0 = elim (two_sizes f valid b hb) [
        | inl x ↦ x
        | inr x ↦ x ∙ same
      ] in
      same_size kind f 0 b large.matrix e first

  -- the last blocks are smaller
  pub both_sizes : (small : Code) → source_count f (block_count f - 1) ≢ source_count f 0 → IsOfBlock kind f (block_count f - 1) small.matrix
      → EachBlockHas (IsOfBlock kind f) f (record { large = large; small = Some small })
  both_sizes small apart last b hb =
      let rows = rows_of_kind kind (source_count f 0) (encoding_count f 0) large.matrix first in
      elim (two_sizes f valid b hb) [
        | inl e ↦ subst (λ (c : Code). IsOfBlock kind f b c.matrix) (sym (large_chosen (source_count f b) large small (rows ∙ sym e))) (same_size kind f 0 b large.matrix e first)
        | inr e ↦ subst (λ (c : Code). IsOfBlock kind f b c.matrix) (sym (small_chosen (source_count f b) large small (λ h. apart (sym (sym rows ∙ h ∙ e))))) (same_size kind f (block_count f - 1) b small.matrix e last)
      ]

-- the code that a block's size picks has the property
pub picked_has : (P : ℕ → Grid ℕ → Type 0) (f : Fti) (codes : BlockCodes) → EachBlockHas P f codes
    → (b k : ℕ) (c : Code) → b < block_count f → k ≡ source_count f b → c ≡ code_for k codes.large codes.small → P b c.matrix
picked_has P f codes each b k c hb hk is =
    subst (λ (x : Code). P b x.matrix) (sym (is ∙ ap (λ (n : ℕ). code_for n codes.large codes.small) hk)) (each b hb)
