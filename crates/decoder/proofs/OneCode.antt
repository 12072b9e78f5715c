-- A matrix is a block's code in one way only, so that whoever knows that it is one has the way.
use mathlib.Core.HLevel.{is_prop→PathP}
use Rattle.std.specs.Prelude.{slice_index}
use Rattle.std.proofs.Common.{◌≡◌, ◌∙◌, ℕ, ◌<◌, ◌≤◌, List, sym, arith}
use Rattle.std.proofs.Math.Logic.{∥∥₁_elim}
use Rattle.std.proofs.Props.{props}
use Rattle.lists.specs.Below.{below}
use Rattle.lists.proofs.Below.{all_below, length_below}
use Rattle.gf256.specs.Arithmetic.{point}
use Rattle.poly.specs.Polynomial.{value, IsPolynomial}
use Rattle.poly.proofs.Bytes.{same_polynomial}
use Rattle.partition.specs.Fti.{Fti, IsValidFti, source_count, encoding_count}
use Rattle.partition.proofs.Laws.{counts, source_encoding}
use Rattle.elim.specs.Grid.{Grid}
use Rattle.block_code.specs.Codes.{IsEncoder, EachBlockHas}
use Rattle.block_code.specs.CodesOf.{IsCodeOf}
use Rattle.block_code.specs.declared.codes.BlockCodes.{BlockCodes}
use Rattle.reception.proofs.Different.{different_below}

-- a word has one polynomial, and a matrix is an encoder in one way
module _ (k n : ℕ) (few : k ≤ 255) (wide : k ≤ n) where
  one_polynomial : (w : List ℕ) → IsProp ((p : List ℕ) × IsPolynomial k p × ((j : ℕ) → j < n → value p (point j) ≡ slice_index w j))
  one_polynomial w u v =
      let same : u.0 ≡ v.0 =
      same_polynomial k u.0 v.0 (below k) u.1 v.1 (length_below k) (all_below (λ j. j < 255) k (λ j lj. omega (arith, lj, few))) (different_below k)
      (all_below (λ j. value u.0 (point j) ≡ value v.0 (point j)) k (λ j lj. u.2 j (omega (arith, lj, wide)) ∙ sym (v.2 j (omega (arith, lj, wide))))) in
      λ i. (
        same i,
        is_prop→PathP (λ i. IsPolynomial k (same i)) (λ i. hlevel props) u.1 v.1 i,
        is_prop→PathP (λ i. (j : ℕ) → j < n → value (same i) (point j) ≡ slice_index w j) (λ i. hlevel props) u.2 v.2 i,
      )

  one_encoder : (g : Grid ℕ) → IsProp (IsEncoder k n g)
  one_encoder g = hlevel (one_polynomial, props)

-- each block's code, where it is known that there is one
pub code_of : (f : Fti) → IsValidFti f → (codes : BlockCodes) → ∥ EachBlockHas (IsCodeOf f) f codes ∥₁ → EachBlockHas (IsCodeOf f) f codes
code_of f valid codes some b hb =
    ∥∥₁_elim some (one_encoder (source_count f b) (encoding_count f b) (counts f valid b hb).1 (source_encoding f valid b) _) (λ each. each b hb)
