-- As many symbols of a block as it has source symbols are those of some polynomials, where it has
-- no padding.
use Rattle.std.specs.Prelude.{filter, is_some}
use Rattle.std.proofs.Common.{◌≡◌, ◌∙◌, ℕ, suc, ◌+◌, ◌*◌, ◌<◌, ◌≤◌, List, Option, Some, None, length, refl, ap, subst, arith}
use Rattle.std.proofs.Math.Nat.{mul-le-mul_right}
use Rattle.lists.specs.Below.{below}
use Rattle.lists.specs.Bytes.{AreBytes}
use Rattle.lists.proofs.Lists.{filter_all}
use Rattle.lists.proofs.Below.{all_below, at_passing}
use Rattle.gf256.specs.Arithmetic.{point}
use Rattle.poly.specs.Polynomial.{value, IsPolynomial}
use Rattle.partition.specs.Fti.{Fti, IsValidFti, block_count, source_count, encoding_count, start_of, source_place}
use Rattle.partition.proofs.Laws.{counts, in_object, start_step}
use Rattle.reception.proofs.Different.{different_below, different_filter}
use Rattle.block_recovery.specs.Blocks.{byte_of}
use Rattle.block_recovery.specs.Decoded.{AreWithin}
use Rattle.decoder.specs.Unsolvable.{HaveBytes, IsSound}
use Rattle.decoder.proofs.Interpolated.{interpolated}

-- a block before another one has no padding
no_padding : (f : Fti) → IsValidFti f → (b : ℕ) → suc b < block_count f → (i c : ℕ) → i < source_count f b → c < f.symbol_length → source_place f b i c < f.transfer_length
no_padding f valid b next i c li lc =
    let low : start_of f b + i + 1 ≤ start_of f (suc b) = omega (arith, start_step f valid b, li) in
    let sized : (start_of f b + i + 1) * f.symbol_length ≤ start_of f (suc b) * f.symbol_length = mul-le-mul_right f.symbol_length low in
    omega (arith, sized, lc, in_object f valid (suc b) 0 next (omega (arith, counts f valid (suc b) next)))

small_byte : (o : Option (List ℕ)) (c : ℕ) → ((y : List ℕ) → o ≡ Some y → AreBytes y) → byte_of o c < 256
small_byte None c bytes = omega arith
small_byte (Some y) c bytes = bytes y refl c

module _ (f : Fti) (valid : IsValidFti f) (at : ℕ → ℕ → Option (List ℕ)) (within : AreWithin f at) (bytes : HaveBytes at) where
  -- a block of just as many symbols as it needs, which isn't the last one
  pub just_enough : (b n have : ℕ) → suc b < block_count f → n ≡ encoding_count f b → have ≡ length (filter (λ j. is_some (at b j)) (below n)) → have ≡ source_count f b
      → IsSound f at b
  just_enough b n have next is counted just enough c lc =
      let t = λ (j : ℕ). is_some (at b j) in
      let count : length (filter (λ j. is_some (at b j)) (below (encoding_count f b))) ≡ source_count f b =
      subst (λ (m : ℕ). length (filter (λ j. is_some (at b j)) (below m)) ≡ source_count f b) is (omega (arith, counted, just)) in
      let few = counts f valid b (omega (arith, next)) in
      let w = interpolated (λ j. byte_of (at b j) c) (λ j. small_byte (at b j) c (bytes b j)) (filter t (below (encoding_count f b)))
      (filter_all (λ j. j < 255) t (below (encoding_count f b)) (all_below (λ j. j < 255) (encoding_count f b) (λ j lj. omega (arith, lj, few))))
      (different_filter t (below (encoding_count f b)) (different_below (encoding_count f b))) in
      record {
        polynomial = w.polynomial;
        form = subst (λ (k : ℕ). IsPolynomial k w.polynomial) count w.form;
        symbols = λ j y some.
            at_passing (λ j. value w.polynomial (point j) ≡ byte_of (at b j) c) t (encoding_count f b) w.values j (within.esi b j y some) (ap is_some some)
            ∙ ap (λ (o : Option (List ℕ)). byte_of o c) some;
        padding = λ i li past. absurd (omega (arith, past, no_padding f valid b next i c li lc));
      }
