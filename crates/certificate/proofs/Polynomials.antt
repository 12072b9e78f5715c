-- A certificate's polynomials have as many coefficients as their block has source symbols, each in
-- its row.
use Rattle.std.specs.Prelude.{◌≡◌, ◌<◌, ℕ, zero, suc, List, [], ◌∷◌, ◌++◌, length, map, slice_index}
use Rattle.std.proofs.Common.{◌∙◌, sym, ap, arith, inl, inr}
use Rattle.std.proofs.lemmas.List.{length-map, map-append, get_or_past}
use Rattle.std.proofs.lemmas.Bool.{cases_lt}
use Rattle.lists.specs.Below.{below}
use Rattle.lists.specs.Bytes.{AreBytes}
use Rattle.lists.proofs.Below.{length_below}
use Rattle.lists.proofs.Lists.{at_old, at_end}
use Rattle.poly.specs.Polynomial.{IsPolynomial}
use Rattle.partition.specs.Fti.{source_count, source_place}
use Rattle.certificate.specs.Certificate.{Certificate, IsCertificate, coefficient, polynomial}

-- a list of values, read at a place
pub listed_at : (v : ℕ → ℕ) (n i : ℕ) → i < n → slice_index (map v (below n)) i ≡ v i
unfolding below
listed_at v zero i li = absurd (omega (arith, li))
listed_at v (suc n) i li =
    let split : map v (below n ++ n ∷ []) ≡ map v (below n) ++ v n ∷ [] = map-append v (below n) (n ∷ []) in
    let len : length (map v (below n)) ≡ n = length-map (below n) v ∙ length_below n in
    ap (λ (l : List ℕ). slice_index l i) split ∙ elim (cases_lt i n) [
      | inl lt ↦ at_old (map v (below n)) (v n) 0 i (omega (arith, lt, len)) ∙ listed_at v n i lt
      | inr past ↦ (let last : i ≡ n = omega (arith, past, li) in at_end (map v (below n)) (v n) 0 i (omega (arith, len, last)) ∙ ap v (sym last))
    ]

pub listed_bytes : (v : ℕ → ℕ) (n : ℕ) → ((i : ℕ) → v i < 256) → AreBytes (map v (below n))
listed_bytes v n bytes i = elim (cases_lt i n) [
  | inl lt ↦ (let e = listed_at v n i lt in let b = bytes i in omega (arith, e, b))
  | inr past ↦ (let e = get_or_past (map v (below n)) i 0 (let len = length-map (below n) v ∙ length_below n in omega (arith, len, past)) in omega (arith, e))
]

pub length_polynomial : (z : Certificate) (b c : ℕ) → length (polynomial z b c) ≡ source_count z.fti b
unfolding polynomial
length_polynomial z b c = length-map (below (source_count z.fti b)) (coefficient z b c) ∙ length_below (source_count z.fti b)

pub forms : (z : Certificate) → IsCertificate z → (b c : ℕ) → IsPolynomial (source_count z.fti b) (polynomial z b c)
unfolding polynomial
forms z good b c = record {
  count = length_polynomial z b c;
  bytes = listed_bytes (coefficient z b c) (source_count z.fti b) (λ i. good.bytes (source_place z.fti b i c));
}

-- where a coefficient stands
pub coefficient_at : (z : Certificate) (b c i : ℕ) → i < source_count z.fti b → slice_index (polynomial z b c) i ≡ coefficient z b c i
unfolding polynomial
coefficient_at z b c i li = listed_at (coefficient z b c) (source_count z.fti b) i li
