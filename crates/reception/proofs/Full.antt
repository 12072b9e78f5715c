-- Where all blocks are full, what came fits one object only.
use Rattle.std.specs.Prelude.{◌≡◌, ◌<◌, ◌≤◌, ◌==◌, true, ℕ, List, [], ◌∷◌, length, take, slice_index}
use Rattle.std.specs.List.{AllByRecursion}
use Rattle.std.proofs.Common.{◌∙◌, sym, ap, subst, arith, inl, inr, length-take-le, leb-true}
use Rattle.std.proofs.lemmas.Bool.{eqb-true}
use Rattle.std.proofs.lemmas.Grind.{same_number_lists}
use Rattle.gf256.specs.Arithmetic.{point}
use Rattle.poly.specs.Polynomial.{value, IsPolynomial}
use Rattle.partition.specs.Fti.{Fti, IsValidFti, source_count, encoding_count, source_byte}
use Rattle.lists.specs.Below.{below}
use Rattle.partition.proofs.Laws.{counts, covers}
use Rattle.reception.specs.Symbols.{Symbol, is_of, has_arrived, arrived_esis, is_full, AllFull, Agrees, Fits, FitsOnly}
use Rattle.poly.proofs.Lists.{all_weaker}
use Rattle.lists.proofs.Lists.{both, either, all_both, all_filter, all_take, some_member}
use Rattle.lists.proofs.Below.{all_below, length_below}
use Rattle.poly.specs.Polynomial.{AreDifferent}
use Rattle.poly.proofs.Bytes.{same_polynomial}
use Rattle.reception.proofs.Different.{different_below, different_filter, different_take}

-- a symbol that was found, and what holds of all that came
pub found : (P : Symbol → Type 0) (b j : ℕ) (arrivals : List Symbol) → has_arrived arrivals b j ≡ true → AllByRecursion P arrivals
    → (y : List ℕ) × P (record { block = b; esi = j; bytes = y })
found P b j [] h all = absurd (cc)
found P b j (s ∷ ss) h all =
    elim (either (is_of b j s) (has_arrived ss b j) h) [
      | inl e ↦
          (let t = both (s.block == b) (s.esi == j) e in (
            s.bytes,
            subst (λ (x : ℕ). P (record { block = b; esi = x; bytes = s.bytes })) (eqb-true s.esi j t.1)
                (subst (λ (x : ℕ). P (record { block = x; esi = s.esi; bytes = s.bytes })) (eqb-true s.block b t.0) all.0),
          ))
      | inr e ↦ found P b j ss e all.1
    ]

-- the polynomials of one column through the source symbols are one
pub same_source : (f : Fti) (object p q : List ℕ) (b c : ℕ) → source_count f b ≤ 255
    → IsPolynomial (source_count f b) p → IsPolynomial (source_count f b) q
    → ((i : ℕ) → i < source_count f b → value p (point i) ≡ source_byte f object b i c)
    → ((i : ℕ) → i < source_count f b → value q (point i) ≡ source_byte f object b i c) → p ≡ q
same_source f object p q b c small hp hq sp sq =
    same_polynomial (source_count f b) p q (below (source_count f b)) hp hq (length_below _)
    (all_below (λ i. i < 255) _ (λ i h. omega arith)) (different_below _)
    (all_below (λ i. value p (point i) ≡ value q (point i)) _ (λ i h. sp i h ∙ sym (sq i h)))

-- the source symbols of a full block are those of one object
pub column_same : (f : Fti) (arrivals : List Symbol) (o o2 : List ℕ) (b c : ℕ)
    → AllByRecursion (λ s. Agrees f o s × Agrees f o2 s) arrivals → is_full f arrivals b ≡ true
    → 1 ≤ source_count f b → source_count f b ≤ 255 → encoding_count f b ≤ 255 → c < f.symbol_length
    → (i : ℕ) → i < source_count f b → source_byte f o b i c ≡ source_byte f o2 b i c
column_same f arrivals o o2 b c agree full some small few hc i hi =
    let k = source_count f b in
    let enough : source_count f b ≤ length (arrived_esis arrivals b) = leb-true _ _ full in
    let js = take (source_count f b) (arrived_esis arrivals b) in
    let len : length (take (source_count f b) (arrived_esis arrivals b)) ≡ source_count f b = length-take-le _ _ enough in
    let here : AllByRecursion (λ j. has_arrived arrivals b j ≡ true) (take (source_count f b) (arrived_esis arrivals b)) =
    all_take (λ j. has_arrived arrivals b j ≡ true) _ _
    (all_weaker (λ j. (has_arrived arrivals b j ≡ true) × (j < 256)) (λ j. has_arrived arrivals b j ≡ true) (λ j h. h.0) _
    (all_filter (λ j. j < 256) (has_arrived arrivals b) (below 256) (all_below (λ j. j < 256) 256 (λ j h. h)))) in
    let apart : AreDifferent (take (source_count f b) (arrived_esis arrivals b)) =
    different_take _ _ (different_filter (has_arrived arrivals b) (below 256) (different_below 256)) in
    let one = some_member (λ j. has_arrived arrivals b j ≡ true) js (omega arith) here in
    let at = λ (j : ℕ) (h : has_arrived arrivals b j ≡ true). found (λ s. Agrees f o s × Agrees f o2 s) b j arrivals h agree in
    let a = (at one.0 one.1).1.0.columns c hc in
    let d = (at one.0 one.1).1.1.columns c hc in
    let meet = λ (j : ℕ) (h : has_arrived arrivals b j ≡ true).
    (let g = at j h in
    let x = g.1.0.columns c hc in
    let y = g.1.1.columns c hc in
    ap (λ (p : List ℕ). value p (point j)) (same_source f o a.polynomial x.polynomial b c small a.form x.form a.source x.source)
    ∙ x.symbol ∙ sym y.symbol
    ∙ sym (ap (λ (p : List ℕ). value p (point j)) (same_source f o2 d.polynomial y.polynomial b c small d.form y.form d.source y.source))) in
    let p_is_q : a.polynomial ≡ d.polynomial =
    same_polynomial (source_count f b) a.polynomial d.polynomial js a.form d.form len
    (all_weaker (λ j. has_arrived arrivals b j ≡ true) (λ j. j < 255) (λ j h. let e = (at j h).1.0.esi in omega arith) js here)
    apart
    (all_weaker (λ j. has_arrived arrivals b j ≡ true) (λ j. value a.polynomial (point j) ≡ value d.polynomial (point j)) meet js here) in
    sym (a.source i hi) ∙ ap (λ (p : List ℕ). value p (point i)) p_is_q ∙ d.source i hi

-- where all blocks are full, what came fits one object only
pub fits_only : (f : Fti) (arrivals : List Symbol) (o : List ℕ) → IsValidFti f → AllFull f arrivals → Fits f arrivals o → FitsOnly f arrivals o
fits_only f arrivals o valid full fits = record {
  fits = fits;
  only = λ o2 other.
      same_number_lists o2 o (other.form.count ∙ sym fits.form.count)
      (λ x hx.
      let hl : x < f.transfer_length = omega (arith, other.form.count) in
      let w = covers f valid x hl in
      let n = counts f valid w.0 w.3 in
      let e = column_same f arrivals o o2 w.0 w.2
      (all_both (Agrees f o) (Agrees f o2) arrivals fits.agrees other.agrees) (full w.0 w.3) n.0 n.1 n.2 w.5 w.1 w.4 in
      sym (subst (λ (y : ℕ). slice_index o y ≡ slice_index o2 y) w.6 e));
}
