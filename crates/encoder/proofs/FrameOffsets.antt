-- Where the frames of a session begin.
use Rattle.std.proofs.Common.{◌≡◌, ℕ, zero, suc, ◌+◌, ◌-◌, ◌*◌, ◌/◌, ◌%◌, ◌^◌, ◌<◌, ◌≤◌, true, false, refl, ap, sym, ◌∙◌, inl, inr, arith}
use Rattle.std.specs.Prelude.{◌==◌}
use Rattle.std.specs.Int.{div_ceil}
use Rattle.std.proofs.lemmas.Bool.{cases_lt, eq-eqb, ne_eqb}
use Rattle.std.proofs.lemmas.Nat.{div-mul-add, div-add-mod'}
use Rattle.std.proofs.Math.Nat.{mul-le-mul_right}
use Rattle.partition.specs.Fti.{Fti, IsValidFti, ceiling}
use Rattle.partition.proofs.Laws.{ceiling_is}
use Rattle.encoder.specs.Sending.{frame_bytes}
use Rattle.encoder.specs.RoundPlaces.{offset_of}

module _ (f : Fti) (every : ℕ) where
  carrier_frame : (p : ℕ) → p % every ≡ 0 → frame_bytes f every p ≡ 34 + f.symbol_length
  carrier_frame p e = let t : (p % every == 0) ≡ true = eq-eqb (p % every) 0 e in rw t (omega arith)

  other_frame : (p : ℕ) → 0 < p % every → frame_bytes f every p ≡ 22 + f.symbol_length
  other_frame p some = let t : (p % every == 0) ≡ false = ne_eqb (p % every) 0 (λ e. omega arith) in rw t (omega arith)

  pub frame_most : (p : ℕ) → frame_bytes f every p ≤ 34 + f.symbol_length
  frame_most p = elim (cases_lt 0 (p % every)) [
    | inl some ↦ omega (arith, other_frame p some)
    | inr none ↦ omega (arith, carrier_frame p (omega arith))
  ]

  pub offset_next : (p : ℕ) → offset_of f every (p + 1) ≡ offset_of f every p + frame_bytes f every p
  unfolding offset_of
  offset_next p = let e : p + 1 ≡ suc p = omega arith in rw e refl

  pub offset_zero : offset_of f every 0 ≡ 0
  unfolding offset_of
  offset_zero = refl

  pub offset_most : (p : ℕ) → offset_of f every p ≤ p * (34 + f.symbol_length)
  offset_most zero = omega (arith, offset_zero)
  offset_most (suc p) =
      let e : p + 1 ≡ suc p = omega arith in
      let g : offset_of f every (p + 1) ≤ (p + 1) * (34 + f.symbol_length) = omega (arith, offset_next p, offset_most p, frame_most p) in
      rw e at g

  pub offset_later : (p d : ℕ) → offset_of f every p ≤ offset_of f every (p + d)
  offset_later p zero = let e : p ≡ p + 0 = omega arith in let g = ap (offset_of f every) e in omega (arith, g)
  offset_later p (suc d) =
      let e : p + d + 1 ≡ p + suc d = omega arith in
      let g : offset_of f every p ≤ offset_of f every (p + d + 1) = omega (arith, offset_later p d, offset_next (p + d)) in
      rw e at g

  pub offset_rising : (p q : ℕ) → p ≤ q → offset_of f every p ≤ offset_of f every q
  offset_rising p q le =
      let e : p + (q - p) ≡ q = omega arith in
      let g = offset_later p (q - p) in
      rw e at g

  -- one carrier more
  ceiling_carrier : (p : ℕ) → 1 ≤ every → p % every ≡ 0 → ceiling (p + 1) every ≡ ceiling p every + 1
  unfolding ceiling
  ceiling_carrier p some e =
      let w : p / every * every + p % every ≡ p = div-add-mod' p every in
      let now : p + (every - 1) ≡ p / every * every + (every - 1) = omega arith in
      let next : p + 1 + (every - 1) ≡ (p / every + 1) * every + 0 = omega arith in
      ap (λ (x : ℕ). x / every) next ∙ div-mul-add (p / every + 1) every 0 (omega arith)
      ∙ sym (ap (λ (x : ℕ). x / every + 1) now ∙ ap (λ (x : ℕ). x + 1) (div-mul-add (p / every) every (every - 1) (omega arith)))

  ceiling_other : (p : ℕ) → 1 ≤ every → 0 < p % every → ceiling (p + 1) every ≡ ceiling p every
  unfolding ceiling
  ceiling_other p some more =
      let w : p / every * every + p % every ≡ p = div-add-mod' p every in
      let below : p % every < every = omega arith in
      let now : p + (every - 1) ≡ (p / every + 1) * every + (p % every - 1) = omega arith in
      let next : p + 1 + (every - 1) ≡ (p / every + 1) * every + p % every = omega arith in
      ap (λ (x : ℕ). x / every) next ∙ div-mul-add (p / every + 1) every (p % every) below
      ∙ sym (ap (λ (x : ℕ). x / every) now ∙ div-mul-add (p / every + 1) every (p % every - 1) (omega arith))

  ceiling_zero : 1 ≤ every → ceiling 0 every ≡ 0
  unfolding ceiling
  ceiling_zero some =
      let e : 0 + (every - 1) ≡ 0 * every + (every - 1) = omega arith in
      ap (λ (x : ℕ). x / every) e ∙ div-mul-add 0 every (every - 1) (omega arith)

  pub offset_is : 1 ≤ every → (p : ℕ) → offset_of f every p ≡ p * (22 + f.symbol_length) + ceiling p every * 12
  offset_is some zero = omega (arith, offset_zero, ceiling_zero some)
  offset_is some (suc p) =
      let e : p + 1 ≡ suc p = omega arith in
      let g : offset_of f every (p + 1) ≡ (p + 1) * (22 + f.symbol_length) + ceiling (p + 1) every * 12 = elim (cases_lt 0 (p % every)) [
        | inl more ↦ omega (arith, offset_next p, offset_is some p, other_frame p more, ceiling_other p some more)
        | inr none ↦ (let z : p % every ≡ 0 = omega arith in omega (arith, offset_next p, offset_is some p, carrier_frame p z, ceiling_carrier p some z))
      ] in
      rw e at g

  pub offset_by_carriers : 1 ≤ every → (p : ℕ) → offset_of f every p ≡ p * (22 + f.symbol_length) + div_ceil p every * 12
  offset_by_carriers some p = offset_is some p ∙ ap (λ (c : ℕ). p * (22 + f.symbol_length) + c * 12) (ceiling_is p every some)

-- the whole session fits 64 bits
pub offset_fits : (f : Fti) (every p : ℕ) → IsValidFti f → p ≤ 2 ^ 32 → offset_of f every p < 2 ^ 50
offset_fits f every p valid few =
    let most : p * (34 + f.symbol_length) ≤ 2 ^ 32 * (34 + f.symbol_length) = mul-le-mul_right (34 + f.symbol_length) few in
    omega (arith, offset_most f every p, most, valid.symbol_below)
