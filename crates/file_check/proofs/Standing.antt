-- Where datagrams stand, one by one.
use Rattle.std.proofs.Common.{if◌then◌else◌, ◌≡◌, ℕ, zero, suc, ◌+◌, ◌-◌, ◌<◌, ◌≤◌, Bool, true, false, List, [], ◌∷◌, ◌++◌, length, length-append, get_or, refl, sym, ap, subst, ◌∙◌, inl, inr, arith}
use Rattle.std.proofs.Math.Seq.{get_or-append_seam}
use Rattle.std.proofs.lemmas.Bool.{cases_lt}
use Rattle.std.proofs.lemmas.List.{get_or_append_left}
use Rattle.session.specs.declared.extent.Extent.{Extent}
use Rattle.file_check.specs.Standing.{begin_from, end_from, extents_from, no_extent}

-- one more
pub pushed : (b : ℕ) (es : List ℕ) (e : ℕ) → extents_from b (es ++ e ∷ []) ≡ extents_from b es ++ record { offset = end_from b es + 2; length = e - (end_from b es + 2) } ∷ []
pushed b [] e = refl
pushed b (x ∷ es) e = ap (λ (l : List Extent). record { offset = b + 2; length = x - (b + 2) } ∷ l) (pushed x es e)

pub end_pushed : (b : ℕ) (es : List ℕ) (e : ℕ) → end_from b (es ++ e ∷ []) ≡ e
end_pushed b [] e = refl
end_pushed b (x ∷ es) e = end_pushed x es e

pub begin_kept : (b : ℕ) (es : List ℕ) (e i : ℕ) → i < length es → begin_from b (es ++ e ∷ []) i ≡ begin_from b es i
begin_kept b es e zero l = refl
begin_kept b [] e (suc i) l = absurd (omega (arith, l))
begin_kept b (x ∷ es) e (suc i) l = begin_kept x es e i (omega (arith, l))

pub begin_last : (b : ℕ) (es : List ℕ) (e : ℕ) → begin_from b (es ++ e ∷ []) (length es) ≡ end_from b es
begin_last b [] e = refl
begin_last b (x ∷ es) e = begin_last x es e

-- by the one before
pub begin_behind : (b : ℕ) (es : List ℕ) (i : ℕ) → i < length es → begin_from b es (suc i) ≡ get_or es i 0
begin_behind b [] i l = absurd (omega (arith, l))
begin_behind b (x ∷ es) zero l = refl
begin_behind b (x ∷ es) (suc i) l = begin_behind x es i (omega (arith, l))

pub many : (b : ℕ) (es : List ℕ) → length (extents_from b es) ≡ length es
many b [] = refl
many b (x ∷ es) = ap suc (many x es)

pub extent_is : (b : ℕ) (es : List ℕ) (i : ℕ) → i < length es
    → get_or (extents_from b es) i no_extent ≡ record { offset = begin_from b es i + 2; length = get_or es i 0 - (begin_from b es i + 2) }
extent_is b [] i l = absurd (omega (arith, l))
extent_is b (x ∷ es) zero l = refl
extent_is b (x ∷ es) (suc i) l = extent_is x es i (omega (arith, l))

abbrev pub extent : ℕ → ℕ → Extent
extent offset length = record { offset = offset; length = length }

pub same_extent : (x : Extent) (begin e : ℕ) → x.offset ≡ begin + 2 → e ≡ x.offset + x.length → extent (begin + 2) (e - (begin + 2)) ≡ x
same_extent x begin e at is =
    let long : e - (begin + 2) ≡ x.length = omega (arith, at, is) in
    ap (λ (n : ℕ). extent n (e - (begin + 2))) (sym at) ∙ ap (λ (n : ℕ). extent x.offset n) long

-- each ends behind its length's two bytes, and is short
abbrev pub Apart : List ℕ → Type 0
Apart es = (i : ℕ) → i < length es → (begin_from 0 es i + 2 ≤ get_or es i 0) × (get_or es i 0 - (begin_from 0 es i + 2) < 65536)

module _ (es : List ℕ) (e : ℕ) (apart : Apart es) (behind : end_from 0 es + 2 ≤ e) (short : e - (end_from 0 es + 2) < 65536) where
  apart_more : Apart (es ++ e ∷ [])
  apart_more i l = elim (cases_lt i (length es)) [
    | inl lt ↦ rw (begin_kept 0 es e i lt, get_or_append_left es (e ∷ []) 0 i lt) (apart i lt)
    | inr ge ↦
        (let at : i ≡ length es = omega (arith, ge, l, length-append es (e ∷ [])) in
        rw (at, begin_last 0 es e, get_or-append_seam es e [] 0) (behind, short))
  ]

  pub apart_pushed : (b : Bool) (new : List ℕ) → new ≡ (if b then es ++ e ∷ [] else es) → Apart new
  apart_pushed true new is = subst Apart (sym is) apart_more
  apart_pushed false new is = subst Apart (sym is) apart
