-- Where symbols stand of a block that is pending: at the ESIs that came.
use Rattle.std.specs.Prelude.{is_some, filter, slice_index, ◌==◌}
use Rattle.std.proofs.Common.{◌≡◌, ◌∙◌, ℕ, suc, ◌<◌, ◌≤◌, true, false, List, [], ◌∷◌, Option, Some, None, length, sym, ap, refl, arith, inl, inr}
use Rattle.std.proofs.lemmas.Bool.{cases_Bool, eqb-true}
use Rattle.lists.specs.Below.{below}
use Rattle.partition.specs.Fti.{Fti, block_count, source_count, encoding_count}
use Rattle.block_recovery.specs.Decoded.{AreWithin}
use Rattle.receiver.specs.Stored.{is_among, AreSymbols, IsPending, IsSolved, IsStored}
use Rattle.block_recovery.proofs.Kept.{count_none, count_same}

-- the place of an ESI that is among these
pub among_place : (esis : List ℕ) (j : ℕ) → is_among esis j ≡ true → (i : ℕ) × (i < length esis) × (slice_index esis i ≡ j)
among_place [] j among = absurd (cc)
among_place (e ∷ esis) j among = elim (cases_Bool (e == j)) [
  | inl here ↦ (0, omega arith, eqb-true e j here)
  | inr other ↦
      (let w = among_place esis j (sym (rw other refl) ∙ among) in
      (suc w.0, omega (arith, w.1), w.2))
]

-- a symbol stands where its ESI came, and nowhere else
pub pending_some : (size : ℕ) (esis bytes : List ℕ) (at : ℕ → Option (List ℕ)) → AreSymbols size esis bytes at → (j : ℕ) → is_some (at j) ≡ is_among esis j
pending_some size esis bytes at are j = elim (cases_Bool (is_among esis j)) [
  | inl among ↦
      (let w = among_place esis j among in
      ap (λ (x : ℕ). is_some (at x)) (sym w.2) ∙ ap is_some (are.came w.0 w.1) ∙ sym among)
  | inr not_among ↦ (ap is_some (are.others j not_among) ∙ sym not_among)
]

-- as many stand as came
pub pending_count : (f : Fti) (b : ℕ) (bytes esis : List ℕ) (at : ℕ → Option (List ℕ)) → IsPending f b bytes esis at
    → length esis ≡ length (filter (λ j. is_some (at j)) (below (encoding_count f b)))
pending_count f b bytes esis at h =
    h.of.once ∙ count_same (is_among esis) (λ j. is_some (at j)) (encoding_count f b) (λ j lj. sym (pending_some f.symbol_length esis bytes at h.symbols j))

pub enough_count : (f : Fti) (b : ℕ) (bytes esis : List ℕ) (at : ℕ → Option (List ℕ)) → IsSolved f b bytes esis at
    → length esis ≡ length (filter (λ j. is_some (at j)) (below (encoding_count f b)))
enough_count f b bytes esis at h = h.of.once ∙ count_same (is_among esis) (λ j. is_some (at j)) (encoding_count f b) (λ j lj. h.seen j)

pub kept_count : (f : Fti) (b : ℕ) (bytes esis : List ℕ) (at : ℕ → Option (List ℕ)) → IsStored f b bytes esis at
    → length esis ≡ length (filter (λ j. is_some (at j)) (below (encoding_count f b)))
kept_count f b bytes esis at (inl h) = pending_count f b bytes esis at h
kept_count f b bytes esis at (inr h) = enough_count f b bytes esis at h

-- by how many came it is pending, or solved
pub pending_of : (f : Fti) (b : ℕ) (bytes esis : List ℕ) (at : ℕ → Option (List ℕ)) → length esis < source_count f b → IsStored f b bytes esis at → IsPending f b bytes esis at
pending_of f b bytes esis at few (inl h) = h
pending_of f b bytes esis at few (inr h) = absurd (omega (arith, few, h.enough))

pub solved_of : (f : Fti) (b : ℕ) (bytes esis : List ℕ) (at : ℕ → Option (List ℕ)) → source_count f b ≤ length esis → IsStored f b bytes esis at → IsSolved f b bytes esis at
solved_of f b bytes esis at enough (inl h) = absurd (omega (arith, enough, h.few))
solved_of f b bytes esis at enough (inr h) = h

-- none stands in a block that the object doesn't have
pub none_past : (f : Fti) (at : ℕ → ℕ → Option (List ℕ)) → AreWithin f at → (b : ℕ) → block_count f ≤ b → (n : ℕ) → length (filter (λ j. is_some (at b j)) (below n)) ≡ 0
none_past f at within b past n = count_none (λ j. is_some (at b j)) n (λ j. outside j (at b j) refl)
  where
    outside : (j : ℕ) (o : Option (List ℕ)) → at b j ≡ o → is_some (at b j) ≡ false
    outside j None is = ap is_some is
    outside j (Some y) is = absurd (omega (arith, within.block b j y is, past))
