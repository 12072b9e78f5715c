-- The object by the parts that blocks have of it, and what is written of them.
use Rattle.std.specs.Prelude.{flat_map}
use Rattle.std.proofs.Common.{◌≡◌, ℕ, zero, suc, ◌+◌, ◌-◌, ◌<◌, ◌≤◌, List, [], ◌∷◌, ◌++◌, Option, Some, None, length, refl, ap, sym, subst, ◌∙◌, arith, append_assoc, length-append}
use Rattle.std.proofs.lemmas.List.{append-nil}
use Rattle.std.proofs.lemmas.Grind.{flat_map-append}
use Rattle.std.specs.Io.KnownBytes.{Appends}
use Rattle.lists.specs.Below.{below}
use Rattle.session.specs.Frames.{AppendsSome}
use Rattle.session.proofs.Writes.{then_appends, then_some, front_some}
use Rattle.partition.specs.Fti.{Fti}
use Rattle.block_bytes.specs.Parts.{part_of, object_below}

below_next : (n : ℕ) → below (n + 1) ≡ below n ++ n ∷ []
unfolding below
below_next n = let e : n + 1 ≡ suc n = omega arith in rw e refl

pub nothing_below : (f : Fti) (bytes : ℕ → List ℕ) → object_below f bytes 0 ≡ []
unfolding below
nothing_below f bytes = refl

pub none_written : (f : Fti) (bytes : ℕ → List ℕ) (o : Option (List ℕ)) → Appends o o (object_below f bytes 0)
none_written f bytes None = tt
none_written f bytes (Some xs) = rw (nothing_below f bytes) (sym (append-nil xs))

pub part_more : (f : Fti) (bytes : ℕ → List ℕ) (n : ℕ) → object_below f bytes (n + 1) ≡ object_below f bytes n ++ part_of f bytes n
part_more f bytes n =
    ap (flat_map (part_of f bytes)) (below_next n) ∙ flat_map-append (part_of f bytes) (below n) (n ∷ [])
    ∙ ap (λ (l : List ℕ). object_below f bytes n ++ l) (append-nil (part_of f bytes n))

part_behind : (f : Fti) (bytes : ℕ → List ℕ) (m d : ℕ) → (later : List ℕ) × (object_below f bytes (m + d) ≡ object_below f bytes m ++ later)
part_behind f bytes m zero = let e : m + 0 ≡ m = omega arith in ([], ap (object_below f bytes) e ∙ sym (append-nil (object_below f bytes m)))
part_behind f bytes m (suc d) =
    let r = part_behind f bytes m d in
    let e : m + suc d ≡ m + d + 1 = omega arith in (
      r.0 ++ part_of f bytes (m + d),
      ap (object_below f bytes) e ∙ part_more f bytes (m + d) ∙ ap (λ (l : List ℕ). l ++ part_of f bytes (m + d)) r.1 ∙ append_assoc (object_below f bytes m) r.0 (part_of f bytes (m + d)),
    )

-- what follows the parts of the blocks up to one
pub part_later : (f : Fti) (bytes : ℕ → List ℕ) (b n : ℕ) → b < n → (later : List ℕ) × (object_below f bytes n ≡ (object_below f bytes b ++ part_of f bytes b) ++ later)
part_later f bytes b n lt =
    let e : b + 1 + (n - (b + 1)) ≡ n = omega (arith, lt) in
    let r = part_behind f bytes (b + 1) (n - (b + 1)) in
    (r.0, ap (object_below f bytes) (sym e) ∙ r.1 ∙ ap (λ (l : List ℕ). l ++ r.0) (part_more f bytes b))

-- ---- what is written

module _ (f : Fti) (bytes : ℕ → List ℕ) (b n : ℕ) (lt : b < n) (piece : List ℕ) (is : piece ≡ part_of f bytes b) (first old new : Option (List ℕ)) (before : Appends first old (object_below f bytes b)) where
  -- one part more
  pub part_written : Appends old new piece → Appends first new (object_below f bytes (b + 1))
  part_written h =
      subst (λ (l : List ℕ). Appends first new l) (sym (part_more f bytes b))
      (then_appends first old new (object_below f bytes b) (part_of f bytes b) before (subst (λ (l : List ℕ). Appends old new l) is h))

  -- a beginning of a part, behind the parts before
  pub part_begun : AppendsSome old new piece → AppendsSome first new (object_below f bytes n)
  part_begun h =
      let r = part_later f bytes b n lt in
      subst (λ (l : List ℕ). AppendsSome first new l) (sym r.1)
      (front_some first new (object_below f bytes b ++ part_of f bytes b) r.0
      (then_some first old new (object_below f bytes b) (part_of f bytes b) before (subst (λ (l : List ℕ). AppendsSome old new l) is h)))

pub length_more : (f : Fti) (bytes : ℕ → List ℕ) (b : ℕ) → length (object_below f bytes (b + 1)) ≡ length (object_below f bytes b) + length (part_of f bytes b)
length_more f bytes b = ap length (part_more f bytes b) ∙ length-append (object_below f bytes b) (part_of f bytes b)

pub length_within : (f : Fti) (bytes : ℕ → List ℕ) (b n : ℕ) → b < n → length (object_below f bytes b) + length (part_of f bytes b) ≤ length (object_below f bytes n)
length_within f bytes b n lt =
    let r = part_later f bytes b n lt in
    omega (arith, ap length r.1, length-append (object_below f bytes b ++ part_of f bytes b) r.0, length-append (object_below f bytes b) (part_of f bytes b))
