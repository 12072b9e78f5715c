-- A loop over extensions keeps the answer: what a walk over the bytes that are left gives is what
-- the whole walk gives.
use Rattle.std.proofs.Common.{◌≡◌, ℕ, suc, ◌+◌, ◌-◌, ◌<◌, ◌≤◌, ◌⊎◌, inl, inr, true, false, cond, List, [], ◌∷◌, ◌++◌, length, take, drop, get_or, arith, refl, ap, sym, ◌∙◌, Option, Some, None, Result, Ok, Err}
use Rattle.std.specs.Prelude.{is_some, option_map}
use Rattle.std.proofs.lemmas.Bool.{eq-eqb, ne_eqb}
use Rattle.std.proofs.lemmas.List.{length-take, length-drop, take-append-drop, take_rest, nil_from_length}
use Rattle.alc.specs.Packet.{type_of}
use Rattle.alc.specs.PacketFault.{is_sound, is_fti, BeginsWith}
use Rattle.alc.specs.declared.fault.PacketFault.{PacketFault}
use Rattle.alc.specs.declared.fault.PacketFault.TheVariants.{Extension, FtiLength, TwoFti}
use Rattle.alc.specs.Computed.{size_of, walk, part}
use Rattle.alc.proofs.Fronts.{is_one}
use Rattle.alc.proofs.Walks.{ones, ones_few, after, ends_here, walk_step, walk_any, begins_is, sound_from}

abbrev Answer : Type 0
Answer = Result (Option (List ℕ)) PacketFault

pub ended : (total : Answer) (rest : List ℕ) (seen : Option (List ℕ)) → length rest ≡ 0 → total ≡ walk (length rest) rest seen → total ≡ Ok seen
ended total rest seen none is = is ∙ ends_here (length rest) rest seen (Ok seen) (omega arith) (nil_from_length rest none, refl)

pub no_extension : (total : Answer) (rest : List ℕ) (seen : Option (List ℕ)) → 0 < length rest → ((size_of rest ≡ 0) ⊎ (length rest < size_of rest)) → total ≡ walk (length rest) rest seen → total ≡ Err Extension
no_extension total rest seen some bad is =
    is ∙ ends_here (length rest) rest seen (Err Extension) (omega arith)
    (some, λ e b. elim bad [ inl none ↦ absurd (omega (arith, none, begins_is rest e b)) | inr past ↦ absurd (omega (arith, past, begins_is rest e b)) ])

first_of : (e : List ℕ) → get_or e 0 0 ≡ type_of e
first_of [] = refl
first_of (x ∷ e) = refl

is_kind : (e : List ℕ) → get_or e 0 0 ≡ 64 → is_fti e ≡ true
is_kind e h = eq-eqb _ _ (sym (first_of e) ∙ h)

other_kind : (e : List ℕ) → (get_or e 0 0 ≡ 64 → ⊥) → is_fti e ≡ false
other_kind e h = ne_eqb _ _ (λ (z : type_of e ≡ 64). h (first_of e ∙ z))

-- the extension e in front, of s bytes, and what is behind it
module _ (total : Answer) (rest : List ℕ) (s : ℕ) (e behind : List ℕ) (hs : s ≡ size_of rest) (he : e ≡ take s rest) (hb : behind ≡ drop s rest) (some : s ≡ 0 → ⊥) (fits : s ≤ length rest) where
  split : rest ≡ e ++ behind
  split = rw (he, hb) (sym (take-append-drop s rest))

  begins : BeginsWith rest e
  begins = (rw (he, hs) (is_one rest (omega (arith, hs, some)) (omega (arith, hs, fits))), behind, split)

  size : length e ≡ s
  size = ap length he ∙ omega (arith, length-take s rest)

  pub wrong_length : (seen : Option (List ℕ)) → get_or e 0 0 ≡ 64 → (s ≡ 12 → ⊥) → total ≡ walk (length rest) rest seen → total ≡ Err FtiLength
  wrong_length seen kind ne is =
      is ∙ ends_here (length rest) rest seen (Err FtiLength) (omega arith) (omega (arith, some, fits), (e, begins, is_kind e kind, λ twelve. ne (sym size ∙ twelve)))

  pub second_fti : {X : Type 0} (view : X → List ℕ) (seen : Option X) → is_some seen ≡ true → get_or e 0 0 ≡ 64 → s ≡ 12 → total ≡ walk (length rest) rest (option_map view seen) → total ≡ Err TwoFti
  second_fti view None there kind twelve is = absurd cc
  second_fti view (Some x) there kind twelve is =
      is ∙ ends_here (length rest) rest (Some (view x)) (Err TwoFti) (omega arith) (omega (arith, some, fits), (e, begins, is_kind e kind, refl, size ∙ twelve))

  -- one extension on
  on : (seen now : Option (List ℕ)) → is_sound e ≡ true → ones seen + cond (is_fti e) 1 0 ≤ 1 → after e seen ≡ now → total ≡ walk (length rest) rest seen → total ≡ walk (length behind) behind now
  on seen now sound few then is =
      let n : ℕ = length rest + length behind in
      let long = begins_is rest e begins in
      is
      ∙ walk_any (length rest) (suc n) rest seen (omega arith) (omega arith)
      ∙ ap (λ (x : List ℕ). walk (suc n) x seen) split
      ∙ walk_step n e behind seen sound few
      ∙ walk_any n (length behind) behind (after e seen) (omega arith) (omega arith)
      ∙ ap (λ (o : Option (List ℕ)). walk (length behind) behind o) then

  pub other_on : (seen : Option (List ℕ)) → (get_or e 0 0 ≡ 64 → ⊥) → total ≡ walk (length rest) rest seen → total ≡ walk (length behind) behind seen
  other_on seen kind is =
      let other : is_fti e ≡ false = other_kind e kind in
      on seen seen (sound_from e begins.0 (λ fti. absurd cc)) (rw other (omega (arith, ones_few seen))) (rw other refl) is

  pub fti_on : {X : Type 0} (view : X → List ℕ) (seen : Option X) → is_some seen ≡ false → get_or e 0 0 ≡ 64 → s ≡ 12 → total ≡ walk (length rest) rest (option_map view seen)
      → total ≡ walk (length behind) behind (Some (take (length e - 2) (drop 2 e)))
  fti_on view (Some x) there kind twelve is = absurd cc
  fti_on view None there kind twelve is =
      let fti : is_fti e ≡ true = is_kind e kind in
      let content : part 2 10 e ≡ take (length e - 2) (drop 2 e) = let k : 10 ≡ length e - 2 = omega (arith, size, twelve) in ap (λ (n : ℕ). take n (drop 2 e)) k in
      on None (Some (take (length e - 2) (drop 2 e))) (sound_from e begins.0 (λ _. size ∙ twelve)) (rw fti (omega arith)) (rw (fti, content) refl) is

pub ten_left : (rest e : List ℕ) (s : ℕ) → e ≡ take s rest → s ≤ length rest → s ≡ 12 → length (take (length e - 2) (drop 2 e)) ≡ 10
ten_left rest e s he fits twelve = ap length (take_rest e 2) ∙ omega (arith, length-drop 2 e, ap length he, length-take s rest)
