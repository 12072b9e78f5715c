-- The EXT_FTI among extensions.
use Rattle.std.proofs.Common.{◌≡◌, ℕ, ◌+◌, ◌≤◌, inl, inr, true, false, not, ◌||◌, cond, eqb, List, [], ◌∷◌, ◌++◌, length, arith, refl, ap, sym, subst, ◌∙◌, Option, Some, None}
use Rattle.std.specs.Prelude.{count_by}
use Rattle.std.specs.List.{list_all, list_any}
use Rattle.std.proofs.lemmas.Bool.{and_parts, and_from, or_cases, not-true, not_from_false, cases_Bool, eqb-true, eq-eqb}
use Rattle.alc.specs.Packet.{is_extension, is_other, type_of}
use Rattle.alc.specs.PacketFault.{is_sound, is_fti}
use Rattle.alc.specs.Computed.{part}
use Rattle.alc.proofs.Walks.{after, seen_after, count_more, is_sound_parts}
use Rattle.std.specs.Str.{bytes_eq as same}

pub same_is : (xs ys : List ℕ) → same xs ys ≡ true → xs ≡ ys
same_is [] [] h = refl
same_is (x ∷ xs) (y ∷ ys) h = let p = and_parts (eqb x y) (same xs ys) h in let e = eqb-true x y p.0 in let r = same_is xs ys p.1 in cc
same_is [] (y ∷ ys) h = absurd cc
same_is (x ∷ xs) [] h = absurd cc

pub same_self : (xs : List ℕ) → same xs xs ≡ true
same_self [] = refl
same_self (x ∷ xs) = and_from (eqb x x) (same xs xs) (eq-eqb x x refl) (same_self xs)

-- none among them: what was seen stays
pub seen_none : (es : List (List ℕ)) (seen : Option (List ℕ)) → count_by is_fti es ≡ 0 → seen_after es seen ≡ seen
seen_none [] seen h = refl
seen_none (e ∷ es) seen h =
    elim (cases_Bool (is_fti e)) [
      | inl fti ↦ let one : cond {A = ℕ} (is_fti e) 1 0 ≡ 1 = rw fti refl in absurd (omega (arith, h, one, count_more e es))
      | inr other ↦ let now : after e seen ≡ seen = rw other refl in rw now (seen_none es seen (omega (arith, h, count_more e es)))
    ]

count_yes : (e : List ℕ) (es : List (List ℕ)) → is_fti e ≡ true → count_by is_fti (e ∷ es) ≡ 1 + count_by is_fti es
count_yes e es fti = let one : cond {A = ℕ} (is_fti e) 1 0 ≡ 1 = rw fti refl in omega (arith, one, count_more e es)

count_no : (e : List ℕ) (es : List (List ℕ)) → is_fti e ≡ false → count_by is_fti (e ∷ es) ≡ count_by is_fti es
count_no e es other = let none : cond {A = ℕ} (is_fti e) 1 0 ≡ 0 = rw other refl in omega (arith, none, count_more e es)

count_at_least : (e : List ℕ) (es : List (List ℕ)) → count_by is_fti es ≤ count_by is_fti (e ∷ es)
count_at_least e es = omega (arith, count_more e es)

any_counts : (es : List (List ℕ)) (x : List ℕ) → is_fti x ≡ true → list_any (same x) es ≡ true → 1 ≤ count_by is_fti es
any_counts [] x fti h = absurd cc
any_counts (e ∷ es) x fti h =
    elim (or_cases (same x e) (list_any (same x) es) h) [
      | inl here ↦
          let fti_e : is_fti e ≡ true = subst (λ (y : List ℕ). is_fti y ≡ true) (same_is x e here) fti in
          omega (arith, count_yes e es fti_e)
      | inr later ↦ omega (arith, any_counts es x fti later, count_at_least e es)
    ]

-- the one that is known to be among them
pub seen_one : (es : List (List ℕ)) (x : List ℕ) → is_fti x ≡ true → count_by is_fti es ≤ 1 → list_any (same x) es ≡ true → seen_after es None ≡ Some (part 2 10 x)
seen_one [] x fti few h = absurd cc
seen_one (e ∷ es) x fti few h =
    elim (or_cases (same x e) (list_any (same x) es) h) [
      | inl here ↦
          let is : x ≡ e = same_is x e here in
          let fti_e : is_fti e ≡ true = subst (λ (y : List ℕ). is_fti y ≡ true) is fti in
          let now : after e None ≡ Some (part 2 10 x) = rw (fti_e, is) refl in
          rw now (seen_none es (Some (part 2 10 x)) (omega (arith, few, count_yes e es fti_e)))
      | inr later ↦ elim (cases_Bool (is_fti e)) [
        | inl fti_e ↦ absurd (omega (arith, few, count_yes e es fti_e, any_counts es x fti later))
        | inr other ↦
            let now : after e None ≡ None = rw other refl in
            rw now (seen_one es x fti (omega (arith, few, count_no e es other)) later)
      ]
    ]

-- es has one EXT_FTI, e
pub record Chosen (es : List (List ℕ)) (content : List ℕ) : Type 0 where
  pub before : List (List ℕ)
  pub e : List ℕ
  pub behind : List (List ℕ)
  pub split : es ≡ before ++ e ∷ behind
  pub others_before : list_all is_other before ≡ true
  pub others_behind : list_all is_other behind ≡ true
  pub extension : is_extension e ≡ true
  pub twelve : length e ≡ 12
  pub fti : is_fti e ≡ true
  pub is : part 2 10 e ≡ content

sound_other : (e : List ℕ) → is_sound e ≡ true → is_fti e ≡ false → is_other e ≡ true
sound_other e s f = and_from _ _ (and_parts (is_extension e) (not (eqb (type_of e) 64) || eqb (length e) 12) s).0 (not_from_false (is_fti e) f)

-- none among them: all are others
pub all_others : (es : List (List ℕ)) → list_all is_sound es ≡ true → count_by is_fti es ≡ 0 → list_all is_other es ≡ true
all_others [] s h = refl
all_others (e ∷ es) s h =
    let p = and_parts (is_sound e) (list_all is_sound es) s in
    elim (cases_Bool (is_fti e)) [
      | inl fti ↦ absurd (omega (arith, h, count_yes e es fti))
      | inr other ↦ and_from (is_other e) (list_all is_other es) (sound_other e p.0 other) (all_others es p.1 (omega (arith, h, count_no e es other)))
    ]

some_is : (x y : List ℕ) → Some x ≡ Some y → x ≡ y
some_is x y h = cc

pub find : (es : List (List ℕ)) (content : List ℕ) → list_all is_sound es ≡ true → count_by is_fti es ≤ 1 → seen_after es None ≡ Some content → Chosen es content
find [] content s few h = absurd cc
find (e ∷ es) content s few h =
    let p = and_parts (is_sound e) (list_all is_sound es) s in
    let q = is_sound_parts e p.0 in
    elim (cases_Bool (is_fti e)) [
      | inl fti ↦
          let now : after e None ≡ Some (part 2 10 e) = rw fti refl in
          let none : count_by is_fti es ≡ 0 = omega (arith, few, count_yes e es fti) in
          let both : Some (part 2 10 e) ≡ Some content = sym (seen_none es (Some (part 2 10 e)) none) ∙ (rw now at h) in
          record { before = []; e = e; behind = es; split = refl; others_before = refl; others_behind = all_others es p.1 none; extension = q.0; twelve = q.1 fti; fti = fti; is = some_is _ _ both }
      | inr other ↦
          let now : after e None ≡ None = rw other refl in
          let c = find es content p.1 (omega (arith, few, count_no e es other)) (rw now at h) in
          record { before = e ∷ c.before; e = c.e; behind = c.behind; split = ap (λ (x : List (List ℕ)). e ∷ x) c.split; others_before = and_from (is_other e) (list_all is_other c.before) (sound_other e p.0 other) c.others_before; others_behind = c.others_behind; extension = c.extension; twelve = c.twelve; fti = c.fti; is = c.is }
    ]

seen_stays : (es : List (List ℕ)) (x : List ℕ) → seen_after es (Some x) ≡ None → ⊥
seen_stays [] x h = cc
seen_stays (e ∷ es) x h =
    elim (cases_Bool (is_fti e)) [
      | inl fti ↦ let now : after e (Some x) ≡ Some (part 2 10 e) = rw fti refl in seen_stays es (part 2 10 e) (rw now at h)
      | inr other ↦ let now : after e (Some x) ≡ Some x = rw other refl in seen_stays es x (rw now at h)
    ]

pub seen_nothing : (es : List (List ℕ)) → list_all is_sound es ≡ true → seen_after es None ≡ None → count_by is_fti es ≡ 0
seen_nothing [] s h = refl
seen_nothing (e ∷ es) s h =
    let p = and_parts (is_sound e) (list_all is_sound es) s in
    elim (cases_Bool (is_fti e)) [
      | inl fti ↦ let now : after e None ≡ Some (part 2 10 e) = rw fti refl in absurd (seen_stays es (part 2 10 e) (rw now at h))
      | inr other ↦ let now : after e None ≡ None = rw other refl in omega (arith, count_no e es other, seen_nothing es p.1 (rw now at h))
    ]

-- ---- the other way

other_parts : (e : List ℕ) → is_other e ≡ true → (is_sound e ≡ true) × (is_fti e ≡ false)
other_parts e h =
    let p = and_parts (is_extension e) (not (is_fti e)) h in
    let f : is_fti e ≡ false = not-true (is_fti e) p.1 in
    (rw (p.0, f) refl, f)

pub others_are : (es : List (List ℕ)) → list_all is_other es ≡ true → (list_all is_sound es ≡ true) × (count_by is_fti es ≡ 0)
others_are [] h = (refl, refl)
others_are (e ∷ es) h =
    let p = and_parts (is_other e) (list_all is_other es) h in
    let o = other_parts e p.0 in
    let r = others_are es p.1 in
    (and_from (is_sound e) (list_all is_sound es) o.0 r.0, omega (arith, count_no e es o.1, r.1))

pub record Sees (es : List (List ℕ)) (e : List ℕ) : Type 0 where
  pub each : list_all is_sound es ≡ true
  pub one : count_by is_fti es ≡ 1
  pub seen : seen_after es None ≡ Some (part 2 10 e)

pub sees : (before behind : List (List ℕ)) (e : List ℕ) → list_all is_other before ≡ true → list_all is_other behind ≡ true → is_sound e ≡ true → is_fti e ≡ true → Sees (before ++ e ∷ behind) e
sees [] behind e hb ha s fti =
    let r = others_are behind ha in
    let now : after e None ≡ Some (part 2 10 e) = rw fti refl in
    record { each = and_from (is_sound e) (list_all is_sound behind) s r.0; one = omega (arith, count_yes e behind fti, r.1); seen = ap (λ (o : Option (List ℕ)). seen_after behind o) now ∙ seen_none behind (Some (part 2 10 e)) r.1 }
sees (x ∷ before) behind e hb ha s fti =
    let p = and_parts (is_other x) (list_all is_other before) hb in
    let o = other_parts x p.0 in
    let r = sees before behind e p.1 ha s fti in
    let now : after x None ≡ None = rw o.1 refl in
    record { each = and_from (is_sound x) (list_all is_sound (before ++ e ∷ behind)) o.0 r.each; one = omega (arith, count_no x (before ++ e ∷ behind) o.1, r.one); seen = ap (λ (o : Option (List ℕ)). seen_after (before ++ e ∷ behind) o) now ∙ r.seen }
