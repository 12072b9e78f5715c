-- The walk over extensions: what its answer says, and that what is so is its answer.
use Rattle.std.proofs.Common.{◌≡◌, ℕ, zero, suc, ◌+◌, ◌<◌, ◌≤◌, inl, inr, Bool, true, false, ◌||◌, cond, eqb, ltb, List, [], ◌∷◌, ◌++◌, length, take, drop, arith, refl, ap, sym, subst, ◌∙◌, Option, Some, None, Result, Ok, Err, append_assoc}
use Rattle.std.specs.Prelude.{is_some, count_by}
use Rattle.std.specs.List.{list_all}
use Rattle.std.proofs.lemmas.Bool.{and_parts, and_from, or_parts, or_from, eqb-false, ltb-false, le-ltb, eq-eqb, ne_eqb, cases_Bool, cases_eq, cases_lt, cond-true}
use Rattle.std.proofs.lemmas.Bool.Decides.{nat_tests}
use Rattle.std.proofs.lemmas.List.{length-drop, length-append, take-append-drop, drop_at, nil_from_length, take-append-le, drop-append-le}
use Rattle.std.proofs.lemmas.List.Sums.{sum_by-cons}
use Rattle.alc.specs.Packet.{is_extension, type_of, joined}
use Rattle.alc.specs.PacketFault.{is_sound, is_fti, BeginsWith}
use Rattle.alc.specs.declared.fault.PacketFault.{PacketFault}
use Rattle.alc.specs.declared.fault.PacketFault.TheVariants.{Extension, FtiLength, TwoFti}
use Rattle.alc.specs.Computed.{size_of, walk, part}
use Rattle.alc.proofs.Fronts.{size_is, type_is, is_long, is_one}

-- how many EXT_FTI were seen
abbrev pub ones : Option (List ℕ) → ℕ
ones None = 0
ones (Some e) = 1

abbrev pub after : List ℕ → Option (List ℕ) → Option (List ℕ)
after e seen = cond (is_fti e) (Some (part 2 10 e)) seen

abbrev pub seen_after : List (List ℕ) → Option (List ℕ) → Option (List ℕ)
seen_after [] seen = seen
seen_after (e ∷ es) seen = seen_after es (after e seen)

-- why the walk stops at these bytes, so many EXT_FTI before
abbrev pub Stops : PacketFault → ℕ → List ℕ → Type 0
Stops Extension n rest = (e : List ℕ) → ¬ BeginsWith rest e
Stops FtiLength n rest = (e : List ℕ) × BeginsWith rest e × (is_fti e ≡ true) × (¬ (length e ≡ 12))
Stops TwoFti n rest = (e : List ℕ) × BeginsWith rest e × (is_fti e ≡ true) × (n ≡ 1) × (length e ≡ 12)
Stops _ n rest = ⊥

abbrev pub Ends : ℕ → Option (List ℕ) → List ℕ → Result (Option (List ℕ)) PacketFault → Type 0
Ends n last left (Ok out) = (left ≡ []) × (out ≡ last)
Ends n last left (Err q) = (0 < length left) × Stops q n left

-- a walk over these bytes gives this
pub record Walked (rest : List ℕ) (seen : Option (List ℕ)) (r : Result (Option (List ℕ)) PacketFault) : Type 0 where
  pub es : List (List ℕ)
  pub left : List ℕ
  pub whole : rest ≡ joined es ++ left
  pub each : list_all is_sound es ≡ true
  pub few : ones seen + count_by is_fti es ≤ 1
  pub ends : Ends (ones seen + count_by is_fti es) (seen_after es seen) left r

pub begins_is : (rest e : List ℕ) → BeginsWith rest e → (size_of rest ≡ length e) × (type_of rest ≡ type_of e) × (length e ≤ length rest) × (4 ≤ length e)
begins_is rest e h =
    let size : size_of rest ≡ length e = ap size_of h.2 ∙ size_is e h.1 h.0 in
    let type : type_of rest ≡ type_of e = ap type_of h.2 ∙ type_is e h.1 h.0 in
    let long = is_long e h.0 in
    (size, type, omega (arith, ap length h.2, length-append e h.1), long)

pub is_in_front : (rest : List ℕ) → 0 < size_of rest → size_of rest ≤ length rest → BeginsWith rest (take (size_of rest) rest)
is_in_front rest some fits = (is_one rest some fits, drop (size_of rest) rest, sym (take-append-drop (size_of rest) rest))

-- where there is an extension in front, its length is good
good : (rest e : List ℕ) → BeginsWith rest e → (eqb (length rest) 0 ≡ false) × ((eqb (size_of rest) 0 || ltb (length rest) (size_of rest)) ≡ false)
good rest e h =
    let b = begins_is rest e h in
    (ne_eqb _ _ (λ (z : length rest ≡ 0). absurd (omega (arith, z, b.2, b.3))), or_from _ _ (ne_eqb _ _ (λ (z : size_of rest ≡ 0). absurd (omega (arith, z, b.0, b.3)))) (le-ltb _ _ (omega (arith, b.0, b.2))))

-- the walk ends here
pub ends_here : (n : ℕ) (left : List ℕ) (seen : Option (List ℕ)) (r : Result (Option (List ℕ)) PacketFault) → length left ≤ n → Ends (ones seen) seen left r → walk n left seen ≡ r
unfolding walk
ends_here zero left seen (Ok out) h e = ap (λ (o : Option (List ℕ)). Ok o) (sym e.1)
ends_here zero left seen (Err q) h e = absurd (omega (arith, e.0))
ends_here (suc m) left seen (Ok out) h e =
    let none : eqb (length left) 0 ≡ true = eq-eqb _ _ (ap length e.0) in
    rw (none, walk) (ap (λ (o : Option (List ℕ)). Ok o) (sym e.1))
ends_here (suc m) left seen (Err Extension) h e =
    let some : eqb (length left) 0 ≡ false = ne_eqb _ _ (λ (z : length left ≡ 0). absurd (omega (arith, z, e.0))) in
    let bad : (eqb (size_of left) 0 || ltb (length left) (size_of left)) ≡ true =
    elim (cases_Bool (eqb (size_of left) 0 || ltb (length left) (size_of left))) [
      | inl t ↦ t
      | inr f ↦
          let p = or_parts (eqb (size_of left) 0) (ltb (length left) (size_of left)) f in
          let nz : size_of left ≡ 0 → ⊥ = eqb-false _ _ p.0 in
          let fits : size_of left ≤ length left = ltb-false _ _ p.1 in
          absurd (e.1 (take (size_of left) left) (is_in_front left (omega (arith, nz)) fits))
    ] in
    rw (some, walk) (rw bad refl)
ends_here (suc m) left seen (Err FtiLength) h e =
    let g = good left e.1.0 e.1.1 in
    let b = begins_is left e.1.0 e.1.1 in
    let type : eqb (type_of left) 64 ≡ true = rw b.1 e.1.2 in
    let size : eqb (size_of left) 12 ≡ false = rw b.0 (ne_eqb _ _ e.1.3) in
    rw (g.0, walk) (rw g.1 (rw type (rw size refl)))
ends_here (suc m) left (Some x) (Err TwoFti) h e =
    let g = good left e.1.0 e.1.1 in
    let b = begins_is left e.1.0 e.1.1 in
    let type : eqb (type_of left) 64 ≡ true = rw b.1 e.1.2 in
    let size : eqb (size_of left) 12 ≡ true = rw b.0 (eq-eqb _ _ e.1.4) in
    rw (g.0, walk) (rw g.1 (rw type (rw size refl)))
ends_here (suc m) left None (Err TwoFti) h e = absurd (omega (arith, e.1.3))
ends_here (suc m) left seen (Err q) h e = absurd e.1

pub is_sound_parts : (e : List ℕ) → is_sound e ≡ true → (is_extension e ≡ true) × (is_fti e ≡ true → length e ≡ 12)
is_sound_parts e s =
    let p = and_parts _ _ s in
    (p.0, λ f. grind (arith, nat_tests, p.1))

content_of : (e more : List ℕ) → 12 ≤ length e → part 2 10 (e ++ more) ≡ part 2 10 e
content_of e more long =
    ap (take 10) (drop-append-le 2 e more (omega arith)) ∙ take-append-le 10 (drop 2 e) more (omega (arith, length-drop 2 e))

unseen : (seen : Option (List ℕ)) → ones seen ≤ 0 → is_some seen ≡ false
unseen None h = refl
unseen (Some x) h = absurd (omega arith)

-- one sound extension on
pub walk_step : (m : ℕ) (e more : List ℕ) (seen : Option (List ℕ)) → is_sound e ≡ true → ones seen + cond (is_fti e) 1 0 ≤ 1 → walk (suc m) (e ++ more) seen ≡ walk m more (after e seen)
unfolding walk
walk_step m e more seen s few =
    let p = is_sound_parts e s in
    let begins : BeginsWith (e ++ more) e = (p.0, more, refl) in
    let g = good (e ++ more) e begins in
    let b = begins_is (e ++ more) e begins in
    let rest : drop (size_of (e ++ more)) (e ++ more) ≡ more = drop_at e more (size_of (e ++ more)) (sym b.0) in
    elim (cases_Bool (is_fti e)) [
      | inl fti ↦
          let len : length e ≡ 12 = p.1 fti in
          let type : eqb (type_of (e ++ more)) 64 ≡ true = rw b.1 fti in
          let size : eqb (size_of (e ++ more)) 12 ≡ true = rw b.0 (eq-eqb _ _ len) in
          let content : part 2 10 (e ++ more) ≡ part 2 10 e = content_of e more (omega arith) in
          let new : is_some seen ≡ false = unseen seen (omega (arith, few, cond-true {A = ℕ} (is_fti e) 1 0 fti)) in
          rw (g.0, walk) (rw g.1 (rw type (rw size (rw new (rw (rest, content, fti) refl)))))
      | inr other ↦
          let type : eqb (type_of (e ++ more)) 64 ≡ false = rw b.1 other in
          rw (g.0, walk) (rw g.1 (rw type (rw (rest, other) refl)))
    ]

ones_after : (e : List ℕ) (seen : Option (List ℕ)) (b : Bool) → ones seen + cond b 1 0 ≤ 1 → ones (cond b (Some (part 2 10 e)) seen) ≡ ones seen + cond b 1 0
ones_after e None true few = refl
ones_after e (Some x) true few = absurd (omega arith)
ones_after e seen false few = omega arith

pub count_more : (e : List ℕ) (es : List (List ℕ)) → count_by is_fti (e ∷ es) ≡ cond (is_fti e) 1 0 + count_by is_fti es
count_more e es = sum_by-cons (λ (x : List ℕ). cond (is_fti x) 1 0) e es

-- a walk with one more extension in front
pub add_front : (e more : List ℕ) (seen : Option (List ℕ)) (r : Result (Option (List ℕ)) PacketFault) → is_sound e ≡ true → ones seen + cond (is_fti e) 1 0 ≤ 1 → Walked more (after e seen) r → Walked (e ++ more) seen r
add_front e more seen r s few w =
    let count : ones (after e seen) ≡ ones seen + cond (is_fti e) 1 0 = ones_after e seen (is_fti e) few in
    let total : ones (after e seen) + count_by is_fti w.es ≡ ones seen + count_by is_fti (e ∷ w.es) = omega (arith, count, count_more e w.es) in
    record {
      es = e ∷ w.es;
      left = w.left;
      whole = ap (λ (x : List ℕ). e ++ x) w.whole ∙ sym (append_assoc e (joined w.es) w.left);
      each = and_from _ _ s w.each;
      few = omega (arith, total, w.few);
      ends = subst (λ (k : ℕ). Ends k (seen_after w.es (after e seen)) w.left r) total w.ends;
    }

pub ones_few : (seen : Option (List ℕ)) → ones seen ≤ 1
ones_few None = omega arith
ones_few (Some x) = omega arith

stop_with : (n : ℕ) (rest : List ℕ) (seen : Option (List ℕ)) (r : Result (Option (List ℕ)) PacketFault) → length rest ≤ n → Ends (ones seen) seen rest r → Walked rest seen (walk n rest seen)
stop_with n rest seen r h e =
    subst (λ (x : Result (Option (List ℕ)) PacketFault). Walked rest seen x) (sym (ends_here n rest seen r h e))
    (record { es = []; left = rest; whole = refl; each = refl; few = omega (arith, ones_few seen); ends = subst (λ (k : ℕ). Ends k seen rest r) (omega arith) e })

step_with : (n : ℕ) (rest e more : List ℕ) (seen : Option (List ℕ)) → rest ≡ e ++ more → is_sound e ≡ true → ones seen + cond (is_fti e) 1 0 ≤ 1 → Walked more (after e seen) (walk n more (after e seen)) → Walked rest seen (walk (suc n) rest seen)
step_with n rest e more seen split s few w =
    subst (λ (x : List ℕ). Walked x seen (walk (suc n) x seen)) (sym split)
    (subst (λ (x : Result (Option (List ℕ)) PacketFault). Walked (e ++ more) seen x) (sym (walk_step n e more seen s few)) (add_front e more seen (walk n more (after e seen)) s few w))

pub sound_from : (e : List ℕ) → is_extension e ≡ true → (is_fti e ≡ true → length e ≡ 12) → is_sound e ≡ true
sound_from e h len =
    elim (cases_Bool (is_fti e)) [
      | inl fti ↦ let twelve : eqb (length e) 12 ≡ true = eq-eqb _ _ (len fti) in rw (h, fti, twelve) refl
      | inr other ↦ rw (h, other) refl
    ]

-- an extension in front
walk_one : (n : ℕ) (rest : List ℕ) (seen : Option (List ℕ)) → length rest ≤ suc n → ((more : List ℕ) (now : Option (List ℕ)) → length more ≤ n → Walked more now (walk n more now)) → (e : List ℕ) → BeginsWith rest e → Walked rest seen (walk (suc n) rest seen)
walk_one n rest seen h goes e begins =
    let b = begins_is rest e begins in
    let some : 0 < length rest = omega (arith, b.2, b.3) in
    let short : length begins.1 ≤ n = omega (arith, ap length begins.2, length-append e begins.1, b.3) in
    elim (cases_Bool (is_fti e)) [
      | inr other ↦ step_with n rest e begins.1 seen begins.2 (sound_from e begins.0 (λ fti. absurd cc)) (rw other (omega (arith, ones_few seen))) (goes begins.1 (after e seen) short)
      | inl fti ↦ elim (cases_eq (length e) 12) [
        | inr ne ↦ stop_with (suc n) rest seen (Err FtiLength) h (some, (e, begins, fti, ne))
        | inl len ↦ elim (cases_eq (ones seen) 1) [
          | inl one ↦ stop_with (suc n) rest seen (Err TwoFti) h (some, (e, begins, fti, one, len))
          | inr none ↦ step_with n rest e begins.1 seen begins.2 (sound_from e begins.0 (λ _. len)) (rw fti (omega (arith, ones_few seen, none))) (goes begins.1 (after e seen) short)
        ]
      ]
    ]

-- what the walk answers is so
pub walk_says : (n : ℕ) (rest : List ℕ) (seen : Option (List ℕ)) → length rest ≤ n → Walked rest seen (walk n rest seen)
walk_says zero rest seen h = stop_with zero rest seen (Ok seen) h (nil_from_length rest (omega arith), refl)
walk_says (suc n) rest seen h =
    elim (cases_eq (length rest) 0) [
      | inl z ↦ stop_with (suc n) rest seen (Ok seen) h (nil_from_length rest z, refl)
      | inr nz ↦ elim (cases_eq (size_of rest) 0) [
        | inl z ↦ stop_with (suc n) rest seen (Err Extension) h (omega arith, λ e b. absurd (omega (arith, z, begins_is rest e b)))
        | inr some ↦ elim (cases_lt (length rest) (size_of rest)) [
          | inl past ↦ stop_with (suc n) rest seen (Err Extension) h (omega arith, λ e b. absurd (omega (arith, past, begins_is rest e b)))
          | inr fits ↦ walk_one n rest seen h (λ more now short. walk_says n more now short) (take (size_of rest) rest) (is_in_front rest (omega arith) fits)
        ]
      ]
    ]

-- what is so is what the walk answers
walk_over : (es : List (List ℕ)) (n : ℕ) (rest left : List ℕ) (seen : Option (List ℕ)) (r : Result (Option (List ℕ)) PacketFault) → length rest ≤ n → rest ≡ joined es ++ left → list_all is_sound es ≡ true → ones seen + count_by is_fti es ≤ 1
    → Ends (ones seen + count_by is_fti es) (seen_after es seen) left r → walk n rest seen ≡ r
walk_over [] n rest left seen r h whole each few ends =
    rw whole (ends_here n left seen r (omega (arith, ap length whole)) (subst (λ (k : ℕ). Ends k seen left r) (omega arith) ends))
walk_over (e ∷ es) zero rest left seen r h whole each few ends =
    let p = and_parts (is_sound e) (list_all is_sound es) each in
    absurd (omega (arith, ap length whole, length-append (e ++ joined es) left, length-append e (joined es), is_long e (is_sound_parts e p.0).0))
walk_over (e ∷ es) (suc m) rest left seen r h whole each few ends =
    let p = and_parts (is_sound e) (list_all is_sound es) each in
    let split : rest ≡ e ++ (joined es ++ left) = whole ∙ append_assoc e (joined es) left in
    let few_e : ones seen + cond (is_fti e) 1 0 ≤ 1 = omega (arith, few, count_more e es) in
    let count : ones (after e seen) ≡ ones seen + cond (is_fti e) 1 0 = ones_after e seen (is_fti e) few_e in
    let total : ones seen + count_by is_fti (e ∷ es) ≡ ones (after e seen) + count_by is_fti es = omega (arith, count, count_more e es) in
    let long : 4 ≤ length e = is_long e (is_sound_parts e p.0).0 in
    ap (λ (x : List ℕ). walk (suc m) x seen) split
    ∙ walk_step m e (joined es ++ left) seen p.0 few_e
    ∙ walk_over es m (joined es ++ left) left (after e seen) r (omega (arith, ap length split, length-append e (joined es ++ left))) refl p.1 (omega (arith, total)) (subst (λ (k : ℕ). Ends k (seen_after es (after e seen)) left r) total ends)

pub walked_is : (n : ℕ) (rest : List ℕ) (seen : Option (List ℕ)) (r : Result (Option (List ℕ)) PacketFault) → length rest ≤ n → Walked rest seen r → walk n rest seen ≡ r
walked_is n rest seen r h w = walk_over w.es n rest w.left seen r h w.whole w.each w.few w.ends

-- the fuel doesn't matter
pub walk_any : (n m : ℕ) (rest : List ℕ) (seen : Option (List ℕ)) → length rest ≤ n → length rest ≤ m → walk n rest seen ≡ walk m rest seen
walk_any n m rest seen hn hm = walked_is n rest seen (walk m rest seen) hn (walk_says m rest seen hm)
