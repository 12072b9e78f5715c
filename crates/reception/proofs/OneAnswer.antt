-- No list of datagrams has two answers.
use Rattle.std.specs.Prelude.{◌≡◌, ◌<◌, ◌⊎◌, ℕ, List, [], ◌∷◌, Option, Some, None, refl}
use Rattle.std.proofs.Common.{◌∙◌, sym, ap, subst, arith, inl, inr}
use Rattle.partition.specs.Fti.{Fti}
use Rattle.reception.specs.declared.scope.Identity.{Identity}
use Rattle.reception.specs.Symbols.{Symbol, IsFirstShort, IsFirstUnsolvable, FitsOnly}
use Rattle.alc.specs.Reading.{Reading}
use Rattle.alc.proofs.Again.{one_reading}
use Rattle.reception.specs.Reception.{ReadAll, Wrong, Reception, IsClean}
use Rattle.reception.specs.Answer.{Clash, Answer, Empty, Fault, NotCode, Missing, Object, AnswerTo, IsAnswer, reception_of}

one_fti : (reception : Reception Clash) (f g : Fti) → IsClean reception f → IsClean reception g → f ≡ g
one_fti arrivals f g h k = let a = h.some in let b = k.some in (cc)

-- of two numbers one is less, or they are one
pub which : (a b : ℕ) → ((a < b) ⊎ (b < a) → ⊥) → a ≡ b
which a b h =
    let x : a < b → ⊥ = λ l. h (inl l) in
    let y : b < a → ⊥ = λ l. h (inr l) in
    omega arith

pub one_short : (f : Fti) (arrivals : List Symbol) (a b : ℕ) → IsFirstShort f arrivals a → IsFirstShort f arrivals b → a ≡ b
one_short f arrivals a b h k = which a b (λ s. elim s [
  | inl l ↦ (let x = k.least a l in let y = h.short in (cc))
  | inr l ↦ (let x = h.least b l in let y = k.short in (cc))
])

one_unsolvable : (f : Fti) (arrivals : List Symbol) (a b : ℕ) → IsFirstUnsolvable f arrivals a → IsFirstUnsolvable f arrivals b → a ≡ b
one_unsolvable f arrivals a b h k = which a b (λ s. elim s [
  | inl l ↦ h.unsolvable (k.least a l h.full)
  | inr l ↦ k.unsolvable (h.least b l k.full)
])

abbrev told : Option (ℕ × Wrong Clash) → Answer
told None = Empty
told (Some x) = Fault x.0 x.1

not_missing : (reception : Reception Clash) (b c m n : ℕ) → AnswerTo reception (NotCode b) → AnswerTo reception (Missing c m n) → ⊥
not_missing reception b c m n h k =
    let e = one_fti reception h.0 k.0 h.1 k.1 in
    let u = subst (λ (f : Fti). IsFirstUnsolvable f reception.symbols b) e h.2 in
    u.unsolvable (k.2 b u.in_range u.full)

not_object : (reception : Reception Clash) (b : ℕ) (o : List ℕ) → AnswerTo reception (NotCode b) → AnswerTo reception (Object o) → ⊥
not_object reception b o h k =
    let e = one_fti reception h.0 k.0 h.1 k.1 in
    let u = subst (λ (f : Fti). IsFirstUnsolvable f reception.symbols b) e h.2 in
    u.unsolvable (k.2 b u.in_range u.full)

not_both : (reception : Reception Clash) (b m n : ℕ) (o : List ℕ) → AnswerTo reception (Missing b m n) → AnswerTo reception (Object o) → ⊥
not_both reception b m n o h k =
    let e = one_fti reception h.0 k.0 h.1 k.1 in
    let s = subst (λ (f : Fti). IsFirstShort f reception.symbols b) e h.3 in
    let x = k.3 b s.in_range in
    let y = s.short in
    absurd (cc)

pub one_answer_to : (reception : Reception Clash) (a b : Answer) → AnswerTo reception a → AnswerTo reception b → a ≡ b
one_answer_to reception Empty Empty h k = refl
one_answer_to reception Empty (Fault i r) h k = absurd (cc)
one_answer_to reception Empty (NotCode c) h k = let x = k.1.some in absurd (cc)
one_answer_to reception Empty (Missing c m n) h k = let x = k.1.some in absurd (cc)
one_answer_to reception Empty (Object o) h k = let x = k.1.some in absurd (cc)
one_answer_to reception (Fault i r) Empty h k = absurd (cc)
one_answer_to reception (Fault i r) (Fault j s) h k = ap told (sym h ∙ k)
one_answer_to reception (Fault i r) (NotCode c) h k = let x = k.1.clean in absurd (cc)
one_answer_to reception (Fault i r) (Missing c m n) h k = let x = k.1.clean in absurd (cc)
one_answer_to reception (Fault i r) (Object o) h k = let x = k.1.clean in absurd (cc)
one_answer_to reception (NotCode b) Empty h k = let x = h.1.some in absurd (cc)
one_answer_to reception (NotCode b) (Fault j s) h k = let x = h.1.clean in absurd (cc)
one_answer_to reception (NotCode b) (NotCode c) h k =
    let e = one_fti reception h.0 k.0 h.1 k.1 in
    ap NotCode (one_unsolvable k.0 reception.symbols b c (subst (λ (f : Fti). IsFirstUnsolvable f reception.symbols b) e h.2) k.2)
one_answer_to reception (NotCode b) (Missing c m n) h k = absurd (not_missing reception b c m n h k)
one_answer_to reception (NotCode b) (Object o) h k = absurd (not_object reception b o h k)
one_answer_to reception (Missing b m n) Empty h k = let x = h.1.some in absurd (cc)
one_answer_to reception (Missing b m n) (Fault j s) h k = let x = h.1.clean in absurd (cc)
one_answer_to reception (Missing b m n) (NotCode c) h k = absurd (not_missing reception c b m n k h)
one_answer_to reception (Missing b m n) (Missing c x y) h k =
    let e = one_fti reception h.0 k.0 h.1 k.1 in
    let f = one_short k.0 reception.symbols b c (subst (λ (f : Fti). IsFirstShort f reception.symbols b) e h.3) k.3 in
    let p = h.4 in
    let q = h.5 in
    let r = k.4 in
    let s = k.5 in
    (cc)
one_answer_to reception (Missing b m n) (Object o) h k = absurd (not_both reception b m n o h k)
one_answer_to reception (Object o) Empty h k = let x = h.1.some in absurd (cc)
one_answer_to reception (Object o) (Fault j s) h k = let x = h.1.clean in absurd (cc)
one_answer_to reception (Object o) (NotCode c) h k = absurd (not_object reception c o k h)
one_answer_to reception (Object o) (Missing c m n) h k = absurd (not_both reception c m n o k h)
one_answer_to reception (Object o) (Object q) h k =
    let e = one_fti reception h.0 k.0 h.1 k.1 in
    let w = subst (λ (f : Fti). FitsOnly f reception.symbols o) e h.4 in
    ap Object (k.4.only o w.fits)

pub same_readings : (ds : List (List ℕ)) (rs ss : List Reading) → ReadAll ds rs → ReadAll ds ss → rs ≡ ss
same_readings [] [] [] h g = refl
same_readings [] [] (s ∷ ss) h g = absurd g
same_readings [] (r ∷ rs) ss h g = absurd h
same_readings (d ∷ ds) [] ss h g = absurd h
same_readings (d ∷ ds) (r ∷ rs) [] h g = absurd g
same_readings (d ∷ ds) (r ∷ rs) (s ∷ ss) h g =
    let a = one_reading d r s h.0 g.0 in
    let b = same_readings ds rs ss h.1 g.1 in
    (cc)

-- no list of datagrams has two answers to one who asks for an identity's packets
pub one_answer : (who : Identity) (ds : List (List ℕ)) (a b : Answer) → IsAnswer who ds a → IsAnswer who ds b → a ≡ b
one_answer who ds a b h k =
    let e = same_readings ds h.readings k.readings h.read k.read in
    one_answer_to (reception_of who k.readings) a b (subst (λ (rs : List Reading). AnswerTo (reception_of who rs) a) e h.answers) k.answers
