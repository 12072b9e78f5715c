-- There are no two verdicts: each stands behind tests that let through, and at one that doesn't.
use Rattle.std.specs.Prelude.{◌≡◌, ◌≢◌, ◌<◌, ◌++◌, true, false, if◌then◌else◌, ℕ, zero, suc, List, [], ◌∷◌, length, Option, Some, None, Ok, Err, refl, nat_lt}
use Rattle.std.specs.List.{list_any, AllByRecursion}
use Rattle.std.proofs.Common.{◌∙◌, sym, ap, subst, arith, inl, inr, ltb-true}
use Rattle.std.proofs.lemmas.Bool.{ltb-false}
use Rattle.alc.specs.Packet.{Packet}
use Rattle.alc.specs.Reading.{Reading}
use Rattle.reception.specs.declared.scope.Identity.{Identity}
use Rattle.reception.specs.declared.scope.Scope.{Scope}
use Rattle.reception.specs.Symbols.{Symbol as Received}
use Rattle.std.specs.Option.{option_or}
use Rattle.reception.specs.Reception.{Placed, Wrong, Other, is_of_identity, is_carrier, counted, symbols, symbols_in, symbol_of, packet_fault, wrong_by, wrong_after, reading_wrong, Suffices}
use Rattle.reception.specs.Walks.{at_place, or_packet}
use Rattle.reception.proofs.OneAnswer.{which, one_short, same_readings}
use Rattle.reception.proofs.Stepping.{scope, stays}
use Rattle.reception.proofs.Within.{no_fault}
use Rattle.cert.specs.declared.verdict.Reason.{Reason}
use Rattle.cert.specs.declared.verdict.Reason.TheVariants.{OtherCertificate, ObjectLength, NotObject, Empty, Packet as NoPacket, OtherFti, SymbolLength, Range, Symbol, Thin, NoCarrier}
use Rattle.cert.specs.declared.verdict.Verdict.{Verdict}
use Rattle.cert.specs.declared.verdict.Verdict.TheVariants.{Yes, No}
use Rattle.certificate.specs.Certificate.{Certificate, is_for}
use Rattle.cert.specs.Verdict.{GivesObject, IsFirstNotGiven, uncertified, reception_to, first_reason, IsCertifiedPacket, IsCertifiedReading, AreCertified, IsCertificateOf, VerdictOn, IsVerdict, AreOneVerdict}
use Rattle.cert.proofs.Columns.{none_is}
use Rattle.cert.proofs.Judging.{no_reason}

-- ---- where all is certified there is no reason

not_wrong : (z : Certificate) (who : Identity) (earlier : List Received) (p : Packet) → IsCertifiedPacket z p
    → reading_wrong (uncertified z) (scope who (Some z.fti)) earlier (Ok p) ≡ None
not_wrong z who earlier p h =
    let a : packet_fault z.fti p ≡ None = no_fault z.fti p (record { fti = h.fti; size = h.size; range = h.range }) in
    let b : uncertified z earlier (symbol_of p) ≡ None = none_is z (symbol_of p) h.symbol in
    elim (is_of_identity who p) as (λ v. wrong_by (uncertified z) earlier (if v then or_packet p (packet_fault z.fti p) else Ok Other) ≡ None) [
      | true ↦ rw (a, b) refl
      | false ↦ refl
    ]

none_wrong : (z : Certificate) (who : Identity) (earlier : List Received) (xs : List Placed) → AllByRecursion (λ x. IsCertifiedReading z x.reading) xs
    → wrong_after (uncertified z) (scope who (Some z.fti)) earlier xs ≡ None
none_wrong z who earlier [] h = refl
none_wrong z who earlier (x ∷ xs) h = by x.reading h.0 (none_wrong z who (earlier ++ symbols_in x.reading) xs h.1)
  where
    by : (r : Reading) → IsCertifiedReading z r
        → wrong_after (uncertified z) (scope who (Some z.fti)) (earlier ++ symbols_in x.reading) xs ≡ None
        → option_or (at_place x.place (reading_wrong (uncertified z) (scope who (Some z.fti)) earlier r)) (wrong_after (uncertified z) (scope who (Some z.fti)) (earlier ++ symbols_in x.reading) xs) ≡ None
    by (Ok p) k later =
        ap (λ (o : Option (Wrong ℕ)). option_or (at_place x.place o) (wrong_after (uncertified z) (scope who (Some z.fti)) (earlier ++ symbols_in x.reading) xs)) (not_wrong z who earlier p k)
        ∙ later
    by (Err e) k later = absurd k

yes_no_reason : (who : Identity) (z : Certificate) (rs : List Reading) → AreCertified who rs z → first_reason who z rs ≡ None
yes_no_reason who z rs h =
    no_reason (reception_to who z rs).wrong
    (subst (λ (s : Scope). wrong_after (uncertified z) s [] (counted who rs) ≡ None) (sym (stays who z.fti (counted who rs))) (none_wrong z who [] (counted who rs) h.packets))

-- ---- the tests in their order

abbrev stage : Verdict → ℕ
stage (No OtherCertificate) = 0
stage (No ObjectLength) = 1
stage (No (NotObject b c i)) = 2
stage (No Empty) = 4
stage (No (Thin b have need)) = 5
stage (No NoCarrier) = 6
stage (No _) = 3
stage (Yes report) = 7

one_place : (object : List ℕ) (z : Certificate) (b c i x y n : ℕ) → IsFirstNotGiven object z b c i → IsFirstNotGiven object z x y n → (b ≡ x) × (c ≡ y) × (i ≡ n)
one_place object z b c i x y n h k =
    let e : b ≡ x = which b x (λ s. elim s [
      | inl l ↦ h.wrong (k.before b c i (inl l) h.column h.symbol)
      | inr l ↦ k.wrong (h.before x y n (inl l) k.column k.symbol)
    ]) in
    let g : IsFirstNotGiven object z x c i = subst (λ (v : ℕ). IsFirstNotGiven object z v c i) e h in
    let d : c ≡ y = which c y (λ s. elim s [
      | inl l ↦ g.wrong (k.before x c i (inr (refl, inl l)) g.column g.symbol)
      | inr l ↦ k.wrong (g.before x y n (inr (refl, inl l)) k.column k.symbol)
    ]) in
    let f : IsFirstNotGiven object z x y i = subst (λ (v : ℕ). IsFirstNotGiven object z x v i) d g in
    let a : i ≡ n = which i n (λ s. elim s [
      | inl l ↦ f.wrong (k.before x y i (inr (refl, inr (refl, inl l))) f.column f.symbol)
      | inr l ↦ k.wrong (f.before x y n (inr (refl, inr (refl, inl l))) k.column k.symbol)
    ]) in
    (e, d, a)

module _ (who : Identity) (rs : List Reading) (object : List ℕ) (z : Certificate) where
  abbrev Pass : ℕ → Type 0
  Pass zero = is_for who z.name ≡ true
  Pass (suc zero) = length object ≡ z.fti.transfer_length
  Pass (suc (suc zero)) = GivesObject object z
  Pass (suc (suc (suc zero))) = first_reason who z rs ≡ None
  Pass (suc (suc (suc (suc zero)))) = symbols (counted who rs) ≢ []
  Pass (suc (suc (suc (suc (suc zero))))) = Suffices who z.fti rs
  Pass (suc (suc (suc (suc (suc (suc zero)))))) = list_any (is_carrier who) rs ≡ true
  Pass _ = Unit {0}

  abbrev Passed : ℕ → Type 0
  Passed zero = Unit {0}
  Passed (suc n) = Passed n × Pass n

  passed_at : (n j : ℕ) → Passed n → j < n → Pass j
  passed_at zero j h l = absurd (omega (arith, l))
  passed_at (suc n) j h l =
      elim (nat_lt j n) as (λ v. nat_lt j n ≡ v → Pass j) [
        | true ↦ λ e. passed_at n j h.0 (ltb-true j n e)
        | false ↦ λ e. (let m = ltb-false j n e in let is : n ≡ j = omega (arith, m, l) in subst (λ (k : ℕ). Pass k) is h.1)
      ] refl

  passed : (v : Verdict) → VerdictOn who rs object z v → Passed (stage v)
  passed (No OtherCertificate) h = tt
  passed (No ObjectLength) h = (tt, h.0)
  passed (No (NotObject b c i)) h = ((tt, h.0), h.1)
  passed (No (NoPacket i x)) h = (((tt, h.0), h.1.count), h.2)
  passed (No (OtherFti i)) h = (((tt, h.0), h.1.count), h.2)
  passed (No (SymbolLength i)) h = (((tt, h.0), h.1.count), h.2)
  passed (No (Range i)) h = (((tt, h.0), h.1.count), h.2)
  passed (No (Symbol i c)) h = (((tt, h.0), h.1.count), h.2)
  passed (No Empty) h = ((((tt, h.0), h.1.count), h.2), h.3.0)
  passed (No (Thin b have need)) h = (((((tt, h.0), h.1.count), h.2), h.3.0), h.3.1)
  passed (No NoCarrier) h = ((((((tt, h.0), h.1.count), h.2), h.3.0), h.3.1), h.3.2)
  passed (Yes report) h = (((((((tt, h.name), h.form.count), h.gives), yes_no_reason who z rs h.certified), h.certified.some), h.full), h.carrier)

  at_place_no : (r : Reason) → first_reason who z rs ≡ Some r → ¬ (first_reason who z rs ≡ None)
  at_place_no r e p = absurd (cc)

  stopped : (r : Reason) → VerdictOn who rs object z (No r) → ¬ Pass (stage (No r))
  stopped OtherCertificate h p = absurd (cc)
  stopped ObjectLength h p = h.1 p
  stopped (NotObject b c i) h p = h.2.wrong (p b c i h.2.block h.2.column h.2.symbol)
  stopped (NoPacket i x) h p = at_place_no (NoPacket i x) h.3 p
  stopped (OtherFti i) h p = at_place_no (OtherFti i) h.3 p
  stopped (SymbolLength i) h p = at_place_no (SymbolLength i) h.3 p
  stopped (Range i) h p = at_place_no (Range i) h.3 p
  stopped (Symbol i c) h p = at_place_no (Symbol i c) h.3 p
  stopped Empty h p = p h.3.1
  stopped (Thin b have need) h p = let f = p b h.3.2.in_range in let s = h.3.2.short in absurd (cc)
  stopped NoCarrier h p = let none = h.3.3 in absurd (cc)

  stage_top : (v : Verdict) → stage v < 8
  stage_top (No OtherCertificate) = omega arith
  stage_top (No ObjectLength) = omega arith
  stage_top (No (NotObject b c i)) = omega arith
  stage_top (No (NoPacket i x)) = omega arith
  stage_top (No (OtherFti i)) = omega arith
  stage_top (No (SymbolLength i)) = omega arith
  stage_top (No (Range i)) = omega arith
  stage_top (No (Symbol i c)) = omega arith
  stage_top (No Empty) = omega arith
  stage_top (No (Thin b have need)) = omega arith
  stage_top (No NoCarrier) = omega arith
  stage_top (Yes report) = omega arith

  below_yes : (r : Reason) → stage (No r) < 7
  below_yes OtherCertificate = omega arith
  below_yes ObjectLength = omega arith
  below_yes (NotObject b c i) = omega arith
  below_yes (NoPacket i x) = omega arith
  below_yes (OtherFti i) = omega arith
  below_yes (SymbolLength i) = omega arith
  below_yes (Range i) = omega arith
  below_yes (Symbol i c) = omega arith
  below_yes Empty = omega arith
  below_yes (Thin b have need) = omega arith
  below_yes NoCarrier = omega arith

  not_before : (a b : Verdict) → VerdictOn who rs object z a → VerdictOn who rs object z b → stage a < stage b → ⊥
  not_before (Yes report) b h k l = let t = stage_top b in absurd (omega (arith, l, t))
  not_before (No r) b h k l = stopped r h (passed_at (stage b) (stage (No r)) (passed b k) l)

  same_stage : (a b : Verdict) → VerdictOn who rs object z a → VerdictOn who rs object z b → stage a ≡ stage b
  same_stage a b h k = which (stage a) (stage b) (λ s. elim s [
    | inl l ↦ not_before a b h k l
    | inr l ↦ not_before b a k h l
  ])

  -- the reason of a no that stands at a place
  abbrev told : Reason → Type 0
  told r = first_reason who z rs ≡ Some r

  abbrev AtPlace : Verdict → Type 0
  AtPlace (Yes report) = ⊥
  AtPlace (No r) = told r

  at_three : (v : Verdict) → VerdictOn who rs object z v → stage v ≡ 3 → AtPlace v
  at_three (No (NoPacket i x)) h e = h.3
  at_three (No (OtherFti i)) h e = h.3
  at_three (No (SymbolLength i)) h e = h.3
  at_three (No (Range i)) h e = h.3
  at_three (No (Symbol i c)) h e = h.3
  at_three (No OtherCertificate) h e = absurd (omega (arith, e))
  at_three (No ObjectLength) h e = absurd (omega (arith, e))
  at_three (No (NotObject b c i)) h e = absurd (omega (arith, e))
  at_three (No Empty) h e = absurd (omega (arith, e))
  at_three (No (Thin b have need)) h e = absurd (omega (arith, e))
  at_three (No NoCarrier) h e = absurd (omega (arith, e))
  at_three (Yes report) h e = absurd (omega (arith, e))

  both_told : (a b : Verdict) → AtPlace a → AtPlace b → AreOneVerdict a b
  both_told (Yes report) b h k = absurd h
  both_told (No r) (Yes report) h k = absurd k
  both_told (No r) (No s) h k = some_same (sym h ∙ k)
    where
      some_same : Some r ≡ Some s → r ≡ s
      some_same e = cc

  one_of : (a b : Verdict) → VerdictOn who rs object z a → VerdictOn who rs object z b → stage a ≡ stage b → AreOneVerdict a b
  one_of (No OtherCertificate) (No OtherCertificate) h k e = refl
  one_of (No ObjectLength) (No ObjectLength) h k e = refl
  one_of (No (NotObject b c i)) (No (NotObject x y n)) h k e =
      let p = one_place object z b c i x y n h.2 k.2 in
      let p0 = p.0 in
      let p1 = p.1 in
      let p2 = p.2 in
      (cc)
  one_of (No Empty) (No Empty) h k e = refl
  one_of (No (Thin b have need)) (No (Thin x y n)) h k e =
      let f = one_short z.fti (symbols (counted who rs)) b x h.3.2 k.3.2 in
      let p = h.3.3 in
      let q = h.3.4 in
      let r = k.3.3 in
      let s = k.3.4 in
      (cc)
  one_of (No NoCarrier) (No NoCarrier) h k e = refl
  one_of (Yes r) (Yes s) h k e = tt
  one_of (Yes r) (No s) h k e = let l = below_yes s in absurd (omega (arith, e, l))
  one_of (No (NoPacket i x)) b h k e = both_told (No (NoPacket i x)) b h.3 (at_three b k (sym e))
  one_of (No (OtherFti i)) b h k e = both_told (No (OtherFti i)) b h.3 (at_three b k (sym e))
  one_of (No (SymbolLength i)) b h k e = both_told (No (SymbolLength i)) b h.3 (at_three b k (sym e))
  one_of (No (Range i)) b h k e = both_told (No (Range i)) b h.3 (at_three b k (sym e))
  one_of (No (Symbol i c)) b h k e = both_told (No (Symbol i c)) b h.3 (at_three b k (sym e))
  one_of a b h k e = absurd (omega (arith, e))

-- where the certificate is one, the verdict is yes
pub never_no : (who : Identity) (rs : List Reading) (object : List ℕ) (z : Certificate) → IsCertificateOf who rs object z → (r : Reason) → VerdictOn who rs object z (No r) → ⊥
never_no who rs object z g r h =
    stopped who rs object z r h
    (passed_at who rs object z 7 (stage (No r)) (((((((tt, g.name), g.form.count), g.gives), yes_no_reason who z rs g.certified), g.certified.some), g.full), g.carrier) (below_yes who rs object z r))

-- an identity's packets in a session, an object and a certificate have one verdict
pub one_verdict : (who : Identity) (ds : List (List ℕ)) (object : List ℕ) (z : Certificate) (a b : Verdict) → IsVerdict who ds object z a → IsVerdict who ds object z b → AreOneVerdict a b
one_verdict who ds object z a b h k =
    let e = same_readings ds h.readings k.readings h.read k.read in
    let g = subst (λ (rs : List Reading). VerdictOn who rs object z a) e h.judged in
    one_of who k.readings object z a b g k.judged (same_stage who k.readings object z a b g k.judged)
