-- What the answers of the parts of a check say of the verdict.
use Rattle.std.proofs.Common.{◌≡◌, ◌≢◌, ◌∙◌, ℕ, suc, Bool, true, List, [], ◌∷◌, ◌++◌, Option, Some, None, Ok, Err, length, refl, sym, ap, subst, arith}
use Rattle.std.specs.Prelude.{option_map, if◌then◌else◌}
use Rattle.std.specs.List.{AllByRecursion}
use Rattle.alc.specs.Packet.{Packet}
use Rattle.alc.specs.Reading.{Reading}
use Rattle.alc.specs.Computed.{read_of}
use Rattle.alc.proofs.Again.{reads}
use Rattle.session.specs.Frames.{AreDatagrams}
use Rattle.reception.specs.declared.scope.Identity.{Identity}
use Rattle.reception.specs.declared.scope.Scope.{Scope}
use Rattle.reception.specs.Reception as fault
use Rattle.reception.specs.Symbols.{Symbol as Received, IsObject}
use Rattle.reception.specs.Reception.{ReadAll, Placed, PlaceFault, Wrong, Faulty, Judged, Other, counts, counted, symbols, symbol_of, symbols_in, packet_fault, wrong_by, reading_wrong, wrong_after}
use Rattle.reception.specs.Walks.{readings_of, judged, at_place, or_packet, Found}
use Rattle.reception.proofs.Walk.{each_counts}
use Rattle.reception.proofs.Stepping.{scope, stays}
use Rattle.reception.proofs.Within.{faultless, none_wrong, neither, nowhere}
use Rattle.cert.specs.declared.verdict.Reason.{Reason}
use Rattle.cert.specs.declared.verdict.Reason.TheVariants.{OtherCertificate, ObjectLength, NotObject, Empty, Packet as NoPacket, OtherFti, SymbolLength, Range, Symbol, Thin, NoCarrier}
use Rattle.cert.specs.declared.verdict.Verdict.{Verdict}
use Rattle.cert.specs.declared.verdict.Verdict.TheVariants.{Yes, No}
use Rattle.certificate.specs.Certificate.{Certificate, is_for}
use Rattle.cert.specs.Verdict.{GivesObject, uncertified, reception_to, reason_at, IsCertifiedPacket, IsCertifiedReading, AreCertified, IsAgainst, VerdictOn}
use Rattle.cert.specs.Scan.{VerdictWhereGiven}
use Rattle.cert.proofs.Columns.{certified_where_none}

-- each datagram has the reading that is computed
pub read_all : (ds : List (List ℕ)) → AreDatagrams ds → ReadAll ds (readings_of ds)
read_all [] h = tt
read_all (d ∷ ds) h = (reads d (h 0).bytes (read_of d) refl, read_all ds (λ i. h (suc i)))

-- ---- nothing wrong

nothing_judged : {R : Type 0} (o : Option R) → judged o ≡ None → o ≡ None
nothing_judged None h = refl
nothing_judged (Some r) h = absurd (cc)

-- a packet with nothing wrong
certified : (z : Certificate) (earlier : List Received) (p : Packet) → wrong_by (uncertified z) earlier (or_packet p (packet_fault z.fti p)) ≡ None → IsCertifiedPacket z p
certified z earlier p h =
    let none = none_wrong (uncertified z) earlier p (packet_fault z.fti p) h in
    let w = faultless z.fti p none in
    let right : uncertified z [] (symbol_of p) ≡ None =
    nothing_judged _ (subst (λ (o : Option PlaceFault). wrong_by (uncertified z) earlier (or_packet p o) ≡ None) none h) in
    record {
      fti = w.fti;
      size = w.size;
      range = w.range;
      symbol = certified_where_none z (symbol_of p) right;
    }

-- readings that count, with nothing wrong
all_certified : (z : Certificate) (who : Identity) (earlier : List Received) (xs : List Placed) → AllByRecursion (λ x. counts who x.reading ≡ true) xs
    → wrong_after (uncertified z) (scope who (Some z.fti)) earlier xs ≡ None → AllByRecursion (λ x. IsCertifiedReading z x.reading) xs
all_certified z who earlier [] mine h = tt
all_certified z who earlier (x ∷ xs) mine h =
    let w = neither (at_place x.place (reading_wrong (uncertified z) (scope who (Some z.fti)) earlier x.reading))
    (wrong_after (uncertified z) (scope who (Some z.fti)) (earlier ++ symbols_in x.reading) xs) h in
    (by x.reading mine.0 (nowhere x.place _ w.0), all_certified z who (earlier ++ symbols_in x.reading) xs mine.1 w.1)
  where
    by : (r : Reading) → counts who r ≡ true → reading_wrong (uncertified z) (scope who (Some z.fti)) earlier r ≡ None → IsCertifiedReading z r
    by (Err e) m k = absurd (cc)
    by (Ok p) m k =
        certified z earlier p
        (ap (λ (v : Bool). wrong_by (uncertified z) earlier (if v then or_packet p (packet_fault z.fti p) else Ok Other)) (sym m) ∙ k)

pub are_certified : (who : Identity) (z : Certificate) (rs : List Reading) → (reception_to who z rs).wrong ≡ None → symbols (counted who rs) ≢ [] → AreCertified who rs z
are_certified who z rs h some = record {
  some = some;
  packets =
      all_certified z who [] (counted who rs) (each_counts who 0 rs)
      (subst (λ (s : Scope). wrong_after (uncertified z) s [] (counted who rs) ≡ None) (stays who z.fti (counted who rs)) h);
}

-- ---- reasons

abbrev pub reason_of : Found ℕ → Option Reason
reason_of found = option_map (λ x. reason_at x.0 x.1) found

pub no_reason : (found : Found ℕ) → found ≡ None → reason_of found ≡ None
no_reason found e = ap reason_of e

pub nothing_found : (found : Found ℕ) → reason_of found ≡ None → found ≡ None
nothing_found None h = refl
nothing_found (Some x) h = absurd (cc)

-- the reasons that are at places
abbrev pub IsAtPlace : Reason → Type 0
IsAtPlace OtherCertificate = ⊥
IsAtPlace ObjectLength = ⊥
IsAtPlace (NotObject b c i) = ⊥
IsAtPlace Empty = ⊥
IsAtPlace (Thin b have need) = ⊥
IsAtPlace NoCarrier = ⊥
IsAtPlace _ = Unit {0}

judged_place : (i : ℕ) (w : Wrong ℕ) → IsAtPlace (reason_at i w)
judged_place i (Faulty (fault.NoPacket r)) = tt
judged_place i (Faulty fault.OtherFti) = tt
judged_place i (Faulty fault.SymbolLength) = tt
judged_place i (Faulty fault.Range) = tt
judged_place i (Judged c) = tt

some_same : {x y : Reason} → Some x ≡ Some y → x ≡ y
some_same e = cc

pub is_at_place : (found : Found ℕ) (r : Reason) → reason_of found ≡ Some r → IsAtPlace r
is_at_place None r h = absurd (cc)
is_at_place (Some x) r h = subst IsAtPlace (some_same h) (judged_place x.0 x.1)

-- the verdict for what the datagrams say
pub refused : (who : Identity) (rs : List Reading) (object : List ℕ) (z : Certificate) (r : Reason) → is_for who z.name ≡ true → IsObject z.fti object → GivesObject object z
    → IsAgainst who rs z r → VerdictOn who rs object z (No r)
refused who rs object z OtherCertificate name form gives h = absurd (is_at_place (reception_to who z rs).wrong OtherCertificate h)
refused who rs object z ObjectLength name form gives h = absurd (is_at_place (reception_to who z rs).wrong ObjectLength h)
refused who rs object z (NotObject b c i) name form gives h = absurd (is_at_place (reception_to who z rs).wrong (NotObject b c i) h)
refused who rs object z Empty name form gives h = (name, form, gives, h)
refused who rs object z (Thin b have need) name form gives h = (name, form, gives, h)
refused who rs object z NoCarrier name form gives h = (name, form, gives, h)
refused who rs object z (NoPacket i x) name form gives h = (name, form, gives, h)
refused who rs object z (OtherFti i) name form gives h = (name, form, gives, h)
refused who rs object z (SymbolLength i) name form gives h = (name, form, gives, h)
refused who rs object z (Range i) name form gives h = (name, form, gives, h)
refused who rs object z (Symbol i c) name form gives h = (name, form, gives, h)

-- where some symbols came, there are some, and where none came, none
pub some_came : (arrivals : List Received) (n : ℕ) → length arrivals ≡ n → n ≢ 0 → arrivals ≢ []
some_came [] n l e p = e (sym l)
some_came (s ∷ ss) n l e p = absurd (cc)

pub none_came : (arrivals : List Received) (n : ℕ) → length arrivals ≡ n → n ≡ 0 → arrivals ≡ []
none_came [] n l e = refl
none_came (s ∷ ss) n l e = absurd (omega (arith, l, e))

-- the verdict where the certificate has the name and gives the object
pub judged_given : (who : Identity) (ds : List (List ℕ)) (object : List ℕ) (z : Certificate) (v : Verdict) → is_for who z.name ≡ true → IsObject z.fti object → GivesObject object z
    → VerdictWhereGiven who ds z v → VerdictOn who (readings_of ds) object z v
judged_given who ds object z (Yes report) name form gives h = record { name = name; form = form; gives = gives; certified = h.all; full = h.full; carrier = h.carrier }
judged_given who ds object z (No r) name form gives h = refused who (readings_of ds) object z r name form gives h
