-- A name that lets through is looked at no further: what else a verdict says is of the FTI and the
-- coefficients.
use Rattle.std.specs.Prelude.{◌≡◌, ◌↔◌, ◌+◌, ◌==◌, true, if◌then◌else◌, ℕ, zero, suc, List, Option, Some, Ok, Err, option_map, slice_index, refl}
use Rattle.std.proofs.Common.{◌∙◌, sym, ap}
use Rattle.std.proofs.lemmas.Bool.{eq-eqb}
use Rattle.std.proofs.Math.Path.{fun_ext}
use Rattle.poly.proofs.Lists.{all_weaker}
use Rattle.partition.specs.Fti.{Fti}
use Rattle.alc.specs.Reading.{Reading}
use Rattle.reception.specs.declared.scope.Identity.{Identity}
use Rattle.reception.specs.Symbols.{Symbol as Received}
use Rattle.reception.specs.Reception.{Placed, Judge, counted, reception_with, with_fti}
use Rattle.cert.specs.declared.verdict.Reason.TheVariants.{OtherCertificate, ObjectLength, NotObject, Empty, Packet as NoPacket, OtherFti, SymbolLength, Range, Symbol, Thin, NoCarrier}
use Rattle.cert.specs.declared.verdict.Verdict.{Verdict}
use Rattle.cert.specs.declared.verdict.Verdict.TheVariants.{Yes, No}
use Rattle.certificate.specs.Certificate.{Certificate, named_as, is_for, polynomial, certified_byte}
use Rattle.cert.specs.Verdict.{GivesObject, IsFirstNotGiven, uncertified, reason_at, first_reason, IsCertifiedReading, AreCertified, IsCertificateOf, VerdictOn, IsVerdict}
use Rattle.cert.specs.WrongColumns.{wrong_column}
use Rattle.cert.proofs.Columns.{found_is}

module _ (f : Fti) (coefficients : List ℕ) (n m : Option Identity) where
  abbrev first : Certificate
  first = record { fti = f; name = n; coefficients = coefficients }

  abbrev second : Certificate
  second = record { fti = f; name = m; coefficients = coefficients }

  same_byte : (b j c : ℕ) → certified_byte first b j c ≡ certified_byte second b j c
  unfolding polynomial
  same_byte b j c = refl

  same_object : (object : List ℕ) → GivesObject object first → GivesObject object second
  same_object object h b c i hb hc hi = sym (same_byte b i c) ∙ h b c i hb hc hi

  same_place : (object : List ℕ) (b c i : ℕ) → IsFirstNotGiven object first b c i → IsFirstNotGiven object second b c i
  same_place object b c i h = record {
    block = h.block;
    column = h.column;
    symbol = h.symbol;
    wrong = λ g. h.wrong (same_byte b i c ∙ g);
    before = λ x y n less ly ln. sym (same_byte x n y) ∙ h.before x y n less ly ln;
  }

  same_column : (s : Received) (c k : ℕ) → wrong_column first s c k ≡ wrong_column second s c k
  same_column s c zero = refl
  same_column s c (suc k) =
      ap (λ (v : ℕ). if slice_index s.bytes c == v then wrong_column first s (c + 1) k else Some c) (same_byte s.block s.esi c)
      ∙ ap (λ (o : Option ℕ). if slice_index s.bytes c == certified_byte second s.block s.esi c then o else Some c) (same_column s (c + 1) k)

  same_judge : uncertified first ≡ uncertified second
  same_judge = fun_ext (λ earlier. fun_ext (λ s. found_is first s ∙ same_column s 0 f.symbol_length ∙ sym (found_is second s)))

  module _ (who : Identity) (rs : List Reading) (object : List ℕ) where
    same_reason : first_reason who second rs ≡ first_reason who first rs
    same_reason = ap (λ (judge : Judge ℕ). option_map (λ x. reason_at x.0 x.1) (reception_with judge (with_fti who f) rs).wrong) (sym same_judge)

    same_reading : (r : Reading) → IsCertifiedReading first r → IsCertifiedReading second r
    same_reading (Err e) h = h
    same_reading (Ok p) h = record { fti = h.fti; size = h.size; range = h.range; symbol = λ c l. h.symbol c l ∙ same_byte p.block p.esi c }

    same_packets : AreCertified who rs first → AreCertified who rs second
    same_packets h = record {
      some = h.some;
      packets =
          all_weaker (λ x. IsCertifiedReading first x.reading) (λ x. IsCertifiedReading second x.reading) (λ (x : Placed). same_reading x.reading)
          (counted who rs) h.packets;
    }

    same_granted : is_for who m ≡ true → IsCertificateOf who rs object first → IsCertificateOf who rs object second
    same_granted now h = record {
      name = now;
      form = h.form;
      gives = same_object object h.gives;
      certified = same_packets h.certified;
      full = h.full;
      carrier = h.carrier;
    }

    same_verdict : (v : Verdict) → is_for who n ≡ true → is_for who m ≡ true → VerdictOn who rs object first v → VerdictOn who rs object second v
    same_verdict (Yes report) before now h = same_granted now h
    same_verdict (No OtherCertificate) before now h = absurd (cc)
    same_verdict (No ObjectLength) before now h = (now, h.1)
    same_verdict (No (NotObject b c i)) before now h = (now, h.1, same_place object b c i h.2)
    same_verdict (No Empty) before now h = (now, h.1, same_object object h.2, (same_reason ∙ h.3.0, h.3.1))
    same_verdict (No (Thin b have need)) before now h = (now, h.1, same_object object h.2, (same_reason ∙ h.3.0, h.3.1, h.3.2, h.3.3, h.3.4))
    same_verdict (No NoCarrier) before now h = (now, h.1, same_object object h.2, (same_reason ∙ h.3.0, h.3.1, h.3.2, h.3.3))
    same_verdict (No (NoPacket i x)) before now h = (now, h.1, same_object object h.2, same_reason ∙ h.3)
    same_verdict (No (OtherFti i)) before now h = (now, h.1, same_object object h.2, same_reason ∙ h.3)
    same_verdict (No (SymbolLength i)) before now h = (now, h.1, same_object object h.2, same_reason ∙ h.3)
    same_verdict (No (Range i)) before now h = (now, h.1, same_object object h.2, same_reason ∙ h.3)
    same_verdict (No (Symbol i c)) before now h = (now, h.1, same_object object h.2, same_reason ∙ h.3)

-- an identity is its own name
pub is_own : (who : Identity) → is_for who (Some who) ≡ true
is_own who =
    let a : (who.tsi == who.tsi) ≡ true = eq-eqb who.tsi who.tsi refl in
    let b : (who.toi == who.toi) ≡ true = eq-eqb who.toi who.toi refl in
    rw (a, b) refl

-- a certificate of the identity's packets is one under its name, too
pub named_granted : (who : Identity) (rs : List Reading) (object : List ℕ) (z : Certificate) → IsCertificateOf who rs object z → IsCertificateOf who rs object (named_as who z)
named_granted who rs object z h = same_granted z.fti z.coefficients z.name (Some who) who rs object (is_own who) h

-- and a verdict is one
pub named_verdict : (who : Identity) (ds : List (List ℕ)) (object : List ℕ) (z : Certificate) (v : Verdict) → is_for who z.name ≡ true
    → IsVerdict who ds object z v ↔ IsVerdict who ds object (named_as who z) v
named_verdict who ds object z v own = (
  λ h. record {
    readings = h.readings;
    read = h.read;
    judged = same_verdict z.fti z.coefficients z.name (Some who) who h.readings object v own (is_own who) h.judged;
  },
  λ h. record {
    readings = h.readings;
    read = h.read;
    judged = same_verdict z.fti z.coefficients (Some who) z.name who h.readings object v (is_own who) own h.judged;
  },
)
