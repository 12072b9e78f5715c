-- What the answers to datagrams, one after the other, say of the verdict.
use Rattle.std.proofs.Common.{drop, ◌≡◌, ℕ, zero, suc, Bool, true, List, [], ◌∷◌, ◌++◌, Option, Some, None, refl, sym, ap, ◌∙◌, append_assoc, arith}
use Rattle.std.specs.Io.KnownBytes.{Consumes, IsAtEnd}
use Rattle.session.specs.Frames.{frame, frames, AreDatagrams, IsReadFault}
use Rattle.session.specs.declared.frame.FrameFault.{FrameFault}
use Rattle.session.proofs.Sessions.{frames_push}
use Rattle.alc.specs.Reading.{Reading}
use Rattle.reception.specs.declared.scope.Identity.{Identity}
use Rattle.reception.specs.Symbols.{IsObject}
use Rattle.reception.specs.Walks.{readings_of}
use Rattle.cert.specs.declared.verdict.Reason.{Reason}
use Rattle.cert.specs.declared.verdict.Reason.TheVariants.{OtherCertificate, ObjectLength, NotObject, Empty, Packet as NoPacket, OtherFti, SymbolLength, Range, Symbol, Thin, NoCarrier}
use Rattle.cert.specs.declared.verdict.Verdict.{Verdict}
use Rattle.cert.specs.declared.verdict.Survey.{Survey}
use Rattle.cert.specs.Surveying.{IsSurvey, IsSurveyedFrom, OnYesWith}
use Rattle.cert.specs.declared.verdict.Verdict.TheVariants.{Yes, No}
use Rattle.certificate.specs.Certificate.{Certificate, IsCertificate, is_for}
use Rattle.cert.specs.NotBegun.{IsAgainstObject}
use Rattle.cert.specs.DatagramWalk.{IsNotPassed}
use Rattle.cert.specs.FromReader.{read_for, IsKnown, IsCheckedFrom, IsRefusedBehind}
use Rattle.cert.specs.Report.{IsReport, OnYes}
use Rattle.cert.specs.Verdict.{GivesObject, reception_to, first_reason, IsAgainst, IsVerdict, VerdictOn}
use Rattle.cert.proofs.DatagramSteps.{reason_stays}
use Rattle.cert.proofs.Judging.{read_all, is_at_place, no_reason, refused}
use Rattle.cert.proofs.Bearing.{bears_losses}
use Rattle.cert.proofs.Promise.{decodes}
use Rattle.cert.proofs.Undecided.{undecided, tells}

-- ---- lists of datagrams

pub no_datagrams : AreDatagrams []
no_datagrams i = record { short = omega arith; bytes = λ j. omega arith }

pub datagrams_append : (xs ys : List (List ℕ)) → AreDatagrams xs → AreDatagrams ys → AreDatagrams (xs ++ ys)
datagrams_append [] ys h k i = k i
datagrams_append (x ∷ xs) ys h k zero = h 0
datagrams_append (x ∷ xs) ys h k (suc i) = datagrams_append xs ys (λ j. h (suc j)) k i

pub datagrams_drop : (n : ℕ) (ds : List (List ℕ)) → AreDatagrams ds → AreDatagrams (drop n ds)
datagrams_drop zero ds h = h
datagrams_drop (suc n) [] h = no_datagrams
datagrams_drop (suc n) (d ∷ ds) h = datagrams_drop n ds (λ i. h (suc i))

pub nothing_consumed : (a : Option (List ℕ)) → Consumes a a []
nothing_consumed None = tt
nothing_consumed (Some xs) = refl

-- one frame more
pub consumes_one : (a b c : Option (List ℕ)) (ds : List (List ℕ)) (d : List ℕ) → Consumes a b (frames ds) → Consumes b c (frame d) → Consumes a c (frames (ds ++ d ∷ []))
consumes_one None b c ds d p q = p
consumes_one (Some a) None c ds d p q = absurd p
consumes_one (Some a) (Some b) None ds d p q = absurd q
consumes_one (Some a) (Some b) (Some c) ds d p q =
    p ∙ ap (λ (l : List ℕ). frames ds ++ l) q ∙ sym (append_assoc (frames ds) (frame d) c) ∙ ap (λ (l : List ℕ). l ++ c) (sym (frames_push ds d))

-- ---- noes

abbrev pub IsNoAfter : Identity → Reason → List (List ℕ) → Option (List ℕ) → List ℕ → Certificate → Type 0
IsNoAfter who r ds left object z = IsKnown (read_for (No r)) ds left (λ some. IsVerdict who some object z (No r))

-- a reason at a place is one against the datagrams
against_place : (who : Identity) (z : Certificate) (rs : List Reading) (r : Reason) → first_reason who z rs ≡ Some r → IsAgainst who rs z r
against_place who z rs Empty h = absurd (is_at_place (reception_to who z rs).wrong Empty h)
against_place who z rs (Thin b have need) h = absurd (is_at_place (reception_to who z rs).wrong (Thin b have need) h)
against_place who z rs NoCarrier h = absurd (is_at_place (reception_to who z rs).wrong NoCarrier h)
against_place who z rs OtherCertificate h = h
against_place who z rs ObjectLength h = h
against_place who z rs (NotObject b c i) h = h
against_place who z rs (NoPacket i x) h = h
against_place who z rs (OtherFti i) h = h
against_place who z rs (SymbolLength i) h = h
against_place who z rs (Range i) h = h
against_place who z rs (Symbol i c) h = h

module _ (who : Identity) (z : Certificate) (object : List ℕ) (name : is_for who z.name ≡ true) (form : IsObject z.fti object) (gives : GivesObject object z) where
  verdict_no : (ds : List (List ℕ)) (r : Reason) → AreDatagrams ds → IsAgainst who (readings_of ds) z r → IsVerdict who ds object z (No r)
  verdict_no ds r each h = record { readings = readings_of ds; read = read_all ds each; judged = refused who (readings_of ds) object z r name form gives h }

  module _ (ds : List (List ℕ)) (each : AreDatagrams ds) (left : Option (List ℕ)) where
    pub what_follows : (r : Reason) → first_reason who z (readings_of ds) ≡ Some r
        → (rest : List (List ℕ)) → AreDatagrams rest → IsVerdict who (ds ++ rest) object z (No r)
    what_follows r h = λ rest more.
        verdict_no (ds ++ rest) r (datagrams_append ds rest each more) (against_place who z (readings_of (ds ++ rest)) r (reason_stays who z ds rest r h))

    pub after_place : (r : Reason) → IsNotPassed who ds z r → IsNoAfter who r ds left object z
    after_place OtherCertificate h = absurd (is_at_place (reception_to who z (readings_of ds)).wrong OtherCertificate h.0)
    after_place ObjectLength h = absurd (is_at_place (reception_to who z (readings_of ds)).wrong ObjectLength h.0)
    after_place (NotObject b c i) h = absurd (is_at_place (reception_to who z (readings_of ds)).wrong (NotObject b c i) h.0)
    after_place Empty h = absurd (is_at_place (reception_to who z (readings_of ds)).wrong Empty h.0)
    after_place (Thin b have need) h = absurd (is_at_place (reception_to who z (readings_of ds)).wrong (Thin b have need) h.0)
    after_place NoCarrier h = absurd (is_at_place (reception_to who z (readings_of ds)).wrong NoCarrier h.0)
    after_place (NoPacket i x) h = (h.1, what_follows (NoPacket i x) h.0)
    after_place (OtherFti i) h = (h.1, what_follows (OtherFti i) h.0)
    after_place (SymbolLength i) h = (h.1, what_follows (SymbolLength i) h.0)
    after_place (Range i) h = (h.1, what_follows (Range i) h.0)
    after_place (Symbol i c) h = (h.1, what_follows (Symbol i c) h.0)

    module _ (none : first_reason who z (readings_of ds) ≡ None) where
      no_place : (r : Reason) → first_reason who z (readings_of ds) ≡ Some r → ⊥
      no_place r h = cc

      pub after_all : (r : Reason) → IsAtEnd left → VerdictOn who (readings_of ds) object z (No r) → IsNoAfter who r ds left object z
      after_all Empty end h = (end, record { readings = readings_of ds; read = read_all ds each; judged = h })
      after_all (Thin b have need) end h = (end, record { readings = readings_of ds; read = read_all ds each; judged = h })
      after_all NoCarrier end h = (end, record { readings = readings_of ds; read = read_all ds each; judged = h })
      after_all OtherCertificate end h = absurd (cc)
      after_all ObjectLength end h = absurd (h.1 form.count)
      after_all (NotObject b c i) end h = absurd (h.2.wrong (gives b c i h.2.block h.2.column h.2.symbol))
      after_all (NoPacket i x) end h = absurd (no_place (NoPacket i x) h.3)
      after_all (OtherFti i) end h = absurd (no_place (OtherFti i) h.3)
      after_all (SymbolLength i) end h = absurd (no_place (SymbolLength i) h.3)
      after_all (Range i) end h = absurd (no_place (Range i) h.3)
      after_all (Symbol i c) end h = absurd (no_place (Symbol i c) h.3)

-- a reason against the name or the object is the verdict on any list
before_all : (who : Identity) (z : Certificate) (object : List ℕ) (left : Option (List ℕ)) (r : Reason) → IsAgainstObject who object z r → IsNoAfter who r [] left object z
before_all who z object left OtherCertificate h = (refl, λ rest each. record { readings = readings_of rest; read = read_all rest each; judged = h })
before_all who z object left ObjectLength h = (refl, λ rest each. record { readings = readings_of rest; read = read_all rest each; judged = h })
before_all who z object left (NotObject b c i) h = (refl, λ rest each. record { readings = readings_of rest; read = read_all rest each; judged = h })
before_all who z object left Empty h = absurd h
before_all who z object left (NoPacket i x) h = absurd h
before_all who z object left (OtherFti i) h = absurd h
before_all who z object left (SymbolLength i) h = absurd h
before_all who z object left (Range i) h = absurd h
before_all who z object left (Symbol i c) h = absurd h
before_all who z object left (Thin b have need) h = absurd h
before_all who z object left NoCarrier h = absurd h

-- ---- what is told of a reader's datagrams

pub not_begun : (who : Identity) (old : Option (List ℕ)) (z : Certificate) (object : List ℕ) (r : Reason) → IsAgainstObject who object z r → IsCheckedFrom who old old object z (No r)
not_begun who old z object r h = record {
  datagrams = [];
  each = no_datagrams;
  consumed = nothing_consumed old;
  judged = before_all who z object old r h;
  decodes = tt;
  undecided = tt;
  tells = tt;
  report = tt;
  losses = tt;
}

module _ (who : Identity) (z : Certificate) (object : List ℕ) (name : is_for who z.name ≡ true) (form : IsObject z.fti object) (gives : GivesObject object z)
    (old new : Option (List ℕ)) (ds : List (List ℕ)) (each : AreDatagrams ds) (consumed : Consumes old new (frames ds)) where
  pub no_from : (r : Reason) → IsNoAfter who r ds new object z → IsCheckedFrom who old new object z (No r)
  no_from r h = record { datagrams = ds; each = each; consumed = consumed; judged = h; decodes = tt; undecided = tt; tells = tt; report = tt; losses = tt }

  -- the last of the datagrams isn't passed
  pub not_passed : (r : Reason) → IsNotPassed who ds z r → IsCheckedFrom who old new object z (No r)
  not_passed r h = no_from r (after_place who z object name form gives ds each new r h)

  module _ (clean : (reception_to who z (readings_of ds)).wrong ≡ None) where
    -- the next wasn't read
    pub not_read : (failed : Bool) (later : Option (List ℕ)) (fault : FrameFault) → IsReadFault fault new later failed → IsRefusedBehind who fault old later failed object z
    not_read failed later fault h = record {
      datagrams = ds;
      each = each;
      name = name;
      form = form;
      gives = gives;
      readings = readings_of ds;
      read = read_all ds each;
      none = no_reason _ clean;
      left = new;
      consumed = consumed;
      refused = h;
    }

    -- there are no more
    unfoldable pub verdict_from : (v : Verdict) → IsCertificate z → IsAtEnd new → VerdictOn who (readings_of ds) object z v → OnYes v (IsReport who ds z.fti) → IsCheckedFrom who old new object z v
    verdict_from (No r) valid end judged is = no_from r (after_all who z object name form gives ds each new (no_reason _ clean) r end judged)
    verdict_from (Yes report) valid end judged is = record {
      datagrams = ds;
      each = each;
      consumed = consumed;
      judged = (end, record { readings = readings_of ds; read = read_all ds each; judged = judged });
      decodes = decodes who ds (readings_of ds) object z (read_all ds each) valid judged;
      undecided = undecided who ds (readings_of ds) object z (read_all ds each) valid judged;
      tells = tells who ds (readings_of ds) object z (read_all ds each) valid judged;
      report = is;
      losses =
          bears_losses who z.fti ds object report (decodes who ds (readings_of ds) object z (read_all ds each) valid judged)
          (tells who ds (readings_of ds) object z (read_all ds each) valid judged) is;
    }

    -- and this is the survey of a yes
    pub survey_of : (v : Verdict) (survey : Option Survey) → IsCertificate z → IsAtEnd new → VerdictOn who (readings_of ds) object z v → OnYes v (IsReport who ds z.fti)
        → OnYesWith v survey (IsSurvey who ds z.fti) → IsSurveyedFrom who old new object z v survey
    unfolding verdict_from
    survey_of (Yes report) (Some survey) valid end judged is surveyed = record { checked = verdict_from (Yes report) valid end judged is; surveyed = surveyed }
    survey_of (No r) None valid end judged is surveyed = record { checked = verdict_from (No r) valid end judged is; surveyed = tt }
    survey_of (Yes report) None valid end judged is surveyed = absurd surveyed
    survey_of (No r) (Some survey) valid end judged is surveyed = absurd surveyed
