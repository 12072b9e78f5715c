-- Datagrams that are fed to a check.
use Rattle.std.proofs.Common.{Result, true, ◌≡◌, ℕ, List, [], ◌∷◌, ◌++◌, Option, None, Some, Ok, IfSome, IsNone, refl, sym, subst, ◌∙◌}
use Rattle.std.specs.Cow.{cow_slice_items}
use Rattle.std.specs.declared.alloc.AllocError.{AllocError}
use Rattle.std.specs.Io.KnownBytes.{Consumes, IsAtEnd}
use Rattle.std.specs.Prelude.{IfOk, Err}
use Rattle.std.specs.Result.{result_transpose}
use Rattle.std.proofs.lemmas.List.{append_assoc, append-nil}
use Rattle.session.specs.Frames.{frames, IsDatagram, AreDatagrams}
use Rattle.session.proofs.Sessions.{datagrams_push}
use Rattle.reception.specs.declared.scope.Identity.{Identity}
use Rattle.reception.specs.Symbols.{IsObject}
use Rattle.reception.specs.Walks.{readings_of}
use Rattle.cert.specs.declared.verdict.Reason.{Reason}
use Rattle.cert.specs.declared.verdict.Reason.TheVariants.{OtherCertificate, ObjectLength, NotObject, Empty, Packet as NoPacket, OtherFti, SymbolLength, Range, Symbol, Thin, NoCarrier}
use Rattle.cert.specs.declared.verdict.Survey.{Survey}
use Rattle.cert.specs.declared.verdict.Verdict.{Verdict}
use Rattle.cert.specs.declared.verdict.Verdict.TheVariants.{No}
use Rattle.certificate.specs.Certificate.{Certificate, IsCertificate, is_for}
use Rattle.cert.specs.NotBegun.{IsAgainstObject}
use Rattle.cert.specs.DatagramWalk.{HasWalked, IsNotPassed}
use Rattle.cert.specs.Feeding.{HasNoReason, IsNoToAll, IsReasonSoFar}
use Rattle.cert.specs.Fed.{HasRead, IsWalkOver, IsFed, StandsAt, StopsBy}
use Rattle.cert.specs.FromReader.{IsCheckedFrom}
use Rattle.cert.specs.Report.{IsReport, OnYes}
use Rattle.cert.specs.Scan.{VerdictWhereGiven}
use Rattle.cert.specs.Surveying.{IsSurvey, IsSurveyedFrom, OnYesWith}
use Rattle.cert.specs.Tallying.{IsTally, by_certificate}
use Rattle.cert.specs.declared.checker.Checker.{Checker}
use Rattle.cert.specs.Verdict.{GivesObject, IsVerdict, VerdictOn, reception_to}
use Rattle.cert.proofs.Judging.{judged_given, no_reason, read_all}
use Rattle.cert.proofs.FromReader.{datagrams_append, no_datagrams, survey_of, verdict_from, what_follows}

-- ---- a checker that has looked at datagrams

module _ (checker : Checker) (who : Identity) (object : List ℕ) (z : Certificate) (ds : List (List ℕ)) (over : IsWalkOver checker who object z ds) where
  pub own_valid : IsCertificate z
  own_valid = rw over.certificate at checker.valid

  pub own_name : is_for who z.name ≡ true
  own_name = rw (over.identity, over.certificate) at checker.name

  pub own_form : IsObject z.fti object
  own_form = rw (over.certificate, over.object_is) at checker.form

  pub own_gives : GivesObject object z
  own_gives = rw (over.certificate, over.object_is) at checker.gives

  pub all_clean : (reception_to who z (readings_of ds)).wrong ≡ None
  all_clean = rw (over.identity, over.certificate) at over.walked.clean

  pub its_tally : IsTally (by_certificate checker.symbols) checker.symbols.fti checker.tally ds
  its_tally = record { valid = checker.valid.fti; tallied = over.walked }

  module _ (v : Verdict) (h : VerdictWhereGiven checker.tally.scope.identity ds checker.symbols v) where
    given : VerdictOn who (readings_of ds) object z v
    given = judged_given who ds object z v own_name own_form own_gives (rw (over.identity, over.certificate) at h)

    pub verdict_on : AreDatagrams ds → IsVerdict who ds object z v
    verdict_on each = record { readings = readings_of ds; read = read_all ds each; judged = given }

    -- all that was left of a reader
    module _ (old new : Option (List ℕ)) (each : AreDatagrams ds) (consumed : Consumes old new (frames ds)) (end : IsAtEnd new)
        (is : OnYes v (IsReport checker.tally.scope.identity ds checker.symbols.fti)) where
      report : OnYes v (IsReport who ds z.fti)
      report = rw (over.identity, over.certificate) at is

      pub checked_from : IsCheckedFrom who old new object z v
      checked_from = verdict_from who z object own_name own_form own_gives old new ds each consumed all_clean v own_valid end given report

      pub surveyed_from : (survey : Option Survey) → OnYesWith v survey (IsSurvey checker.tally.scope.identity ds checker.symbols.fti) → IsSurveyedFrom who old new object z v survey
      surveyed_from survey h = survey_of who z object own_name own_form own_gives old new ds each consumed all_clean v survey own_valid end given report (rw (over.identity, over.certificate) at h)

module _ (who : Identity) (object : List ℕ) (z : Certificate) where
  -- a reason against the name or the object is one whatever datagrams come
  pub not_begun : (r : Reason) → IsAgainstObject who object z r → IsNoToAll who [] object z r
  not_begun OtherCertificate h = λ rest each. record { readings = readings_of rest; read = read_all rest each; judged = h }
  not_begun ObjectLength h = λ rest each. record { readings = readings_of rest; read = read_all rest each; judged = h }
  not_begun (NotObject b c i) h = λ rest each. record { readings = readings_of rest; read = read_all rest each; judged = h }
  not_begun Empty h = absurd h
  not_begun (NoPacket i x) h = absurd h
  not_begun (OtherFti i) h = absurd h
  not_begun (SymbolLength i) h = absurd h
  not_begun (Range i) h = absurd h
  not_begun (Symbol i c) h = absurd h
  not_begun (Thin b have need) h = absurd h
  not_begun NoCarrier h = absurd h

  module _ (ds : List (List ℕ)) (d : List ℕ) (here : IsDatagram d) where
    -- one more
    pub one_more : AreDatagrams ds → AreDatagrams (ds ++ d ∷ [])
    one_more each = datagrams_push ds d each here

    -- a reason stays
    pub still_no : (r : Reason) → IsNoToAll who ds object z r → IsNoToAll who (ds ++ d ∷ []) object z r
    still_no r h = λ rest more.
        subst (λ (xs : List (List ℕ)). IsVerdict who xs object z (No r)) (sym (append_assoc ds (d ∷ []) rest))
        (h (d ∷ rest) (datagrams_append (d ∷ []) rest (datagrams_push [] d no_datagrams here) more))

    -- the datagram has a reason
    pub now_no : (checker : Checker) → IsWalkOver checker who object z ds → AreDatagrams ds → (r : Reason)
        → IsNotPassed checker.tally.scope.identity (ds ++ d ∷ []) checker.symbols r → IsNoToAll who (ds ++ d ∷ []) object z r
    now_no checker over each r h =
        what_follows who z object (own_name checker who object z ds over) (own_form checker who object z ds over) (own_gives checker who object z ds over)
        (ds ++ d ∷ []) (one_more each) None r (rw (over.identity, over.certificate) at h).0

  -- a reason is the verdict
  pub is_no : (ds : List (List ℕ)) (r : Reason) → IsNoToAll who ds object z r → IsVerdict who ds object z (No r)
  is_no ds r h = subst (λ (xs : List (List ℕ)). IsVerdict who xs object z (No r)) (append-nil ds) (h [] no_datagrams)

  module _ (ds : List (List ℕ)) (checker : Checker) (over : IsWalkOver checker who object z ds) (each : AreDatagrams ds) where
    -- none of them has a reason against it
    pub no_reason_so_far : HasNoReason who ds z
    no_reason_so_far = record { readings = readings_of ds; read = read_all ds each; none = no_reason _ (all_clean checker who object z ds over) }

  -- after one step more
  module _ (ds : List (List ℕ)) (d : List ℕ) (here : IsDatagram d) (each : AreDatagrams ds) (old new : Checker) (over : IsWalkOver old who object z ds)
      (identity : new.tally.scope.identity ≡ old.tally.scope.identity) (certificate : new.symbols ≡ old.symbols) (object_is : cow_slice_items new.object ≡ cow_slice_items old.object) where
    walk_after : HasWalked new (ds ++ d ∷ []) → IsWalkOver new who object z (ds ++ d ∷ [])
    walk_after h = record { identity = identity ∙ over.identity; certificate = certificate ∙ over.certificate; object_is = object_is ∙ over.object_is; walked = h }

    pub stands_after : (o : Option Reason) → (IsNone o → HasWalked new (ds ++ d ∷ [])) → IfSome o (IsNotPassed old.tally.scope.identity (ds ++ d ∷ []) old.symbols)
        → StandsAt (result_transpose (Ok o)) new who object z (ds ++ d ∷ [])
    stands_after None passed against = walk_after (passed refl)
    stands_after (Some r) passed against = now_no ds d here old over each r against

    pub reason_after : (o : Option Reason) → (IsNone o → HasWalked new (ds ++ d ∷ [])) → IfSome o (IsNotPassed old.tally.scope.identity (ds ++ d ∷ []) old.symbols)
        → IsReasonSoFar who (ds ++ d ∷ []) object z o
    reason_after None passed against = no_reason_so_far (ds ++ d ∷ []) new (walk_after (passed refl)) (one_more ds d here each)
    reason_after (Some r) passed against = now_no ds d here old over each r against

-- ---- a checker that was fed

module _ (checker : Checker) (who : Identity) (object : List ℕ) (z : Certificate) (ds : List (List ℕ)) where
  pub has_reason : (r : Reason) → checker.ended ≡ Some (Ok r) → IsFed checker who object z ds → IsNoToAll who ds object z r
  has_reason r ended fed = subst (λ (e : Option (Result Reason AllocError)). StandsAt e checker who object z ds) ended fed.stands

  pub goes_on : checker.ended ≡ None → IsFed checker who object z ds → IsWalkOver checker who object z ds
  goes_on ended fed = subst (λ (e : Option (Result Reason AllocError)). StandsAt e checker who object z ds) ended fed.stands

  pub fed_with_reason : (r : Reason) → checker.ended ≡ Some (Ok r) → AreDatagrams ds → IsNoToAll who ds object z r → IsFed checker who object z ds
  fed_with_reason r ended each h = record { each = each; stands = subst (λ (e : Option (Result Reason AllocError)). StandsAt e checker who object z ds) (sym ended) h }

-- ---- what was read

module _ (checker : Checker) (who : Identity) (object : List ℕ) (z : Certificate) (old new : Option (List ℕ)) (h : HasRead checker who object z old new) where
  pub no_read : (r : Reason) → checker.ended ≡ Some (Ok r) → IsCheckedFrom who old new object z (No r)
  no_read r ended = record {
    datagrams = h.datagrams;
    each = h.fed.each;
    consumed = h.consumed;
    judged = subst (λ (e : Option (Result Reason AllocError)). StopsBy e who object z h.datagrams new) ended h.stops;
    decodes = tt;
    undecided = tt;
    tells = tt;
    report = tt;
    losses = tt;
  }

  pub end_read : checker.ended ≡ None → IsAtEnd new
  end_read ended = subst (λ (e : Option (Result Reason AllocError)). StopsBy e who object z h.datagrams new) ended h.stops

  -- all of it
  module _ (going : checker.ended ≡ None) where
    abbrev over : IsWalkOver checker who object z h.datagrams
    over = goes_on checker who object z h.datagrams going h.fed

    pub verdict_read : {E : Type 0} (r : Result Verdict E) → IfOk r (VerdictWhereGiven checker.tally.scope.identity h.datagrams checker.symbols)
        → IfOk r (λ v. OnYes v (IsReport checker.tally.scope.identity h.datagrams checker.symbols.fti)) → IfOk r (IsCheckedFrom who old new object z)
    verdict_read (Ok v) judged is = checked_from checker who object z h.datagrams over v judged old new h.fed.each h.consumed (end_read going) is
    verdict_read (Err e) judged is = tt

    pub survey_read : {E : Type 0} (r : Result (Verdict × Option Survey) E) → IfOk r (λ f. VerdictWhereGiven checker.tally.scope.identity h.datagrams checker.symbols f.0)
        → IfOk r (λ f. OnYes f.0 (IsReport checker.tally.scope.identity h.datagrams checker.symbols.fti))
        → IfOk r (λ f. OnYesWith f.0 f.1 (IsSurvey checker.tally.scope.identity h.datagrams checker.symbols.fti)) → IfOk r (λ f. IsSurveyedFrom who old new object z f.0 f.1)
    survey_read (Ok f) judged is surveyed = surveyed_from checker who object z h.datagrams over f.0 judged old new h.fed.each h.consumed (end_read going) is f.1 surveyed
    survey_read (Err e) judged is surveyed = tt
