use Rattle.std.proofs.Common.{ℕ, List, inl, inr, subst}
use Rattle.alc.specs.Reading.{Reading}
use Rattle.reception.specs.declared.scope.Identity.{Identity}
use Rattle.reception.proofs.OneAnswer.{same_readings}
use Rattle.cert.specs.declared.verdict.Verdict.{Verdict}
use Rattle.cert.specs.declared.verdict.Verdict.TheVariants.{Yes, No}
use Rattle.certificate.specs.Certificate.{Certificate, named_as}
use Rattle.cert.specs.Verdict.{VerdictOn, IsVerdict, IsYes}
use Rattle.cert.proofs.OneVerdict.{never_no}
use Rattle.encoder.specs.Certified.{Certifies}
use Rattle.encoder.proofs.laws.sent_checks_yes.Goals as goal

abbrev identity : ℕ → ℕ → Identity
identity tsi toi = record { tsi = tsi; toi = toi }

yes : (who : Identity) (object : List ℕ) (z : Certificate) (session : List (List ℕ)) (v : Verdict) → Certifies who z object session → IsVerdict who session object z v → IsYes v
yes who object z session (Yes report) g h = tt
yes who object z session (No reason) g h =
    let e = same_readings session h.readings g.readings h.read g.read in
    absurd (never_no who g.readings object z g.granted reason (subst (λ (rs : List Reading). VerdictOn who rs object z (No reason)) e h.judged))

pub returns : goal.returns
returns c = λ object z all tsi toi every order session lt lu some sent verdict is.
    let both = all tsi toi every order session lt lu some sent in
    elim is [
      | inl plain ↦ yes (identity tsi toi) object z session verdict both.0 plain
      | inr named ↦ yes (identity tsi toi) object (named_as (identity tsi toi) z) session verdict both.1 named
    ]
