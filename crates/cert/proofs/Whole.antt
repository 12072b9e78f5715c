-- What a yes promises of every selection.
use Rattle.std.specs.Prelude.{ℕ, List, Result, Ok, Err, IfOk}
use Rattle.cert.specs.declared.verdict.Verdict.{Verdict}
use Rattle.cert.specs.declared.verdict.Verdict.TheVariants.{Yes, No}
use Rattle.reception.specs.declared.scope.Identity.{Identity}
use Rattle.certificate.specs.Certificate.{Certificate, IsCertificate}
use Rattle.cert.specs.Verdict.{IsVerdict}
use Rattle.reception.specs.Headline.{DecodesWhereEnough, TwinWhereShort, TellsElse}
use Rattle.cert.specs.Bearing.{BearsLosses}
use Rattle.cert.specs.Report.{IsReport, OnYes}
use Rattle.cert.proofs.Bearing.{bears_losses}
use Rattle.cert.proofs.Promise.{decodes}
use Rattle.cert.proofs.Undecided.{undecided, tells}

-- each selection that is enough decodes to the object
pub decodes_at_yes : {E : Type 0} (who : Identity) (session : List (List ℕ)) (object : List ℕ) (z : Certificate) (r : Result Verdict E) → IsCertificate z
    → IfOk r (IsVerdict who session object z) → IfOk r (λ v. OnYes v (λ _. DecodesWhereEnough who z.fti session object))
decodes_at_yes who session object z (Ok (Yes report)) good h = decodes who session h.readings object z h.read good h.judged
decodes_at_yes who session object z (Ok (No reason)) good h = tt
decodes_at_yes who session object z (Err e) good h = tt

-- each that leaves a block short leaves a twin
pub undecided_at_yes : {E : Type 0} (who : Identity) (session : List (List ℕ)) (object : List ℕ) (z : Certificate) (r : Result Verdict E) → IsCertificate z
    → IfOk r (IsVerdict who session object z) → IfOk r (λ v. OnYes v (λ _. TwinWhereShort who z.fti session object))
undecided_at_yes who session object z (Ok (Yes report)) good h = undecided who session h.readings object z h.read good h.judged
undecided_at_yes who session object z (Ok (No reason)) good h = tt
undecided_at_yes who session object z (Err e) good h = tt

-- of each that isn't enough a decoder says what lacks
pub tells_at_yes : {E : Type 0} (who : Identity) (session : List (List ℕ)) (object : List ℕ) (z : Certificate) (r : Result Verdict E) → IsCertificate z
    → IfOk r (IsVerdict who session object z) → IfOk r (λ v. OnYes v (λ _. TellsElse who z.fti session))
tells_at_yes who session object z (Ok (Yes report)) good h = tells who session h.readings object z h.read good h.judged
tells_at_yes who session object z (Ok (No reason)) good h = tt
tells_at_yes who session object z (Err e) good h = tt

-- and the object bears the losses that the report tells
pub losses_at_yes : {E : Type 0} (who : Identity) (session : List (List ℕ)) (object : List ℕ) (z : Certificate) (r : Result Verdict E) → IsCertificate z
    → IfOk r (IsVerdict who session object z) → IfOk r (λ v. OnYes v (IsReport who session z.fti)) → IfOk r (λ v. OnYes v (BearsLosses who session object))
losses_at_yes who session object z (Ok (Yes report)) good h is =
    bears_losses who z.fti session object report (decodes who session h.readings object z h.read good h.judged) (tells who session h.readings object z h.read good h.judged) is
losses_at_yes who session object z (Ok (No reason)) good h is = tt
losses_at_yes who session object z (Err e) good h is = tt
