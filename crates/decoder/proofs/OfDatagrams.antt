-- What datagrams give, by what the symbols give that were received.
use Rattle.std.proofs.Common.{◌≡◌, ℕ, List, Option, subst}
use Rattle.session.specs.Frames.{AppendsSome}
use Rattle.partition.specs.Fti.{Fti}
use Rattle.reception.specs.declared.scope.Identity.{Identity}
use Rattle.alc.specs.Reading.{Reading}
use Rattle.reception.specs.Symbols.{FitsOnly}
use Rattle.reception.specs.Reception.{ReadAll}
use Rattle.reception.specs.Walks.{readings_of}
use Rattle.reception.specs.Answer as value
use Rattle.reception.specs.Answer.{IsAnswer, AnswerTo, reception_of}
use Rattle.reception.proofs.OneAnswer.{same_readings}
use Rattle.decoder.specs.Answered.{Answers}
use Rattle.block_recovery.specs.Received.{AreReceived}
use Rattle.decoder.specs.Written.{BeginsObject}
use Rattle.decoder.proofs.Answering.{answered}

module _ (who : Identity) (ds : List (List ℕ)) (f : Fti) (at : ℕ → ℕ → Option (List ℕ)) (read : ReadAll ds (readings_of ds)) (received : AreReceived who ds f at) where
  pub answer_of : (v : value.Answer) → Answers f at v → IsAnswer who ds v
  answer_of v h = record { readings = readings_of ds; read = read; answers = answered who ds f at v received h }

  -- the object that the datagrams give is the only one that their symbols fit
  only_object : (object : List ℕ) → IsAnswer who ds (value.Object object) → FitsOnly f (reception_of who (readings_of ds)).symbols object
  only_object object answer =
      let e = same_readings ds answer.readings (readings_of ds) answer.read read in
      let w = subst (λ (rs : List Reading). AnswerTo (reception_of who rs) (value.Object object)) e answer.answers in
      let theirs = w.1.some in
      let ours = received.clean.some in
      let same : w.0 ≡ f = cc in
      subst (λ (x : Fti). FitsOnly x (reception_of who (readings_of ds)).symbols object) same w.4

  pub begun_of : (before after : Option (List ℕ)) → BeginsObject f at before after → (object : List ℕ) → IsAnswer who ds (value.Object object) → AppendsSome before after object
  begun_of before after h object answer = h (reception_of who (readings_of ds)).symbols object received.index (only_object object answer)
