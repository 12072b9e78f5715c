-- One answer, joined with what a check promises.
use Rattle.std.proofs.Common.{ℕ, List, subst}
use Rattle.partition.specs.Fti.{Fti}
use Rattle.lists.specs.Selection.{chosen}
use Rattle.reception.specs.declared.scope.Identity.{Identity}
use Rattle.reception.specs.Answer.{Answer, Object, IsAnswer}
use Rattle.reception.specs.Headline.{TellsWhatLacks, DecodesWhereEnough, TwinWhereShort, TellsElse}
use Rattle.reception.proofs.OneAnswer.{one_answer}
use Rattle.decoder.specs.Promised.{IsPromised}
use Rattle.alc.specs.Reading.{Reading}
use Rattle.reception.specs.Reception.{ReadAll}

pub promised : (who : Identity) (session : List (List ℕ)) (places : List ℕ) (a : Answer) → IsAnswer who (chosen session places) a → (f : Fti) (object : List ℕ) (rs : List Reading)
    → DecodesWhereEnough who f session object → TwinWhereShort who f session object → TellsElse who f session → ReadAll (chosen session places) rs → IsPromised who f rs object a
promised who session places a is f object rs decodes short tells read = record {
  enough = λ full carrier. one_answer who (chosen session places) a (Object object) is (decodes places rs read full carrier).is;
  lacks = λ few.
      let u = tells places rs read few in
      subst (λ (x : Answer). TellsWhatLacks who x rs) (one_answer who (chosen session places) u.0 a u.1 is) u.2;
  twin = short places rs read;
}
