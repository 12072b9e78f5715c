-- What a check's yes and decoding give together.
use Rattle.std.specs.Prelude.{◌≡◌, ℕ, List}
use Rattle.partition.specs.Fti.{Fti}
use Rattle.alc.specs.Reading.{Reading}
use Rattle.reception.specs.declared.scope.Identity.{Identity}
use Rattle.reception.specs.Symbols.{AreTwins}
use Rattle.reception.specs.Reception.{counted, symbols, Suffices}
use Rattle.reception.specs.Answer.{Answer, Object}
use Rattle.reception.specs.Headline.{HasCarrier, TellsWhatLacks}

-- the answer is the object where the datagrams with these readings are enough, and else it tells
-- what lacks; where they leave a block short, another object agrees with all that came
pub record IsPromised (who : Identity) (f : Fti) (rs : List Reading) (object : List ℕ)
    (answer : Answer) : Type 0 where
  pub enough : Suffices who f rs → HasCarrier who rs → answer ≡ Object object
  pub lacks : ¬ (Suffices who f rs × HasCarrier who rs) → TellsWhatLacks who answer rs
  pub twin : ¬ Suffices who f rs → (other : List ℕ)
      × AreTwins f (symbols (counted who rs)) object other
