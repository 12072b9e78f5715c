-- What a yes promises of every selection of the session's datagrams.
use Rattle.std.specs.Prelude.{◌≡◌, ℕ, true, List}
use Rattle.std.specs.List.{list_any}
use Rattle.partition.specs.Fti.{Fti}
use Rattle.reception.specs.declared.scope.Identity.{Identity}
use Rattle.reception.specs.Symbols.{AreTwins}
use Rattle.alc.specs.Reading.{Reading}
use Rattle.reception.specs.Reception.{ReadAll, counted, symbols, is_carrier, Suffices}
use Rattle.reception.specs.Answer.{Answer, Empty, Missing, Object, IsAnswer, IsOnlyAnswer}
use Rattle.lists.specs.Selection.{chosen}

-- this holds of every selection and its readings, which are one list, as the datagrams are lists of
-- bytes
abbrev pub OfEach : List (List ℕ) → (List (List ℕ) → List Reading → Type 0) → Type 0
OfEach session Holds =
    (places : List ℕ) (rs : List Reading) → ReadAll (chosen session places) rs
    → Holds (chosen session places) rs

-- one of them is a carrier
abbrev pub HasCarrier : Identity → List Reading → Type 0
HasCarrier who rs = list_any (is_carrier who) rs ≡ true

-- every selection that leaves no block short and has a carrier decodes to the object, and to
-- nothing else
abbrev pub DecodesWhereEnough : Identity → Fti → List (List ℕ) → List ℕ → Type 0
DecodesWhereEnough who f session object =
    OfEach session
    (λ ds rs. Suffices who f rs → HasCarrier who rs → IsOnlyAnswer who ds (Object object))

-- every selection that leaves a block short leaves a twin: another object that agrees with all that
-- came
abbrev pub TwinWhereShort : Identity → Fti → List (List ℕ) → List ℕ → Type 0
TwinWhereShort who f session object =
    OfEach session
    (λ ds rs. ¬ Suffices who f rs → (other : List ℕ)
    × AreTwins f (symbols (counted who rs)) object other)

-- what a decoder owes short of the object: a short block where a carrier came, and else that none
-- did
abbrev pub TellsWhatLacks : Identity → Answer → List Reading → Type 0
TellsWhatLacks who Empty rs = ¬ HasCarrier who rs
TellsWhatLacks who (Missing b have need) rs = HasCarrier who rs
TellsWhatLacks who _ rs = ⊥

-- of every selection that isn't enough the decoder says what lacks
abbrev pub TellsElse : Identity → Fti → List (List ℕ) → Type 0
TellsElse who f session =
    OfEach session (λ ds rs. ¬ (Suffices who f rs × HasCarrier who rs)
    → (a : Answer) × IsAnswer who ds a × TellsWhatLacks who a rs)
