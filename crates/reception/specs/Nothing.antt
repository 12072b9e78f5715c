-- Where a decoder can say nothing of an object.
use Rattle.std.specs.Prelude.{◌≡◌, ◌↔◌, ℕ, false, List, IsOk}
use Rattle.std.specs.List.{AllByRecursion, list_any}
use Rattle.alc.specs.Reading.{Reading}
use Rattle.reception.specs.declared.scope.Identity.{Identity}
use Rattle.reception.specs.Reception.{ReadAll, is_carrier}
use Rattle.reception.specs.Answer.{Empty, IsAnswer}

-- each datagram is a packet, and none a carrier of the identity
pub record HasNoCarrier (who : Identity) (datagrams : List (List ℕ)) : Type 0 where
  pub readings : List Reading
  pub read : ReadAll datagrams readings
  pub packets : AllByRecursion (λ r. IsOk r) readings
  pub none : list_any (is_carrier who) readings ≡ false

-- just then the answer is empty, whatever symbols came
abbrev pub TellsEmpty : Identity → List (List ℕ) → Type 0
TellsEmpty who datagrams = IsAnswer who datagrams Empty ↔ HasNoCarrier who datagrams
