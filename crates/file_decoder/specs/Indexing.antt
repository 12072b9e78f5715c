-- What a pass over a session file's frames tells.
use Rattle.std.specs.Prelude.{◌≡◌, ℕ, List, Option, Some, None, Result, Ok, Err, ⊤, IfSome, IsNone}
use Rattle.std.specs.Prelude.{IsOk}
use Rattle.session.specs.Extents.{AreFrames}
use Rattle.partition.specs.Fti.{Fti}
use Rattle.reception.specs.declared.scope.Identity.{Identity}
use Rattle.reception.specs.declared.scope.Look.{Look}
use Rattle.alc.specs.declared.fault.PacketFault.{PacketFault}
use Rattle.reception.specs.declared.scope.Scope.{Scope}
use Rattle.reception.specs.Reception.{Faulty, PlaceFault, asked, with_fti}
use Rattle.reception.specs.Step.{IsLook, looked}
use Rattle.reception.specs.Walks.{scope_in}
use Rattle.reception.specs.Answer as value
use Rattle.block_recovery.specs.Faults.{fault_value}
use Rattle.block_recovery.specs.declared.fault.DecodeFault.{DecodeFault}
use Rattle.block_recovery.specs.Received.{IsNothing}
use Rattle.block_recovery.specs.Refusals.{IsRefusal}

-- what a look at a datagram says, where no FTI is known: the FTI that comes to be known, and the
-- fault
pub record IsAlone (who : Identity) (place : ℕ) (datagram : List ℕ) (fti : Option Fti)
    (fault : Option DecodeFault) : Type 0 where
  pub scope : Scope
  pub answer : Result Look PacketFault
  pub look : IsLook datagram (asked who) scope answer
  pub known : fti ≡ scope.fti
  pub clean : IsNone fault → IsOk (looked answer)
  pub wrong : IfSome fault (λ e. (f : PlaceFault) × (looked answer ≡ Err f)
      × (fault_value e ≡ value.Fault place (Faulty f)))

-- what a search for the first carrier finds in these datagrams: its FTI; none, and nothing wrong;
-- or none, and the first fault
abbrev pub IsCarriedIn : Identity → List (List ℕ) → Result (Option Fti) DecodeFault → Type 0
IsCarriedIn who datagrams (Ok (Some f)) = scope_in who datagrams ≡ with_fti who f
IsCarriedIn who datagrams (Ok None) = IsNothing who datagrams
IsCarriedIn who datagrams (Err fault) = IsRefusal who datagrams fault

-- where it finds none, all of the file is frames
abbrev pub IsWholeBut : Option (List ℕ) → Result (Option Fti) DecodeFault → Type 0
IsWholeBut content (Ok (Some f)) = ⊤
IsWholeBut content (Ok None) = AreFrames content
IsWholeBut content (Err fault) = AreFrames content
