-- What a receiver tells of the datagrams that it accepted and one more.
use Rattle.std.specs.Prelude.{◌≡◌, ℕ, min, true, List, [], ◌∷◌, ◌++◌, Some, None}
use Rattle.std.specs.Prelude.{Ok}
use Rattle.std.specs.Option.{option_map_or}
use Rattle.partition.specs.Fti.{Fti, source_count}
use Rattle.alc.specs.Packet.{Packet}
use Rattle.alc.specs.Reading.{Reading, Reads}
use Rattle.reception.specs.declared.scope.Identity.{Identity}
use Rattle.reception.specs.Symbols.{arrived_count}
use Rattle.reception.specs.Reception.{Reception, PlaceFault, Faulty, is_of_identity, ReadAll}
use Rattle.reception.specs.Reception.{Suffices}
use Rattle.reception.specs.Nothing.{HasNoCarrier}
use Rattle.reception.specs.Answer.{Clash, IsAnswer, reception_of}
use Rattle.reception.specs.Answer as value
use Rattle.block_recovery.specs.Faults.{fault_value}
use Rattle.block_recovery.specs.declared.fault.DecodeFault.{DecodeFault}
use Rattle.receiver.specs.declared.receiver.Progress.{Progress}
use Rattle.receiver.specs.declared.receiver.Progress.TheVariants.{More, Complete}
use Rattle.receiver.specs.declared.receiver.FeedFault.{FeedFault}
use Rattle.receiver.specs.declared.receiver.FeedFault.TheVariants.{Fault}

-- one datagram more
abbrev pub with_datagram : List (List ℕ) → List ℕ → List (List ℕ)
with_datagram datagrams d = datagrams ++ d ∷ []

-- a carrier came, and the datagrams leave no block short
pub record LeaveNoneShort (who : Identity) (datagrams : List (List ℕ)) : Type 0 where
  pub readings : List Reading
  pub read : ReadAll datagrams readings
  pub fti : Fti
  pub known : (reception_of who readings).scope.fti ≡ Some fti
  pub full : Suffices who fti readings

-- what is told of the datagrams
abbrev pub Tells : Progress → Identity → List (List ℕ) → Type 0
Tells Complete who datagrams = LeaveNoneShort who datagrams
Tells More who datagrams = ¬ LeaveNoneShort who datagrams

-- a fault is the decoder's answer to the datagrams
abbrev pub IsFaultOf : Identity → List (List ℕ) → FeedFault → Type 0
IsFaultOf who datagrams (Fault e) = IsAnswer who datagrams (fault_value e)
IsFaultOf who datagrams _ = Unit {0}

-- the answer to the datagrams is no fault
abbrev pub HasNoFault : Identity → List (List ℕ) → Type 0
HasNoFault who datagrams = (e : DecodeFault) → ¬ IsAnswer who datagrams (fault_value e)

-- the answer to the datagrams is no fault of one whose symbol isn't looked at
abbrev pub HasNoFaultBefore : Identity → List (List ℕ) → Type 0
HasNoFaultBefore who datagrams =
    (i : ℕ) (e : PlaceFault) → ¬ IsAnswer who datagrams (value.Fault i (Faulty e))

-- a datagram that is a packet of the identity and carries no FTI, behind datagrams of which none is
-- a carrier
pub record ComesEarly (who : Identity) (datagrams : List (List ℕ))
    (datagram : List ℕ) : Type 0 where
  pub packet : Packet
  pub reads : Reads datagram (Ok packet)
  pub mine : is_of_identity who packet ≡ true
  pub bare : packet.fti ≡ None
  pub first : HasNoCarrier who datagrams

-- how many symbols of a block are kept: as many as came of different ESIs, and no more than the
-- block has source symbols
abbrev pub stored_count : Reception Clash → ℕ → ℕ
stored_count reception block =
    option_map_or
    (λ f. min (source_count f block)
    (arrived_count reception.symbols block)) reception.scope.fti 0
