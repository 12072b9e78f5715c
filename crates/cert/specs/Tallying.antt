-- What is known of datagrams that were looked at one by one, whatever is asked of their symbols.
use Rattle.std.specs.Prelude.{◌≡◌, ◌≢◌, ◌<◌, ℕ, ◌+◌, List, [], length, Option, None, Some, Result}
use Rattle.std.specs.Prelude.{Ok, Err, IfSome, option_map, slice_index_or}
use Rattle.losses.specs.Groups.{Group, groups_of}
use Rattle.losses.specs.Losses.{places_from}
use Rattle.alc.specs.Packet.{Packet}
use Rattle.alc.specs.Reading.{Reading}
use Rattle.alc.specs.Computed.{read_of}
use Rattle.alc.specs.declared.fault.PacketFault.{PacketFault}
use Rattle.alc.specs.declared.reading.Packet.{Packet as Received}
use Rattle.partition.specs.Fti.{Fti, IsValidFti}
use Rattle.reception.specs.Symbols.{Symbol}
use Rattle.reception.specs.Reception.{Faulty, PlaceFault, Judge, InRange, counted, is_carrier, look}
use Rattle.reception.specs.Reception.{reception_with, symbol_of, symbols, with_fti}
use Rattle.reception.specs.Step.{IsLook, looked}
use Rattle.reception.specs.declared.scope.Identity.{Identity}
use Rattle.reception.specs.declared.scope.Scope.{Scope}
use Rattle.reception.specs.declared.scope.Look.{Look}
use Rattle.reception.specs.declared.scope.Look.TheVariants as look_at
use Rattle.reception.specs.Walks.{readings_of}
use Rattle.cert.specs.declared.tally.Tally.{Tally}
use Rattle.cert.specs.declared.verdict.Reason.{Reason}
use Rattle.cert.specs.declared.verdict.Reason.TheVariants.{Packet as NoPacket, OtherFti}
use Rattle.cert.specs.declared.verdict.Reason.TheVariants.{SymbolLength, Range, Symbol as NoSymbol}
use Rattle.certificate.specs.Certificate.{Certificate}
use Rattle.cert.specs.Scan.{AreEnough, AreGroupsOf}
use Rattle.cert.specs.Verdict.{reason_at, uncertified}

-- what is said of a symbol in range: the column in which it is wrong, if it is
abbrev pub Says : Type 0
Says = Symbol → Option ℕ

-- nothing is asked of symbols
abbrev pub nothing : Says
nothing symbol = None

-- they are compared with those that the certificate gives
abbrev pub by_certificate : Certificate → Says
by_certificate z symbol = uncertified z [] symbol

abbrev pub judge_by : Says → Judge ℕ
judge_by says earlier symbol = says symbol

-- the values of a tally
pub record Tallied : Type 0 where
  pub scope : Scope
  pub count : ℕ
  pub taken : ℕ
  pub groups : List Group
  pub carriers : List ℕ

abbrev pub tallied_of : Tally → Tallied
tallied_of tally = record {
  scope = tally.scope;
  count = tally.count;
  taken = tally.taken;
  groups = groups_of tally.groups;
  carriers = tally.carriers.items;
}

-- these datagrams came, of which none has a reason against it where this FTI holds and this is said
-- of symbols: how many they are, and how many packets of the identity; the places and ESIs of these
-- by block; and the places of the carriers
pub record AreTallied (says : Says) (f : Fti) (t : Tallied)
    (datagrams : List (List ℕ)) : Type 0 where
  pub clean : (reception_with (judge_by says) (with_fti t.scope.identity f)
      (readings_of datagrams)).wrong ≡ None
  pub holds : (reception_with (judge_by says) (with_fti t.scope.identity f)
      (readings_of datagrams)).scope ≡ t.scope
  pub many : length datagrams ≡ t.count
  pub counts : length (symbols (counted t.scope.identity (readings_of datagrams))) ≡ t.taken
  pub grouped : AreGroupsOf f (counted t.scope.identity (readings_of datagrams)) t.groups
  pub placed : t.carriers ≡ places_from (is_carrier t.scope.identity) 0 (readings_of datagrams)

-- it is the tally of these datagrams
pub record IsTally (says : Says) (f : Fti) (tally : Tally)
    (datagrams : List (List ℕ)) : Type 0 where
  pub valid : IsValidFti f
  pub tallied : AreTallied says f (tallied_of tally) datagrams

-- the reason at the least place that has one, and there the first
abbrev pub first_reason_by : Says → Fti → Identity → List Reading → Option Reason
first_reason_by says f who rs =
    option_map (λ x. reason_at x.0 x.1) (reception_with (judge_by says) (with_fti who f) rs).wrong

-- the place that a reason tells
abbrev pub place_of : Reason → Option ℕ
place_of (NoPacket i fault) = Some i
place_of (OtherFti i) = Some i
place_of (SymbolLength i) = Some i
place_of (Range i) = Some i
place_of (NoSymbol i c) = Some i
place_of _ = None

-- a reason at the place of the last of these datagrams
abbrev pub IsAtLast : List (List ℕ) → Reason → Type 0
IsAtLast datagrams reason = IfSome (place_of reason) (λ i. length datagrams ≡ i + 1)

-- the reason against the last of these datagrams: it has the first at a place
abbrev pub IsUnpassed : Says → Fti → Identity → List (List ℕ) → Reason → Type 0
IsUnpassed says f who datagrams r =
    (first_reason_by says f who (readings_of datagrams) ≡ Some r) × IsAtLast datagrams r

-- a fault of the datagram at a place is the reason
pub record IsRefusedAt (datagram : List ℕ) (scope : Scope) (place : ℕ)
    (reason : Reason) : Type 0 where
  pub answer : Result Look PacketFault
  pub is : IsLook datagram scope scope answer
  pub fault : PlaceFault
  pub told : looked answer ≡ Err fault
  pub reason_is : reason ≡ reason_at place (Faulty fault)

-- what is told of the datagram at a place: its packet in range, or that it is of another identity,
-- or the reason against it
abbrev pub IsLookAt : List ℕ → Scope → ℕ → Result (Option Received) Reason → Type 0
IsLookAt datagram scope place (Ok (Some packet)) =
    IsLook datagram scope scope (Ok (look_at.InRange packet))
IsLookAt datagram scope place (Ok None) = IsLook datagram scope scope (Ok look_at.Other)
IsLookAt datagram scope place (Err reason) = IsRefusedAt datagram scope place reason

-- nothing lacks: there are packets, enough different symbols of each block, and a carrier
pub record LacksNothing (tally : Tally) : Type 0 where
  pub some : tally.taken ≢ 0
  pub enough : AreEnough (groups_of tally.groups)
  pub carrier : 0 < length tally.carriers.items

-- what the datagram at a place reads as
abbrev pub reading_at : List (List ℕ) → ℕ → Reading
reading_at datagrams i = read_of (slice_index_or datagrams i [])

-- nothing is said against the symbol of a reading, if it has one in range
abbrev pub SaysNothing : Says → Scope → Reading → Type 0
SaysNothing says scope r = (p : Packet) → look scope r ≡ Ok (InRange p) → says (symbol_of p) ≡ None

-- a packet in range of this block and this ESI
pub record IsPacketOf (scope : Scope) (b j : ℕ) (r : Reading) : Type 0 where
  pub packet : Packet
  pub look : look scope r ≡ Ok (InRange packet)
  pub block : packet.block ≡ b
  pub esi : packet.esi ≡ j
