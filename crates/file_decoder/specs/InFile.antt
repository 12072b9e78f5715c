-- Packets of an object where they stand in a session file.
use Rattle.std.specs.Prelude.{◌≡◌, ◌≤◌, ◌+◌, ℕ, Bool, List, [], length, is_some, Option, Some, Ok}
use Rattle.std.specs.Prelude.{Err}
use Rattle.std.specs.Option.{unwrap_or}
use Rattle.std.specs.List.{All}
use Rattle.alc.specs.Packet.{Packet}
use Rattle.alc.specs.Reading.{Reading}
use Rattle.alc.specs.Computed.{read_of}
use Rattle.reception.specs.declared.scope.Scope.{Scope}
use Rattle.reception.specs.Reception.{InRange, look}
use Rattle.block_recovery.specs.Received.{came_at, list_of}
use Rattle.block_recovery.specs.declared.arrivals.Arrival.{Arrival}
use Rattle.session.specs.Extents.{datagram_in}
use Rattle.session.specs.declared.extent.Extent.{Extent}
use Rattle.block_recovery.specs.declared.symbols.Symbols.{Symbols}
use Rattle.file_decoder.specs.declared.rereading.Place.{Place}

-- the bytes of a reading's symbol; what is no packet has none
abbrev pub bytes_in : Reading → List ℕ
bytes_in (Ok p) = p.bytes
bytes_in (Err r) = []

-- those of the symbol that a datagram has
abbrev pub symbol_in : List ℕ → List ℕ
symbol_in datagram = bytes_in (read_of datagram)

abbrev pub extent_of : Place → Extent
extent_of place = record { offset = place.offset; length = place.length }

-- those of the symbol at a place
abbrev pub held_in : List ℕ → Place → List ℕ
held_in x place = symbol_in (datagram_in x (extent_of place))

-- it is a packet in range, of a block and an ESI, and a carrier or none
pub record IsSymbolOf (scope : Scope) (b j : ℕ) (carrier : Bool)
    (datagram : List ℕ) : Type 0 where
  pub packet : Packet
  pub look : look scope (read_of datagram) ≡ Ok (InRange packet)
  pub block : packet.block ≡ b
  pub esi : packet.esi ≡ j
  pub carries : is_some packet.fti ≡ carrier

-- such a one stands at a place
pub record IsSymbolIn (x : List ℕ) (scope : Scope) (b j : ℕ) (place : Place) : Type 0 where
  pub inside : place.offset + place.length ≤ length x
  pub symbol : IsSymbolOf scope b j place.carrier (datagram_in x (extent_of place))

-- one stands at each place of a block
abbrev pub AreOfBlock : List ℕ → Scope → ℕ → List (Arrival Place) → Type 0
AreOfBlock x scope b came = All (λ a. IsSymbolIn x scope b a.esi a.symbol) came

-- at each place of each block
abbrev pub AreSymbolsIn : List ℕ → Scope → Symbols Place → Type 0
AreSymbolsIn x scope s = (b : ℕ) → AreOfBlock x scope b (list_of s b)

-- the same of the file's bytes, which are told
abbrev pub StandsIn : Option (List ℕ) → Scope → ℕ → ℕ → Place → Type 0
StandsIn content scope b j p = (x : List ℕ) × (content ≡ Some x) × IsSymbolIn x scope b j p

abbrev pub BlockStandsIn : Option (List ℕ) → Scope → ℕ → List (Arrival Place) → Type 0
BlockStandsIn content scope b came =
    (x : List ℕ) × (content ≡ Some x) × AreOfBlock x scope b came

abbrev pub AllStandIn : Option (List ℕ) → Scope → Symbols Place → Type 0
AllStandIn content scope s = (x : List ℕ) × (content ≡ Some x) × AreSymbolsIn x scope s

-- the bytes of the symbol at a block's and an ESI's place; where nothing is told of the file they
-- say only which came
abbrev pub file_at : Option (List ℕ) → Symbols Place → ℕ → ℕ → Option (List ℕ)
file_at content s b j = came_at (held_in (unwrap_or content [])) s b j
