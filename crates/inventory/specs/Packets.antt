-- The packets of each identity (TSI and TOI) among a session's readings, and what is no packet.
use Rattle.std.specs.Prelude.{ℕ, ◌+◌, Bool, ◌&&◌, ◌==◌, if◌then◌else◌, List, [], ◌∷◌, ◌++◌, map}
use Rattle.std.specs.Prelude.{flat_map, Ok, Err}
use Rattle.std.specs.Option.{option_to_list}
use Rattle.partition.specs.Fti.{Fti}
use Rattle.alc.specs.Packet.{Packet}
use Rattle.alc.specs.Reading.{Reading}
use Rattle.alc.specs.declared.fault.PacketFault.{PacketFault}
use Rattle.reception.specs.declared.scope.Identity.{Identity}
use Rattle.reception.specs.Reception.{is_of_identity}

-- a packet with its place in the session, where the reading is a packet of this identity
abbrev pub packet_at : Identity → ℕ → Reading → List (ℕ × Packet)
packet_at who place (Ok p) = if is_of_identity who p then (place, p) ∷ [] else []
packet_at who place (Err fault) = []

abbrev pub packets_from : Identity → ℕ → List Reading → List (ℕ × Packet)
packets_from who place [] = []
packets_from who place (r ∷ rs) = packet_at who place r ++ packets_from who (place + 1) rs

-- the identity's packets, each with its place in the session
abbrev pub packets_of : Identity → List Reading → List (ℕ × Packet)
packets_of who rs = packets_from who 0 rs

abbrev pub places : List (ℕ × Packet) → List ℕ
places xs = map (λ x. x.0) xs

-- the FTIs that carriers have, in their order
abbrev pub carried : List (ℕ × Packet) → List Fti
carried xs = flat_map (λ x. option_to_list x.1.fti) xs

-- source block number and encoding symbol ID of each
abbrev pub symbol_ids : List (ℕ × Packet) → List (ℕ × ℕ)
symbol_ids xs = map (λ x. (x.1.block, x.1.esi)) xs

abbrev pub same_ids : ℕ × ℕ → ℕ × ℕ → Bool
same_ids x y = x.0 == y.0 && x.1 == y.1

-- ---- what is no packet

abbrev pub fault_in : Reading → List PacketFault
fault_in (Ok p) = []
fault_in (Err fault) = fault ∷ []

-- the faults of the datagrams that are no packets, in their order
abbrev pub faults_in : List Reading → List PacketFault
faults_in rs = flat_map fault_in rs
