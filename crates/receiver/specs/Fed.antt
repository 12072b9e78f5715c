-- What is kept of an object with this FTI, and what comes of a symbol for it.
use Rattle.std.specs.Prelude.{◌≡◌, ℕ, true, List, Option, Some, None, is_some, Result, ⊤}
use Rattle.partition.specs.Fti.{Fti}
use Rattle.alc.specs.declared.reading.Packet.{Packet}
use Rattle.block_recovery.specs.Arrivals.{with_symbol}
use Rattle.receiver.specs.Holds.{HoldsIn}
use Rattle.receiver.specs.Putting.{MayStand, IsPutFault, Outcome, BytesNow}
use Rattle.receiver.specs.declared.store.Store.{Store}
use Rattle.receiver.specs.declared.receiver.FeedFault.{FeedFault}

-- no store holds nothing where the bytes are told, and a store with this FTI what it holds
abbrev pub HoldsFor : Fti → (Fti → Option (ℕ → List ℕ)) → Option Store
    → (ℕ → ℕ → Option (List ℕ)) → Type 0
HoldsFor f told None at = ((b j : ℕ) → at b j ≡ None) × (is_some (told f) ≡ true)
HoldsFor f told (Some store) at = (store.fti ≡ f) × HoldsIn store (told f) at

-- what comes of the symbol of the packet at a place for the store, if there is one
abbrev pub FedOutcome : Fti → ℕ → Packet → (ℕ → ℕ → Option (List ℕ)) → BytesNow
    → Result ⊤ FeedFault → Option Store → Type 0
FedOutcome f place p at bytes result new = Outcome bytes.failed result
    (MayStand (at p.sbn) p.esi p.symbol.now
    × HoldsFor f bytes.told new (with_symbol at p.sbn p.esi p.symbol.now))
    (λ fault. IsPutFault f place p (at p.sbn) fault × HoldsFor f bytes.told new at)
