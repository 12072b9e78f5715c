-- What a receiver stands for: the list of the datagrams that it accepted.
use Rattle.std.specs.Prelude.{◌≡◌, ℕ, List, [], length, Option, Some, None, ⊤}
use Rattle.partition.specs.Fti.{Fti}
use Rattle.reception.specs.Symbols.{Symbol}
use Rattle.reception.specs.Reception.{ReadAll}
use Rattle.reception.specs.Readings.{readings_of}
use Rattle.reception.specs.Answer.{reception_of}
use Rattle.block_recovery.specs.Received.{IsIndex}
use Rattle.block_bytes.specs.Bytes.{AreTold}
use Rattle.receiver.specs.Holds.{HoldsIn, IsSound}
use Rattle.block_bytes.specs.Held.{held_in}
use Rattle.receiver.specs.declared.store.Store.{Store}
use Rattle.receiver.specs.declared.receiver.Receiver.{Receiver}
use Rattle.receiver.specs.declared.receiving.Receiving.{Receiving}

-- the store holds these symbols
pub record HoldsSymbols (store : Store) (told : Option (ℕ → List ℕ))
    (arrivals : List Symbol) : Type 0 where
  pub at : ℕ → ℕ → Option (List ℕ)
  pub index : IsIndex arrivals at
  pub holds : HoldsIn store told at

-- there is a store with the FTI where one is known, and it holds these symbols; where none is known
-- there are none, and the bytes are told
abbrev pub Keeps : Option Store → (Fti → Option (ℕ → List ℕ)) → Option Fti → List Symbol → Type 0
Keeps None told None arrivals = (arrivals ≡ []) × AreTold told
Keeps (Some store) told (Some f) arrivals =
    (store.fti ≡ f) × HoldsSymbols store (told f) arrivals
Keeps None told (Some f) arrivals = ⊥
Keeps (Some store) told None arrivals = ⊥

-- what is kept is sound, whatever the bytes of its symbols are
abbrev pub IsSoundIn : Option Store → Type 0
IsSoundIn None = ⊤
IsSoundIn (Some store) = IsSound store

-- the datagrams are read and have no fault at any place, and there is their count, and of the
-- identity's packets the FTI and the symbols, by the bytes of blocks that are told
pub record StandsWith (r : Receiving) (told : Fti → Option (ℕ → List ℕ))
    (datagrams : List (List ℕ)) : Type 0 where
  pub sound : IsSoundIn r.store
  pub read : ReadAll datagrams (readings_of datagrams)
  pub clean : (reception_of r.identity (readings_of datagrams)).wrong ≡ None
  pub count : r.accepted ≡ length datagrams
  pub symbols : Keeps r.store told (reception_of r.identity (readings_of datagrams)).scope.fti
      (reception_of r.identity (readings_of datagrams)).symbols

-- a receiver stands for the datagrams by the bytes that it holds
abbrev pub Stands : Receiver → List (List ℕ) → Type 0
Stands r datagrams = StandsWith r.receiving (held_in r.blocks) datagrams

-- it stands for some list: it is new, or was fed
abbrev pub IsFed : Receiver → Type 0
IsFed r = (datagrams : List (List ℕ)) × Stands r datagrams
