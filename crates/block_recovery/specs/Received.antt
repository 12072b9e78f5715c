-- The encoding symbols that came, found by block and ESI.
use Rattle.std.specs.Prelude.{◌≡◌, ℕ, true, false, List, [], Option, Some, None}
use Rattle.std.specs.Borrow.{Bor}
use Rattle.std.specs.BTreeMap.{get}
use Rattle.std.specs.List.{AllByRecursion}
use Rattle.std.specs.Ordering.{nat_cmp}
use Rattle.shared_lists.specs.SharedLists.{list_at, share_of, index_of}
use Rattle.partition.specs.Fti.{Fti}
use Rattle.reception.specs.declared.scope.Identity.{Identity}
use Rattle.reception.specs.Symbols.{Symbol, is_of, has_arrived}
use Rattle.reception.specs.Reception.{counted, symbols, IsClean}
use Rattle.reception.specs.Walks.{readings_of}
use Rattle.reception.specs.Answer.{Empty, AnswerTo, reception_of}
use Rattle.block_recovery.specs.Arrivals.{arrived_at}
use Rattle.block_recovery.specs.declared.arrivals.Arrival.{Arrival}
use Rattle.block_recovery.specs.declared.shared_arrivals.SharedArrivals.{SharedArrivals}
use Rattle.block_recovery.specs.declared.symbols.Symbols.{Symbols}

-- the symbols of a block, in the order in which they came, among those of the blocks that share an
-- allocation with it
abbrev pub listed : {S : Type 0} → Option (SharedArrivals S) → ℕ → List (Arrival S)
listed None index = []
listed (Some v) index = list_at v.lists index

abbrev pub list_of : {S : Type 0} → Symbols S → ℕ → List (Arrival S)
list_of s b = listed (get nat_cmp s.shares (share_of s.sharing b)) (index_of s.sharing b)

-- the bytes that stand at a block and an ESI, by what each symbol holds
abbrev pub came_at : {S : Type 0} → (S → List ℕ) → Symbols S → ℕ → ℕ → Option (List ℕ)
came_at held s b j = arrived_at held (list_of s b) j

-- the bytes of slices
abbrev pub bytes_at : Symbols (Bor (List ℕ)) → ℕ → ℕ → Option (List ℕ)
bytes_at s b j = came_at (λ slice. slice.now) s b j

-- the symbol came, and wherever it did with these bytes
pub record HasBytes (arrivals : List Symbol) (b j : ℕ) (bytes : List ℕ) : Type 0 where
  pub is_there : has_arrived arrivals b j ≡ true
  pub same : AllByRecursion (λ s. is_of b j s ≡ true → s.bytes ≡ bytes) arrivals

-- at each block and ESI stand the bytes of the symbol that came, if it did
pub record IsIndex (arrivals : List Symbol) (at : ℕ → ℕ → Option (List ℕ)) : Type 0 where
  pub none : (b j : ℕ) → at b j ≡ None → has_arrived arrivals b j ≡ false
  pub some : (b j : ℕ) (bytes : List ℕ) → at b j ≡ Some bytes → HasBytes arrivals b j bytes

-- the datagrams have no fault at any place, their first carrier has this FTI, and their symbols
-- stand at their blocks and ESIs
pub record AreReceived (who : Identity) (datagrams : List (List ℕ)) (f : Fti)
    (at : ℕ → ℕ → Option (List ℕ)) : Type 0 where
  pub clean : IsClean (reception_of who (readings_of datagrams)) f
  pub index : IsIndex (symbols (counted who (readings_of datagrams))) at

-- no carrier came, and each datagram is a packet
abbrev pub IsNothing : Identity → List (List ℕ) → Type 0
IsNothing who datagrams = AnswerTo (reception_of who (readings_of datagrams)) Empty
