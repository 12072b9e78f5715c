-- What is kept of an object, for the symbols that stand at its blocks and ESIs.
use Rattle.std.specs.Prelude.{◌≡◌, ℕ, Bool, List, length, filter, Option, Some}
use Rattle.lists.specs.Below.{below}
use Rattle.partition.specs.Fti.{block_count}
use Rattle.block_code.specs.Codes.{EachBlockHas}
use Rattle.block_code.specs.CodesOf.{IsCodeOf}
use Rattle.block_recovery.specs.Decoded.{AreWithin}
use Rattle.block_recovery.specs.Recoveries.{IsKeptOf}
use Rattle.receiver.specs.Esis.{esis_of}
use Rattle.receiver.specs.Stored.{IsOf, IsStored, is_solved}
use Rattle.receiver.specs.declared.store.Store.{Store}

-- the ESIs that came of a block
abbrev pub kept_of : Store → ℕ → List ℕ
kept_of store b = esis_of store.esis b

-- whether a block has as many symbols as it needs
abbrev pub has_solved : Store → ℕ → Bool
has_solved store b = is_solved store.fti b (kept_of store b)

-- how many blocks are solved
abbrev pub solved_count : Store → ℕ
solved_count store =
    length (filter (has_solved store) (below (block_count store.fti)))

-- the codes are the FTI's, and the ESIs that came of each block are the block's; how many blocks
-- are solved isn't said
pub record HasParts (store : Store) : Type 0 where
  pub codes : EachBlockHas (IsCodeOf store.fti) store.fti store.solver.codes
  pub recovery : IsKeptOf store.solver.codes store.solver.recovery
  pub each : (b : ℕ) → IsOf store.fti b (kept_of store b)

-- and the solved blocks are counted
pub record IsSound (store : Store) : Type 0 where
  pub parts : HasParts store
  pub solved : store.solved ≡ solved_count store

-- with these bytes each block is kept for the symbols that stand at it
pub record Holds (store : Store) (bytes : ℕ → List ℕ) (at : ℕ → ℕ → Option (List ℕ)) : Type 0 where
  pub within : AreWithin store.fti at
  pub blocks : (b : ℕ) → IsStored store.fti b (bytes b) (kept_of store b) (at b)

-- the bytes are told, and with them it is
abbrev pub HoldsIn : Store → Option (ℕ → List ℕ) → (ℕ → ℕ → Option (List ℕ)) → Type 0
HoldsIn store told at = (bytes : ℕ → List ℕ) × (told ≡ Some bytes) × Holds store bytes at
