-- Sending by passes over the blocks: one pass in order Blocks, one for each ESI in order Rounds.
use Rattle.std.specs.Prelude.{◌≡◌, ℕ, ◌+◌, Bool, true, Option, List, length, map, flat_map}
use Rattle.lists.specs.Below.{below}
use Rattle.partition.specs.Fti.{Fti, block_count, encoding_count}
use Rattle.partition.specs.declared.order.Order.{Order}
use Rattle.partition.specs.declared.order.Order.TheVariants.{Blocks, Rounds}
use Rattle.encoder.specs.declared.sending_from.SendFromFault.{SendFromFault}
use Rattle.encoder.specs.declared.sending_from.SendFromFault.TheVariants.{Object, SymbolTooLong}
use Rattle.encoder.specs.declared.sending_from.SendFromFault.TheVariants.{Write, NoMemory}
use Rattle.encoder.specs.ObjectRead.{IsObjectFault}
use Rattle.encoder.specs.Sending.{pairs_of_block, pair_with}

-- so many encoding symbols of a block, from an ESI on
abbrev pub run_of : ℕ → ℕ → ℕ → List (ℕ × ℕ)
run_of b first count = map (λ i. (b, first + i)) (below count)

-- what a pass sends of a block
abbrev pub pairs_in : Order → Fti → ℕ → ℕ → List (ℕ × ℕ)
pairs_in Blocks f pass b = pairs_of_block f b
pairs_in Rounds f pass b = pair_with f pass b

-- what a pass sends
abbrev pub pairs_of_pass : Order → Fti → ℕ → List (ℕ × ℕ)
pairs_of_pass order f pass = flat_map (pairs_in order f pass) (below (block_count f))

-- how many passes there are
abbrev pub passes : Order → Fti → ℕ
passes Blocks f = 1
passes Rounds f = f.max_symbols

-- how many encoding symbols of a block a pass sends at most
abbrev pub at_once : Order → Fti → ℕ
at_once Blocks f = encoding_count f 0
at_once Rounds f = 1

-- as many bytes as the greatest datagram
abbrev pub IsDatagramRoom : Fti → List ℕ → Type 0
IsDatagramRoom f bytes = length bytes ≡ 32 + f.symbol_length

-- why the encoding symbols of the blocks that a reader had weren't all sent
abbrev pub IsBlocksFault : SendFromFault → Fti → Option (List ℕ) → Bool → Bool → Bool → Type 0
IsBlocksFault (Object e) f left sound reader_failed writer_failed =
    IsObjectFault e f left sound reader_failed
IsBlocksFault Write f left sound reader_failed writer_failed = writer_failed ≡ true
IsBlocksFault SymbolTooLong f left sound reader_failed writer_failed = ⊥
IsBlocksFault NoMemory f left sound reader_failed writer_failed = ⊥
