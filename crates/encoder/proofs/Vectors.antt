-- Sessions worked by hand, computed from the definitions: two bytes in one block of two source
-- symbols and a third one.
use Rattle.std.specs.Prelude.{◌≡◌, ℕ, [], ◌∷◌, map, refl, true, false}
use Rattle.lists.specs.Below.{below}
use Rattle.partition.specs.Fti.{Fti, fti_from, ceiling, symbol_count, block_count, large_blocks, source_count, encoding_count}
use Rattle.partition.specs.declared.order.Order.TheVariants.{Blocks, Rounds}
use Rattle.alc.specs.Packet.{written}
use Rattle.alc.specs.Written.{packet_from}
use Rattle.session.specs.Frames.{frame}
use Rattle.encoder.specs.Sending.{Item, fti_at, is_carrier_at, items, session_bytes}

abbrev fti : Fti
fti = fti_from 2 1 2 3

abbrev item : ℕ → ℕ → ℕ → Item
item place block esi = record { place = place; block = block; esi = esi }

items_are : items Blocks fti ≡ item 0 0 0 ∷ item 1 0 1 ∷ item 2 0 2 ∷ []
unfolding below ceiling symbol_count block_count large_blocks source_count encoding_count
items_are = refl

all_carriers : session_bytes fti 1 (items Blocks fti) ≡ 105
unfolding below ceiling symbol_count block_count large_blocks source_count encoding_count
all_carriers = refl

every_second : session_bytes fti 2 (items Blocks fti) ≡ 93
unfolding below ceiling symbol_count block_count large_blocks source_count encoding_count
every_second = refl

every_third : session_bytes fti 3 (items Blocks fti) ≡ 81
unfolding below ceiling symbol_count block_count large_blocks source_count encoding_count
every_third = refl

-- the datagram at place 1 of the session in which each second one carries the FTI
without_fti : frame (written (packet_from 1 1 (fti_at fti 2 1) 0 1 (2 ∷ [])))
    ≡ 0 ∷ 0x15 ∷ 0x10 ∷ 0xA0 ∷ 4 ∷ 5 ∷ 0 ∷ 0 ∷ 0 ∷ 0 ∷ 0 ∷ 0 ∷ 0 ∷ 1 ∷ 0 ∷ 0 ∷ 0 ∷ 1 ∷ 0 ∷ 0 ∷ 0 ∷ 1 ∷ 2 ∷ []
without_fti = refl

-- two blocks of three encoding symbols: places go on from block to block, and from round to round
abbrev two_blocks : Fti
two_blocks = fti_from 4 1 2 3

places_in_blocks : items Blocks two_blocks ≡ item 0 0 0 ∷ item 1 0 1 ∷ item 2 0 2 ∷ item 3 1 0 ∷ item 4 1 1 ∷ item 5 1 2 ∷ []
unfolding below ceiling symbol_count block_count large_blocks source_count encoding_count
places_in_blocks = refl

places_in_rounds : items Rounds two_blocks ≡ item 0 0 0 ∷ item 1 1 0 ∷ item 2 0 1 ∷ item 3 1 1 ∷ item 4 0 2 ∷ item 5 1 2 ∷ []
unfolding below ceiling symbol_count block_count large_blocks source_count encoding_count
places_in_rounds = refl

-- so the second block doesn't begin with a carrier
carriers : map (λ x. is_carrier_at 2 x.place) (items Blocks two_blocks) ≡ true ∷ false ∷ true ∷ false ∷ true ∷ false ∷ []
unfolding below ceiling symbol_count block_count large_blocks source_count encoding_count
carriers = refl
