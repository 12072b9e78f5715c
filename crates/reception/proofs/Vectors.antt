-- Lists of readings worked by hand: packets of one object of two source symbols and one repair
-- symbol, of a byte each.
use Rattle.std.specs.Prelude.{◌≡◌, ℕ, List, [], ◌∷◌, map, Option, Some, None, Ok, Err, refl}
use Rattle.partition.specs.Fti.{Fti, fti_from, ceiling, symbol_count, block_count, encoding_count, source_count, large_blocks}
use Rattle.alc.specs.Reading.{Reading}
use Rattle.alc.specs.declared.fault.PacketFault.TheVariants.{TooShort}
use Rattle.reception.specs.declared.scope.Identity.{Identity}
use Rattle.reception.specs.Reception.{NoPacket, OtherFti, SymbolLength, Range}
use Rattle.reception.specs.Reception.{Faulty, Judged}
use Rattle.reception.specs.Answer.{Clash, Clashes, reception_of}
use Rattle.reception.specs.Walks.{Found}

abbrev who : Identity
who = record { tsi = 1; toi = 1 }

abbrev fti : Fti
fti = fti_from 2 1 2 3

abbrev packet : Option Fti → ℕ → List ℕ → Reading
packet f j y = Ok (record { tsi = 1; toi = 1; fti = f; block = 0; esi = j; bytes = y })

abbrev carrier : ℕ → List ℕ → Reading
carrier j y = packet (Some fti) j y

abbrev plain : ℕ → List ℕ → Reading
plain j y = packet None j y

abbrev other : Reading
other = packet (Some (fti_from 3 1 2 3)) 0 (1 ∷ [])

abbrev found : List Reading → Found Clash
found rs = (reception_of who rs).wrong

-- nothing wrong, wherever the carrier stands, and without one whatever the symbols are
pub clean : map found (
    (carrier 0 (1 ∷ []) ∷ plain 1 (2 ∷ []) ∷ plain 2 (4 ∷ []) ∷ [])
    ∷ (plain 1 (2 ∷ []) ∷ carrier 0 (1 ∷ []) ∷ [])
    ∷ (plain 1 (2 ∷ 0 ∷ []) ∷ plain 7 (4 ∷ []) ∷ [])
    ∷ [])
    ≡ None ∷ None ∷ None ∷ []
unfolding ceiling symbol_count block_count encoding_count source_count large_blocks
clean = refl

pub ftis : map (λ rs. (reception_of who rs).scope.fti) (
    (plain 1 (2 ∷ []) ∷ carrier 0 (1 ∷ []) ∷ other ∷ []) ∷ (plain 1 (2 ∷ []) ∷ plain 2 (4 ∷ []) ∷ []) ∷ [])
    ≡ Some fti ∷ None ∷ []
ftis = refl

pub faults : map found (
    (carrier 0 (1 ∷ []) ∷ plain 1 (2 ∷ 0 ∷ []) ∷ plain 2 (4 ∷ []) ∷ [])
    ∷ (plain 7 (2 ∷ 0 ∷ []) ∷ carrier 0 (1 ∷ []) ∷ [])
    ∷ (plain 7 (2 ∷ []) ∷ carrier 0 (1 ∷ []) ∷ [])
    ∷ (carrier 0 (1 ∷ []) ∷ plain 1 (2 ∷ []) ∷ other ∷ [])
    ∷ (carrier 0 (1 ∷ []) ∷ plain 0 (2 ∷ []) ∷ [])
    ∷ (plain 1 (2 ∷ 0 ∷ []) ∷ Err TooShort ∷ [])
    ∷ [])
    ≡ Some (1, Faulty SymbolLength) ∷ Some (0, Faulty SymbolLength) ∷ Some (0, Faulty Range) ∷ Some (2, Faulty OtherFti) ∷ Some (1, Judged Clashes) ∷ Some (1, Faulty (NoPacket TooShort)) ∷ []
unfolding ceiling symbol_count block_count encoding_count source_count large_blocks
faults = refl
