-- Lists of readings worked by hand: what a check says of them. The object is 01 02, of two source
-- symbols and one repair symbol, of a byte each; the certificate's polynomial is z.
use Rattle.std.specs.Prelude.{◌≡◌, ℕ, List, [], ◌∷◌, map, count_by, Option, Some, None, Ok, Err, refl}
use Rattle.lists.specs.Below.{below}
use Rattle.gf256.specs.Arithmetic.{product, product_over, doubled, alpha_to}
use Rattle.poly.specs.Polynomial.{value_over}
use Rattle.partition.specs.Fti.{Fti, fti_from, ceiling, symbol_count, block_count, encoding_count, source_count, large_blocks, start_of}
use Rattle.alc.specs.Reading.{Reading}
use Rattle.alc.specs.declared.fault.PacketFault.TheVariants.{TooShort}
use Rattle.losses.specs.Losses.{carrier_places}
use Rattle.reception.specs.declared.scope.Identity.{Identity}
use Rattle.reception.specs.Reception.{is_carrier}
use Rattle.cert.specs.declared.verdict.Reason.{Reason}
use Rattle.cert.specs.declared.verdict.Reason.TheVariants.{Packet as NoPacket, OtherFti, SymbolLength, Range, Symbol}
use Rattle.certificate.specs.Certificate.{Certificate, unnamed, polynomial}
use Rattle.cert.specs.Verdict.{first_reason}
use Rattle.cert.specs.Report.{blocks_of}

abbrev who : Identity
who = record { tsi = 1; toi = 1 }

abbrev fti : Fti
fti = fti_from 2 1 2 3

abbrev certificate : Certificate
certificate = unnamed fti (0 ∷ 1 ∷ [])

abbrev packet : Option Fti → ℕ → List ℕ → Reading
packet f j y = Ok (record { tsi = 1; toi = 1; fti = f; block = 0; esi = j; bytes = y })

abbrev carrier : ℕ → List ℕ → Reading
carrier j y = packet (Some fti) j y

abbrev plain : ℕ → List ℕ → Reading
plain j y = packet None j y

-- another identity's carrier
abbrev foreign : Reading
foreign = Ok (record { tsi = 2; toi = 1; fti = Some fti; block = 0; esi = 9; bytes = [] })

abbrev reason : List Reading → Option Reason
reason rs = first_reason who certificate rs

-- nothing against the datagrams, wherever a carrier stands, and where there is none
pub none : map reason (
    (carrier 0 (1 ∷ []) ∷ plain 1 (2 ∷ []) ∷ plain 2 (4 ∷ []) ∷ [])
    ∷ (plain 2 (4 ∷ []) ∷ foreign ∷ carrier 1 (2 ∷ []) ∷ [])
    ∷ (plain 0 (1 ∷ []) ∷ plain 1 (2 ∷ []) ∷ [])
    ∷ [])
    ≡ None ∷ None ∷ None ∷ []
unfolding product product_over doubled alpha_to value_over ceiling symbol_count block_count encoding_count source_count large_blocks start_of polynomial below
none = refl

-- the first at the least place; with no carrier too
pub told : map reason (
    (plain 0 (1 ∷ []) ∷ Err TooShort ∷ plain 7 (2 ∷ []) ∷ [])
    ∷ (packet (Some (fti_from 3 1 2 3)) 7 (2 ∷ 0 ∷ []) ∷ [])
    ∷ (carrier 0 (1 ∷ []) ∷ plain 7 (2 ∷ 0 ∷ []) ∷ [])
    ∷ (carrier 0 (1 ∷ []) ∷ plain 1 [] ∷ [])
    ∷ (carrier 0 (1 ∷ []) ∷ plain 3 (9 ∷ []) ∷ [])
    ∷ (foreign ∷ plain 2 (5 ∷ []) ∷ [])
    ∷ [])
    ≡ Some (NoPacket 1 TooShort) ∷ Some (OtherFti 0) ∷ Some (SymbolLength 1) ∷ Some (SymbolLength 1) ∷ Some (Range 1) ∷ Some (Symbol 1 0) ∷ []
unfolding product product_over doubled alpha_to value_over ceiling symbol_count block_count encoding_count source_count large_blocks start_of polynomial below
told = refl

abbrev session : List Reading
session = carrier 0 (1 ∷ []) ∷ foreign ∷ plain 1 (2 ∷ []) ∷ carrier 0 (1 ∷ []) ∷ plain 2 (4 ∷ []) ∷ []

-- a carrier that comes again counts again, another identity's doesn't
pub carriers : count_by (is_carrier who) session ≡ 2
carriers = refl

pub places : carrier_places (blocks_of who fti) session ≡ 0 ∷ 3 ∷ []
places = refl
