-- The order of what is wrong at one place, apart from how it is looked for.
use Rattle.std.specs.Prelude.{◌≡◌, ◌≢◌, ◌↔◌, ℕ, ◌<◌, true, List, length, Some, Ok, Err}
use Rattle.partition.specs.Fti.{Fti, block_count, encoding_count}
use Rattle.alc.specs.Packet.{Packet}
use Rattle.alc.specs.Reading.{Reading}
use Rattle.reception.specs.declared.scope.Scope.{Scope}
use Rattle.reception.specs.Symbols.{Symbol}
use Rattle.reception.specs.Reception.{Judge, Wrong, Faulty, Judged, counts, symbol_of}
use Rattle.reception.specs.Reception.{reading_wrong, NoPacket, OtherFti, SymbolLength, Range}

-- the FTI has such a block, and the block such an encoding symbol
abbrev pub IsInRange : Fti → Packet → Type 0
IsInRange f p = (p.block < block_count f) × (p.esi < encoding_count f p.block)

-- it carries an FTI, which is another
abbrev pub CarriesOther : Fti → Packet → Type 0
CarriesOther f p = (g : Fti) × (p.fti ≡ Some g) × (g ≢ f)

-- what each says of a reading that counts, those before it apart
abbrev pub WrongHolds : {R : Type 0} → Judge R → Fti → List Symbol → Reading → Wrong R → Type 0
WrongHolds judge f earlier (Err e) (Faulty (NoPacket r)) = e ≡ r
WrongHolds judge f earlier (Ok p) (Faulty OtherFti) = CarriesOther f p
WrongHolds judge f earlier (Ok p) (Faulty SymbolLength) = length p.bytes ≢ f.symbol_length
WrongHolds judge f earlier (Ok p) (Faulty Range) = ¬ IsInRange f p
WrongHolds judge f earlier (Ok p) (Judged x) = judge earlier (symbol_of p) ≡ Some x
WrongHolds judge f earlier _ _ = ⊥

-- their order
abbrev pub rank : {R : Type 0} → Wrong R → ℕ
rank (Faulty (NoPacket r)) = 1
rank (Faulty OtherFti) = 2
rank (Faulty SymbolLength) = 3
rank (Faulty Range) = 4
rank (Judged x) = 5

-- this is wrong, and nothing that comes before it
pub record IsFirstHere {R : Type 0} (judge : Judge R) (f : Fti) (earlier : List Symbol)
    (r : Reading) (w : Wrong R) : Type 0 where
  pub holds : WrongHolds judge f earlier r w
  pub first : (v : Wrong R) → rank v < rank w → ¬ WrongHolds judge f earlier r v

-- of a packet, what holds is this FTI
abbrev pub Hold : Scope → Fti → Reading → Type 0
Hold scope f (Ok p) = scope.fti ≡ Some f
Hold scope f (Err e) = Unit {0}

-- what is told of a reading that counts is just that
abbrev pub TellsInOrder : {R : Type 0} → Judge R → Type 0
TellsInOrder {R} judge =
    (scope : Scope) (f : Fti) (earlier : List Symbol) (r : Reading) (w : Wrong R)
    → counts scope.identity r ≡ true → Hold scope f r
    → (reading_wrong judge scope earlier r ≡ Some w) ↔ IsFirstHere judge f earlier r w
