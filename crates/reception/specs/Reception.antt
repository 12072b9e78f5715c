-- What a list of datagrams says to one who asks for an identity's packets: which of them count,
-- whose FTI holds, which symbols came, and what is wrong at a place. A check and a decoder see
-- lists of datagrams through this file.
use Rattle.std.specs.Prelude.{◌≡◌, ℕ, ◌+◌, Bool, true, ◌&&◌, ◌==◌, not, false, cond, if◌then◌else◌}
use Rattle.std.specs.Prelude.{List, [], ◌∷◌, ◌++◌, length, is_some, Option, Some, None, Result, Ok}
use Rattle.std.specs.Prelude.{Err, option_map, flat_map, fold}
use Rattle.std.specs.Option.{option_or, option_map_or}
use Rattle.partition.specs.Fti.{Fti, has_symbol}
use Rattle.alc.specs.Packet.{Packet}
use Rattle.alc.specs.Reading.{Reading, Reads}
use Rattle.alc.specs.declared.fault.PacketFault.{PacketFault}
use Rattle.reception.specs.declared.scope.Identity.{Identity}
use Rattle.reception.specs.declared.scope.Scope.{Scope}
use Rattle.reception.specs.Symbols.{Symbol, AllFull}

-- each datagram is read
abbrev pub ReadAll : List (List ℕ) → List Reading → Type 0
ReadAll [] [] = Unit {0}
ReadAll (d ∷ ds) (r ∷ rs) = Reads d r × ReadAll ds rs
ReadAll _ _ = ⊥

-- ---- which readings count

-- whether a packet is of this identity
abbrev pub is_of_identity : Identity → Packet → Bool
is_of_identity who p = p.tsi == who.tsi && p.toi == who.toi

-- the identity's packets count, and what is no packet
abbrev pub counts : Identity → Reading → Bool
counts who (Ok p) = is_of_identity who p
counts who (Err r) = true

-- a reading and its place in the whole list
pub record Placed : Type 0 where
  pub place : ℕ
  pub reading : Reading

abbrev pub placed_at : Identity → ℕ → Reading → List Placed
placed_at who i r = cond (counts who r) (record { place = i; reading = r } ∷ []) []

abbrev pub counted_from : Identity → ℕ → List Reading → List Placed
counted_from who i [] = []
counted_from who i (r ∷ rs) = placed_at who i r ++ counted_from who (i + 1) rs

-- the readings that count, with their places in the whole list
abbrev pub counted : Identity → List Reading → List Placed
counted who rs = counted_from who 0 rs

-- ---- whose FTI holds

-- the FTI that a reading carries
abbrev pub carried : Reading → Option Fti
carried (Ok p) = p.fti
carried (Err r) = None

-- whether a reading is a packet of this identity that carries one
abbrev pub is_carrier : Identity → Reading → Bool
is_carrier who (Ok p) = is_of_identity who p && is_some p.fti
is_carrier who (Err r) = false

-- what isn't known yet is taken from a reading that counts
abbrev pub learned : Scope → Reading → Scope
learned known r = record { identity = known.identity; fti = option_or known.fti (carried r) }

-- what holds: the FTI that is known before, else the first carrier's, wherever it stands
abbrev pub scope_from : Scope → List Placed → Scope
scope_from known xs = fold (λ scope x. learned scope x.reading) known xs

-- this identity's packets are asked for, and nothing is known before
abbrev pub asked : Identity → Scope
asked who = record { identity = who; fti = None }

-- the FTI is known before
abbrev pub with_fti : Identity → Fti → Scope
with_fti who f = record { identity = who; fti = Some f }

-- ---- symbols

abbrev pub symbol_of : Packet → Symbol
symbol_of p = record { block = p.block; esi = p.esi; bytes = p.bytes }

abbrev pub symbols_in : Reading → List Symbol
symbols_in (Ok p) = symbol_of p ∷ []
symbols_in (Err r) = []

-- the symbols that came, in their order
abbrev pub symbols : List Placed → List Symbol
symbols xs = flat_map (λ x. symbols_in x.reading) xs

-- what a decoder needs of the symbols
abbrev pub Suffices : Identity → Fti → List Reading → Type 0
Suffices who f rs = AllFull f (symbols (counted who rs))

-- ---- one look at a reading

-- what is wrong with a reading before its symbol is looked at: it is no packet; it carries an FTI
-- that isn't the one that holds; its symbol isn't as long as that tells; or that has no such block,
-- or the block no such encoding symbol
pub data PlaceFault : Type 0 where
  NoPacket : PacketFault → PlaceFault
  OtherFti : PlaceFault
  SymbolLength : PlaceFault
  Range : PlaceFault

abbrev pub same_fti : Fti → Fti → Bool
same_fti a b = a.transfer_length == b.transfer_length && a.symbol_length == b.symbol_length
    && a.block_length == b.block_length && a.max_symbols == b.max_symbols

-- whether a packet's FTI, if it carries one, is another
abbrev pub has_other_fti : Fti → Option Fti → Bool
has_other_fti f None = false
has_other_fti f (Some g) = not (same_fti g f)

-- the first fault of a packet before its symbol is looked at
abbrev pub packet_fault : Fti → Packet → Option PlaceFault
packet_fault f p =
    if has_other_fti f p.fti then Some OtherFti
    else if not (length p.bytes == f.symbol_length) then Some SymbolLength
    else if not (has_symbol f p.block p.esi) then Some Range
    else None

-- what a reading without a fault is: a packet of another identity; one of the identity where no FTI
-- is known, of which nothing can be said; or one of the identity, of the FTI that holds, as long as
-- that tells, and in range
pub data Seen : Type 0 where
  Other : Seen
  Early : Seen
  InRange : Packet → Seen

abbrev pub look_by : Option Fti → Packet → Result Seen PlaceFault
look_by (Some f) p = option_map_or Err (packet_fault f p) (Ok (InRange p))
look_by None p = Ok Early

-- what is asked of a reading before its symbol: its first fault, else what it is
abbrev pub look : Scope → Reading → Result Seen PlaceFault
look scope (Err r) = Err (NoPacket r)
look scope (Ok p) = if is_of_identity scope.identity p then look_by scope.fti p else Ok Other

-- ---- what is wrong at a place

-- a fault before the symbol is looked at, or what a judge says of the symbol
pub data Wrong (R : Type 0) : Type 0 where
  Faulty : PlaceFault → Wrong R
  Judged : R → Wrong R

-- a judge says by the symbols that came before what is wrong with one
abbrev pub Judge : Type 0 → Type 0
Judge R = List Symbol → Symbol → Option R

abbrev pub wrong_by : {R : Type 0} → Judge R → List Symbol → Result Seen PlaceFault
    → Option (Wrong R)
wrong_by judge earlier (Err e) = Some (Faulty e)
wrong_by judge earlier (Ok Other) = None
wrong_by judge earlier (Ok Early) = None
wrong_by judge earlier (Ok (InRange p)) = option_map Judged (judge earlier (symbol_of p))

-- what is wrong with a reading after these symbols
abbrev pub reading_wrong : {R : Type 0} → Judge R → Scope → List Symbol → Reading → Option (Wrong R)
reading_wrong judge scope earlier r = wrong_by judge earlier (look scope r)

-- the first place at which something is wrong after these symbols, where this scope holds, and what
abbrev pub wrong_after : {R : Type 0} → Judge R → Scope → List Symbol → List Placed
    → Option (ℕ × Wrong R)
wrong_after judge scope earlier [] = None
wrong_after judge scope earlier (x ∷ xs) =
    option_or (option_map (λ r. (x.place, r)) (reading_wrong judge scope earlier x.reading))
    (wrong_after judge scope (earlier ++ symbols_in x.reading) xs)

-- All that is said above of a list: the least place at which something is wrong, and there the
-- first; the scope that holds; and the symbols.
pub record Reception (R : Type 0) : Type 0 where
  pub wrong : Option (ℕ × Wrong R)
  pub scope : Scope
  pub symbols : List Symbol

-- the walk knows from its start what holds in the end: a fault at a place may be of the FTI of a
-- carrier behind it
abbrev pub reception_with : {R : Type 0} → Judge R → Scope → List Reading → Reception R
reception_with judge known rs = let xs = counted known.identity rs in record {
  wrong = wrong_after judge (scope_from known xs) [] xs;
  scope = scope_from known xs;
  symbols = symbols xs;
}

-- nothing wrong at any place, and this FTI
pub record IsClean {R : Type 0} (reception : Reception R) (f : Fti) : Type 0 where
  pub clean : reception.wrong ≡ None
  pub some : reception.scope.fti ≡ Some f
