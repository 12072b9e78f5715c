-- A walk over datagrams, step by step.
use Rattle.std.specs.Prelude.{◌≡◌, ℕ, List, [], ◌++◌, Option, Some, None, Result, Ok, if◌then◌else◌}
use Rattle.std.specs.Prelude.{option_map, Err, Bool}
use Rattle.std.specs.Option.{option_or, option_map_or}
use Rattle.partition.specs.Fti.{Fti, has_symbol}
use Rattle.alc.specs.Reading.{Reading, Reads}
use Rattle.reception.specs.Symbols.{Symbol}
use Rattle.reception.specs.declared.scope.Scope.{Scope}
use Rattle.reception.specs.declared.scope.Identity.{Identity}
use Rattle.reception.specs.Reception.{Judge, Wrong, Judged, Reception, Seen, Early, asked, counts}
use Rattle.reception.specs.Reception.{counted, learned, reading_wrong, scope_from, symbols_in}
use Rattle.reception.specs.Reception.{InRange, PlaceFault, Placed, wrong_after}
use Rattle.reception.specs.Readings.{readings_of}
use Rattle.reception.specs.Step.{after}
pub use Rattle.reception.specs.Readings.{readings_of}
use Rattle.alc.specs.Packet.{Packet}

-- the scope of a list of datagrams, computed
abbrev pub scope_in : Identity → List (List ℕ) → Scope
scope_in who datagrams = scope_from (asked who) (counted who (readings_of datagrams))

-- a place and what is wrong there
abbrev pub Found : Type 0 → Type 0
Found R = Option (ℕ × Wrong R)

abbrev pub judged : {R : Type 0} → Option R → Option (Wrong R)
judged o = option_map Judged o

abbrev pub at_place : {R : Type 0} → ℕ → Option (Wrong R) → Found R
at_place i o = option_map (λ r. (i, r)) o

-- what comes to be known by a reading that counts, at place i
abbrev pub told : {R : Type 0} → Judge R → ℕ → Reception R → Reading → Reception R
told judge i c r = record {
  wrong = option_or c.wrong (at_place i (reading_wrong judge (learned c.scope r) c.symbols r));
  scope = learned c.scope r;
  symbols = c.symbols ++ symbols_in r;
}

abbrev pub step : {R : Type 0} → Judge R → ℕ → Reception R → Reading → Reception R
step judge i c r = if counts c.scope.identity r then told judge i c r else c

-- no symbol came before an FTI was known
abbrev pub Timely : Option Fti → List Symbol → Type 0
Timely (Some f) arrivals = Unit {0}
Timely None arrivals = arrivals ≡ []

-- a packet of which nothing can be said is passed over only where no FTI comes to be known
abbrev pub MayPass : Scope → Result Seen PlaceFault → Type 0
MayPass last (Ok Early) = last.fti ≡ None
MayPass last _ = Unit {0}

-- what is known after a datagram of which only that was asked
pub record IsHeard (datagram : List ℕ) (old new : Scope) : Type 0 where
  pub reading : Reading
  pub reads : Reads datagram reading
  pub scope : new ≡ after old reading

-- the FTI has the packet's block and symbol
abbrev pub in_range : Packet → Fti → Bool
in_range p f = has_symbol f p.block p.esi

abbrev pub or_packet : Packet → Option PlaceFault → Result Seen PlaceFault
or_packet p o = option_map_or Err o (Ok (InRange p))

-- the least place at which something is wrong, and there the first
abbrev pub first_wrong : {R : Type 0} → Judge R → Scope → List Placed → Found R
first_wrong judge scope xs = wrong_after judge scope [] xs
