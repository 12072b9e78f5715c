-- What the frames behind some others tell of all that a reader had left.
use Rattle.std.proofs.Common.{◌-◌, ℕ, Bool, List, [], ◌++◌, Option, length, refl, sym, ap, ◌∙◌, arith, append_assoc, inl, inr}
use Rattle.std.specs.Prelude.{Some, None, IfSome}
use Rattle.std.proofs.lemmas.Bool.{cases_lt}
use Rattle.std.proofs.lemmas.Grind.{flat_map-append}
use Rattle.std.proofs.lemmas.List.{get_or_append_left, get_or-append_right}
use Rattle.std.specs.Io.KnownBytes.{Consumes, IsAtEnd}
use Rattle.session.specs.Frames.{frame, frames, AreShort, IsSessionFault, StopsAt}
use Rattle.session.specs.Joining.{IsWhole}
use Rattle.session.specs.declared.frame.FrameFault.{FrameFault}
use Rattle.session.specs.declared.frame.FrameFault.TheVariants.{CutLength, CutDatagram, TooLong, Io, NoMemory, NoSuchPlace}

short_append : (xs ys : List (List ℕ)) → AreShort xs → AreShort ys → AreShort (xs ++ ys)
short_append xs ys p q i = elim (cases_lt i (length xs)) [
  | inl lt ↦ rw (get_or_append_left xs ys [] i lt) (p i)
  | inr ge ↦ rw (get_or-append_right xs ys (length xs) i [] refl ge) (q (i - length xs))
]

pub whole_behind : (a b : Option (List ℕ)) (ds : List (List ℕ)) → Consumes a b (frames ds) → AreShort ds → IsWhole b → IsWhole a
whole_behind None b ds p short whole = tt
whole_behind (Some a) None ds p short whole = absurd p
whole_behind (Some a) (Some b) ds p short whole = (
  ds ++ whole.0,
  record {
    whole = p ∙ ap (λ (l : List ℕ). frames ds ++ l) whole.1.whole ∙ sym (flat_map-append frame ds whole.0);
    each = short_append ds whole.0 short whole.1.each;
  },
)

-- nothing is behind them
pub whole_end : (a b : Option (List ℕ)) (ds : List (List ℕ)) → Consumes a b (frames ds) → AreShort ds → IsAtEnd b → IsWhole a
whole_end None b ds p short end = tt
whole_end (Some a) None ds p short end = absurd p
whole_end (Some a) (Some b) ds p short end = whole_behind (Some a) (Some b) ds p short ([], record { whole = end; each = λ i. omega arith })

stops_behind : (fault : FrameFault) (a b : Option (List ℕ)) (ds : List (List ℕ)) → Consumes a b (frames ds) → AreShort ds → IfSome b (StopsAt fault) → IfSome a (StopsAt fault)
stops_behind fault None b ds p short stops = tt
stops_behind fault (Some a) None ds p short stops = absurd p
stops_behind fault (Some a) (Some b) ds p short stops = record {
  datagrams = ds ++ stops.datagrams;
  front = frames ds ++ stops.front;
  rest = stops.rest;
  framed = record {
    whole = ap (λ (l : List ℕ). frames ds ++ l) stops.framed.whole ∙ sym (flat_map-append frame ds stops.datagrams);
    each = short_append ds stops.datagrams short stops.framed.each;
  };
  whole = p ∙ ap (λ (l : List ℕ). frames ds ++ l) stops.whole ∙ sym (append_assoc (frames ds) stops.front stops.rest);
  stops = stops.stops;
}

pub fault_behind : (fault : FrameFault) (a b : Option (List ℕ)) (failed : Bool) (ds : List (List ℕ)) → Consumes a b (frames ds) → AreShort ds
    → IsSessionFault fault b failed → IsSessionFault fault a failed
fault_behind CutLength a b failed ds p short why = stops_behind CutLength a b ds p short why
fault_behind CutDatagram a b failed ds p short why = stops_behind CutDatagram a b ds p short why
fault_behind TooLong a b failed ds p short why = stops_behind TooLong a b ds p short why
fault_behind Io a b failed ds p short why = why
fault_behind NoMemory a b failed ds p short why = tt
fault_behind (NoSuchPlace place) a b failed ds p short why = why
