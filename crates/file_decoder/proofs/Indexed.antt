-- Places of packets that are kept one by one.
use Rattle.std.specs.Prelude.{◌≢◌, Result, Ok, Err, IsOk, nat_lt, option_map, ◌==◌}
use Rattle.std.specs.List.{All, Contains}
use Rattle.std.proofs.Common.{◌≡◌, ℕ, zero, suc, ◌+◌, ◌<◌, ◌≤◌, true, false, List, [], ◌∷◌, ◌++◌, Option, Some, None, length, get_or, take, refl, sym, ap, subst, ◌∙◌, inl, inr, arith}
use Rattle.std.proofs.lemmas.Bool.{cases_eq, ne_eqb, and_parts}
use Rattle.std.proofs.lemmas.List.Elements.{All-append}
use Rattle.std.proofs.lemmas.List.{get_or_default, take_more}
use Rattle.block_recovery.specs.Arrivals.{with_esi, arrived_at}
use Rattle.block_recovery.proofs.Arrived.{arrived_more}
use Rattle.block_recovery.proofs.Kept.{with_here, with_other}
use Rattle.partition.specs.Fti.{Fti, block_count, encoding_count, has_symbol}
use borrow.Author.Tests.{ltb-true}
use Rattle.alc.specs.Views.{packet_of}
use Rattle.alc.specs.declared.reading.Packet.{Packet as ReadPacket}
use Rattle.reception.specs.declared.scope.Identity.{Identity}
use Rattle.reception.specs.declared.scope.Look.{Look}
use Rattle.reception.specs.declared.scope.Look.TheVariants as look_at
use Rattle.alc.specs.declared.fault.PacketFault.{PacketFault}
use Rattle.reception.specs.declared.scope.Scope.{Scope}
use Rattle.reception.specs.Symbols.{Symbol, is_of}
use Rattle.reception.specs.Reception.{Faulty, Judged, PlaceFault, Reception, Seen, symbol_of, with_fti, wrong_by}
use Rattle.reception.specs.Step.{IsLook, looked}
use Rattle.reception.specs.Walks.{readings_of, scope_in}
use Rattle.reception.specs.Answer as value
use Rattle.reception.specs.Answer.{Clash, Clashes, AnswerTo, clash, clashes, reception_of}
use Rattle.reception.proofs.Heard.{found_reception}
use Rattle.reception.proofs.Walking.{stops, came_before}
use Rattle.block_recovery.specs.Received.{IsIndex, AreReceived, list_of}
use Rattle.block_recovery.specs.Decoded.{AreInRange}
use Rattle.file_decoder.specs.InFile.{AreOfBlock, AreSymbolsIn, IsSymbolIn}
use Rattle.block_recovery.specs.declared.arrivals.Arrival.{Arrival}
use Rattle.file_decoder.specs.declared.rereading.Place.{Place}
use Rattle.block_recovery.specs.declared.symbols.Symbols.{Symbols}
use Rattle.block_recovery.proofs.Receiving.{Scanned, starts, clashed, receives, known_at_last, passes, all_received}
use Rattle.file_decoder.proofs.ReadAgain.{same_scope}

-- ---- what a look says, where the FTI of the first carrier is known

module _ (who : Identity) (f : Fti) (ds : List (List ℕ)) (known : scope_in who ds ≡ with_fti who f) where
  -- nothing came yet
  pub scan_starts : (at : ℕ → ℕ → Option (List ℕ)) → ((b j : ℕ) → at b j ≡ None) → Scanned (scope_in who ds) ds (with_fti who f) at 0
  scan_starts at none = subst (λ (s : Scope). Scanned (scope_in who ds) ds s at 0) known (starts (scope_in who ds) ds at none)

  -- all was received
  pub scan_ends : (at : ℕ → ℕ → Option (List ℕ)) (place : ℕ) → Scanned (scope_in who ds) ds (with_fti who f) at place → length ds ≤ place → AreReceived who ds f at
  scan_ends at place w l = all_received who ds (with_fti who f) at place w l f refl

  module _ (at : ℕ → ℕ → Option (List ℕ)) (place : ℕ) (w : Scanned (scope_in who ds) ds (with_fti who f) at place) (d : List ℕ) (new : Scope) (inside : place < length ds) (here : d ≡ get_or ds place []) where
    module _ (answer : Result Look PacketFault) (look : IsLook d (with_fti who f) new answer) where
      -- one that is passed over
      pub scan_passes : IsOk (looked answer) → ((p : ReadPacket) → answer ≢ Ok (look_at.InRange p)) → Scanned (scope_in who ds) ds (with_fti who f) at (place + 1)
      scan_passes clean none =
          subst (λ (s : Scope). Scanned (scope_in who ds) ds s at (place + 1)) (same_scope d (with_fti who f) new answer look f refl)
          (passes who ds (with_fti who f) at place w d new inside here answer look clean none)

      -- one with a fault
      pub scan_stops : (e : PlaceFault) → looked answer ≡ Err e → AnswerTo (reception_of who (readings_of ds)) (value.Fault place (Faulty e))
      scan_stops e is =
          ap (λ (r : Reception Clash). r.wrong) (sym (found_reception clash who ds))
          ∙ stops clash (scope_in who ds) ds place (with_fti who f) w.walked d new answer inside here look (Faulty e)
          (ap (λ (a : Result Seen PlaceFault). wrong_by clash (came_before (scope_in who ds).identity ds place) a) is)

    module _ (p : ReadPacket) (look : IsLook d (with_fti who f) new (Ok (look_at.InRange p))) where
      earlier : List Symbol
      earlier = came_before (scope_in who ds).identity ds place

      -- one that clashes
      pub scan_clashes : ((ss : List Symbol) → IsIndex ss at → clashes ss (symbol_of (packet_of p)) ≡ true) → AnswerTo (reception_of who (readings_of ds)) (value.Fault place (Judged Clashes))
      scan_clashes says =
          let before = came_before (scope_in who ds).identity ds place in
          let k = known_at_last (scope_in who ds) ds (with_fti who f) at place w d new p inside here look in
          ap (λ (r : Reception Clash). r.wrong) (sym (found_reception clash who ds))
          ∙ stops clash (scope_in who ds) ds place (with_fti who f) w.walked d new (Ok (look_at.InRange p)) inside here look (Judged Clashes)
          (clashed before (symbol_of (packet_of p)) (says before (w.index k.0 k.1)))

      -- one that is kept
      pub scan_keeps : (put : ℕ → ℕ → Option (List ℕ)) → ((ss : List Symbol) → IsIndex ss at → clashes ss (symbol_of (packet_of p)) ≡ false) → put p.sbn p.esi ≡ Some p.symbol.now
          → ((b j : ℕ) → is_of b j (symbol_of (packet_of p)) ≡ false → put b j ≡ at b j) → Scanned (scope_in who ds) ds (with_fti who f) put (place + 1)
      scan_keeps put says is elsewhere =
          let before = came_before (scope_in who ds).identity ds place in
          let k = known_at_last (scope_in who ds) ds (with_fti who f) at place w d new p inside here look in
          subst (λ (s : Scope). Scanned (scope_in who ds) ds s put (place + 1)) (same_scope d (with_fti who f) new (Ok (look_at.InRange p)) look f refl)
          (receives (scope_in who ds) ds (with_fti who f) at place w d new p inside here look put (says before (w.index k.0 k.1)) is elsewhere)

-- ---- where the packets stand

one_all : {X : Type 0} (P : X → Type 0) (x : X) → P x → All P (x ∷ [])
one_all P x h zero d l = h
one_all P x h (suc k) d l = absurd (omega (arith, l))

-- one place more
pub more_placed : (x : List ℕ) (scope : Scope) (old new : Symbols Place) (block : ℕ) (a : Arrival Place) → AreSymbolsIn x scope old → IsSymbolIn x scope block a.esi a.symbol
    → list_of new block ≡ list_of old block ++ a ∷ [] → ((b : ℕ) → (block == b) ≡ false → list_of new b ≡ list_of old b) → AreSymbolsIn x scope new
more_placed x scope old new block a placed here more others b = elim (cases_eq block b) [
  | inl same ↦
      subst (λ (n : ℕ). AreOfBlock x scope n (list_of new n)) same
      (subst (AreOfBlock x scope block) (sym more)
      (All-append (λ (s : Arrival Place). IsSymbolIn x scope block s.esi s.symbol) (list_of old block) (a ∷ []) (placed block)
      (one_all (λ (s : Arrival Place). IsSymbolIn x scope block s.esi s.symbol) a here)))
  | inr ne ↦ subst (AreOfBlock x scope b) (sym (others b (ne_eqb block b ne))) (placed b)
]

pub none_in_range : (f : Fti) (at : ℕ → ℕ → Option (List ℕ)) → ((b j : ℕ) → at b j ≡ None) → AreInRange f at
none_in_range f at none = record {
  block = λ b j some. absurd (let e = none b j in cc);
  esi = λ b j some. absurd (let e = none b j in cc);
}

-- the place that was found at an ESI is listed, and a packet of that ESI stands there
pub listed_placed : (x : List ℕ) (scope : Scope) (s : Symbols Place) → AreSymbolsIn x scope s → (b j : ℕ) (p : Place) → Contains (list_of s b) (record { esi = j; symbol = p }) → IsSymbolIn x scope b j p
listed_placed x scope s placed b j p listed =
    subst (λ (a : Arrival Place). IsSymbolIn x scope b a.esi a.symbol) listed.2 (placed b listed.0 (record { esi = j; symbol = p }) listed.1)

-- an FTI has the block and the symbol
pub has_both : (f : Fti) (b j : ℕ) → has_symbol f b j ≡ true → (b < block_count f) × (j < encoding_count f b)
has_both f b j h = let w = and_parts (nat_lt b (block_count f)) (nat_lt j (encoding_count f b)) h in (ltb-true b (block_count f) w.0, ltb-true j (encoding_count f b) w.1)
