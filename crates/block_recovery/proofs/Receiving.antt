-- Datagrams that are received one by one.
use Rattle.std.proofs.Common.{◌≡◌, ℕ, ◌+◌, ◌<◌, ◌≤◌, true, false, List, [], ◌∷◌, ◌++◌, Option, Some, None, Result, Ok, Err, refl, sym, ap, subst, ◌∙◌, length, take, drop, get_or}
use Rattle.std.specs.Prelude.{◌≢◌, IsOk}
use Rattle.partition.specs.Fti.{Fti}
use Rattle.alc.specs.Views.{packet_of}
use Rattle.alc.specs.Reading.{Reading}
use Rattle.alc.specs.declared.fault.PacketFault.{PacketFault}
use Rattle.alc.specs.declared.reading.Packet.{Packet as ReadPacket}
use Rattle.reception.specs.declared.scope.Identity.{Identity}
use Rattle.reception.specs.declared.scope.Look.{Look}
use Rattle.reception.specs.declared.scope.Look.TheVariants as look_at
use Rattle.reception.specs.declared.scope.Scope.{Scope}
use Rattle.reception.specs.Symbols.{Symbol, is_of}
use Rattle.reception.specs.Reception.{Wrong, Judged, Reception, IsClean, counted, counted_from, symbols, symbols_in, symbol_of, reception_with}
use Rattle.reception.specs.Step.{IsLook, looked}
use Rattle.reception.specs.Walks.{readings_of, scope_in, judged}
use Rattle.reception.specs.Answer.{Clash, Clashes, Empty, AnswerTo, clash, clashes}
use Rattle.reception.proofs.Heard.{found_identity, found_reception, found_settled, may_pass_settled}
use Rattle.reception.proofs.Looks.{known_look}
use Rattle.reception.proofs.Stepping.{known_stays}
use Rattle.reception.proofs.Walking.{Walked, last, came_before, came_all, begins, goes_on, ends, reading_here, scope_now, last_now, symbols_now, symbols_passed, is_packet, packet_counts, passed_counts}
use Rattle.block_recovery.specs.Received.{IsIndex, AreReceived, IsNothing}
use Rattle.block_recovery.proofs.Index.{index_more, behind, unclashed}

-- what is known of the datagrams before a place, where none of them has a fault: the symbols stand
-- where they go, if an FTI is known in the end
pub record Scanned (known : Scope) (ds : List (List ℕ)) (scope : Scope) (at : ℕ → ℕ → Option (List ℕ)) (place : ℕ) : Type 0 where
  pub walked : Walked clash known ds place scope
  pub index : (f : Fti) → (last known ds).fti ≡ Some f → IsIndex (came_before known.identity ds place) at

pub empty_index : (at : ℕ → ℕ → Option (List ℕ)) → ((b j : ℕ) → at b j ≡ None) → IsIndex [] at
empty_index at none = record { none = λ b j h. refl; some = λ b j y h. let e = none b j in absurd (cc) }

pub starts : (known : Scope) (ds : List (List ℕ)) (at : ℕ → ℕ → Option (List ℕ)) → ((b j : ℕ) → at b j ≡ None) → Scanned known ds known at 0
starts known ds at none = record { walked = begins clash known ds; index = λ f e. empty_index at none }

-- an earlier symbol clashes
pub clashed : (earlier : List Symbol) (s : Symbol) → clashes earlier s ≡ true → judged (clash earlier s) ≡ Some (Judged Clashes)
clashed earlier s h = rw h refl

-- none does
pub no_clash : (earlier : List Symbol) (s : Symbol) → clashes earlier s ≡ false → ◌≡◌ {A = Option (Wrong Clash)} (judged (clash earlier s)) None
no_clash earlier s h = rw h refl

module _ (known : Scope) (ds : List (List ℕ)) (scope : Scope) (at : ℕ → ℕ → Option (List ℕ)) (place : ℕ) (w : Scanned known ds scope at place) (d : List ℕ) (new : Scope) (p : ReadPacket)
    (inside : place < length ds) (here : d ≡ get_or ds place []) (look : IsLook d scope new (Ok (look_at.InRange p))) where
  -- an FTI is known in the end, as it is now
  pub known_at_last : (f : Fti) × ((last known ds).fti ≡ Some f)
  known_at_last =
      let r = look.reading in
      let k = known_look d scope new p look in
      let is = reading_here ds place d r r inside here look.reads in
      let later = counted_from known.identity (0 + length (take (place + 1) (readings_of ds))) (drop (place + 1) (readings_of ds)) in
      let now = scope_now known ds place inside r is scope w.walked.holds ∙ sym look.scope in
      let same = last_now known ds place inside r is new now ∙ known_stays new k.0 later k.1 in
      (k.0, ap (λ (s : Scope). s.fti) same ∙ k.1)

  now : came_before known.identity ds (place + 1) ≡ came_before known.identity ds place ++ symbol_of (packet_of p) ∷ []
  now =
      symbols_now clash known ds place scope w.walked d new (Ok (look_at.InRange p)) inside here look (packet_counts d scope new p look)
      ∙ ap (λ (r : Reading). came_before known.identity ds place ++ symbols_in r) (is_packet d scope new p look)

  -- a symbol more, put where it goes
  pub receives : (put : ℕ → ℕ → Option (List ℕ)) → clashes (came_before known.identity ds place) (symbol_of (packet_of p)) ≡ false → put p.sbn p.esi ≡ Some p.symbol.now
      → ((b j : ℕ) → is_of b j (symbol_of (packet_of p)) ≡ false → put b j ≡ at b j) → Scanned known ds new put (place + 1)
  receives put free is elsewhere =
      let before = came_before known.identity ds place in
      let s = symbol_of (packet_of p) in
      record {
        walked = goes_on clash known ds place scope w.walked d new (Ok (look_at.InRange p)) inside here look tt (no_clash before s free);
        index = λ f e.
            let index = w.index f e in
            subst (λ (ss : List Symbol). IsIndex ss put) (sym now)
            (index_more before (before ++ s ∷ []) s (behind before s) at put index (unclashed s before at index free (at s.block s.esi) refl) is elsewhere);
      }

module _ (known : Scope) (ds : List (List ℕ)) (scope : Scope) (at : ℕ → ℕ → Option (List ℕ)) (place : ℕ) (w : Scanned known ds scope at place) (d : List ℕ) (new : Scope)
    (inside : place < length ds) (here : d ≡ get_or ds place []) where
  -- a packet of another identity is passed over
  pub passes_other : IsLook d scope new (Ok look_at.Other) → Scanned known ds new at (place + 1)
  passes_other look = record {
    walked = goes_on clash known ds place scope w.walked d new (Ok look_at.Other) inside here look tt refl;
    index = λ f e.
        subst (λ (ss : List Symbol). IsIndex ss at) (sym (symbols_passed clash known ds place scope w.walked d new (Ok look_at.Other) inside here look (passed_counts d scope new look)))
        (w.index f e);
  }

  -- an early one where no FTI comes to be known
  pub passes_early : (last known ds).fti ≡ None → IsLook d scope new (Ok look_at.Early) → Scanned known ds new at (place + 1)
  passes_early none look = record {
    walked = goes_on clash known ds place scope w.walked d new (Ok look_at.Early) inside here look none refl;
    index = λ f e. absurd (cc);
  }

-- all datagrams were received
pub received : (known : Scope) (ds : List (List ℕ)) (scope : Scope) (at : ℕ → ℕ → Option (List ℕ)) (place : ℕ) → Scanned known ds scope at place → length ds ≤ place
    → (f : Fti) → scope.fti ≡ Some f → IsClean (reception_with clash known (readings_of ds)) f × IsIndex (symbols (counted known.identity (readings_of ds))) at
received known ds scope at place w l f some =
    let e = ends clash known ds place scope w.walked l in
    let is : (last known ds).fti ≡ Some f = ap (λ (s : Scope). s.fti) e.1 ∙ some in
    (record { clean = e.0; some = is }, subst (λ (ss : List Symbol). IsIndex ss at) (came_all known.identity ds place l) (w.index f is))

-- ---- the walk of a decoder, by the FTI of the first carrier

module _ (who : Identity) (ds : List (List ℕ)) (scope : Scope) (at : ℕ → ℕ → Option (List ℕ)) (place : ℕ) (w : Scanned (scope_in who ds) ds scope at place) where
  -- a packet is early only where there is no carrier
  pub passes_bare : (d : List ℕ) (new : Scope) → place < length ds → d ≡ get_or ds place [] → IsLook d scope new (Ok look_at.Early) → Scanned (scope_in who ds) ds new at (place + 1)
  passes_bare d new inside here look =
      passes_early (scope_in who ds) ds scope at place w d new inside here
      (may_pass_settled clash (scope_in who ds) ds place scope w.walked (found_settled who ds) d new (Ok look_at.Early) look) look

  -- what has no fault and isn't in range is passed over
  pub passes : (d : List ℕ) (new : Scope) → place < length ds → d ≡ get_or ds place [] → (answer : Result Look PacketFault) → IsLook d scope new answer → IsOk (looked answer)
      → ((p : ReadPacket) → answer ≢ Ok (look_at.InRange p)) → Scanned (scope_in who ds) ds new at (place + 1)
  passes d new inside here (Ok look_at.Other) look clean none = passes_other (scope_in who ds) ds scope at place w d new inside here look
  passes d new inside here (Ok look_at.Early) look clean none = passes_bare d new inside here look
  passes d new inside here (Ok (look_at.InRange p)) look clean none = absurd (none p refl)
  passes d new inside here (Ok look_at.OtherFti) look clean none = absurd (cc)
  passes d new inside here (Ok look_at.SymbolLength) look clean none = absurd (cc)
  passes d new inside here (Ok look_at.Range) look clean none = absurd (cc)
  passes d new inside here (Err e) look clean none = absurd (cc)

  module _ (l : length ds ≤ place) where
    pub all_received : (f : Fti) → scope.fti ≡ Some f → AreReceived who ds f at
    all_received f some =
        let h = received (scope_in who ds) ds scope at place w l f some in
        record {
          clean = subst (λ (r : Reception Clash). IsClean r f) (found_reception clash who ds) h.0;
          index = subst (λ (i : Identity). IsIndex (symbols (counted i (readings_of ds))) at) (found_identity who ds) h.1;
        }

    pub nothing : scope.fti ≡ None → IsNothing who ds
    nothing none =
        let e = ends clash (scope_in who ds) ds place scope w.walked l in
        subst (λ (r : Reception Clash). AnswerTo r Empty) (found_reception clash who ds) (e.0, ap (λ (s : Scope). s.fti) e.1 ∙ none)
