-- The first carrier of frames that are read one by one, and the first fault where there is none.
use Rattle.std.specs.Prelude.{◌≢◌, Result, Ok, Err, IsOk, IsNone, IfSome}
use Rattle.std.specs.Option.{option_or}
use Rattle.std.proofs.Common.{◌≡◌, ℕ, ◌+◌, ◌<◌, ◌≤◌, List, [], Option, Some, None, length, get_or, refl, sym, ap, subst, ◌∙◌}
use Rattle.partition.specs.Fti.{Fti}
use Rattle.alc.specs.declared.reading.Packet.{Packet as ReadPacket}
use Rattle.reception.specs.declared.scope.Identity.{Identity}
use Rattle.reception.specs.declared.scope.Look.{Look}
use Rattle.reception.specs.declared.scope.Look.TheVariants as look_at
use Rattle.alc.specs.declared.fault.PacketFault.{PacketFault}
use Rattle.reception.specs.declared.scope.Scope.{Scope}
use Rattle.reception.specs.Reception.{Faulty, PlaceFault, Reception, Seen, asked, with_fti, wrong_by}
use Rattle.reception.specs.Step.{IsLook, looked}
use Rattle.reception.specs.Walks.{readings_of, scope_in}
use Rattle.reception.specs.Answer as value
use Rattle.reception.specs.Answer.{Clash, AnswerTo, clash, reception_of}
use Rattle.reception.proofs.Heard.{Heard, heard_more, heard_enough, heard_all, found_identity, found_reception}
use Rattle.reception.proofs.Looks.{known_look}
use Rattle.reception.proofs.Stepping.{scope}
use Rattle.reception.proofs.Walking.{came_before, same_identity, stops}
use Rattle.block_recovery.specs.Faults.{fault_value}
use Rattle.block_recovery.specs.Received.{IsNothing}
use Rattle.block_recovery.specs.Refusals.{IsRefusal}
use Rattle.block_recovery.specs.declared.fault.DecodeFault.{DecodeFault}
use Rattle.block_recovery.proofs.Receiving.{Scanned, starts, passes, nothing as nothing_came}

-- the first fault of the datagrams before a place, where none of all is a carrier
abbrev pub FirstSoFar : Identity → List (List ℕ) → ℕ → Option DecodeFault → Type 0
FirstSoFar who ds place None = Scanned (scope_in who ds) ds (asked who) (λ b j. None) place
FirstSoFar who ds place (Some e) = IsRefusal who ds e

pub none_yet : (who : Identity) (ds : List (List ℕ)) → (scope_in who ds).fti ≡ None → FirstSoFar who ds 0 None
none_yet who ds none =
    let same : scope_in who ds ≡ asked who = ap (λ (i : Identity). scope i (scope_in who ds).fti) (found_identity who ds) ∙ ap (λ (o : Option Fti). scope who o) none in
    subst (λ (s : Scope). Scanned (scope_in who ds) ds s (λ b j. None) 0) same (starts (scope_in who ds) ds (λ b j. None) (λ b j. refl))

module _ (who : Identity) (ds : List (List ℕ)) (place : ℕ) (d : List ℕ) (new : Scope) (answer : Result Look PacketFault) (inside : place < length ds) (here : d ≡ get_or ds place [])
    (look : IsLook d (asked who) new answer) where
  heard_next : Heard who ds place (asked who) → Heard who ds (place + 1) new
  heard_next heard = heard_more who ds place (asked who) heard d new inside here (record { reading = look.reading; reads = look.reads; scope = look.scope })

  -- a carrier's FTI is that of the whole
  pub carrier : Heard who ds place (asked who) → (f : Fti) → new.fti ≡ Some f → scope_in who ds ≡ with_fti who f
  carrier heard f e =
      sym (heard_enough who ds (place + 1) new (heard_next heard) f e)
      ∙ ap (λ (i : Identity). scope i new.fti) (same_identity d (asked who) new answer look)
      ∙ ap (λ (o : Option Fti). scope who o) e

  module _ (none : new.fti ≡ None) where
    still : new ≡ asked who
    still = ap (λ (i : Identity). scope i new.fti) (same_identity d (asked who) new answer look) ∙ ap (λ (o : Option Fti). scope who o) none

    -- one that is none
    pub heard_still : Heard who ds place (asked who) → Heard who ds (place + 1) (asked who)
    heard_still heard = subst (λ (s : Scope). Heard who ds (place + 1) s) still (heard_next heard)

-- a datagram more
module _ (who : Identity) (ds : List (List ℕ)) (place : ℕ) (d : List ℕ) (new : Scope) (answer : Result Look PacketFault) (inside : place < length ds) (here : d ≡ get_or ds place [])
    (look : IsLook d (asked who) new answer) (none : new.fti ≡ None) where
  not_in_range : (p : ReadPacket) → answer ≢ Ok (look_at.InRange p)
  not_in_range p is = let w = known_look d (asked who) new p (subst (λ (a : Result Look PacketFault). IsLook d (asked who) new a) is look) in let some = w.1 in cc

  first_by : FirstSoFar who ds place None → (more : Option DecodeFault) → (IsNone more → IsOk (looked answer))
      → IfSome more (λ e. (fault : PlaceFault) × (looked answer ≡ Err fault) × (fault_value e ≡ value.Fault place (Faulty fault))) → FirstSoFar who ds (place + 1) more
  first_by so_far (Some e) ok bad =
      let wrong = ap (λ (a : Result Seen PlaceFault). wrong_by clash (came_before (scope_in who ds).identity ds place) a) bad.1 in
      let stopped = stops clash (scope_in who ds) ds place (asked who) so_far.walked d new answer inside here look (Faulty bad.0) wrong in
      subst (λ (v : value.Answer). AnswerTo (reception_of who (readings_of ds)) v) (sym bad.2)
      (ap (λ (r : Reception Clash). r.wrong) (sym (found_reception clash who ds)) ∙ stopped)
  first_by so_far None ok bad =
      subst (λ (s : Scope). Scanned (scope_in who ds) ds s (λ b j. None) (place + 1)) (still who ds place d new answer inside here look none)
      (passes who ds (asked who) (λ b j. None) place so_far d new inside here answer look (ok refl) not_in_range)

  pub first_next : (first more : Option DecodeFault) → FirstSoFar who ds place first → (IsNone more → IsOk (looked answer))
      → IfSome more (λ e. (fault : PlaceFault) × (looked answer ≡ Err fault) × (fault_value e ≡ value.Fault place (Faulty fault))) → FirstSoFar who ds (place + 1) (option_or first more)
  first_next (Some e) more so_far ok bad = so_far
  first_next None more so_far ok bad = first_by so_far more ok bad

-- no datagram is a carrier
module _ (who : Identity) (ds : List (List ℕ)) (place : ℕ) (l : length ds ≤ place) (heard : Heard who ds place (asked who)) where
  pub no_carrier : (scope_in who ds).fti ≡ None
  no_carrier = ap (λ (s : Scope). s.fti) (sym (heard_all who ds place (asked who) l heard))

  pub nothing_said : FirstSoFar who ds place None → IsNothing who ds
  nothing_said so_far = nothing_came who ds (asked who) (λ b j. None) place so_far l refl
