-- A walk that asks of datagrams only which FTI the first carrier has, and one with that FTI after
-- it.
use Rattle.std.proofs.Common.{◌≡◌, ℕ, ◌+◌, ◌<◌, ◌≤◌, arith, List, [], Option, Some, None, Result, Ok, Err, true, refl, sym, ap, ◌∙◌, length, map, take, drop, get_or}
use Rattle.std.specs.Prelude.{is_some}
use Rattle.std.specs.Borrow.{Bor}
use Rattle.std.proofs.lemmas.List.{get_or-map, length-map, take_all, take-append-drop}
use Rattle.partition.specs.Fti.{Fti}
use Rattle.alc.specs.Reading.{Reading}
use Rattle.alc.specs.Computed.{read_of}
use Rattle.reception.specs.declared.scope.Identity.{Identity}
use Rattle.reception.specs.declared.scope.Scope.{Scope}
use Rattle.alc.specs.declared.fault.PacketFault.{PacketFault}
use Rattle.reception.specs.declared.scope.Look.{Look}
use Rattle.reception.specs.declared.scope.Look.TheVariants as look_at
use Rattle.reception.specs.Reception.{Judge, reception_with, counted_from, counted, asked, scope_from}
use Rattle.reception.specs.Found.{IsScopeOf}
use Rattle.reception.specs.Step.{IsLook, looked}
use Rattle.reception.specs.Walks.{readings_of, scope_in, IsHeard, MayPass}
use Rattle.reception.proofs.Walk.{counted_more, scope_more, identity_stays}
use Rattle.reception.proofs.Walking.{Walked, last, reading_here, scope_now, is_early}
use Rattle.reception.proofs.Stepping.{known_stays, none_before, settled, second_walk}
use Rattle.reception.proofs.PutBack.{readings_are}

-- this is known of the datagrams before a place
abbrev pub Heard : Identity → List (List ℕ) → ℕ → Scope → Type 0
Heard who ds place scope = scope_from (asked who) (counted who (take place (readings_of ds))) ≡ scope

pub heard_more : (who : Identity) (ds : List (List ℕ)) (place : ℕ) (scope : Scope) → Heard who ds place scope → (d : List ℕ) (new : Scope) → place < length ds → d ≡ get_or ds place [] → IsHeard d scope new → Heard who ds (place + 1) new
heard_more who ds place scope h d new inside here is =
    scope_now (asked who) ds place inside is.reading (reading_here ds place d is.reading is.reading inside here is.reads) scope h ∙ sym is.scope

-- to the first carrier
pub heard_enough : (who : Identity) (ds : List (List ℕ)) (place : ℕ) (scope : Scope) → Heard who ds place scope → (f : Fti) → scope.fti ≡ Some f → scope ≡ scope_in who ds
heard_enough who ds place scope h f e =
    let front : List Reading = take place (readings_of ds) in
    let whole : scope_in who ds ≡ scope_from scope (counted_from who (0 + length front) (drop place (readings_of ds))) =
    ap (λ (rs : List Reading). scope_from (asked who) (counted who rs)) (sym (take-append-drop place (readings_of ds)))
    ∙ ap (λ xs. scope_from (asked who) xs) (counted_more who 0 front (drop place (readings_of ds)))
    ∙ scope_more (asked who) (counted who front) (counted_from who (0 + length front) (drop place (readings_of ds)))
    ∙ ap (λ (s : Scope). scope_from s (counted_from who (0 + length front) (drop place (readings_of ds)))) h in
    sym (whole ∙ known_stays scope f (counted_from who (0 + length front) (drop place (readings_of ds))) e)

-- to the end
pub heard_all : (who : Identity) (ds : List (List ℕ)) (place : ℕ) (scope : Scope) → length ds ≤ place → Heard who ds place scope → scope ≡ scope_in who ds
heard_all who ds place scope l h =
    sym h ∙ ap (λ (rs : List Reading). scope_from (asked who) (counted who rs)) (take_all place (readings_of ds) (omega (arith, l, length-map ds read_of)))

-- so is what was found of all, by any readings
pub found_scope : (who : Identity) (ds : List (List ℕ)) (scope : Scope) → scope ≡ scope_in who ds → IsScopeOf who ds scope
found_scope who ds scope e rs read = e ∙ ap (λ (xs : List Reading). scope_from (asked who) (counted who xs)) (readings_are ds rs read)

-- ---- the walk after it, which knows what was found

pub found_identity : (who : Identity) (ds : List (List ℕ)) → (scope_in who ds).identity ≡ who
found_identity who ds = identity_stays (asked who) (counted who (readings_of ds))

-- learns nothing
pub found_settled : (who : Identity) (ds : List (List ℕ)) → last (scope_in who ds) ds ≡ scope_in who ds
found_settled who ds =
    ap (λ (i : Identity). scope_from (scope_in who ds) (counted i (readings_of ds))) (found_identity who ds) ∙ settled (asked who) (counted who (readings_of ds))

-- and finds what is told to one who knows nothing before
pub found_reception : {R : Type 0} (judge : Judge R) (who : Identity) (ds : List (List ℕ)) → reception_with judge (scope_in who ds) (readings_of ds) ≡ reception_with judge (asked who) (readings_of ds)
found_reception judge who ds = second_walk judge (asked who) (readings_of ds)

-- where nothing is learned any more, no early packet stops it
pub may_pass_settled : {R : Type 0} (judge : Judge R) (known : Scope) (ds : List (List ℕ)) (place : ℕ) (scope : Scope) → Walked judge known ds place scope → last known ds ≡ known
    → (d : List ℕ) (new : Scope) (answer : Result Look PacketFault) → IsLook d scope new answer → MayPass (last known ds) (looked answer)
may_pass_settled judge known ds place scope w still d new (Err e) h = tt
may_pass_settled judge known ds place scope w still d new (Ok look_at.Other) h = tt
may_pass_settled judge known ds place scope w still d new (Ok look_at.OtherFti) h = tt
may_pass_settled judge known ds place scope w still d new (Ok look_at.SymbolLength) h = tt
may_pass_settled judge known ds place scope w still d new (Ok look_at.Range) h = tt
may_pass_settled judge known ds place scope w still d new (Ok (look_at.InRange p)) h = tt
may_pass_settled judge known ds place scope w still d new (Ok look_at.Early) h =
    let none : known.fti ≡ None = none_before known (counted known.identity (take place (readings_of ds))) (ap (λ (s : Scope). s.fti) w.holds ∙ (is_early d scope new h).unknown) in
    ap (λ (s : Scope). s.fti) still ∙ none

pub known_some : (o : Option Fti) → is_some o ≡ true → (f : Fti) × (o ≡ Some f)
known_some (Some f) h = (f, refl)
known_some None h = absurd (cc)

-- a datagram of a list of borrowed ones
pub borrowed_at : (xs : List (Bor (List ℕ))) (i : ℕ) (d : Bor (List ℕ)) → i < length xs → (get_or xs i d).now ≡ get_or (map (λ x. x.now) xs) i []
borrowed_at xs i d l = sym (get_or-map (λ x. x.now) xs i d [] l)
