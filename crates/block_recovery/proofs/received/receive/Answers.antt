use Rattle.std.proofs.Common.{◌∙◌, ◌<◌, ℕ, length, map, List, Result, Ok, sym, ap, subst, arith}
use Rattle.std.proofs.lemmas.List.{length-map}
use Rattle.std.specs.Prelude.{not}
use Rattle.std.specs.Borrow.{Bor}
use Rattle.alc.specs.Views.{packet_of}
use Rattle.reception.specs.Reception.{Faulty, Judged, PlaceFault, Reception, Seen, symbol_of, wrong_by}
use Rattle.reception.specs.Walks.{scope_in}
use Rattle.reception.specs.declared.scope.Look.TheVariants as look_at
use Rattle.reception.specs.declared.scope.Scope.{Scope}
use Rattle.reception.specs.Answer.{Clash, Clashes, clash}
use Rattle.reception.proofs.Heard.{borrowed_at, found_reception}
use Rattle.reception.proofs.Walking.{stops, came_before}
use Rattle.block_recovery.specs.Received.{bytes_at}
use Rattle.block_recovery.proofs.Receiving.{Scanned, starts, clashed, receives, known_at_last, passes_other, passes_bare, all_received, nothing}
use Rattle.block_recovery.proofs.received.receive.Goals as goal

some_mapped : (xs : List (Bor (List ℕ))) (i : ℕ) → i < length xs → i < length (map (λ (d : Bor (List ℕ)). d.now) xs)
some_mapped xs i l = omega (arith, l, length-map xs (λ (d : Bor (List ℕ)). d.now))

pub loop-place-init : goal.loop-place-init
loop-place-init c =
    let ds = map (λ (d : Bor (List ℕ)). d.now) c.args.datagrams.now in
    subst (λ (s : Scope). Scanned (scope_in c.args.identity ds) ds s (bytes_at c.new-symbols.result) 0) (sym (c.found_in-scope.ensures _ c.requires))
    (starts (scope_in c.args.identity ds) ds (bytes_at c.new-symbols.result) (c.new-symbols.ensures.none (λ slice. slice.now)))

pub loop-place-preserved-in-Ok-Other : goal.loop-place-preserved-in-Ok-Other
loop-place-preserved-in-Ok-Other c =
    let ds = map (λ (d : Bor (List ℕ)). d.now) c.args.datagrams.now in
    let l : c.loop-place.place < length c.args.datagrams.now = omega arith in
    passes_other (scope_in c.args.identity ds) ds c.loop-place.scope (bytes_at c.loop-place.symbols) c.loop-place.place c.loop-place.invariant _ c.look-look.new.self
    (some_mapped c.args.datagrams.now _ l) (borrowed_at c.args.datagrams.now c.loop-place.place _ l) (rw (c.in-Ok-Other.is, c.in-Ok-Other.field-0-is) at c.look-look.ensures)

pub loop-place-preserved-in-Ok-Early : goal.loop-place-preserved-in-Ok-Early
loop-place-preserved-in-Ok-Early c =
    let ds = map (λ (d : Bor (List ℕ)). d.now) c.args.datagrams.now in
    let l : c.loop-place.place < length c.args.datagrams.now = omega arith in
    passes_bare c.args.identity ds c.loop-place.scope (bytes_at c.loop-place.symbols) c.loop-place.place c.loop-place.invariant _ c.look-look.new.self
    (some_mapped c.args.datagrams.now _ l) (borrowed_at c.args.datagrams.now c.loop-place.place _ l) (rw (c.in-Ok-Early.is, c.in-Ok-Early.field-0-is) at c.look-look.ensures)

pub returns-in-Some-clause-refusal : goal.returns-in-Some-clause-refusal
returns-in-Some-clause-refusal c =
    let ds = map (λ (d : Bor (List ℕ)). d.now) c.args.datagrams.now in
    let l : c.loop-place.place < length c.args.datagrams.now = omega arith in
    let bad = rw c.in-Some.is at c.fault_at.ensures.fault in
    let known = scope_in c.args.identity ds in
    let wrong = ap (λ (a : Result Seen PlaceFault). wrong_by clash (came_before known.identity ds c.loop-place.place) a) bad.1 in
    rw bad.2
    (ap (λ (r : Reception Clash). r.wrong) (sym (found_reception clash c.args.identity ds))
    ∙ stops clash known ds c.loop-place.place c.loop-place.scope c.loop-place.invariant.walked _ c.look-look.new.self c.look-look.result
    (some_mapped c.args.datagrams.now _ l) (borrowed_at c.args.datagrams.now c.loop-place.place _ l) c.look-look.ensures (Faulty bad.0) wrong)

pub returns-then-not-branch-clause-refusal : goal.returns-then-not-branch-clause-refusal
returns-then-not-branch-clause-refusal c =
    let ds = map (λ (d : Bor (List ℕ)). d.now) c.args.datagrams.now in
    let known = scope_in c.args.identity ds in
    let l : c.loop-place.place < length c.args.datagrams.now = omega arith in
    let at = rw (c.in-Ok-InRange.is, c.in-Ok-InRange.field-0-is) at c.look-look.ensures in
    let inside = some_mapped c.args.datagrams.now _ l in
    let here = borrowed_at c.args.datagrams.now c.loop-place.place _ l in
    let before = came_before known.identity ds c.loop-place.place in
    let k = known_at_last known ds c.loop-place.scope (bytes_at c.loop-place.symbols) c.loop-place.place c.loop-place.invariant _ c.look-look.new.self c.in-Ok-InRange.packet inside here at in
    let says = c.in_ok-keep.ensures.clash before (c.loop-place.invariant.index k.0 k.1) ∙ ap not c.if-not-branch.true in
    ap (λ (r : Reception Clash). r.wrong) (sym (found_reception clash c.args.identity ds))
    ∙ stops clash known ds c.loop-place.place c.loop-place.scope c.loop-place.invariant.walked _ c.look-look.new.self (Ok (look_at.InRange c.in-Ok-InRange.packet))
    inside here at (Judged Clashes) (clashed before (symbol_of (packet_of c.in-Ok-InRange.packet)) says)

pub loop-place-preserved : goal.loop-place-preserved
loop-place-preserved c =
    let ds = map (λ (d : Bor (List ℕ)). d.now) c.args.datagrams.now in
    let known = scope_in c.args.identity ds in
    let l : c.loop-place.place < length c.args.datagrams.now = omega arith in
    let at = rw (c.in-Ok-InRange.is, c.in-Ok-InRange.field-0-is) at c.look-look.ensures in
    let inside = some_mapped c.args.datagrams.now _ l in
    let here = borrowed_at c.args.datagrams.now c.loop-place.place _ l in
    let before = came_before known.identity ds c.loop-place.place in
    let k = known_at_last known ds c.loop-place.scope (bytes_at c.loop-place.symbols) c.loop-place.place c.loop-place.invariant _ c.look-look.new.self c.in-Ok-InRange.packet inside here at in
    let says = c.in_ok-keep.ensures.clash before (c.loop-place.invariant.index k.0 k.1) ∙ ap not c.if-not-branch.false in
    receives known ds c.loop-place.scope (bytes_at c.loop-place.symbols) c.loop-place.place c.loop-place.invariant _ c.look-look.new.self c.in-Ok-InRange.packet
    inside here at (bytes_at c.keep.new.symbols) says (c.in_ok-keep.ensures.here c.if-not-branch.false) c.in_ok-keep.ensures.elsewhere

pub returns-in-Some-fti-clause-received : goal.returns-in-Some-fti-clause-received
returns-in-Some-fti-clause-received c =
    all_received c.args.identity _ c.loop-place.scope (bytes_at c.loop-place.symbols) c.loop-place.place c.loop-place.invariant
    (let e = length-map c.args.datagrams.now (λ (d : Bor (List ℕ)). d.now) in omega (arith, e)) c.in-Some-fti.fti c.in-Some-fti.is

pub returns-clause-nothing : goal.returns-clause-nothing
returns-clause-nothing c = λ none.
    nothing c.args.identity _ c.loop-place.scope (bytes_at c.loop-place.symbols) c.loop-place.place c.loop-place.invariant
    (let e = length-map c.args.datagrams.now (λ (d : Bor (List ℕ)). d.now) in omega (arith, e)) c.in-None.is
