-- A loop over datagrams, one look at each.
use Rattle.std.proofs.Common.{◌≡◌, ℕ, ◌+◌, ◌<◌, ◌≤◌, List, [], ◌∷◌, ◌++◌, Option, Some, None, Result, Ok, Err, refl, sym, ap, subst, ◌∙◌, arith, length, take, drop, get_or, Bool, true, false, cond}
use Rattle.std.specs.Prelude.{if◌then◌else◌}
use Rattle.std.proofs.lemmas.List.{append-nil, get_or-map, length-map, length-take-le, take-append-drop, take_more, take_all}
use Rattle.partition.specs.Fti.{Fti}
use Rattle.alc.specs.Packet.{Packet}
use Rattle.alc.specs.Views.{packet_of}
use Rattle.alc.specs.Reading.{Reading, Reads}
use Rattle.alc.specs.Computed.{read_of}
use Rattle.alc.proofs.Again.{exact}
use Rattle.alc.specs.declared.reading.Packet.{Packet as ReadPacket}
use Rattle.reception.specs.declared.scope.Identity.{Identity}
use Rattle.reception.specs.declared.scope.Scope.{Scope}
use Rattle.alc.specs.declared.fault.PacketFault.{PacketFault}
use Rattle.reception.specs.declared.scope.Look.{Look}
use Rattle.reception.specs.declared.scope.Look.TheVariants as look_at
use Rattle.reception.specs.Symbols.{Symbol}
use Rattle.std.specs.Option.{option_or}
use Rattle.reception.specs.Reception.{PlaceFault, Judge, Wrong, Placed, Seen, Other, Early, InRange, is_of_identity, counts, placed_at, counted_from, counted, symbols, symbols_in, learned, carried, scope_from, look, look_by, packet_fault, wrong_by, reading_wrong, wrong_after, reception_with}
use Rattle.reception.specs.Step.{after, looked, IsLook}
use Rattle.reception.specs.Walks.{readings_of, Timely, MayPass, at_place, or_packet, first_wrong, Found}
use Rattle.reception.proofs.Walk.{counted_more, counted_one_more, symbols_more, scope_more, identity_stays, or_else_none, wrong_more}
use Rattle.reception.proofs.Stepping.{scope, known_stays, no_symbols}

-- the reading of the datagram at a place
pub reading_here : (ds : List (List ℕ)) (i : ℕ) (d : List ℕ) (r e : Reading) → i < length ds → d ≡ get_or ds i [] → Reads d r → get_or (readings_of ds) i e ≡ r
reading_here ds i d r e l here h = get_or-map read_of ds i [] e l ∙ ap read_of (sym here) ∙ exact d r h

-- what holds in the end of datagrams, for one to whom this is known before
abbrev pub last : Scope → List (List ℕ) → Scope
last known ds = scope_from known (counted known.identity (readings_of ds))

-- the datagrams before a place have nothing wrong, by what holds in the end, and this is known of
-- them
pub record Walked {R : Type 0} (judge : Judge R) (known : Scope) (ds : List (List ℕ)) (place : ℕ) (scope : Scope) : Type 0 where
  pub clean : first_wrong judge (last known ds) (counted known.identity (take place (readings_of ds))) ≡ None
  pub holds : scope_from known (counted known.identity (take place (readings_of ds))) ≡ scope

-- the identity's symbols of the datagrams before a place
abbrev pub came_before : Identity → List (List ℕ) → ℕ → List Symbol
came_before who ds place = symbols (counted who (take place (readings_of ds)))

-- ---- what a look says of the reading

by_fault : (p q : Packet) (o : Option PlaceFault) → ◌≡◌ {A = Result Seen PlaceFault} (Ok (InRange p)) (or_packet q o) → q ≡ p
by_fault p q None h = cc
by_fault p q (Some e) h = absurd (cc)

by_fti : (p q : Packet) (f : Option Fti) → ◌≡◌ {A = Result Seen PlaceFault} (Ok (InRange p)) (look_by f q) → q ≡ p
by_fti p q (Some f) h = by_fault p q (packet_fault f q) h
by_fti p q None h = absurd (cc)

by_identity : (p q : Packet) (v : Bool) (f : Option Fti) → ◌≡◌ {A = Result Seen PlaceFault} (Ok (InRange p)) (if v then look_by f q else Ok Other) → (q ≡ p) × (v ≡ true)
by_identity p q true f h = (by_fti p q f h, refl)
by_identity p q false f h = absurd (cc)

by_reading : (p : Packet) (s : Scope) (r : Reading) → ◌≡◌ {A = Result Seen PlaceFault} (Ok (InRange p)) (look s r) → (r ≡ Ok p) × (is_of_identity s.identity p ≡ true)
by_reading p s (Err e) h = absurd (cc)
by_reading p s (Ok q) h =
    let w = by_identity p q (is_of_identity s.identity q) s.fti h in
    (ap (λ (x : Packet). Ok x) w.0, subst (λ (x : Packet). is_of_identity s.identity x ≡ true) w.0 w.1)

-- a packet that is handed over is the reading, and of the identity
pub is_packet : (d : List ℕ) (old new : Scope) (p : ReadPacket) → (at : IsLook d old new (Ok (look_at.InRange p))) → at.reading ≡ Ok (packet_of p)
is_packet d old new p h = (by_reading (packet_of p) new h.reading h.told).0

-- the identity that is asked for stays
pub same_identity : (d : List ℕ) (old new : Scope) (answer : _) → IsLook d old new answer → new.identity ≡ old.identity
same_identity d old new answer h =
    ap (λ (s : Scope). s.identity) h.scope
    ∙ (elim (counts old.identity h.reading) as (λ v. (if v then learned old h.reading else old).identity ≡ old.identity) [
      | true ↦ refl
      | false ↦ refl
    ])

pub packet_counts : (d : List ℕ) (old new : Scope) (p : ReadPacket) (at : IsLook d old new (Ok (look_at.InRange p))) → counts old.identity at.reading ≡ true
packet_counts d old new p h =
    let w = by_reading (packet_of p) new h.reading h.told in
    ap (λ (r : Reading). counts old.identity r) w.0
    ∙ ap (λ (who : Identity). is_of_identity who (packet_of p)) (sym (same_identity d old new (Ok (look_at.InRange p)) h)) ∙ w.1

other_by_fault : (q : Packet) (o : Option PlaceFault) → ◌≡◌ {A = Result Seen PlaceFault} (Ok Other) (or_packet q o) → ⊥
other_by_fault q None h = cc
other_by_fault q (Some e) h = cc

other_by_fti : (q : Packet) (f : Option Fti) → ◌≡◌ {A = Result Seen PlaceFault} (Ok Other) (look_by f q) → ⊥
other_by_fti q (Some f) h = other_by_fault q (packet_fault f q) h
other_by_fti q None h = cc

other_counts : (s : Scope) (r : Reading) → ◌≡◌ {A = Result Seen PlaceFault} (Ok Other) (look s r) → counts s.identity r ≡ false
other_counts s (Err e) h = absurd (cc)
other_counts s (Ok q) h = by (is_of_identity s.identity q) h
  where
    by : (v : Bool) → ◌≡◌ {A = Result Seen PlaceFault} (Ok Other) (if v then look_by s.fti q else Ok Other) → v ≡ false
    by true k = absurd (other_by_fti q s.fti k)
    by false k = refl

-- a datagram that is passed over as another's doesn't count
pub passed_counts : (d : List ℕ) (old new : Scope) (at : IsLook d old new (Ok look_at.Other)) → counts old.identity at.reading ≡ false
passed_counts d old new h =
    ap (λ (who : Identity). counts who h.reading) (sym (same_identity d old new (Ok look_at.Other) h)) ∙ other_counts new h.reading h.told

-- it leaves the scope as it is
pub passed_scope : (d : List ℕ) (old new : Scope) → IsLook d old new (Ok look_at.Other) → new ≡ old
passed_scope d old new h = h.scope ∙ ap (λ (v : Bool). if v then learned old h.reading else old) (passed_counts d old new h)

early_by_fault : (q : Packet) (o : Option PlaceFault) → ◌≡◌ {A = Result Seen PlaceFault} (Ok Early) (or_packet q o) → ⊥
early_by_fault q None h = cc
early_by_fault q (Some e) h = cc

early_by_fti : (q : Packet) (f : Option Fti) → ◌≡◌ {A = Result Seen PlaceFault} (Ok Early) (look_by f q) → f ≡ None
early_by_fti q (Some f) h = absurd (early_by_fault q (packet_fault f q) h)
early_by_fti q None h = refl

early_of : (s : Scope) (r : Reading) → ◌≡◌ {A = Result Seen PlaceFault} (Ok Early) (look s r) → (p : Packet) × (r ≡ Ok p) × (is_of_identity s.identity p ≡ true) × (s.fti ≡ None)
early_of s (Err e) h = absurd (cc)
early_of s (Ok q) h = let w = by (is_of_identity s.identity q) h in (q, refl, w.0, w.1)
  where
    by : (v : Bool) → ◌≡◌ {A = Result Seen PlaceFault} (Ok Early) (if v then look_by s.fti q else Ok Other) → (v ≡ true) × (s.fti ≡ None)
    by true k = (refl, early_by_fti q s.fti k)
    by false k = absurd (cc)

later_none : (a b : Option Fti) → option_or a b ≡ None → (a ≡ None) × (b ≡ None)
later_none None b h = (refl, h)
later_none (Some f) b h = absurd (cc)

-- An early packet counts and carries no FTI; none was known before it, and none is behind it.
pub record IsEarly (old new : Scope) (r : Reading) : Type 0 where
  pub packet : Packet
  pub is : r ≡ Ok packet
  pub counts : is_of_identity old.identity packet ≡ true
  pub bare : packet.fti ≡ None
  pub unknown : old.fti ≡ None
  pub scope : new ≡ old

pub is_early : (d : List ℕ) (old new : Scope) (at : IsLook d old new (Ok look_at.Early)) → IsEarly old new at.reading
is_early d old new h =
    let w = early_of new h.reading h.told in
    let who = same_identity d old new (Ok look_at.Early) h in
    let mine : is_of_identity old.identity w.0 ≡ true = ap (λ (i : Identity). is_of_identity i w.0) (sym who) ∙ w.2 in
    let counted : counts old.identity h.reading ≡ true = ap (λ (r : Reading). counts old.identity r) w.1 ∙ mine in
    let learns : new ≡ learned old h.reading = h.scope ∙ ap (λ (v : Bool). if v then learned old h.reading else old) counted in
    let none = later_none old.fti (carried h.reading) (sym (ap (λ (s : Scope). s.fti) learns) ∙ w.3) in
    record {
      packet = w.0;
      is = w.1;
      counts = mine;
      bare = ap carried (sym w.1) ∙ none.1;
      unknown = none.0;
      scope = ap (λ (o : Option Fti). scope new.identity o) (w.3 ∙ sym none.0) ∙ ap (λ (i : Identity). scope i old.fti) who;
    }

-- ---- what holds in the end says of a reading what the look says

by_end : (s l : Scope) (r : Reading) → l.identity ≡ s.identity → ((f : Fti) → s.fti ≡ Some f → l ≡ s) → MayPass l (look s r) → look l r ≡ look s r
by_end s l (Err e) who same may = refl
by_end s l (Ok q) who same may =
    ap (λ (i : Identity). if is_of_identity i q then look_by l.fti q else Ok Other) who ∙ by (is_of_identity s.identity q) s.fti refl may
  where
    by : (v : Bool) (o : Option Fti) → s.fti ≡ o → MayPass l (if v then look_by s.fti q else Ok Other) → (if v then look_by l.fti q else Ok Other) ≡ (if v then look_by s.fti q else Ok Other)
    by false o e m = refl
    by true (Some f) e m = ap (λ (x : Scope). look_by x.fti q) (same f e)
    by true None e m =
        let none : l.fti ≡ None = subst (λ (x : Option Fti). MayPass l (look_by x q)) e m in
        ap (λ (x : Option Fti). look_by x q) none ∙ sym (ap (λ (x : Option Fti). look_by x q) e)

-- what is wrong may be told, whatever comes to be known
wrong_may : {R : Type 0} (judge : Judge R) (earlier : List Symbol) (l : Scope) (a : Result Seen PlaceFault) (r : Wrong R) → wrong_by judge earlier a ≡ Some r → MayPass l a
wrong_may judge earlier l (Err e) r h = tt
wrong_may judge earlier l (Ok Other) r h = tt
wrong_may judge earlier l (Ok Early) r h = absurd (cc)
wrong_may judge earlier l (Ok (InRange p)) r h = tt

-- ---- a walk

-- one reading more
module _ (known : Scope) (ds : List (List ℕ)) (place : ℕ) (inside : place < length ds) (r : Reading) (is : get_or (readings_of ds) place r ≡ r) where
  pub front : take (place + 1) (readings_of ds) ≡ take place (readings_of ds) ++ r ∷ []
  front =
      let l : place < length (readings_of ds) = omega (arith, inside, length-map ds read_of) in
      take_more (readings_of ds) place r l ∙ ap (λ (x : Reading). take place (readings_of ds) ++ x ∷ []) is

  long : length (take place (readings_of ds)) ≡ place
  long = length-take-le place (readings_of ds) (omega (arith, inside, length-map ds read_of))

  pub counted_now : (who : Identity) → counted who (take (place + 1) (readings_of ds)) ≡ counted who (take place (readings_of ds)) ++ placed_at who place r
  counted_now who =
      ap (λ (l : List Reading). counted who l) front
      ∙ counted_one_more who (take place (readings_of ds)) r
      ∙ ap (λ (n : ℕ). counted who (take place (readings_of ds)) ++ placed_at who n r) long

  after_one : (s : Scope) (v : Bool) → scope_from s (cond v (record { place = place; reading = r } ∷ []) []) ≡ (if v then learned s r else s)
  after_one s true = refl
  after_one s false = refl

  -- what is known with it
  pub scope_now : (scope : Scope) → scope_from known (counted known.identity (take place (readings_of ds))) ≡ scope → scope_from known (counted known.identity (take (place + 1) (readings_of ds))) ≡ after scope r
  scope_now scope holds =
      let who : known.identity ≡ scope.identity = sym (identity_stays known (counted known.identity (take place (readings_of ds)))) ∙ ap (λ (s : Scope). s.identity) holds in
      ap (λ (xs : List Placed). scope_from known xs) (counted_now known.identity)
      ∙ scope_more known (counted known.identity (take place (readings_of ds))) (placed_at known.identity place r)
      ∙ ap (λ (s : Scope). scope_from s (placed_at known.identity place r)) holds
      ∙ after_one scope (counts known.identity r)
      ∙ ap (λ (i : Identity). if counts i r then learned scope r else scope) who

  -- what follows
  abbrev later : List Placed
  later = counted_from known.identity (0 + length (take (place + 1) (readings_of ds))) (drop (place + 1) (readings_of ds))

  parts : counted known.identity (readings_of ds) ≡ counted known.identity (take (place + 1) (readings_of ds)) ++ later
  parts =
      ap (λ (l : List Reading). counted known.identity l) (sym (take-append-drop (place + 1) (readings_of ds)))
      ∙ counted_more known.identity 0 (take (place + 1) (readings_of ds)) (drop (place + 1) (readings_of ds))

  pub last_now : (new : Scope) → scope_from known (counted known.identity (take (place + 1) (readings_of ds))) ≡ new → last known ds ≡ scope_from new later
  last_now new holds =
      ap (λ (xs : List Placed). scope_from known xs) parts
      ∙ scope_more known (counted known.identity (take (place + 1) (readings_of ds))) later
      ∙ ap (λ (s : Scope). scope_from s later) holds

module _ {R : Type 0} (judge : Judge R) (known : Scope) (ds : List (List ℕ)) where
  pub begins : Walked judge known ds 0 known
  begins = record { clean = refl; holds = refl }

  module _ (place : ℕ) (scope : Scope) (w : Walked judge known ds place scope) (d : List ℕ) (new : Scope) (answer : Result Look PacketFault)
      (inside : place < length ds) (here : d ≡ get_or ds place []) (at : IsLook d scope new answer) where
    at_here : get_or (readings_of ds) place at.reading ≡ at.reading
    at_here = reading_here ds place d at.reading at.reading inside here at.reads

    holds_now : scope_from known (counted known.identity (take (place + 1) (readings_of ds))) ≡ new
    holds_now = scope_now known ds place inside at.reading at_here scope w.holds ∙ sym at.scope

    same_last : (f : Fti) → new.fti ≡ Some f → last known ds ≡ new
    same_last f e = last_now known ds place inside at.reading at_here new holds_now ∙ known_stays new f (later known ds place inside at.reading at_here) e

    who_new : new.identity ≡ known.identity
    who_new = ap (λ (s : Scope). s.identity) (sym holds_now) ∙ identity_stays known (counted known.identity (take (place + 1) (readings_of ds)))

    who_last : (last known ds).identity ≡ known.identity
    who_last = identity_stays known (counted known.identity (readings_of ds))

    look_last : MayPass (last known ds) (looked answer) → look (last known ds) at.reading ≡ looked answer
    look_last may =
        by_end new (last known ds) at.reading (who_last ∙ sym who_new) same_last (subst (λ (a : Result Seen PlaceFault). MayPass (last known ds) a) at.told may)
        ∙ sym at.told

    placed_wrong : (l : Scope) (earlier : List Symbol) (r : Reading) → l.identity ≡ known.identity
        → wrong_after judge l earlier (placed_at known.identity place r) ≡ at_place place (wrong_by judge earlier (look l r))
    placed_wrong l earlier (Err e) same = or_else_none (at_place place (reading_wrong judge l earlier (Err e)))
    placed_wrong l earlier (Ok p) same =
        elim (is_of_identity known.identity p) as (λ v. is_of_identity known.identity p ≡ v → wrong_after judge l earlier (cond v (record { place = place; reading = Ok p } ∷ []) [])
        ≡ at_place place (wrong_by judge earlier (look l (Ok p)))) [
          | true ↦ λ e. or_else_none (at_place place (reading_wrong judge l earlier (Ok p)))
          | false ↦ λ e.
              (let other : is_of_identity l.identity p ≡ false = ap (λ (i : Identity). is_of_identity i p) same ∙ e in
              sym (ap (λ (v : Bool). at_place place (wrong_by judge earlier (if v then look_by l.fti p else Ok Other))) other))
        ] refl

    wrong_now : MayPass (last known ds) (looked answer)
        → first_wrong judge (last known ds) (counted known.identity (take (place + 1) (readings_of ds))) ≡ at_place place (wrong_by judge (came_before known.identity ds place) (looked answer))
    wrong_now may =
        ap (λ (xs : List Placed). first_wrong judge (last known ds) xs) (counted_now known ds place inside at.reading at_here known.identity)
        ∙ wrong_more judge (last known ds) [] (counted known.identity (take place (readings_of ds))) (placed_at known.identity place at.reading)
        ∙ ap (λ (o : Found R). option_or o (wrong_after judge (last known ds) ([] ++ came_before known.identity ds place) (placed_at known.identity place at.reading))) w.clean
        ∙ placed_wrong (last known ds) (came_before known.identity ds place) at.reading who_last
        ∙ ap (λ (a : Result Seen PlaceFault). at_place place (wrong_by judge (came_before known.identity ds place) a)) (look_last may)

    -- something is wrong at the place, and so of the whole list
    pub stops : (r : Wrong R) → wrong_by judge (came_before known.identity ds place) (looked answer) ≡ Some r → (reception_with judge known (readings_of ds)).wrong ≡ Some (place, r)
    stops r is =
        let may = wrong_may judge (came_before known.identity ds place) (last known ds) (looked answer) r is in
        let behind = later known ds place inside at.reading at_here in
        ap (λ (xs : List Placed). first_wrong judge (last known ds) xs) (parts known ds place inside at.reading at_here)
        ∙ wrong_more judge (last known ds) [] (counted known.identity (take (place + 1) (readings_of ds))) behind
        ∙ ap (λ (o : Found R). option_or o (wrong_after judge (last known ds) ([] ++ came_before known.identity ds (place + 1)) behind))
        (wrong_now may ∙ ap (λ (o : Option (Wrong R)). at_place place o) is)

    -- where nothing is wrong in the whole list, nothing is at the place
    pub passes : (reception_with judge known (readings_of ds)).wrong ≡ None → wrong_by judge (came_before known.identity ds place) (looked answer) ≡ None
    passes none = by (wrong_by judge (came_before known.identity ds place) (looked answer)) refl
      where
        by : (o : Option (Wrong R)) → wrong_by judge (came_before known.identity ds place) (looked answer) ≡ o → wrong_by judge (came_before known.identity ds place) (looked answer) ≡ None
        by None e = e
        by (Some r) e = absurd (let s = stops r e in (cc))

    -- nothing is wrong at the place; an early packet is passed over where no FTI comes to be known
    pub goes_on : MayPass (last known ds) (looked answer) → wrong_by judge (came_before known.identity ds place) (looked answer) ≡ None → Walked judge known ds (place + 1) new
    goes_on may is = record {
      clean = wrong_now may ∙ ap (λ (o : Option (Wrong R)). at_place place o) is;
      holds = holds_now;
    }

    still : known.identity ≡ scope.identity
    still = sym (identity_stays known (counted known.identity (take place (readings_of ds)))) ∙ ap (λ (s : Scope). s.identity) w.holds

    symbols_more_now : (v : Bool) → counts scope.identity at.reading ≡ v → came_before known.identity ds (place + 1) ≡ came_before known.identity ds place ++ symbols (cond v (record { place = place; reading = at.reading } ∷ []) [])
    symbols_more_now v mine =
        ap (λ (xs : List Placed). symbols xs) (counted_now known ds place inside at.reading at_here known.identity)
        ∙ symbols_more (counted known.identity (take place (readings_of ds))) (placed_at known.identity place at.reading)
        ∙ ap (λ (u : Bool). came_before known.identity ds place ++ symbols (cond u (record { place = place; reading = at.reading } ∷ []) [])) (ap (λ (i : Identity). counts i at.reading) still ∙ mine)

    -- the symbols with this datagram's, where it counts
    pub symbols_now : counts scope.identity at.reading ≡ true → came_before known.identity ds (place + 1) ≡ came_before known.identity ds place ++ symbols_in at.reading
    symbols_now mine = symbols_more_now true mine ∙ ap (λ (ss : List Symbol). came_before known.identity ds place ++ ss) (append-nil (symbols_in at.reading))

    -- where it doesn't, they are the same
    pub symbols_passed : counts scope.identity at.reading ≡ false → came_before known.identity ds (place + 1) ≡ came_before known.identity ds place
    symbols_passed other = symbols_more_now false other ∙ append-nil (came_before known.identity ds place)

  -- all datagrams were looked at
  pub ends : (place : ℕ) (scope : Scope) → Walked judge known ds place scope → length ds ≤ place
      → ((reception_with judge known (readings_of ds)).wrong ≡ None) × ((reception_with judge known (readings_of ds)).scope ≡ scope)
  ends place scope w l =
      let whole : take place (readings_of ds) ≡ readings_of ds = take_all place (readings_of ds) (omega (arith, l, length-map ds read_of)) in (
        subst (λ (rs : List Reading). first_wrong judge (last known ds) (counted known.identity rs) ≡ None) whole w.clean,
        subst (λ (rs : List Reading). scope_from known (counted known.identity rs) ≡ scope) whole w.holds,
      )

  -- one datagram more behind these, where no symbol came before an FTI was known
  pub one_behind : (d : List ℕ) → (reception_with judge known (readings_of ds)).wrong ≡ None
      → Timely (reception_with judge known (readings_of ds)).scope.fti (reception_with judge known (readings_of ds)).symbols
      → Walked judge known (ds ++ d ∷ []) (length ds) (reception_with judge known (readings_of ds)).scope
  one_behind d clean timely =
      record {
        clean = ap (λ (rs : List Reading). first_wrong judge (last known (ds ++ d ∷ [])) (counted known.identity rs)) (front_of ds) ∙ by (last known ds).fti refl timely;
        holds = ap (λ (rs : List Reading). scope_from known (counted known.identity rs)) (front_of ds);
      }
    where
      front_of : (xs : List (List ℕ)) → take (length xs) (readings_of (xs ++ d ∷ [])) ≡ readings_of xs
      front_of [] = refl
      front_of (x ∷ xs) = ap (λ (l : List Reading). read_of x ∷ l) (front_of xs)

      all_of : (xs : List (List ℕ)) → readings_of (xs ++ d ∷ []) ≡ readings_of xs ++ read_of d ∷ []
      all_of [] = refl
      all_of (x ∷ xs) = ap (λ (l : List Reading). read_of x ∷ l) (all_of xs)

      xs : List Placed
      xs = counted known.identity (readings_of ds)

      behind : last known (ds ++ d ∷ []) ≡ scope_from (last known ds) (placed_at known.identity (length (readings_of ds)) (read_of d))
      behind =
          ap (λ (rs : List Reading). scope_from known (counted known.identity rs)) (all_of ds)
          ∙ ap (λ (ys : List Placed). scope_from known ys) (counted_one_more known.identity (readings_of ds) (read_of d))
          ∙ scope_more known (counted known.identity (readings_of ds)) (placed_at known.identity (length (readings_of ds)) (read_of d))

      by : (o : Option Fti) → (last known ds).fti ≡ o → Timely o (symbols (counted known.identity (readings_of ds))) → first_wrong judge (last known (ds ++ d ∷ [])) (counted known.identity (readings_of ds)) ≡ None
      by (Some f) e t =
          ap (λ (s : Scope). first_wrong judge s (counted known.identity (readings_of ds))) (behind ∙ known_stays (last known ds) f (placed_at known.identity (length (readings_of ds)) (read_of d)) e) ∙ clean
      by None e t = no_symbols judge (last known (ds ++ d ∷ [])) (last known ds) [] (counted known.identity (readings_of ds)) t ∙ clean

pub came_all : (who : Identity) (ds : List (List ℕ)) (place : ℕ) → length ds ≤ place → came_before who ds place ≡ symbols (counted who (readings_of ds))
came_all who ds place l = ap (λ (rs : List Reading). symbols (counted who rs)) (take_all place (readings_of ds) (omega (arith, l, length-map ds read_of)))
