-- Datagrams that come one after the other, and what is told of them.
use Rattle.std.proofs.Common.{◌≡◌, ℕ, ◌+◌, ◌<◌, Bool, true, false, cond, List, [], ◌∷◌, ◌++◌, Option, Some, None, Result, Ok, length, get_or, refl, sym, ap, subst, ◌∙◌, arith}
use Rattle.std.specs.Prelude.{option_map}
use Rattle.std.proofs.lemmas.List.{map-append, length-append, length-map, append-nil}
use Rattle.std.proofs.Math.Seq.{get_or-append_seam}
use Rattle.std.proofs.lemmas.Bool.{ltb-true}
use Rattle.lists.proofs.Lists.{both}
use Rattle.partition.specs.Fti.{Fti, block_count}
use Rattle.losses.specs.Groups.{Group}
use Rattle.losses.specs.Losses.{places_from}
use Rattle.alc.specs.Views.{packet_of}
use Rattle.alc.specs.Reading.{Reading}
use Rattle.alc.specs.Computed.{read_of}
use Rattle.alc.proofs.Again.{exact}
use Rattle.alc.specs.declared.fault.PacketFault.{PacketFault}
use Rattle.alc.specs.declared.reading.Packet.{Packet as ReadPacket}
use Rattle.reception.specs.declared.scope.Identity.{Identity}
use Rattle.reception.specs.declared.scope.Scope.{Scope}
use Rattle.reception.specs.Reception as fault
use Rattle.reception.specs.declared.scope.Look.{Look}
use Rattle.reception.specs.declared.scope.Look.TheVariants as look_at
use Rattle.reception.specs.Symbols.{Symbol}
use Rattle.reception.specs.Reception.{Judge, PlaceFault, Seen, Wrong, Faulty, Judged, Placed, counts, placed_at, counted, symbols, symbols_in, symbol_of, is_carrier, with_fti, wrong_by, reception_with}
use Rattle.reception.specs.Step.{looked, IsLook}
use Rattle.reception.specs.Walks.{readings_of, Timely, judged, in_range, Found}
use Rattle.reception.proofs.Walk.{counted_one_more, symbols_more}
use Rattle.reception.proofs.Stepping.{stays, stays_wrong}
use Rattle.reception.proofs.Walking.{Walked, last, came_before, stops, goes_on, ends, one_behind, is_packet, packet_counts, passed_counts}
use Rattle.std.specs.List.{AllByRecursion}
use Rattle.reception.proofs.Within.{IsFaultless, IsSoundReading, clean_sound}
use Rattle.reception.proofs.Looks.{fti_after, may_pass, faultless_look, length_look}
use Rattle.cert.specs.declared.verdict.Reason.{Reason}
use Rattle.cert.specs.declared.verdict.Reason.TheVariants.{Symbol as NotCertified}
use Rattle.certificate.specs.Certificate.{Certificate}
use Rattle.cert.specs.Tallying.{AreTallied, IsAtLast, IsRefusedAt, IsUnpassed, Says, Tallied, judge_by}
use Rattle.cert.specs.Scan.{AreGroupsOf, IsPut, with_carrier}
use Rattle.cert.specs.Verdict.{uncertified, reception_to, reason_at, first_reason}
use Rattle.cert.proofs.Bridge.{group_more}
use Rattle.cert.proofs.CarrierPlaces.{places_passed, places_with}

-- ---- one datagram more, to any judge who knows the FTI

module _ {R : Type 0} (judge : Judge R) (known : Scope) (f : Fti) (ds : List (List ℕ)) (old : Scope) (fti_known : old.fti ≡ Some f)
    (clean : (reception_with judge known (readings_of ds)).wrong ≡ None) (holds : (reception_with judge known (readings_of ds)).scope ≡ old)
    (d : List ℕ) (new : Scope) (answer : Result Look PacketFault) (at : IsLook d old new answer) where
  pub readings_more : readings_of (ds ++ d ∷ []) ≡ readings_of ds ++ at.reading ∷ []
  readings_more = map-append read_of ds (d ∷ []) ∙ ap (λ (r : Reading). readings_of ds ++ r ∷ []) (exact d at.reading at.reads)

  -- it stands behind those that were looked at
  walked : Walked judge known (ds ++ d ∷ []) (length ds) old
  walked =
      let is : (reception_with judge known (readings_of ds)).scope.fti ≡ Some f = ap (λ (s : Scope). s.fti) holds ∙ fti_known in
      subst (λ (s : Scope). Walked judge known (ds ++ d ∷ []) (length ds) s) holds
      (one_behind judge known ds d clean (subst (λ (o : Option Fti). Timely o (symbols (counted known.identity (readings_of ds)))) (sym is) tt))

  inside : length ds < length (ds ++ d ∷ [])
  inside = omega (arith, length-append ds (d ∷ []))

  here : d ≡ get_or (ds ++ d ∷ []) (length ds) []
  here = sym (get_or-append_seam ds d [] [])

  -- what came before it
  abbrev pub earlier : List Symbol
  earlier = came_before known.identity (ds ++ d ∷ []) (length ds)

  pub wrong_now : (w : Wrong R) → wrong_by judge earlier (looked answer) ≡ Some w → (reception_with judge known (readings_of (ds ++ d ∷ []))).wrong ≡ Some (length ds, w)
  wrong_now w is = stops judge known (ds ++ d ∷ []) (length ds) old walked d new answer inside here at w is

  pub clean_now : wrong_by judge earlier (looked answer) ≡ None
      → ((reception_with judge known (readings_of (ds ++ d ∷ []))).wrong ≡ None) × ((reception_with judge known (readings_of (ds ++ d ∷ []))).scope ≡ new)
  clean_now is =
      let may = may_pass d old new (last known (ds ++ d ∷ [])) answer at f fti_known in
      ends judge known (ds ++ d ∷ []) (length ds + 1) new (goes_on judge known (ds ++ d ∷ []) (length ds) old walked d new answer inside here at may is)
      (omega (arith, length-append ds (d ∷ [])))

-- ---- to a check

-- one symbol more came
one_more : (xs : List Placed) (x : Placed) (s : Symbol) → symbols_in x.reading ≡ s ∷ [] → length (symbols (xs ++ x ∷ [])) ≡ length (symbols xs) + 1
one_more xs x s is =
    let all = ap (λ (ss : List Symbol). length ss) (symbols_more xs (x ∷ [])) in
    let parts = length-append (symbols xs) (symbols_in x.reading ++ []) in
    let last = length-append (symbols_in x.reading) [] in
    let one = ap (λ (ss : List Symbol). length ss) is in
    omega (arith, all, parts, last, one)

module _ (says : Says) (f : Fti) (t : Tallied) (ds : List (List ℕ)) (are : AreTallied says f t ds) where
  abbrev who : Identity
  who = t.scope.identity

  -- the FTI holds
  pub fti_holds : t.scope.fti ≡ Some f
  fti_holds = sym (ap (λ (s : Scope). s.fti) are.holds) ∙ ap (λ (s : Scope). s.fti) (stays who f (counted who (readings_of ds)))

  -- what counts is in range
  pub all_sound : AllByRecursion (λ x. IsSoundReading (IsFaultless f) x.reading) (counted who (readings_of ds))
  all_sound = clean_sound (judge_by says) (with_fti who f) (readings_of ds) f (record { clean = are.clean; some = ap (λ (s : Scope). s.fti) are.holds ∙ fti_holds })

  -- the tally with one datagram more
  abbrev one_tallied : ℕ → List Group → List ℕ → Tallied
  one_tallied many after with = record { scope = t.scope; count = t.count + 1; taken = many; groups = after; carriers = with }

  module _ (d : List ℕ) (answer : Result Look PacketFault) (at : IsLook d t.scope t.scope answer) where
    one_longer : length (ds ++ d ∷ []) ≡ t.count + 1
    one_longer = let l = length-append ds (d ∷ []) in let m = are.many in omega (arith, l, m)

    at_last : (w : Wrong ℕ) → IsAtLast (ds ++ d ∷ []) (reason_at t.count w)
    at_last (Faulty (fault.NoPacket r)) = one_longer
    at_last (Faulty fault.OtherFti) = one_longer
    at_last (Faulty fault.SymbolLength) = one_longer
    at_last (Faulty fault.Range) = one_longer
    at_last (Judged c) = one_longer

    -- something is wrong with the next datagram
    pub refuses : (w : Wrong ℕ) → wrong_by (judge_by says) (came_before who (ds ++ d ∷ []) (length ds)) (looked answer) ≡ Some w
        → IsUnpassed says f who (ds ++ d ∷ []) (reason_at t.count w)
    refuses w is = (
      ap (λ (found : Found ℕ). option_map (λ x. reason_at x.0 x.1) found)
          (wrong_now (judge_by says) (with_fti who f) f ds t.scope fti_holds are.clean are.holds d t.scope answer at w is ∙ ap (λ (n : ℕ). Some (n, w)) are.many),
      at_last w,
    )

    -- the readings, and the next behind them
    one_reading : readings_of (ds ++ d ∷ []) ≡ readings_of ds ++ at.reading ∷ []
    one_reading = readings_more (judge_by says) (with_fti who f) f ds t.scope fti_holds are.clean are.holds d t.scope answer at

    place : length (readings_of ds) ≡ t.count
    place = length-map ds read_of ∙ are.many

    -- the readings that count, and the next where it does
    counted_is : counted who (readings_of (ds ++ d ∷ [])) ≡ counted who (readings_of ds) ++ placed_at who t.count at.reading
    counted_is =
        ap (λ (rs : List Reading). counted who rs) one_reading
        ∙ counted_one_more who (readings_of ds) at.reading
        ∙ ap (λ (n : ℕ). counted who (readings_of ds) ++ placed_at who n at.reading) place

    -- nothing is wrong with it
    next : (after : List Group) (with : List ℕ) (many : ℕ) → wrong_by (judge_by says) (came_before who (ds ++ d ∷ []) (length ds)) (looked answer) ≡ None
        → length (symbols (counted who (readings_of (ds ++ d ∷ [])))) ≡ many → AreGroupsOf f (counted who (readings_of (ds ++ d ∷ []))) after
        → with ≡ places_from (is_carrier who) 0 (readings_of (ds ++ d ∷ [])) → AreTallied says f (one_tallied many after with) (ds ++ d ∷ [])
    next after with many none is groups placed =
        let w = clean_now (judge_by says) (with_fti who f) f ds t.scope fti_holds are.clean are.holds d t.scope answer at none in
        record { clean = w.0; holds = w.1; many = one_longer; counts = is; grouped = groups; placed = placed }

  -- a packet of another identity is passed over
  pub passes_over : (d : List ℕ) → IsLook d t.scope t.scope (Ok look_at.Other) → AreTallied says f (one_tallied t.taken t.groups t.carriers) (ds ++ d ∷ [])
  passes_over d at =
      let other : counts who at.reading ≡ false = passed_counts d t.scope t.scope at in
      let same : counted who (readings_of (ds ++ d ∷ [])) ≡ counted who (readings_of ds) =
      counted_is d (Ok look_at.Other) at
      ∙ ap (λ (v : Bool). counted who (readings_of ds) ++ cond v (record { place = t.count; reading = at.reading } ∷ []) []) other
      ∙ append-nil (counted who (readings_of ds)) in
      next d (Ok look_at.Other) at t.groups t.carriers t.taken refl
      (ap (λ (xs : List Placed). length (symbols xs)) same ∙ are.counts)
      (subst (λ (xs : List Placed). AreGroupsOf f xs t.groups) (sym same) are.grouped)
      (are.placed
      ∙ sym (ap (λ (rs : List Reading). places_from (is_carrier who) 0 rs) (one_reading d (Ok look_at.Other) at) ∙ places_passed who (readings_of ds) at.reading other))

  -- a fault of the next datagram is the reason against it
  pub refuses_fault : (d : List ℕ) (r : Reason) → IsRefusedAt d t.scope t.count r → IsUnpassed says f who (ds ++ d ∷ []) r
  refuses_fault d r h =
      rw h.reason_is
      (refuses d h.answer h.is (Faulty h.fault) (ap (λ (a : Result Seen PlaceFault). wrong_by (judge_by says) (came_before who (ds ++ d ∷ []) (length ds)) a) h.told))

  module _ (d : List ℕ) (p : ReadPacket) (at : IsLook d t.scope t.scope (Ok (look_at.InRange p))) where
    pub packet_in_range : in_range (packet_of p) f ≡ true
    packet_in_range = (faultless_look d t.scope t.scope p at f (fti_after d t.scope t.scope (Ok (look_at.InRange p)) at f fti_holds)).range

    pub symbol_long : length p.symbol.now ≡ f.symbol_length
    symbol_long = length_look d t.scope t.scope p at f (fti_after d t.scope t.scope (Ok (look_at.InRange p)) at f fti_holds)

    pub block_there : (packet_of p).block < length t.groups
    block_there =
        let l = ltb-true (packet_of p).block (block_count f) (both _ _ packet_in_range).0 in
        let g = are.grouped.count in
        omega (arith, l, g)

    mine : counts who at.reading ≡ true
    mine = packet_counts d t.scope t.scope p at

    -- its place is a carrier's where it carries an FTI
    carriers_more : places_from (is_carrier who) 0 (readings_of (ds ++ d ∷ [])) ≡ with_carrier t.carriers t.count (packet_of p).fti
    carriers_more =
        let is : at.reading ≡ Ok (packet_of p) = is_packet d t.scope t.scope p at in
        ap (λ (rs : List Reading). places_from (is_carrier who) 0 rs) (one_reading d (Ok (look_at.InRange p)) at)
        ∙ ap (λ (r : Reading). places_from (is_carrier who) 0 (readings_of ds ++ r ∷ [])) is
        ∙ places_with who (readings_of ds) (packet_of p) (subst (λ (r : Reading). counts who r ≡ true) is mine)
        ∙ ap (λ (n : ℕ). with_carrier (places_from (is_carrier who) 0 (readings_of ds)) n (packet_of p).fti) (place d (Ok (look_at.InRange p)) at)
        ∙ ap (λ (ps : List ℕ). with_carrier ps t.count (packet_of p).fti) (sym are.placed)

    -- the next datagram has no reason against it
    pub passes : (after : List Group) (with : List ℕ) → says (symbol_of (packet_of p)) ≡ None → IsPut t.groups t.count (symbol_of (packet_of p)) after
        → with ≡ with_carrier t.carriers t.count (packet_of p).fti → AreTallied says f (one_tallied (t.taken + 1) after with) (ds ++ d ∷ [])
    passes after with says put placed =
        let x : Placed = record { place = t.count; reading = at.reading } in
        let is : symbols_in at.reading ≡ symbol_of (packet_of p) ∷ [] = ap symbols_in (is_packet d t.scope t.scope p at) in
        let more : counted who (readings_of (ds ++ d ∷ [])) ≡ counted who (readings_of ds) ++ x ∷ [] =
        counted_is d (Ok (look_at.InRange p)) at ∙ ap (λ (v : Bool). counted who (readings_of ds) ++ cond v (x ∷ []) []) mine in
        next d (Ok (look_at.InRange p)) at after with (t.taken + 1) (ap (λ (o : Option ℕ). judged o) says)
        (ap (λ (xs : List Placed). length (symbols xs)) more ∙ one_more (counted who (readings_of ds)) x (symbol_of (packet_of p)) is ∙ ap (λ (n : ℕ). n + 1) are.counts)
        (subst (λ (xs : List Placed). AreGroupsOf f xs after) (sym more)
        (group_more f (counted who (readings_of ds)) t.count (symbol_of (packet_of p)) at.reading is t.groups after are.grouped put))
        (placed ∙ sym carriers_more)

    -- it has one, since its symbol isn't the certified one
    pub refuses_symbol : (c : ℕ) → says (symbol_of (packet_of p)) ≡ Some c → IsUnpassed says f who (ds ++ d ∷ []) (NotCertified t.count c)
    refuses_symbol c h = refuses d (Ok (look_at.InRange p)) at (Judged c) (ap (λ (o : Option ℕ). judged o) h)

-- ---- what is told of a beginning

found_at : (found : Found ℕ) (r : Reason) → option_map (λ x. reason_at x.0 x.1) found ≡ Some r → (x : ℕ × Wrong ℕ) × (found ≡ Some x) × (reason_at x.0 x.1 ≡ r)
found_at None r h = absurd (cc)
found_at (Some x) r h = (x, refl, let e : reason_at x.0 x.1 ≡ r = cc in e)

-- a reason at a place stays, whatever follows
pub reason_stays : (who : Identity) (z : Certificate) (ds rest : List (List ℕ)) (r : Reason) → first_reason who z (readings_of ds) ≡ Some r → first_reason who z (readings_of (ds ++ rest)) ≡ Some r
reason_stays who z ds rest r h =
    let w = found_at (reception_to who z (readings_of ds)).wrong r h in
    let still : (reception_to who z (readings_of ds ++ readings_of rest)).wrong ≡ Some w.0 =
    stays_wrong (uncertified z) who z.fti (readings_of ds) (readings_of rest) w.0 w.1 in
    ap (λ (rs : List Reading). first_reason who z rs) (map-append read_of ds rest)
    ∙ ap (λ (found : Found ℕ). option_map (λ x. reason_at x.0 x.1) found) still ∙ ap (λ (s : Reason). Some s) w.2
