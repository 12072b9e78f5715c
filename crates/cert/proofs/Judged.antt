-- Datagrams that are clean where nothing is asked of symbols, to one who says something of them.
use Rattle.std.proofs.Common.{◌≡◌, ℕ, zero, suc, ◌+◌, ◌<◌, ◌≤◌, Bool, true, false, cond, List, [], ◌∷◌, ◌++◌, Option, Some, None, Result, Ok, Err, length, take, drop, get_or, refl, sym, ap, subst, ◌∙◌, arith}
use Rattle.std.specs.Prelude.{option_map, if◌then◌else◌}
use Rattle.std.specs.Option.{option_or}
use Rattle.std.specs.List.{AllByRecursion}
use Rattle.std.proofs.lemmas.List.{get_or-take, length-map, length-take-le, map-append, take-append-drop, take_more}
use Rattle.partition.specs.Fti.{Fti}
use Rattle.alc.specs.Packet.{Packet}
use Rattle.alc.specs.Reading.{Reading}
use Rattle.alc.specs.Computed.{read_of}
use Rattle.reception.specs.declared.scope.Identity.{Identity}
use Rattle.reception.specs.declared.scope.Scope.{Scope}
use Rattle.reception.specs.Reception.{PlaceFault}
use Rattle.reception.specs.Symbols.{Symbol}
use Rattle.reception.specs.Reception.{Judged, Placed, Seen, Other, Early, InRange, is_of_identity, counts, placed_at, counted_from, counted, symbols, symbols_in, symbol_of, look, look_by, packet_fault, wrong_by, reading_wrong, wrong_after, with_fti}
use Rattle.reception.specs.Walks.{readings_of, at_place, judged, or_packet, Found}
use Rattle.reception.proofs.Walk.{counted_more, counted_one_more, wrong_more}
use Rattle.reception.proofs.Stepping.{stays}
use Rattle.reception.proofs.Within.{neither}
use Rattle.cert.specs.declared.verdict.Reason.TheVariants.{Symbol as NotCertified}
use Rattle.cert.specs.Tallying.{AreTallied, SaysNothing, Says, Tallied, first_reason_by, judge_by, nothing, reading_at}
use Rattle.cert.specs.Verdict.{reason_at}

-- ---- one to whom nothing is to be said finds the same

says_nothing : (says : Says) (scope : Scope) (e : List Symbol) (r : Reading) → SaysNothing says scope r → reading_wrong (judge_by says) scope e r ≡ reading_wrong (judge_by nothing) scope e r
says_nothing says scope e r h = by (look scope r) refl
  where
    by : (a : Result Seen PlaceFault) → look scope r ≡ a → wrong_by (judge_by says) e a ≡ wrong_by (judge_by nothing) e a
    by (Err x) is = refl
    by (Ok Other) is = refl
    by (Ok Early) is = refl
    by (Ok (InRange p)) is = ap (λ (o : Option ℕ). judged o) (h p is)

pub same_wrong : (says : Says) (scope : Scope) (e : List Symbol) (xs : List Placed) → AllByRecursion (λ x. SaysNothing says scope x.reading) xs
    → wrong_after (judge_by says) scope e xs ≡ wrong_after (judge_by nothing) scope e xs
same_wrong says scope e [] h = refl
same_wrong says scope e (x ∷ xs) h =
    ap (λ o. option_or (at_place x.place o) (wrong_after (judge_by says) scope (e ++ symbols_in x.reading) xs)) (says_nothing says scope e x.reading h.0)
    ∙ ap (λ (o : Found ℕ). option_or (at_place x.place (reading_wrong (judge_by nothing) scope e x.reading)) o) (same_wrong says scope (e ++ symbols_in x.reading) xs h.1)

-- what holds of each datagram and its place holds of those that count
pub all_counted : (P : Placed → Type 0) (who : Identity) (i : ℕ) (ds : List (List ℕ)) → ((k n : ℕ) → k < length ds → n ≡ i + k → P (record { place = n; reading = reading_at ds k }))
    → AllByRecursion P (counted_from who i (readings_of ds))
all_counted P who i [] h = tt
all_counted P who i (d ∷ ds) h =
    let here : P (record { place = i; reading = read_of d }) = h zero i (omega arith) (omega arith) in
    let later : AllByRecursion P (counted_from who (i + 1) (readings_of ds)) =
    all_counted P who (i + 1) ds (λ k n l e. h (suc k) n (omega (arith, l)) (omega (arith, e))) in
    elim (counts who (read_of d)) as (λ v. AllByRecursion P (cond v (record { place = i; reading = read_of d } ∷ []) [] ++ counted_from who (i + 1) (readings_of ds))) [
      | true ↦ (here, later)
      | false ↦ later
    ]

-- ---- a packet in range is what was read, and of the identity

by_fault : (q : Packet) (o : Option PlaceFault) (p : Packet) → or_packet q o ≡ Ok (InRange p) → (q ≡ p) × (o ≡ None)
by_fault q None p h = (let e : q ≡ p = cc in e, refl)
by_fault q (Some x) p h = absurd (cc)

by_fti : (q : Packet) (o : Option Fti) (p : Packet) → look_by o q ≡ Ok (InRange p) → (q ≡ p) × ((f : Fti) → o ≡ Some f → packet_fault f q ≡ None)
by_fti q (Some g) p h =
    let w = by_fault q (packet_fault g q) p h in
    (w.0, λ f e. (let same : g ≡ f = cc in subst (λ (x : Fti). packet_fault x q ≡ None) same w.1))
by_fti q None p h = absurd (cc)

-- by any FTI that is known it is without a fault
pub record IsKnownPacket (scope : Scope) (r : Reading) (p : Packet) : Type 0 where
  pub is : r ≡ Ok p
  pub mine : is_of_identity scope.identity p ≡ true
  pub faultless : (f : Fti) → scope.fti ≡ Some f → packet_fault f p ≡ None

pub known_packet : (scope : Scope) (r : Reading) (p : Packet) → look scope r ≡ Ok (InRange p) → IsKnownPacket scope r p
known_packet scope (Err e) p h = absurd (cc)
known_packet scope (Ok q) p h = by (is_of_identity scope.identity q) refl h
  where
    by : (v : Bool) → is_of_identity scope.identity q ≡ v → (if v then look_by scope.fti q else Ok Other) ≡ Ok (InRange p) → IsKnownPacket scope (Ok q) p
    by true mine k =
        let w = by_fti q scope.fti p k in
        subst (λ (x : Packet). IsKnownPacket scope (Ok q) x) w.0 (record { is = refl; mine = mine; faultless = w.1 })
    by false mine k = absurd (cc)

module _ (says : Says) (f : Fti) (t : Tallied) (ds : List (List ℕ)) (are : AreTallied nothing f t ds) where
  abbrev who : Identity
  who = t.scope.identity

  -- what is known from the start holds
  pub scope_is : with_fti who f ≡ t.scope
  scope_is = sym (stays who f (counted who (readings_of ds))) ∙ are.holds

  pub all_passed : ((i : ℕ) → i < length ds → SaysNothing says t.scope (reading_at ds i)) → AreTallied says f t ds
  all_passed h =
      let xs : List Placed = counted who (readings_of ds) in
      let none : AllByRecursion (λ x. SaysNothing says t.scope x.reading) xs = all_counted (λ x. SaysNothing says t.scope x.reading) who 0 ds (λ k n l e. h k l) in
      record {
        clean =
            ap (λ (s : Scope). wrong_after (judge_by says) s [] xs) are.holds ∙ same_wrong says t.scope [] xs none
            ∙ sym (ap (λ (s : Scope). wrong_after (judge_by nothing) s [] xs) are.holds) ∙ are.clean;
        holds = are.holds;
        many = are.many;
        counts = are.counts;
        grouped = are.grouped;
        placed = are.placed;
      }

  abbrev said_wrong : List Placed → Found ℕ
  said_wrong xs = wrong_after (judge_by says) t.scope [] xs

  -- the first n of them
  module _ (n : ℕ) (l : n ≤ length ds) (h : (i : ℕ) → i < n → SaysNothing says t.scope (reading_at ds i)) where
    abbrev front : List Placed
    front = counted who (readings_of (take n ds))

    halves : readings_of ds ≡ readings_of (take n ds) ++ readings_of (drop n ds)
    halves = ap (λ (x : List (List ℕ)). readings_of x) (sym (take-append-drop n ds)) ∙ map-append read_of (take n ds) (drop n ds)

    -- nothing is wrong with them where nothing is asked
    front_clean : wrong_after (judge_by nothing) t.scope [] front ≡ None
    front_clean =
        let behind : List Placed = counted_from who (0 + length (readings_of (take n ds))) (readings_of (drop n ds)) in
        let parts : counted who (readings_of ds) ≡ front ++ behind =
        ap (λ (rs : List Reading). counted who rs) halves ∙ counted_more who 0 (readings_of (take n ds)) (readings_of (drop n ds)) in
        (neither (wrong_after (judge_by nothing) t.scope [] front) (wrong_after (judge_by nothing) t.scope ([] ++ symbols front) behind)
        (sym (wrong_more (judge_by nothing) t.scope [] front behind)
        ∙ ap (λ (xs : List Placed). wrong_after (judge_by nothing) t.scope [] xs) (sym parts)
        ∙ sym (ap (λ (s : Scope). wrong_after (judge_by nothing) s [] (counted who (readings_of ds))) are.holds) ∙ are.clean)).0

    front_none : wrong_after (judge_by says) t.scope [] front ≡ None
    front_none =
        same_wrong says t.scope [] front
        (all_counted (λ x. SaysNothing says t.scope x.reading) who 0 (take n ds)
        (λ k m lk e.
        (let inside : k < n = omega (arith, lk, length-take-le n ds l) in
        subst (λ (d : List ℕ). SaysNothing says t.scope (read_of d)) (sym (get_or-take n ds k [] inside)) (h k inside))))
        ∙ front_clean

  -- and the next has something said against its symbol
  pub first_wrong : (p c : ℕ) (packet : Packet) → p < length ds → ((i : ℕ) → i < p → SaysNothing says t.scope (reading_at ds i)) → look t.scope (reading_at ds p) ≡ Ok (InRange packet)
      → says (symbol_of packet) ≡ Some c → first_reason_by says f who (readings_of (take (p + 1) ds)) ≡ Some (NotCertified p c)
  first_wrong p c packet inside h range is =
      let r : Reading = reading_at ds p in
      let before : List Placed = front p (omega (arith, inside)) h in
      let x : Placed = record { place = p; reading = r } in
      let known = known_packet t.scope r packet range in
      let mine : counts who r ≡ true = ap (λ (y : Reading). counts who y) known.is ∙ known.mine in
      let long : length (readings_of (take p ds)) ≡ p = length-map (take p ds) read_of ∙ length-take-le p ds (omega (arith, inside)) in
      let split : readings_of (take (p + 1) ds) ≡ readings_of (take p ds) ++ r ∷ [] =
      ap (λ (y : List (List ℕ)). readings_of y) (take_more ds p [] inside) ∙ map-append read_of (take p ds) (get_or ds p [] ∷ []) in
      let all : counted who (readings_of (take (p + 1) ds)) ≡ before ++ x ∷ [] =
      ap (λ (rs : List Reading). counted who rs) split ∙ counted_one_more who (readings_of (take p ds)) r
      ∙ ap (λ (n : ℕ). before ++ placed_at who n r) long ∙ ap (λ (v : Bool). before ++ cond v (x ∷ []) []) mine in
      let wrong : said_wrong (before ++ x ∷ []) ≡ Some (p, Judged c) =
      wrong_more (judge_by says) t.scope [] before (x ∷ [])
      ∙ ap (λ (o : Found ℕ). option_or o (wrong_after (judge_by says) t.scope ([] ++ symbols before) (x ∷ []))) (front_none p (omega (arith, inside)) h)
      ∙ ap (λ (a : Result Seen PlaceFault). option_or (at_place p (wrong_by (judge_by says) ([] ++ symbols before) a)) None) range
      ∙ ap (λ (o : Option ℕ). option_or (at_place p (judged o)) None) is in
      ap (λ (found : Found ℕ). option_map (λ x. reason_at x.0 x.1) found)
      (ap (λ (s : Scope). wrong_after (judge_by says) s [] (counted who (readings_of (take (p + 1) ds)))) (stays who f (counted who (readings_of (take (p + 1) ds))) ∙ scope_is)
      ∙ ap said_wrong all ∙ wrong)
