-- The members of a block's group, and the datagrams that stand at their places.
use Rattle.std.proofs.Common.{◌≡◌, ℕ, zero, suc, ◌+◌, ◌<◌, Bool, true, false, cond, List, [], ◌∷◌, ◌++◌, Option, Ok, Err, length, take, drop, get_or, refl, sym, ap, subst, ◌∙◌, arith, append_assoc}
use Rattle.std.specs.Prelude.{◌==◌, if◌then◌else◌}
use Rattle.std.specs.List.{AllByRecursion}
use Rattle.std.proofs.Math.Seq.{get_or-append_seam}
use Rattle.std.proofs.lemmas.Bool.{eqb-true, eq-eqb, ltb-true}
use Rattle.std.proofs.lemmas.List.{length-append, length-map, length-take-le, map-append, take-append-drop, take_more}
use Rattle.lists.proofs.Lists.{all_both, both}
use Rattle.losses.specs.declared.groups.Member.{Member}
use Rattle.losses.specs.Groups.{group_at}
use Rattle.losses.specs.Windows.{member}
use Rattle.partition.specs.Fti.{Fti, block_count}
use Rattle.alc.specs.Packet.{Packet}
use Rattle.alc.specs.Reading.{Reading}
use Rattle.alc.specs.Computed.{read_of}
use Rattle.reception.specs.declared.scope.Identity.{Identity}
use Rattle.reception.specs.declared.scope.Scope.{Scope}
use Rattle.reception.specs.Reception.{PlaceFault}
use Rattle.reception.specs.Reception.{Placed, Other, InRange, counts, counted_from, counted, symbols_in, look, look_by, with_fti}
use Rattle.reception.specs.Walks.{readings_of, or_packet}
use Rattle.reception.proofs.Walk.{counted_more, each_counts}
use Rattle.reception.proofs.Within.{IsFaultless, IsSoundReading, clean_sound, faultless, no_fault}
use Rattle.cert.specs.Scan.{members_at, members_of}
use Rattle.cert.specs.Tallying.{AreTallied, IsPacketOf, SaysNothing, Says, Tallied, judge_by, nothing, reading_at}
use Rattle.cert.proofs.Bridge.{members_more}
use Rattle.cert.proofs.DatagramSteps.{fti_holds}
use Rattle.cert.proofs.Judged.{all_counted, known_packet}

-- a member at an index
abbrev pub nth_member : List Member → ℕ → Member
nth_member ms k = get_or ms k (member 0 0)

-- ---- a member is a packet that counts

record IsMemberOf (P : Placed → Type 0) (b : ℕ) (m : Member) : Type 0 where
  pub placed : Placed
  pub packet : Packet
  pub holds : P placed
  pub is : placed.reading ≡ Ok packet
  pub block : packet.block ≡ b
  pub place : m.place ≡ placed.place
  pub esi : m.esi ≡ packet.esi

module _ (P : Placed → Type 0) (b : ℕ) where
  -- those of one that counts, before others
  member_here : (x : Placed) (r : Reading) → x.reading ≡ r → P x → (ms : List Member) → ((k : ℕ) → k < length ms → IsMemberOf P b (nth_member ms k))
      → (k : ℕ) → k < length (members_at b x.place (symbols_in r) ++ ms) → IsMemberOf P b (nth_member (members_at b x.place (symbols_in r) ++ ms) k)
  member_here x (Err e) is h ms later k l = later k l
  member_here x (Ok p) is h ms later k l = here (p.block == b) refl k l
    where
      here : (v : Bool) → (p.block == b) ≡ v → (n : ℕ) → n < length (cond v (member x.place p.esi ∷ []) [] ++ ms) → IsMemberOf P b (nth_member (cond v (member x.place p.esi ∷ []) [] ++ ms) n)
      here false e n m = later n m
      here true e zero m = record { placed = x; packet = p; holds = h; is = is; block = eqb-true p.block b e; place = refl; esi = refl }
      here true e (suc n) m = later n (omega (arith, m))

  member_from : (xs : List Placed) → AllByRecursion P xs → (k : ℕ) → k < length (members_of b xs) → IsMemberOf P b (nth_member (members_of b xs) k)
  member_from [] h k l = absurd (omega (arith, l))
  member_from (x ∷ xs) h k l = member_here x x.reading refl h.0 (members_of b xs) (λ n m. member_from xs h.1 n m) k l

module _ (f : Fti) (t : Tallied) (ds : List (List ℕ)) (are : AreTallied nothing f t ds) where
  abbrev who : Identity
  who = t.scope.identity

  -- what is known of each datagram that counts
  abbrev IsKnown : Placed → Type 0
  IsKnown x = ((x.place < length ds) × (x.reading ≡ reading_at ds x.place)) × ((counts who x.reading ≡ true) × IsSoundReading (IsFaultless f) x.reading)

  stands : AllByRecursion (λ x. (x.place < length ds) × (x.reading ≡ reading_at ds x.place)) (counted who (readings_of ds))
  stands =
      all_counted (λ x. (x.place < length ds) × (x.reading ≡ reading_at ds x.place)) who 0 ds
      (λ k n l e. (let same : k ≡ n = omega (arith, e) in (omega (arith, l, e), ap (λ (i : ℕ). reading_at ds i) same)))

  all_known : AllByRecursion IsKnown (counted who (readings_of ds))
  all_known =
      all_both _ _ (counted who (readings_of ds)) stands
      (all_both _ _ (counted who (readings_of ds)) (each_counts who 0 (readings_of ds))
      (clean_sound (judge_by nothing) (with_fti who f) (readings_of ds) f (record { clean = are.clean; some = ap (λ (s : Scope). s.fti) are.holds ∙ fti_holds nothing f t ds are })))

  -- a packet of the identity that has no fault is in range
  in_range_look : (p : Packet) → counts who (Ok p) ≡ true → IsFaultless f p → look t.scope (Ok p) ≡ Ok (InRange p)
  in_range_look p mine sound =
      ap (λ (v : Bool). if v then look_by t.scope.fti p else Ok Other) mine
      ∙ ap (λ (o : Option Fti). look_by o p) (fti_holds nothing f t ds are)
      ∙ ap (λ (o : Option PlaceFault). or_packet p o) (no_fault f p sound)

  -- at the place of a member stands a packet of the block, with the member's ESI
  pub member_is : (b : ℕ) → b < block_count f → (k : ℕ) → k < length (group_at t.groups b).members
      → let m : Member = nth_member (group_at t.groups b).members k in (m.place < length ds) × IsPacketOf t.scope b m.esi (reading_at ds m.place)
  member_is b within k l =
      let same = are.grouped.members b within in
      subst (λ (ms : List Member). k < length ms → (nth_member ms k).place < length ds × IsPacketOf t.scope b (nth_member ms k).esi (reading_at ds (nth_member ms k).place)) (sym same)
      (λ inside.
      (let w = member_from IsKnown b (counted who (readings_of ds)) all_known k inside in
      let m : Member = nth_member (members_of b (counted who (readings_of ds))) k in
      let read : reading_at ds m.place ≡ Ok w.packet = ap (λ (i : ℕ). reading_at ds i) w.place ∙ sym w.holds.0.1 ∙ w.is in
      let mine : counts who (Ok w.packet) ≡ true = ap (λ (r : Reading). counts who r) (sym w.is) ∙ w.holds.1.0 in
      let sound : IsFaultless f w.packet = subst (λ (r : Reading). IsSoundReading (IsFaultless f) r) w.is w.holds.1.1 in (
        (let p = w.holds.0.0 in let e = w.place in omega (arith, p, e)),
        record { packet = w.packet; look = ap (λ (r : Reading). look t.scope r) read ∙ in_range_look w.packet mine sound; block = w.block; esi = sym w.esi },
      )))
      l

  -- a packet in range is a member of its block
  pub is_member : (i : ℕ) → i < length ds → (packet : Packet) → look t.scope (reading_at ds i) ≡ Ok (InRange packet)
      → (packet.block < block_count f)
      × ((k : ℕ) × (k < length (group_at t.groups packet.block).members) × (nth_member (group_at t.groups packet.block).members k ≡ record { place = i; esi = packet.esi }))
  is_member i inside packet range =
      let r : Reading = reading_at ds i in
      let known = known_packet t.scope r packet range in
      let sound : IsFaultless f packet = faultless f packet (known.faultless f (fti_holds nothing f t ds are)) in
      let within : packet.block < block_count f = ltb-true packet.block (block_count f) (both _ _ sound.range).0 in
      let b : ℕ = packet.block in
      let front : List Placed = counted who (readings_of (take i ds)) in
      let long : length (readings_of (take i ds)) ≡ i = length-map (take i ds) read_of ∙ length-take-le i ds (omega (arith, inside)) in
      let behind : List Placed = counted_from who (i + 1) (readings_of (drop (i + 1) ds)) in
      let x : Placed = record { place = i; reading = r } in
      let m : Member = member i packet.esi in
      let mine : counts who r ≡ true = ap (λ (y : Reading). counts who y) known.is ∙ known.mine in
      let split : readings_of ds ≡ readings_of (take i ds) ++ r ∷ readings_of (drop (i + 1) ds) = parts i inside in
      let all : counted who (readings_of ds) ≡ front ++ x ∷ behind =
      ap (λ (rs : List Reading). counted who rs) split
      ∙ counted_more who 0 (readings_of (take i ds)) (r ∷ readings_of (drop (i + 1) ds))
      ∙ ap (λ (n : ℕ). front ++ counted_from who n (r ∷ readings_of (drop (i + 1) ds))) (let e : 0 + length (readings_of (take i ds)) ≡ i = omega (arith, long) in e)
      ∙ ap (λ (v : Bool). front ++ (cond v (x ∷ []) [] ++ behind)) mine in
      let ms : (group_at t.groups b).members ≡ members_of b front ++ m ∷ members_of b behind =
      are.grouped.members b within ∙ ap (λ (xs : List Placed). members_of b xs) all ∙ members_more b front (x ∷ behind)
      ∙ ap (λ (y : Reading). members_of b front ++ (members_at b i (symbols_in y) ++ members_of b behind)) known.is
      ∙ ap (λ (v : Bool). members_of b front ++ (cond v (m ∷ []) [] ++ members_of b behind)) (eq-eqb b b refl) in
      let size = length-append (members_of b front) (m ∷ members_of b behind) in
      let count = ap (λ (qs : List Member). length qs) ms in (
        within,
        (
          length (members_of b front),
          omega (arith, size, count),
          ap (λ (qs : List Member). nth_member qs (length (members_of b front))) ms ∙ get_or-append_seam (members_of b front) m (members_of b behind) (member 0 0),
        ),
      )
    where
      parts : (n : ℕ) → n < length ds → readings_of ds ≡ readings_of (take n ds) ++ reading_at ds n ∷ readings_of (drop (n + 1) ds)
      parts n l =
          ap (λ (x : List (List ℕ)). readings_of x) (sym (take-append-drop (n + 1) ds) ∙ ap (λ (x : List (List ℕ)). x ++ drop (n + 1) ds) (take_more ds n [] l))
          ∙ map-append read_of (take n ds ++ get_or ds n [] ∷ []) (drop (n + 1) ds)
          ∙ ap (λ (rs : List Reading). rs ++ readings_of (drop (n + 1) ds)) (map-append read_of (take n ds) (get_or ds n [] ∷ []))
          ∙ append_assoc (readings_of (take n ds)) (reading_at ds n ∷ []) (readings_of (drop (n + 1) ds))

  -- where nothing is said of the members before a place, nothing is of the datagrams before it
  pub said_by_blocks : (says : Says) (n : ℕ)
      → ((b : ℕ) → b < block_count f → (k : ℕ) → k < length (group_at t.groups b).members → (nth_member (group_at t.groups b).members k).place < n
      → SaysNothing says t.scope (reading_at ds (nth_member (group_at t.groups b).members k).place))
      → (i : ℕ) → i < n → i < length ds → SaysNothing says t.scope (reading_at ds i)
  said_by_blocks says n h i before inside packet range =
      let w = is_member i inside packet range in
      let k : ℕ = w.1.0 in
      let here : (nth_member (group_at t.groups packet.block).members k).place ≡ i = ap (λ (q : Member). q.place) w.1.2 in
      subst (λ (j : ℕ). SaysNothing says t.scope (reading_at ds j)) here (h packet.block w.0 k w.1.1 (omega (arith, here, before))) packet range
