-- Whether a datagram was a carrier: by the carriers' places, and by its packet.
use Rattle.std.proofs.Common.{◌≡◌, ◌≢◌, ◌∙◌, ℕ, zero, suc, ◌+◌, ◌<◌, ◌≤◌, inl, inr, Bool, true, false, ◌&&◌, List, [], ◌∷◌, Result, Ok, Err, length, get_or, refl, sym, ap, subst, arith}
use Rattle.std.specs.Prelude.{◌==◌, ◌||◌, is_some, MatchResult}
use Rattle.std.specs.Ordering.{nat_cmp}
use Rattle.std.specs.List.Sorted.{IsBinarySearchResult}
use Rattle.std.proofs.lemmas.Bool.{cases_lt, eqb-true, eq-eqb}
use Rattle.std.proofs.lemmas.List.{length-map, get_or-map}
use Rattle.std.proofs.lemmas.List.Folds.{list_any_at}
use Rattle.std.proofs.lemmas.List.Sorted.{searched}
use Rattle.lists.specs.Selection.{is_among}
use Rattle.losses.specs.Losses.{places_from}
use Rattle.losses.specs.Ordered.{ArePlacesFrom}
use Rattle.losses.proofs.CarrierPlaces.{are_places}
use Rattle.losses.proofs.Places.{Marks, marks_places}
use Rattle.alc.specs.Reading.{Reading}
use Rattle.alc.specs.Computed.{read_of}
use Rattle.alc.specs.Views.{packet_of}
use Rattle.alc.specs.declared.reading.Packet.{Packet as ReadPacket}
use Rattle.alc.proofs.Again.{exact}
use Rattle.reception.specs.Reception.{counts, is_carrier}
use Rattle.reception.specs.Walks.{readings_of}
use Rattle.reception.specs.Step.{IsLook}
use Rattle.reception.specs.declared.scope.Identity.{Identity}
use Rattle.reception.specs.declared.scope.Scope.{Scope}
use Rattle.reception.specs.declared.scope.Look.TheVariants as look_at
use Rattle.reception.proofs.Walking.{is_packet, packet_counts}
use Rattle.cert.specs.Tallying.{reading_at}

-- ---- by the places

-- the places that are marked are just those of the members that pass
marked_at : {X : Type 0} (g : X → Bool) (marks : ℕ → Bool) (i : ℕ) (xs : List X) (d : X) → Marks g marks i xs → (k : ℕ) → k < length xs → marks (i + k) ≡ g (get_or xs k d)
marked_at g marks i [] d h k l = absurd (omega (arith, l))
marked_at g marks i (x ∷ xs) d h zero l = let e : i + 0 ≡ i = omega arith in ap marks e ∙ h.0
marked_at g marks i (x ∷ xs) d h (suc k) l =
    let e : i + suc k ≡ i + 1 + k = omega arith in
    ap marks e ∙ marked_at g marks (i + 1) xs d h.1 k (omega (arith, l))

above : (i n : ℕ) (ps : List ℕ) → ArePlacesFrom i n ps → (k : ℕ) → k < length ps → i ≤ get_or ps k 0
above i n [] h k l = absurd (omega (arith, l))
above i n (p ∷ ps) h zero l = h.0
above i n (p ∷ ps) h (suc k) l = let a = above (p + 1) n ps h.2 k (omega (arith, l)) in let b = h.0 in omega (arith, a, b)

rising : (i n : ℕ) (ps : List ℕ) → ArePlacesFrom i n ps → (j k : ℕ) → j ≤ k → k < length ps → get_or ps j 0 ≤ get_or ps k 0
rising i n [] h j k le l = absurd (omega (arith, l))
rising i n (p ∷ ps) h zero zero le l = omega arith
rising i n (p ∷ ps) h zero (suc k) le l = let a = above (p + 1) n ps h.2 k (omega (arith, l)) in omega (arith, a)
rising i n (p ∷ ps) h (suc j) zero le l = absurd (omega (arith, le))
rising i n (p ∷ ps) h (suc j) (suc k) le l = rising (p + 1) n ps h.2 j k (omega (arith, le)) (omega (arith, l))

none_among : (ps : List ℕ) (p : ℕ) → ((k : ℕ) → k < length ps → get_or ps k 0 ≢ p) → is_among ps p ≡ false
none_among [] p h = refl
none_among (q ∷ qs) p h =
    elim (q == p) as (λ v. (q == p) ≡ v → (v || is_among qs p) ≡ false) [
      | true ↦ λ e. absurd (h 0 (omega arith) (eqb-true q p e))
      | false ↦ λ e. none_among qs p (λ k l. h (suc k) (omega (arith, l)))
    ] refl

-- whether a search of rising places has found one
abbrev pub is_found : Result ℕ ℕ → Bool
is_found (Ok i) = true
is_found (Err i) = false

found : (ps : List ℕ) (p : ℕ) (r : Result ℕ ℕ)
    → MatchResult r (λ i. (i < length ps) × (get_or ps i 0 ≡ p)) (λ i. (i ≤ length ps) × ((k : ℕ) → k < i → get_or ps k 0 < p) × ((k : ℕ) → i ≤ k → k < length ps → p < get_or ps k 0))
    → is_found r ≡ is_among ps p
found ps p (Ok i) h = sym (list_any_at (λ q. q == p) ps i 0 h.0 (eq-eqb (get_or ps i 0) p h.1))
found ps p (Err i) h =
    sym (none_among ps p (λ k l e. elim (cases_lt k i) [
      | inl low ↦ (let a = h.1 k low in absurd (omega (arith, a, e)))
      | inr high ↦ (let a = h.2 k high l in absurd (omega (arith, a, e)))
    ]))

-- the place of a datagram is found among the carriers' just where it is one
pub carrier_found : (who : Identity) (ds : List (List ℕ)) (places : List ℕ) → places ≡ places_from (is_carrier who) 0 (readings_of ds) → (place : ℕ) → place < length ds
    → (r : Result ℕ ℕ) → IsBinarySearchResult (λ y. nat_cmp y place) places r → is_found r ≡ is_carrier who (reading_at ds place)
carrier_found who ds places is place l r h =
    let rs = readings_of ds in
    let long : length (readings_of ds) ≡ length ds = length-map ds read_of in
    let rise = rising 0 (length rs) (places_from (is_carrier who) 0 rs) (are_places (is_carrier who) 0 (length rs) rs (omega arith)) in
    let zero_and : 0 + place ≡ place = omega arith in
    found places place r (searched places place r h (subst (λ (ps : List ℕ). (j k : ℕ) → j ≤ k → k < length ps → get_or ps j 0 ≤ get_or ps k 0) (sym is) rise))
    ∙ ap (λ (ps : List ℕ). is_among ps place) is
    ∙ ap (is_among (places_from (is_carrier who) 0 (readings_of ds))) (sym zero_and)
    ∙ marked_at (is_carrier who) (is_among (places_from (is_carrier who) 0 rs)) 0 rs (read_of []) (marks_places (is_carrier who) 0 rs) place (omega (arith, l, long))
    ∙ ap (is_carrier who) (get_or-map read_of ds place [] (read_of []) l)

-- ---- by the packet

-- a packet in range is a carrier just where it carries an FTI
pub carrier_read : (scope : Scope) (d : List ℕ) (new : Scope) (p : ReadPacket) → IsLook d scope new (Ok (look_at.InRange p)) → is_carrier scope.identity (read_of d) ≡ is_some p.fti
carrier_read scope d new p at =
    let is : read_of d ≡ Ok (packet_of p) = exact d at.reading at.reads ∙ is_packet d scope new p at in
    let mine = subst (λ (r : Reading). counts scope.identity r ≡ true) (is_packet d scope new p at) (packet_counts d scope new p at) in
    ap (is_carrier scope.identity) is ∙ ap (λ (v : Bool). v && is_some p.fti) mine
