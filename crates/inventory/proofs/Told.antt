-- What is told of counts.
use Rattle.std.specs.Prelude.{flat_map, Contains, cond, IsSome}
use Rattle.std.specs.BTreeMap.{BTreeMap, get, IsOrdered, keys}
use Rattle.std.specs.List.{AllByRecursion}
use Rattle.std.specs.List.Sorted.{IsStrictlySortedBy}
use Rattle.std.specs.declared.cmp.Ordering.TheVariants.{Less}
use Rattle.std.proofs.Common.{◌≡◌, ◌<◌, ◌∙◌, ◌+◌, ℕ, suc, zero, Bool, List, [], ◌∷◌, ◌++◌, map, take, get_or, length, Option, Some, None, Ok, refl, sym, ap, subst, arith, append_assoc}
use Rattle.std.proofs.lemmas.List.{append-nil, map-append, take_more, length-map}
use Rattle.std.proofs.Math.ListN.{get_or-map}
use Rattle.std.proofs.lemmas.List.Concat.{flat_map-append}
use Rattle.std.proofs.lemmas.Map.Views.{tells_apart, Contains-keys_from_lookup}
use Rattle.alc.specs.Packet.{Packet}
use Rattle.alc.specs.Reading.{Reading}
use Rattle.alc.specs.declared.fault.PacketFault.{PacketFault}
use Rattle.reception.specs.declared.scope.Identity.{Identity}
use Rattle.inventory.specs.Faults.{count_of, all_faults}
use Rattle.inventory.specs.Packets.{packet_at, packets_from, packets_of}
use Rattle.inventory.specs.Parts.{identity_cmp, identities, identity_of}
use Rattle.inventory.specs.Tally.{pair_cmp}
use Rattle.inventory.specs.Tallies.{IsTallyAt}
use Rattle.inventory.specs.Tells.{named_by}
use Rattle.inventory.specs.declared.faults.TheConstants.{FAULTS}
use Rattle.inventory.specs.declared.part.FaultCount.{FaultCount}
use Rattle.inventory.specs.declared.part.Part.{Part}
use Rattle.inventory.specs.declared.tally.Tally.{Tally}
use Rattle.inventory.proofs.Pairs.{pair_exact, same_laws}

-- ---- faults

pub faults_are : all_faults ≡ FAULTS
unfolding all_faults
faults_are = refl

pub one_fault_more : (faults fs : List PacketFault) (i : ℕ) (d : PacketFault) (old new : List FaultCount) → i < length fs
    → old ≡ flat_map (count_of faults) (take i fs) → new ≡ old ++ count_of faults (get_or fs i d) → new ≡ flat_map (count_of faults) (take (i + 1) fs)
one_fault_more faults fs i d old new l before more =
    more ∙ ap (λ (t : List FaultCount). t ++ count_of faults (get_or fs i d)) before
    ∙ sym (ap (flat_map (count_of faults)) (take_more fs i d l) ∙ flat_map-append (count_of faults) (take i fs) (get_or fs i d ∷ [])
    ∙ ap (λ (t : List FaultCount). flat_map (count_of faults) (take i fs) ++ t) (append-nil (count_of faults (get_or fs i d))))

-- ---- parts

pub all_push : {X : Type 0} (P : X → Type 0) (xs : List X) (x : X) → AllByRecursion P xs → P x → AllByRecursion P (xs ++ x ∷ [])
all_push P [] x all one = (one, tt)
all_push P (y ∷ ys) x all one = (all.0, all_push P ys x all.1 one)

module _ (parts : List Part) (part : Part) (e : (ℕ × ℕ) × Tally) (rest entries : List ((ℕ × ℕ) × Tally)) where
  name : (ℕ × ℕ) × Tally → Identity
  name = λ x. named_by x.0

  pub one_named : identities parts ++ map (λ x. named_by x.0) (e ∷ rest) ≡ map (λ x. named_by x.0) entries → part.identity ≡ named_by e.0
      → identities (parts ++ part ∷ []) ++ map (λ x. named_by x.0) rest ≡ map (λ x. named_by x.0) entries
  unfolding name
  one_named before named =
      ap (λ (t : List Identity). t ++ map name rest) (map-append (λ (p : Part). p.identity) parts (part ∷ []) ∙ ap (λ (w : Identity). identities parts ++ w ∷ []) named)
      ∙ append_assoc (identities parts) (named_by e.0 ∷ []) (map name rest) ∙ before

rising_keys : (ks : List (ℕ × ℕ)) → IsStrictlySortedBy pair_cmp ks → IsStrictlySortedBy identity_cmp (map named_by ks)
unfolding IsStrictlySortedBy
rising_keys [] rises = tt
rising_keys (k ∷ ks) rises = (go ks rises.0, rising_keys ks rises.1)
  where
    go : (js : List (ℕ × ℕ)) → AllByRecursion (λ j. pair_cmp k j ≡ Less) js → AllByRecursion (λ w. identity_cmp (named_by k) w ≡ Less) (map named_by js)
    go [] all = tt
    go (j ∷ js) all = (all.0, go js all.1)

map_keys : (es : List ((ℕ × ℕ) × Tally)) → map named_by (map (λ e. e.0) es) ≡ map (λ e. named_by e.0) es
map_keys [] = refl
map_keys (e ∷ es) = ap (λ (t : List Identity). named_by e.0 ∷ t) (map_keys es)

pub rising_parts : (parts : List Part) (m : BTreeMap (ℕ × ℕ) Tally) → IsOrdered pair_cmp m → identities parts ≡ map (λ e. named_by e.0) m.entries
    → IsStrictlySortedBy identity_cmp (identities parts)
rising_parts parts m ordered are =
    subst (λ (ws : List Identity). IsStrictlySortedBy identity_cmp ws) (map_keys m.entries ∙ sym are) (rising_keys (keys m) ordered)

contains_map : (k : ℕ × ℕ) (ks : List (ℕ × ℕ)) → Contains ks k → Contains (map named_by ks) (named_by k)
contains_map k ks (i, l, is) = (
  i,
  (let count = length-map ks named_by in omega (arith, count, l)),
  get_or-map named_by ks i k ∙ ap named_by is,
)

-- a packet is among those of its identity
some_packet : (p : Packet) (place : ℕ) (rs : List Reading) → Contains rs (Ok p) → packets_from (identity_of p) place rs ≡ [] → ⊥
some_packet p place [] (i, l, is) none = absurd (omega (arith, l))
some_packet p place (r ∷ rs) (zero, l, is) none =
    let mine = same_laws.refl (p.tsi, p.toi) in
    let here : packet_at (identity_of p) place r ≡ (place, p) ∷ [] = ap (packet_at (identity_of p) place) is ∙ ap (λ (b : Bool). cond b ((place, p) ∷ []) []) mine in
    let all : (place, p) ∷ packets_from (identity_of p) (place + 1) rs ≡ [] = sym (ap (λ (t : List (ℕ × Packet)). t ++ packets_from (identity_of p) (place + 1) rs) here) ∙ none in
    absurd (cc)
some_packet p place (r ∷ rs) (suc i, l, is) none =
    some_packet p (place + 1) rs (i, omega (arith, l), is) (no_more (packet_at (identity_of p) place r) (packets_from (identity_of p) (place + 1) rs) none)
  where
    no_more : (xs ys : List (ℕ × Packet)) → xs ++ ys ≡ [] → ys ≡ []
    no_more [] ys none = none
    no_more (x ∷ xs) ys none = absurd (cc)

pub whole_parts : (rs : List Reading) (parts : List Part) (m : BTreeMap (ℕ × ℕ) Tally) → ((q : ℕ × ℕ) → IsTallyAt (packets_of (named_by q) rs) (get pair_cmp m q))
    → identities parts ≡ map (λ e. named_by e.0) m.entries → (p : Packet) → Contains rs (Ok p) → Contains (identities parts) (identity_of p)
whole_parts rs parts m told are p among =
    subst (λ (ws : List Identity). Contains ws (identity_of p)) (map_keys m.entries ∙ sym are)
    (contains_map (p.tsi, p.toi) (keys m) (Contains-keys_from_lookup (tells_apart pair_exact) (p.tsi, p.toi) m.entries (there (get pair_cmp m (p.tsi, p.toi)) (told (p.tsi, p.toi)))))
  where
    there : (o : Option Tally) → IsTallyAt (packets_of (named_by (p.tsi, p.toi)) rs) o → IsSome o
    there None none = absurd (some_packet p 0 rs among none)
    there (Some tally) some = refl
