-- A receiver that stands for a list of datagrams, and one datagram more.
use Rattle.std.specs.Prelude.{if◌then◌else◌, not, filter, option_map, is_some, IfSome, IsSome, Result, Ok, Err}
use Rattle.std.specs.List.{AllByRecursion}
use Rattle.std.proofs.Common.{◌≡◌, ◌≢◌, ℕ, zero, suc, ◌+◌, ◌<◌, ◌≤◌, Bool, true, false, List, [], ◌∷◌, ◌++◌, Option, Some, None, length, take, get_or, refl, sym, ap, subst, ◌∙◌, inl, inr, arith, length-append, ltb-true, leb-true, leb-false}
use Rattle.std.proofs.lemmas.Bool.{cases_Bool, cases_eq, le-leb, eq-eqb}
use Rattle.lists.specs.Bytes.{AreBytes}
use Rattle.lists.specs.Below.{below}
use Rattle.lists.proofs.Below.{one_missing}
use Rattle.lists.proofs.Lists.{at_end, both}
use Rattle.partition.specs.Fti.{Fti, IsValidFti, block_count, source_count, encoding_count}
use Rattle.partition.proofs.Laws.{counts as block_counts, some_source}
use Rattle.alc.specs.Reading.{Reading, Reads}
use Rattle.alc.specs.Computed.{read_of}
use Rattle.alc.specs.Views.{packet_of}
use Rattle.alc.specs.declared.reading.Packet.{Packet as ReadPacket}
use Rattle.alc.proofs.Again.{reads, exact}
use Rattle.alc.proofs.Chosen.{same_is, same_self}
use Rattle.reception.specs.declared.scope.Identity.{Identity}
use Rattle.reception.specs.declared.scope.Look.{Look}
use Rattle.reception.specs.declared.scope.Look.TheVariants as look_at
use Rattle.alc.specs.declared.fault.PacketFault.{PacketFault}
use Rattle.reception.specs.declared.scope.Scope.{Scope}
use Rattle.reception.specs.Symbols.{Symbol, is_full, arrived_count, Solvable, IsFirstUnsolvable}
use Rattle.block_recovery.specs.Faults.{fault_value}
use Rattle.block_recovery.specs.declared.fault.DecodeFault.{DecodeFault}
use Rattle.block_recovery.specs.declared.fault.DecodeFault.TheVariants as fault
use Rattle.std.specs.Option.{option_or}
use Rattle.reception.specs.Reception.{PlaceFault, Seen, Wrong, wrong_by, ReadAll, Faulty, Judged, Other, Early, asked, counts, is_of_identity, learned, carried, symbol_of, counted, symbols, look_by, look as look_of}
use Rattle.reception.specs.Nothing.{HasNoCarrier}
use Rattle.reception.proofs.Nothing.{tells_empty}
use Rattle.reception.specs.Step.{IsLook, looked}
use Rattle.reception.specs.Walks.{readings_of, Timely, in_range}
use Rattle.reception.specs.Within.{IsWithin}
use Rattle.reception.specs.Answer.{Answer, AnswerTo, Clash, Clashes, Empty, Fault, NotCode, IsAnswer, clash, clashes, reception_of}
use Rattle.reception.specs.Reception as reception
use Rattle.reception.proofs.OneAnswer.{same_readings}
use Rattle.reception.proofs.Looks.{faultless_look, fti_after}
use Rattle.reception.proofs.Walk.{identity_stays}
use Rattle.reception.proofs.Walking.{Walked, came_before, one_behind, stops, goes_on, ends, came_all, symbols_passed, passed_counts, passed_scope, is_early}
use Rattle.reception.proofs.Within.{within}
use Rattle.block_recovery.specs.Columns.{ColumnExplained}
use Rattle.block_recovery.specs.Decoded.{IsEnoughAt}
use Rattle.block_recovery.specs.Arrivals.{with_symbol}
use Rattle.receiver.specs.Holds.{HoldsIn, kept_of, has_solved, solved_count}
use Rattle.receiver.specs.Putting.{MayStand, IsClash, IsNoCode, IsPutFault, UnlessFailed}
use Rattle.receiver.specs.declared.receiver.FeedFault.{FeedFault}
use Rattle.receiver.specs.declared.receiver.FeedFault.TheVariants as feed
use Rattle.block_recovery.specs.Received.{IsIndex, AreReceived}
use Rattle.receiver.specs.Stored.{IsStored, is_solved}
use Rattle.receiver.specs.Taking.{AllSolved}
use Rattle.receiver.specs.Stands.{StandsWith, Keeps, IsSoundIn}
use Rattle.receiver.specs.Fed.{HoldsFor}
use Rattle.receiver.specs.Receiving.{LeaveNoneShort, IsFaultOf, with_datagram, ComesEarly}
use Rattle.receiver.specs.declared.receiving.Receiving.{Receiving}
use Rattle.receiver.specs.declared.store.Store.{Store}
use Rattle.block_recovery.proofs.Counts.{held_is, one_more_held, none_more_held}
use Rattle.receiver.proofs.Holding.{with_own, with_apart}
use Rattle.block_recovery.proofs.Index.{pointwise_same, clash_none, clash_some}
use Rattle.block_recovery.proofs.Receiving.{Scanned, empty_index, clashed, no_clash as unclashed_judge, receives, received}
use Rattle.decoder.proofs.Solving.{solvable_from, solvable_gives}
use Rattle.receiver.proofs.Among.{stored_none}
use Rattle.receiver.proofs.Pending.{kept_count}
use Rattle.receiver.proofs.Taken.{full_explained, no_fti, keeps, all_within, arrived_is, none_short, here_full, full_solvable}
use Rattle.block_recovery.proofs.Those.{few_pass}
use Rattle.std.specs.Str.{bytes_eq as same}

-- whether a fault is told that is seen before the symbol
abbrev is_before : Wrong Clash → Bool
is_before (Faulty e) = true
is_before (Judged r) = false

abbrev tells_before : Option (ℕ × Wrong Clash) → Bool
tells_before None = false
tells_before (Some x) = is_before x.1

front_of : (ds : List (List ℕ)) (d : List ℕ) → take (length ds) (readings_of (ds ++ d ∷ [])) ≡ readings_of ds
front_of [] d = refl
front_of (x ∷ xs) d = ap (λ (l : List Reading). read_of x ∷ l) (front_of xs d)

read_more : (ds : List (List ℕ)) (d : List ℕ) → ReadAll ds (readings_of ds) → AreBytes d → ReadAll (ds ++ d ∷ []) (readings_of (ds ++ d ∷ []))
read_more [] d read bytes = (reads d bytes (read_of d) refl, tt)
read_more (x ∷ xs) d read bytes = (read.0, read_more xs d read.1 bytes)

abbrev Told : Type 0
Told = Fti → Option (ℕ → List ℕ)

-- no symbol came before the FTI was known
timely_kept : (told : Told) (o : Option Store) (g : Option Fti) (arrivals : List Symbol) → Keeps o told g arrivals → Timely g arrivals
timely_kept told None None arrivals h = h.0
timely_kept told (Some s) (Some g) arrivals h = tt
timely_kept told None (Some g) arrivals h = absurd h
timely_kept told (Some s) None arrivals h = absurd h

-- what a store holds that has this FTI, where the symbols came
held_by : (f : Fti) (told : Told) (o : Option Store) (g : Option Fti) (arrivals : List Symbol) → Keeps o told g arrivals → ((h : Fti) → g ≡ Some h → h ≡ f)
    → (at : ℕ → ℕ → Option (List ℕ)) × IsIndex arrivals at × HoldsFor f told o at
held_by f told None None arrivals h is =
    let at : ℕ → ℕ → Option (List ℕ) = λ b j. None in
    (at, subst (λ (ss : List Symbol). IsIndex ss at) (sym h.0) (empty_index at (λ b j. refl)), (λ b j. refl, h.1 f))
held_by f told (Some s) (Some g) arrivals h is =
    (h.1.at, h.1.index, (h.0 ∙ is g refl, subst (λ (k : Fti). HoldsIn s (told k) h.1.at) (is g refl) h.1.holds))
held_by f told None (Some g) arrivals h is = absurd h
held_by f told (Some s) None arrivals h is = absurd h

module _ (f : Fti) (told : Told) (at : ℕ → ℕ → Option (List ℕ)) where
  -- a store that holds what the one before held keeps the same, by the bytes that are told now
  keeps_still : ((g h : Fti) → is_some (told g) ≡ is_some (told h)) → (before : Told) (o n : Option Store) (g : Option Fti) (arrivals : List Symbol)
      → Keeps o before g arrivals → ((h : Fti) → g ≡ Some h → h ≡ f) → HoldsFor f told n at → IsIndex arrivals at → is_some n ≡ is_some o → Keeps n told g arrivals
  keeps_still all before None None None arrivals h is holds index kind = (h.0, λ g. all g f ∙ holds.1)
  keeps_still all before None None (Some g) arrivals h is holds index kind = absurd h
  keeps_still all before (Some s) (Some t) (Some g) arrivals h is holds index kind =
      (holds.0 ∙ sym (is g refl), record { at = at; index = index; holds = subst (λ (k : Fti). HoldsIn t (told k) at) (sym (is g refl)) holds.1 })
  keeps_still all before (Some s) (Some t) None arrivals h is holds index kind = absurd h
  keeps_still all before None (Some t) g arrivals h is holds index kind = absurd (cc)
  keeps_still all before (Some s) None g arrivals h is holds index kind = absurd (cc)

  keeps_now : (n : Option Store) (arrivals : List Symbol) → HoldsFor f told n at → IsSome n → IsIndex arrivals at → Keeps n told (Some f) arrivals
  keeps_now None arrivals holds some index = absurd (cc)
  keeps_now (Some s) arrivals holds some index = (holds.0, record { at = at; index = index; holds = holds.1 })

-- the ESIs that came of a block, if there is a store
abbrev entry : Option Store → ℕ → List ℕ
entry None b = []
entry (Some s) b = kept_of s b

entries : (f : Fti) → IsValidFti f → (told : Told) (o : Option Store) (at : ℕ → ℕ → Option (List ℕ)) → HoldsFor f told o at → (x : ℕ → List ℕ) × ((b : ℕ) → IsStored f b (x b) (entry o b) (at b))
entries f valid told None at h = (λ b. [], λ b. stored_none f b [] (at b) (some_source f valid b) (h.0 b))
entries f valid told (Some s) at h = (h.1.0, λ b. subst (λ (g : Fti). IsStored g b (h.1.0 b) (kept_of s b) (at b)) h.0 (h.1.2.blocks b))

module _ (f : Fti) (valid : IsValidFti f) (told : Told) (o : Option Store) (at : ℕ → ℕ → Option (List ℕ)) (holds : HoldsFor f told o at) (b j : ℕ) (y : List ℕ) (hb : b < block_count f)
    (none : IsNoCode f b (at b) j y) (arrivals : List Symbol) (index : IsIndex arrivals (with_symbol at b j y)) (all_within : AllByRecursion (IsWithin f) arrivals) where
  abbrev put : ℕ → ℕ → Option (List ℕ)
  put = with_symbol at b j y

  arrived : (a : ℕ) → a < block_count f → arrived_count arrivals a ≡ length (filter (λ i. is_some (put a i)) (below (encoding_count f a)))
  arrived a ha = held_is f arrivals put a index all_within (block_counts f valid a ha).2

  full_here : is_full f arrivals b ≡ true
  full_here =
      let enough : IsEnoughAt f b (put b) = subst (λ (g : ℕ → Option (List ℕ)). IsEnoughAt f b g) (sym (with_own at b j y)) none.enough in
      le-leb (source_count f b) (arrived_count arrivals b) (omega (arith, enough, arrived b hb))

  unsolvable_here : Solvable f arrivals b → ⊥
  unsolvable_here solvable =
      let given = solvable_gives f arrivals put index b solvable in
      none.unexplained (subst (λ (g : ℕ → Option (List ℕ)). (c : ℕ) → c < f.symbol_length → ColumnExplained f b g c) (with_own at b j y) given)

  solvable_before : (a : ℕ) → a < b → is_full f arrivals a ≡ true → Solvable f arrivals a
  solvable_before a la full =
      let ha : a < block_count f = omega (arith, la, hb) in
      let same : put a ≡ at a = with_apart at b j y a (λ e. omega (arith, e, la)) in
      let enough : IsEnoughAt f a (put a) = omega (arith, leb-true (source_count f a) (arrived_count arrivals a) full, arrived a ha) in
      let w = entries f valid told o at holds in
      let own : IsStored f a (w.0 a) (entry o a) (put a) = subst (λ (g : ℕ → Option (List ℕ)). IsStored f a (w.0 a) (entry o a) g) (sym same) (w.1 a) in
      solvable_from f arrivals put index a (full_explained f a (w.0 a) (entry o a) (put a) own enough)

  first_unsolvable : IsFirstUnsolvable f arrivals b
  first_unsolvable = record { in_range = hb; full = full_here; unsolvable = unsolvable_here; least = solvable_before }

-- a packet whose symbol is looked at is in range
module _ (d : List ℕ) (old new : Scope) (p : ReadPacket) (look : IsLook d old new (Ok (look_at.InRange p))) (f : Fti) (known : new.fti ≡ Some f) where
  range : in_range (packet_of p) f ≡ true
  range = (faultless_look d old new p look f known).range

  pub in_block : p.sbn < block_count f
  in_block = ltb-true _ _ (both _ _ range).0

  -- the FTI that was known is the one that is
  pub fti_was : (h : Fti) → old.fti ≡ Some h → h ≡ f
  fti_was h e =
      let now = fti_after d old new (Ok (look_at.InRange p)) look h e in
      let k = known in
      cc

module _ (r : Receiving) (told : Told) (ds : List (List ℕ)) (stands : StandsWith r told ds) (d : List ℕ) (bytes : AreBytes d) (old new : Scope) (is : old ≡ (reception_of r.identity (readings_of ds)).scope) where
  abbrev all : List (List ℕ)
  all = with_datagram ds d

  inside : length ds < length all
  inside = omega (arith, length-append ds (d ∷ []))

  here : d ≡ get_or all (length ds) []
  here = sym (at_end ds d [] (length ds) refl)

  walked : Walked clash (asked r.identity) all (length ds) old
  walked =
      let c = reception_of r.identity (readings_of ds) in
      subst (λ (s : Scope). Walked clash (asked r.identity) all (length ds) s) (sym is)
      (one_behind clash (asked r.identity) ds d stands.clean (timely_kept told r.store c.scope.fti c.symbols stands.symbols))

  came : came_before r.identity all (length ds) ≡ (reception_of r.identity (readings_of ds)).symbols
  came = ap (λ (rs : List Reading). symbols (counted r.identity rs)) (front_of ds d)

  read : ReadAll all (readings_of all)
  read = read_more ds d stands.read bytes

  -- a fault before the symbol is looked at
  pub faulty : (answer : Result Look PacketFault) (e : PlaceFault) → IsLook d old new answer → looked answer ≡ Err e → IsAnswer r.identity all (Fault r.accepted (Faulty e))
  faulty answer e look told =
      let wrong = ap (λ (a : Result Seen PlaceFault). wrong_by clash (came_before r.identity all (length ds)) a) told in
      record {
        readings = readings_of all;
        read = read;
        answers = stops clash (asked r.identity) all (length ds) old walked d new answer inside here look (Faulty e) wrong ∙ ap (λ (n : ℕ). Some (n, Faulty e)) (sym stands.count);
      }

  known_who : old.identity ≡ r.identity
  known_who = ap (λ (s : Scope). s.identity) is ∙ identity_stays (asked r.identity) (counted r.identity (readings_of ds))

  -- without a carrier no FTI is known
  none_known : HasNoCarrier r.identity ds → old.fti ≡ None
  none_known none =
      let empty = (tells_empty r.identity ds).1 none in
      let here : AnswerTo (reception_of r.identity (readings_of ds)) Empty =
      subst (λ (rs : List Reading). AnswerTo (reception_of r.identity rs) Empty) (same_readings ds empty.readings (readings_of ds) empty.read stands.read) empty.answers in
      ap (λ (s : Scope). s.fti) is ∙ here.1

  -- a packet that comes early is seen as one
  seen_early : (answer : Result Look PacketFault) → IsLook d old new answer → ComesEarly r.identity ds d → looked answer ≡ Ok Early
  seen_early answer seen early =
      let p = early.packet in
      let read_is : seen.reading ≡ Ok p = sym (exact d seen.reading seen.reads) ∙ exact d (Ok p) early.reads in
      let mine : is_of_identity old.identity p ≡ true = ap (λ (i : Identity). is_of_identity i p) known_who ∙ early.mine in
      let counted_here : counts old.identity seen.reading ≡ true = ap (λ (x : Reading). counts old.identity x) read_is ∙ mine in
      let now : new ≡ learned old seen.reading = seen.scope ∙ ap (λ (v : Bool). if v then learned old seen.reading else old) counted_here in
      let none : new.fti ≡ None =
      ap (λ (s : Scope). s.fti) now ∙ ap (λ (x : Reading). option_or old.fti (carried x)) read_is
      ∙ ap (λ (o : Option Fti). option_or o p.fti) (none_known early.first) ∙ early.bare in
      let still : is_of_identity new.identity p ≡ true = ap (λ (s : Scope). is_of_identity s.identity p) now ∙ mine in
      seen.told ∙ ap (λ (x : Reading). look_of new x) read_is
      ∙ ap (λ (v : Bool). if v then look_by new.fti p else Ok Other) still ∙ ap (λ (o : Option Fti). look_by o p) none

  -- what is seen as another thing doesn't come early
  pub not_early_fault : (answer : Result Look PacketFault) (e : PlaceFault) → IsLook d old new answer → looked answer ≡ Err e → ¬ ComesEarly r.identity ds d
  not_early_fault answer e seen told early = let w = seen_early answer seen early in cc

  pub not_early_other : IsLook d old new (Ok look_at.Other) → ¬ ComesEarly r.identity ds d
  not_early_other seen early = let w = seen_early (Ok look_at.Other) seen early in cc

  pub not_early_packet : (p : ReadPacket) → IsLook d old new (Ok (look_at.InRange p)) → ¬ ComesEarly r.identity ds d
  not_early_packet p seen early = let w = seen_early (Ok (look_at.InRange p)) seen early in cc

  -- what is seen as early comes so
  pub comes_early : IsLook d old new (Ok look_at.Early) → ComesEarly r.identity ds d
  comes_early seen =
      let e = is_early d old new seen in
      let unknown : (reception_of r.identity (readings_of ds)).scope.fti ≡ None = ap (λ (s : Scope). s.fti) (sym is) ∙ e.unknown in
      record {
        packet = e.packet;
        reads = subst (λ (x : Reading). Reads d x) e.is seen.reads;
        mine = ap (λ (i : Identity). is_of_identity i e.packet) (sym known_who) ∙ e.counts;
        bare = e.bare;
        first = (tells_empty r.identity ds).0 (record { readings = readings_of ds; read = stands.read; answers = (stands.clean, unknown) });
      }

  -- a datagram that is passed over
  module _ (look : IsLook d old new (Ok look_at.Other)) where
    on : Walked clash (asked r.identity) all (length ds + 1) new
    on = goes_on clash (asked r.identity) all (length ds) old walked d new (Ok look_at.Other) inside here look tt refl

    over : length all ≤ length ds + 1
    over = omega (arith, length-append ds (d ∷ []))

    same_scope : (reception_of r.identity (readings_of all)).scope ≡ (reception_of r.identity (readings_of ds)).scope
    same_scope = (ends clash (asked r.identity) all (length ds + 1) new on over).1 ∙ passed_scope d old new look ∙ is

    same_symbols : (reception_of r.identity (readings_of all)).symbols ≡ (reception_of r.identity (readings_of ds)).symbols
    same_symbols =
        sym (came_all r.identity all (length ds + 1) over)
        ∙ symbols_passed clash (asked r.identity) all (length ds) old walked d new (Ok look_at.Other) inside here look (passed_counts d old new look) ∙ came

    -- raises the count alone
    pub passed_over : StandsWith (record { identity = r.identity; store = r.store; accepted = r.accepted + 1 }) told all
    passed_over = record {
      sound = stands.sound;
      read = read;
      clean = (ends clash (asked r.identity) all (length ds + 1) new on over).0;
      count = (let n = stands.count in let l = length-append ds (d ∷ []) in omega (arith, n, l));
      symbols = subst (λ (s : Scope). Keeps r.store told s.fti (reception_of r.identity (readings_of all)).symbols) (sym same_scope)
          (subst (λ (ss : List Symbol). Keeps r.store told (reception_of r.identity (readings_of ds)).scope.fti ss) (sym same_symbols) stands.symbols);
    }

  module _ (p : ReadPacket) (look : IsLook d old new (Ok (look_at.InRange p))) (f : Fti) (known : new.fti ≡ Some f) where
    old_fti : (h : Fti) → (reception_of r.identity (readings_of ds)).scope.fti ≡ Some h → h ≡ f
    old_fti h e = fti_was d old new p look f known h (ap (λ (s : Scope). s.fti) is ∙ e)

    -- a packet whose symbol is looked at has no fault before that
    pub none_before : (i : ℕ) (e : PlaceFault) → IsAnswer r.identity all (Fault i (Faulty e)) → ⊥
    none_before i e answer =
        let told : (reception_of r.identity (readings_of all)).wrong ≡ Some (i, Faulty e) =
        subst (λ (rs : List Reading). (reception_of r.identity rs).wrong ≡ Some (i, Faulty e)) (same_readings all answer.readings (readings_of all) answer.read read) answer.answers in
        elim (cases_Bool (clashes (came_before r.identity all (length ds)) (symbol_of (packet_of p)))) [
          | inl clash_here ↦
              (let w = stops clash (asked r.identity) all (length ds) old walked d new (Ok (look_at.InRange p)) inside here look (Judged Clashes) (clashed (came_before r.identity all (length ds)) (symbol_of (packet_of p)) clash_here) in
              let e = ap tells_before (sym told ∙ w) in
              absurd (cc))
          | inr none_here ↦
              (let on = goes_on clash (asked r.identity) all (length ds) old walked d new (Ok (look_at.InRange p)) inside here look tt (unclashed_judge (came_before r.identity all (length ds)) (symbol_of (packet_of p)) none_here) in
              let w = (ends clash (asked r.identity) all (length ds + 1) new on (omega (arith, length-append ds (d ∷ [])))).0 in
              let e = ap tells_before (sym told ∙ w) in
              absurd (cc))
        ]

    -- what the store holds, if there is one
    pub held : (at : ℕ → ℕ → Option (List ℕ)) × IsIndex (reception_of r.identity (readings_of ds)).symbols at × HoldsFor f told r.store at
    held =
        held_by f told r.store (reception_of r.identity (readings_of ds)).scope.fti (reception_of r.identity (readings_of ds)).symbols stands.symbols
        old_fti

    module _ (at : ℕ → ℕ → Option (List ℕ)) (index : IsIndex (reception_of r.identity (readings_of ds)).symbols at) where
      earlier : IsIndex (came_before r.identity all (length ds)) at
      earlier = subst (λ (ss : List Symbol). IsIndex ss at) (sym came) index

      -- another symbol came
      pub clash_told : IsClash (at p.sbn) p.esi p.symbol.now → IsAnswer r.identity all (Fault r.accepted (Judged Clashes))
      clash_told other =
          let s = symbol_of (packet_of p) in
          let differ : same other.other p.symbol.now ≡ false = elim (cases_Bool (same other.other p.symbol.now)) [
            | inl yes_same ↦ absurd (other.differs (same_is other.other p.symbol.now yes_same))
            | inr no_same ↦ no_same
          ] in
          let says : clashes (came_before r.identity all (length ds)) s ≡ true =
          sym (clash_some s (came_before r.identity all (length ds)) at other.other earlier other.stands) ∙ ap not (pointwise_same other.other p.symbol.now ∙ differ) in
          record {
            readings = readings_of all;
            read = read;
            answers = stops clash (asked r.identity) all (length ds) old walked d new (Ok (look_at.InRange p)) inside here look (Judged Clashes) (clashed (came_before r.identity all (length ds)) s says)
                ∙ ap (λ (n : ℕ). Some (n, Judged Clashes)) (sym stands.count);
          }

      -- none did, or the same
      no_clash : MayStand (at p.sbn) p.esi p.symbol.now → clashes (came_before r.identity all (length ds)) (symbol_of (packet_of p)) ≡ false
      no_clash (inl free) = sym (clash_none (symbol_of (packet_of p)) (came_before r.identity all (length ds)) at earlier free)
      no_clash (inr there) =
          sym (clash_some (symbol_of (packet_of p)) (came_before r.identity all (length ds)) at p.symbol.now earlier there)
          ∙ ap not (pointwise_same p.symbol.now p.symbol.now ∙ same_self p.symbol.now)

      module _ (may : MayStand (at p.sbn) p.esi p.symbol.now) where
        scanned : Scanned (asked r.identity) all new (with_symbol at p.sbn p.esi p.symbol.now) (length ds + 1)
        scanned =
            receives (asked r.identity) all old at (length ds) record { walked = walked; index = λ h e. earlier } d new p inside here look (with_symbol at p.sbn p.esi p.symbol.now) (no_clash may)
            (rw (eq-eqb p.sbn p.sbn refl, eq-eqb p.esi p.esi refl) refl) (λ b j other. rw other refl)

        whole : length all ≤ length ds + 1
        whole = omega (arith, length-append ds (d ∷ []))

        got : AreReceived r.identity all f (with_symbol at p.sbn p.esi p.symbol.now)
        got =
            let h = received (asked r.identity) all new (with_symbol at p.sbn p.esi p.symbol.now) (length ds + 1) scanned whole f known in
            record { clean = h.0; index = h.1 }

        -- the receiver stands for the datagram too
        pub accepted : (now : Told) (store : Option Store) → IsSoundIn store → HoldsFor f now store (with_symbol at p.sbn p.esi p.symbol.now) → IsSome store
            → StandsWith (record { identity = r.identity; store = store; accepted = r.accepted + 1 }) now all
        accepted now store sound holds some = record {
          sound = sound;
          read = read;
          clean = got.clean.clean;
          count = (let n = stands.count in let l = length-append ds (d ∷ []) in omega (arith, n, l));
          symbols = subst (λ (g : Option Fti). Keeps store now g (reception_of r.identity (readings_of all)).symbols) (sym got.clean.some)
              (keeps_now f now (with_symbol at p.sbn p.esi p.symbol.now) store (reception_of r.identity (readings_of all)).symbols holds some got.index);
        }

        -- with the symbol its block is no object's
        pub no_code_told : IsValidFti f → HoldsFor f told r.store at → IsNoCode f p.sbn (at p.sbn) p.esi p.symbol.now → IsAnswer r.identity all (NotCode p.sbn)
        no_code_told valid holds none = record {
          readings = readings_of all;
          read = read;
          answers = (
            f,
            got.clean,
            first_unsolvable f valid told r.store at holds p.sbn p.esi p.symbol.now (in_block d old new p look f known) none (reception_of r.identity (readings_of all)).symbols got.index
                (within clash (asked r.identity) (readings_of all) f got.clean),
          );
        }

      -- why the symbol isn't put is the answer
      pub refusal_told : IsValidFti f → HoldsFor f told r.store at → (failed : Bool) (v : FeedFault) → UnlessFailed failed v (IsPutFault f r.accepted p (at p.sbn) v) → IsFaultOf r.identity all v
      refusal_told valid holds failed (feed.Fault (fault.Clash i)) h = subst (λ (n : ℕ). IsAnswer r.identity all (Fault n (Judged Clashes))) (sym h.0) (clash_told h.1)
      refusal_told valid holds failed (feed.Fault (fault.NotCode b)) h = subst (λ (n : ℕ). IsAnswer r.identity all (NotCode n)) (sym h.0) (no_code_told (inl h.1.free) valid holds h.1)
      refusal_told valid holds failed (feed.Fault (fault.Packet i e)) h = absurd h
      refusal_told valid holds failed (feed.Fault (fault.OtherFti i)) h = absurd h
      refusal_told valid holds failed (feed.Fault (fault.SymbolLength i)) h = absurd h
      refusal_told valid holds failed (feed.Fault (fault.Range i)) h = absurd h
      refusal_told valid holds failed feed.NoMemory h = tt
      refusal_told valid holds failed feed.Full h = tt
      refusal_told valid holds failed feed.Early h = tt
      refusal_told valid holds failed feed.Failed h = tt

      -- the receiver stands for those before, where the store holds what it held
      pub refused : (now : Told) → ((g h : Fti) → is_some (now g) ≡ is_some (now h)) → (store : Option Store) → IsSoundIn store → HoldsFor f now store at → is_some store ≡ is_some r.store
          → StandsWith (record { identity = r.identity; store = store; accepted = r.accepted }) now ds
      refused now all_told store sound holds kind = record {
        sound = sound;
        read = stands.read;
        clean = stands.clean;
        count = stands.count;
        symbols = keeps_still f now at all_told told r.store store (reception_of r.identity (readings_of ds)).scope.fti (reception_of r.identity (readings_of ds)).symbols stands.symbols old_fti holds index kind;
      }

-- so, where reading or writing hasn't failed
pub if_refused : (So : Type 0) (failed : Bool) (v : FeedFault) → UnlessFailed failed v So → v ≢ feed.Failed → So
if_refused So failed (feed.Fault e) h other = h
if_refused So failed feed.Full h other = h
if_refused So failed feed.Early h other = h
if_refused So failed feed.NoMemory h other = h
if_refused So failed feed.Failed h other = absurd (other refl)

-- nor is that told which is never why a symbol isn't put
pub not_refused : (e : FeedFault) (failed : Bool) (v : FeedFault) (f : Fti) (place : ℕ) (p : ReadPacket) (at : ℕ → Option (List ℕ)) (Q : Type 0) → ¬ UnlessFailed failed e (IsPutFault f place p at e × Q)
    → UnlessFailed failed v (IsPutFault f place p at v × Q) → v ≡ e → ⊥
not_refused e failed v f place p at Q never h is = never (subst (λ (u : FeedFault). UnlessFailed failed u (IsPutFault f place p at u × Q)) is h)

-- ---- whether each block is solved

all_pass : (t : ℕ → Bool) (n : ℕ) → length (filter t (below n)) ≡ n → (j : ℕ) → j < n → t j ≡ true
all_pass t zero all j lj = absurd (omega (arith, lj))
all_pass t (suc n) all j lj = elim (cases_Bool (t n)) [
  | inl passes ↦ elim (cases_eq j n) [
    | inl e ↦ (ap t e ∙ passes)
    | inr ne ↦ all_pass t n (omega (arith, all, one_more_held t n passes)) j (omega (arith, lj, ne))
  ]
  | inr other ↦ absurd (omega (arith, all, none_more_held t n other, few_pass t n))
]

-- a block that isn't solved has too few symbols
unsolved_short : (f : Fti) (b : ℕ) (x esis : List ℕ) (at : ℕ → Option (List ℕ)) → IsStored f b x esis at → is_solved f b esis ≡ false → IsEnoughAt f b at → ⊥
unsolved_short f b x esis at h unsolved enough = omega (arith, leb-false (source_count f b) (length esis) unsolved, enough, kept_count f b x esis at h)

module _ (r : Receiving) (told : Told) (ds : List (List ℕ)) (stands : StandsWith r told ds) (store : Store) (is : r.store ≡ Some store) (valid : IsValidFti store.fti) where
  counted_solved : store.solved ≡ solved_count store
  counted_solved = (subst IsSoundIn is stands.sound).solved

  -- where as many blocks are solved as there are, none is short
  pub all_solved : store.solved ≡ block_count store.fti → LeaveNoneShort r.identity ds
  all_solved all = none_short r told ds stands store is valid (all_pass (has_solved store) (block_count store.fti) (sym counted_solved ∙ all))

  -- where none is short each block is solved
  not_unsolved : (b : ℕ) → b < block_count store.fti → has_solved store b ≡ false → LeaveNoneShort r.identity ds → ⊥
  not_unsolved b hb unsolved none =
      let k = keeps r told ds stands store is in
      let known = (here_full r told ds stands none).0 in
      let there = k.0 in
      let same_fti : none.fti ≡ store.fti = cc in
      let full : is_full store.fti (reception_of r.identity (readings_of ds)).symbols b ≡ true =
      subst (λ (f : Fti). (a : ℕ) → a < block_count f → is_full f (reception_of r.identity (readings_of ds)).symbols a ≡ true) same_fti (here_full r told ds stands none).1 b hb in
      let arrived_at = arrived_is store valid k.1.holds.0 k.1.at k.1.holds.2 (reception_of r.identity (readings_of ds)).symbols k.1.index (all_within r told ds stands store is) b hb in
      unsolved_short store.fti b (k.1.holds.0 b) (kept_of store b) (k.1.at b) (k.1.holds.2.blocks b) unsolved
      (omega (arith, leb-true (source_count store.fti b) (arrived_count (reception_of r.identity (readings_of ds)).symbols b) full, arrived_at))

  pub each_solved : LeaveNoneShort r.identity ds → AllSolved store
  each_solved none b hb = elim (cases_Bool (has_solved store b)) [
    | inl solved ↦ solved
    | inr unsolved ↦ absurd (not_unsolved b hb unsolved none)
  ]

  -- where fewer blocks are solved than there are, one is short
  pub some_unsolved : store.solved ≢ block_count store.fti → LeaveNoneShort r.identity ds → ⊥
  some_unsolved other none =
      let n = block_count store.fti in
      let counted_is = counted_solved in
      let most = few_pass (has_solved store) (block_count store.fti) in
      let w = one_missing (has_solved store) n n (omega arith) (omega (arith, other, counted_is, most)) in
      not_unsolved w.0 w.1 w.2 none

-- the answer to them is no fault
module _ (r : Receiving) (told : Told) (ds : List (List ℕ)) (stands : StandsWith r told ds) (store : Store) (is : r.store ≡ Some store) (valid : IsValidFti store.fti) where
  answers_here : (v : Answer) → IsAnswer r.identity ds v → AnswerTo (reception_of r.identity (readings_of ds)) v
  answers_here v answer = subst (λ (rs : List Reading). AnswerTo (reception_of r.identity rs) v) (same_readings ds answer.readings (readings_of ds) answer.read stands.read) answer.answers

  no_place : (i : ℕ) (w : Wrong Clash) → IsAnswer r.identity ds (Fault i w) → ⊥
  no_place i w answer = let given = answers_here (Fault i w) answer in let clean = stands.clean in absurd (cc)

  no_code : (b : ℕ) → IsAnswer r.identity ds (NotCode b) → ⊥
  no_code b answer =
      let given = answers_here (NotCode b) answer in
      let k = keeps r told ds stands store is in
      let some = given.1.some in
      let there = k.0 in
      let same_fti : given.0 ≡ store.fti = cc in
      let first = subst (λ (f : Fti). IsFirstUnsolvable f (reception_of r.identity (readings_of ds)).symbols b) same_fti given.2 in
      first.unsolvable
      (full_solvable store valid k.1.holds.0 k.1.at k.1.holds.2 (reception_of r.identity (readings_of ds)).symbols k.1.index (all_within r told ds stands store is) b first.in_range first.full)

  pub no_fault : (e : DecodeFault) → IsAnswer r.identity ds (fault_value e) → ⊥
  no_fault (fault.Packet i e) answer = no_place i (Faulty (reception.NoPacket e)) answer
  no_fault (fault.OtherFti i) answer = no_place i (Faulty reception.OtherFti) answer
  no_fault (fault.SymbolLength i) answer = no_place i (Faulty reception.SymbolLength) answer
  no_fault (fault.Range i) answer = no_place i (Faulty reception.Range) answer
  no_fault (fault.Clash i) answer = no_place i (Judged Clashes) answer
  no_fault (fault.NotCode b) answer = no_code b answer

-- where there is no store no carrier came, and that is no fault
pub no_fault_none : (r : Receiving) (told : Told) (ds : List (List ℕ)) → StandsWith r told ds → r.store ≡ None → (e : DecodeFault) → IsAnswer r.identity ds (fault_value e) → ⊥
no_fault_none r told ds stands is e answer = by e answer
  where
    here : (v : Answer) → IsAnswer r.identity ds v → AnswerTo (reception_of r.identity (readings_of ds)) v
    here v given = subst (λ (rs : List Reading). AnswerTo (reception_of r.identity rs) v) (same_readings ds given.readings (readings_of ds) given.read stands.read) given.answers

    place : (i : ℕ) (w : Wrong Clash) → IsAnswer r.identity ds (Fault i w) → ⊥
    place i w given = let says = here (Fault i w) given in let clean = stands.clean in absurd (cc)

    by : (f : DecodeFault) → IsAnswer r.identity ds (fault_value f) → ⊥
    by (fault.Packet i x) given = place i (Faulty (reception.NoPacket x)) given
    by (fault.OtherFti i) given = place i (Faulty reception.OtherFti) given
    by (fault.SymbolLength i) given = place i (Faulty reception.SymbolLength) given
    by (fault.Range i) given = place i (Faulty reception.Range) given
    by (fault.Clash i) given = place i (Judged Clashes) given
    by (fault.NotCode b) given =
        let says = here (NotCode b) given in
        let some = says.1.some in
        let none = no_fti r told ds stands is in
        absurd (cc)

-- the scope that a receiver has is that of its datagrams
kept_fti : (told : Told) (o : Option Store) (g : Option Fti) (arrivals : List Symbol) → Keeps o told g arrivals → option_map (λ s. s.fti) o ≡ g
kept_fti told None None arrivals h = refl
kept_fti told (Some s) (Some g) arrivals h = ap Some h.0
kept_fti told None (Some g) arrivals h = absurd h
kept_fti told (Some s) None arrivals h = absurd h

pub scope_stands : (r : Receiving) (told : Told) (ds : List (List ℕ)) (f : Option Fti) → StandsWith r told ds → option_map (λ s. s.fti) r.store ≡ f
    → ◌≡◌ {A = Scope} (record { identity = r.identity; fti = f }) (reception_of r.identity (readings_of ds)).scope
scope_stands r told ds f stands is =
    let s = (reception_of r.identity (readings_of ds)).scope in
    let who : s.identity ≡ r.identity = identity_stays (asked r.identity) (counted r.identity (readings_of ds)) in
    ap (λ (g : Option Fti). record { identity = r.identity; fti = g })
    (sym is ∙ kept_fti told r.store s.fti (reception_of r.identity (readings_of ds)).symbols stands.symbols)
    ∙ ap (λ (w : Identity). record { identity = w; fti = (reception_of r.identity (readings_of ds)).scope.fti }) (sym who)

-- the store that there is has the FTI
pub store_fti : (o : Option Store) (f : Fti) → ((h : Fti) → option_map (λ s. s.fti) o ≡ Some h → h ≡ f) → IfSome o (λ s. s.fti ≡ f)
store_fti None f h = tt
store_fti (Some s) f h = h s.fti refl
