-- What datagrams can lose, by the groups of their places.
use Rattle.std.proofs.Common.{◌≡◌, ℕ, ◌+◌, ◌<◌, Bool, true, false, cond, List, [], ◌∷◌, ◌++◌, Ok, Err, Option, length, refl, sym, ap, ◌∙◌, arith}
use Rattle.std.specs.Prelude.{◌==◌, if◌then◌else◌}
use Rattle.std.specs.List.{list_any, AllByRecursion}
use Rattle.lists.specs.Selection.{rest_from, rest}
use Rattle.losses.specs.declared.groups.Member.{Member}
use Rattle.losses.specs.Losses.{Blocks, places_from, IsMargin, IsKill, IsBurst}
use Rattle.losses.specs.Groups.{Group, group_at, places, is_at, blocks_of_groups, AreGroups}
use Rattle.losses.proofs.Lines.{any_left, places_length}
use Rattle.losses.proofs.Link.{is_left}
use Rattle.losses.proofs.Transfer.{margin_same, kill_same, burst_same, first_burst_same, runs_same}
use Rattle.losses.specs.declared.longest.Run.{Run}
use Rattle.losses.specs.Runs.{IsFirstBurst, AreRuns}
use Rattle.losses.proofs.CarrierPlaces.{carriers_left, carriers_same}
use Rattle.partition.specs.Fti.{Fti, IsValidFti, source_count}
use Rattle.partition.proofs.Laws.{some_source}
use Rattle.alc.specs.Reading.{Reading}
use Rattle.reception.specs.declared.scope.Identity.{Identity}
use Rattle.reception.specs.Symbols.{has_arrived}
use Rattle.reception.specs.Reception.{ReadAll, is_of_identity, is_carrier, counted_from, counted, symbols}
use Rattle.reception.proofs.Within.{IsFaultless, IsSoundReading}
use Rattle.cert.specs.Report.{blocks_of}
use Rattle.cert.specs.Scan.{members_of, AreGroupsOf, AreEnough}
use Rattle.cert.proofs.Scanning.{in_range_small}
use Rattle.cert.proofs.Bridge.{held_left, nothing_lost}
use Rattle.losses.specs.Ordered.{AreMembersFrom}
use Rattle.losses.proofs.Ordering.{groups_told, different_is}

-- ---- the members of a group stand at rising places, and their ESIs are bytes

wider : (i n : ℕ) (qs : List Member) → AreMembersFrom (i + 1) n qs → AreMembersFrom i n qs
wider i n [] g = tt
wider i n (q ∷ qs) g = (let a = g.0 in omega (arith, a), g.1, g.2, g.3)

members_above : (who : Identity) (f : Fti) (valid : IsValidFti f) (b i n : ℕ) (rs : List Reading)
    → AllByRecursion (λ x. IsSoundReading (IsFaultless f) x.reading) (counted_from who i rs) → i + length rs ≡ n → AreMembersFrom i n (members_of b (counted_from who i rs))
members_above who f valid b i n [] h e = tt
members_above who f valid b i n (Err r ∷ rs) h e = absurd h.0
members_above who f valid b i n (Ok p ∷ rs) h e =
    (elim (is_of_identity who p) as (λ u. AllByRecursion (λ x. IsSoundReading (IsFaultless f) x.reading) (cond u (record { place = i; reading = Ok p } ∷ []) [] ++ counted_from who (i + 1) rs)
    → AreMembersFrom i n (members_of b (cond u (record { place = i; reading = Ok p } ∷ []) [] ++ counted_from who (i + 1) rs))) [
      | false ↦ λ k. wider i n (members_of b (counted_from who (i + 1) rs)) (members_above who f valid b (i + 1) n rs k (omega (arith, e)))
      | true ↦ λ k.
          (let later = members_above who f valid b (i + 1) n rs k.1 (omega (arith, e)) in
          elim (p.block == b) as (λ v. AreMembersFrom i n (cond v (record { place = i; esi = p.esi } ∷ []) [] ++ members_of b (counted_from who (i + 1) rs))) [
            | true ↦ (omega arith, omega (arith, e), (let s = in_range_small f p valid k.0.range in omega (arith, s)), later)
            | false ↦ wider i n (members_of b (counted_from who (i + 1) rs)) later
          ])
    ]) h

module _ (who : Identity) (f : Fti) (valid : IsValidFti f) (rs : List Reading) (packets : AllByRecursion (λ x. IsSoundReading (IsFaultless f) x.reading) (counted who rs))
    (groups : List Group) (are : AreGroupsOf f (counted who rs) groups) where
  members_in : (b : ℕ) → b < length groups → AreMembersFrom 0 (length rs) (group_at groups b).members
  members_in b hb =
      let c = are.count in
      rw (are.members b (omega (arith, hb, c))) (members_above who f valid b 0 (length rs) rs packets (omega arith))

  -- the groups are as `figures_of` asks
  pub are_groups : AreEnough groups → AreGroups groups (length rs)
  are_groups enough = groups_told groups (length rs) (record {
    some = λ b hb.
        (let c = are.count in
        let n = are.need b (omega (arith, hb, c)) in
        let s = some_source f valid b in
        omega (arith, n, s));
    members = members_in;
    enough = λ b hb. (let d = different_is (group_at groups b).members in let e = enough b hb in omega (arith, d, e));
  })

  left : (lost : ℕ → Bool) (b j : ℕ) → b < length groups → has_arrived (symbols (counted who (rest lost rs))) b j ≡ list_any (is_at (rest lost (places 0 (length rs))) j) (group_at groups b).members
  left lost b j hb =
      let c = are.count in
      held_left who lost b j 0 0 rs
      ∙ ap (λ (qs : List Member). list_any (is_left lost j) qs) (sym (are.members b (omega (arith, hb, c))))
      ∙ sym (any_left lost 0 (length rs) (length rs) j (group_at groups b).members (members_in b hb) refl)

  whole : (b j : ℕ) → b < length groups → has_arrived (symbols (counted who rs)) b j ≡ list_any (is_at (places 0 (length rs)) j) (group_at groups b).members
  whole b j hb =
      ap (λ (xs : List Reading). has_arrived (symbols (counted who xs)) b j) (sym (nothing_lost 0 rs))
      ∙ left (λ k. false) b j hb
      ∙ ap (λ (xs : List ℕ). list_any (is_at xs j) (group_at groups b).members) (nothing_lost 0 (places 0 (length rs)))

  needed : (b : ℕ) → b < length groups → source_count f b ≡ (group_at groups b).need
  needed b hb = let c = are.count in sym (are.need b (omega (arith, hb, c)))

  -- of the groups and the carriers' places
  abbrev pub grouped : Blocks ℕ
  grouped = blocks_of_groups groups (places_from (is_carrier who) 0 rs)

  pub margin_told : (m : ℕ) → IsMargin grouped (places 0 (length rs)) m → IsMargin (blocks_of who f) rs m
  margin_told =
      margin_same grouped (blocks_of who f) (places 0 (length rs)) rs (sym are.count) needed (sym (places_length 0 (length rs))) whole left
      (λ lost. sym (carriers_left (is_carrier who) rs lost)) (sym (carriers_same (is_carrier who) rs))

  pub kill_told : (n : ℕ) (ps : List ℕ) (o : Option ℕ) → IsKill grouped (places 0 (length rs)) n ps o → IsKill (blocks_of who f) rs n ps o
  kill_told =
      kill_same grouped (blocks_of who f) (places 0 (length rs)) rs (sym are.count) needed (sym (places_length 0 (length rs))) whole left
      (λ lost. sym (carriers_left (is_carrier who) rs lost)) (sym (carriers_same (is_carrier who) rs))

  pub burst_told : (m : ℕ) → IsBurst grouped (places 0 (length rs)) m → IsBurst (blocks_of who f) rs m
  burst_told =
      burst_same grouped (blocks_of who f) (places 0 (length rs)) rs (sym are.count) needed (sym (places_length 0 (length rs))) whole left
      (λ lost. sym (carriers_left (is_carrier who) rs lost)) (sym (carriers_same (is_carrier who) rs))

  pub first_burst_told : (size place : ℕ) (o : Option ℕ) → IsFirstBurst grouped (places 0 (length rs)) size place o → IsFirstBurst (blocks_of who f) rs size place o
  first_burst_told =
      first_burst_same grouped (blocks_of who f) (places 0 (length rs)) rs (sym are.count) needed (sym (places_length 0 (length rs))) whole left
      (λ lost. sym (carriers_left (is_carrier who) rs lost)) (sym (carriers_same (is_carrier who) rs))

  pub runs_told : (runs : List (Option Run)) → AreRuns grouped (places 0 (length rs)) runs → AreRuns (blocks_of who f) rs runs
  runs_told =
      runs_same grouped (blocks_of who f) (places 0 (length rs)) rs (sym are.count) needed (sym (places_length 0 (length rs))) whole left
      (λ lost. sym (carriers_left (is_carrier who) rs lost)) (sym (carriers_same (is_carrier who) rs))

read_rest : (lost : ℕ → Bool) (i : ℕ) (ds : List (List ℕ)) (rs : List Reading) → ReadAll ds rs → ReadAll (rest_from i lost ds) (rest_from i lost rs)
read_rest lost i [] [] h = tt
read_rest lost i [] (r ∷ rs) h = absurd h
read_rest lost i (d ∷ ds) [] h = absurd h
read_rest lost i (d ∷ ds) (r ∷ rs) h =
    elim (lost i) as (λ v. ReadAll (if v then rest_from (i + 1) lost ds else d ∷ rest_from (i + 1) lost ds) (if v then rest_from (i + 1) lost rs else r ∷ rest_from (i + 1) lost rs)) [
      | true ↦ read_rest lost (i + 1) ds rs h.1
      | false ↦ (h.0, read_rest lost (i + 1) ds rs h.1)
    ]
