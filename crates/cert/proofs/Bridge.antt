-- Symbols that came, as groups of places.
use Rattle.std.proofs.Common.{◌≡◌, ◌≢◌, ℕ, zero, suc, ◌+◌, ◌<◌, ◌≤◌, Bool, true, false, cond, ◌&&◌, ◌||◌, List, [], ◌∷◌, ◌++◌, Ok, Err, length, map, get_or, refl, sym, ap, subst, ◌∙◌, arith, append_assoc}
use Rattle.std.specs.Prelude.{◌==◌, if◌then◌else◌}
use Rattle.std.specs.List.{list_any}
use Rattle.std.proofs.lemmas.Bool.{le-leb, lt-leb, eqb-true, eq-eqb}
use Rattle.std.proofs.lemmas.List.{map-append, append-nil, length-map, get_or-map}
use Rattle.lists.specs.Below.{below}
use Rattle.lists.specs.Selection.{rest_from}
use Rattle.lists.proofs.Lists.{filter_same}
use Rattle.lists.proofs.Below.{all_below}
use Rattle.losses.specs.declared.groups.Member.{Member}
use Rattle.losses.specs.Members.{has_esi}
use Rattle.losses.specs.Groups.{Group, group_at, group_without, no_group, different, with_member}
use Rattle.losses.proofs.SharedGroups.{count_with, need_with, members_with, others_with}
use Rattle.losses.proofs.Link.{is_left}
use Rattle.partition.specs.Fti.{Fti, block_count, source_count}
use Rattle.alc.specs.Reading.{Reading}
use Rattle.reception.specs.Symbols.{Symbol, has_arrived, arrived_count, IsFirstShort}
use Rattle.reception.specs.declared.scope.Identity.{Identity}
use Rattle.reception.specs.Reception.{Placed, is_of_identity, placed_at, counted_from, counted, symbols, symbols_in, Suffices}
use Rattle.cert.specs.Scan.{members_at, members_of, AreGroupsOf, IsPut, different_in, line_in, AreEnough, IsFirstShortGroup, block_lines}

-- ---- one symbol more

pub members_more : (b : ℕ) (xs ys : List Placed) → members_of b (xs ++ ys) ≡ members_of b xs ++ members_of b ys
members_more b [] ys = refl
members_more b (x ∷ xs) ys =
    ap (λ (ms : List Member). members_at b x.place (symbols_in x.reading) ++ ms) (members_more b xs ys)
    ∙ sym (append_assoc (members_at b x.place (symbols_in x.reading)) (members_of b xs) (members_of b ys))

-- the groups with one symbol more
module _ (f : Fti) (xs : List Placed) (i : ℕ) (s : Symbol) (r : Reading) (is : symbols_in r ≡ s ∷ []) (old new : List Group) (are : AreGroupsOf f xs old) (put : IsPut old i s new) where
  one : Placed
  one = record { place = i; reading = r }

  here : (b : ℕ) → b < block_count f → (v : Bool) → (s.block == b) ≡ v
      → (group_at new b).members ≡ members_of b xs ++ (members_at b i (s ∷ []) ++ [])
  here b hb true e =
      let same : s.block ≡ b = eqb-true s.block b e in
      let put_here : (group_at new b).members ≡ (group_at old b).members ++ record { place = i; esi = s.esi } ∷ [] =
      subst (λ (x : ℕ). (group_at new x).members ≡ (group_at old x).members ++ record { place = i; esi = s.esi } ∷ []) same put.here in
      put_here ∙ ap (λ (ms : List Member). ms ++ record { place = i; esi = s.esi } ∷ []) (are.members b hb)
      ∙ ap (λ (v : Bool). members_of b xs ++ (cond v (record { place = i; esi = s.esi } ∷ []) [] ++ [])) (sym e)
  here b hb false e =
      let other : b ≢ s.block = λ g. (let t = eq-eqb s.block b (sym g) in absurd (cc)) in
      put.elsewhere b (let c = are.count in omega (arith, hb, c)) other ∙ are.members b hb ∙ sym (append-nil (members_of b xs))
      ∙ ap (λ (v : Bool). members_of b xs ++ (cond v (record { place = i; esi = s.esi } ∷ []) [] ++ [])) (sym e)

  pub group_more : AreGroupsOf f (xs ++ record { place = i; reading = r } ∷ []) new
  group_more = record {
    count = put.count ∙ are.count;
    need = λ b hb. put.need b (let c = are.count in omega (arith, hb, c)) ∙ are.need b hb;
    members = λ b hb.
        here b hb (s.block == b) refl
        ∙ ap (λ (ss : List Symbol). members_of b xs ++ (members_at b i ss ++ [])) (sym is)
        ∙ sym (members_more b xs (record { place = i; reading = r } ∷ []));
  }

-- groups with the blocks' needs and no members yet
pub are_empty : (f : Fti) (needs : List ℕ) → length needs ≡ block_count f → ((b : ℕ) → b < block_count f → get_or needs b 0 ≡ source_count f b) → AreGroupsOf f [] (map group_without needs)
are_empty f needs count are =
    let at : (b : ℕ) → b < block_count f → group_at (map group_without needs) b ≡ group_without (get_or needs b 0) = λ b l. get_or-map group_without needs b 0 no_group (omega (arith, l, count)) in
    record {
      count = length-map needs group_without ∙ count;
      need = λ b l. ap (λ (g : Group). g.need) (at b l) ∙ are b l;
      members = λ b l. ap (λ (g : Group). g.members) (at b l);
    }

-- a group with one member more
pub put_is : (groups : List Group) (place : ℕ) (s : Symbol) → s.block < length groups → IsPut groups place s (with_member groups s.block (record { place = place; esi = s.esi }))
put_is groups place s l =
    let q : Member = record { place = place; esi = s.esi } in
    record {
      count = count_with groups s.block q;
      need = λ b lb. need_with groups s.block q b;
      here = members_with groups s.block q l;
      elsewhere = λ b lb ne. others_with groups s.block q b ne;
    }

-- ---- what is held

-- what a loss leaves of a block
pub held_left : (who : Identity) (lost : ℕ → Bool) (b j k i : ℕ) (rs : List Reading)
    → has_arrived (symbols (counted_from who k (rest_from i lost rs))) b j ≡ list_any (is_left lost j) (members_of b (counted_from who i rs))
held_left who lost b j k i [] = refl
held_left who lost b j k i (Err e ∷ rs) =
    let gone = held_left who lost b j k (i + 1) rs in
    let later = held_left who lost b j (k + 1) (i + 1) rs in
    elim (lost i) as (λ v. has_arrived (symbols (counted_from who k (if v then rest_from (i + 1) lost rs else Err e ∷ rest_from (i + 1) lost rs))) b j ≡ list_any (is_left lost j) (members_of b (counted_from who (i + 1) rs))) [
      | true ↦ gone
      | false ↦ later
    ]
held_left who lost b j k i (Ok p ∷ rs) =
    let gone = held_left who lost b j k (i + 1) rs in
    let later = held_left who lost b j (k + 1) (i + 1) rs in
    let kept = rest_from (i + 1) lost rs in
    let ms = members_of b (counted_from who (i + 1) rs) in
    let here : Member = record { place = i; esi = p.esi } in
    elim (lost i) as (λ v. lost i ≡ v → has_arrived (symbols (counted_from who k (if v then kept else Ok p ∷ kept))) b j ≡ list_any (is_left lost j) (members_of b (placed_at who i (Ok p) ++ counted_from who (i + 1) rs))) [
      | true ↦ λ e.
          (elim (is_of_identity who p) as (λ u. has_arrived (symbols (counted_from who k kept)) b j ≡ list_any (is_left lost j) (members_of b (cond u (record { place = i; reading = Ok p } ∷ []) [] ++ counted_from who (i + 1) rs))) [
            | false ↦ gone
            | true ↦
                (elim (p.block == b) as (λ w. has_arrived (symbols (counted_from who k kept)) b j ≡ list_any (is_left lost j) (cond w (here ∷ []) [] ++ ms)) [
                  | true ↦ rw e gone
                  | false ↦ gone
                ])
          ])
      | false ↦ λ e.
          (elim (is_of_identity who p) as (λ u. has_arrived (symbols (cond u (record { place = k; reading = Ok p } ∷ []) [] ++ counted_from who (k + 1) kept)) b j
          ≡ list_any (is_left lost j) (members_of b (cond u (record { place = i; reading = Ok p } ∷ []) [] ++ counted_from who (i + 1) rs))) [
            | false ↦ later
            | true ↦
                (elim (p.block == b) as (λ w. ((w && p.esi == j) || has_arrived (symbols (counted_from who (k + 1) kept)) b j) ≡ list_any (is_left lost j) (cond w (here ∷ []) [] ++ ms)) [
                  | true ↦ rw e (ap (λ (v : Bool). p.esi == j || v) later)
                  | false ↦ later
                ])
          ])
    ] refl

pub nothing_lost : {X : Type 0} (i : ℕ) (xs : List X) → rest_from i (λ k. false) xs ≡ xs
nothing_lost i [] = refl
nothing_lost i (x ∷ xs) = ap (λ ys. x ∷ ys) (nothing_lost (i + 1) xs)

pub held_has : (who : Identity) (b j : ℕ) (rs : List Reading) → has_arrived (symbols (counted who rs)) b j ≡ list_any (has_esi j) (members_of b (counted who rs))
held_has who b j rs =
    ap (λ (xs : List Reading). has_arrived (symbols (counted who xs)) b j) (sym (nothing_lost 0 rs)) ∙ held_left who (λ k. false) b j 0 0 rs

-- how many different symbols a group has
pub held_different : (who : Identity) (b : ℕ) (rs : List Reading) (qs : List Member) → qs ≡ members_of b (counted who rs) → different qs ≡ arrived_count (symbols (counted who rs)) b
held_different who b rs qs is =
    ap length (filter_same (λ j. list_any (λ q. q.esi == j) qs) (has_arrived (symbols (counted who rs)) b) (below 256)
    (all_below (λ j. list_any (λ q. q.esi == j) qs ≡ has_arrived (symbols (counted who rs)) b j) 256
    (λ j l. sym (held_has who b j rs ∙ ap (λ (ms : List Member). list_any (has_esi j) ms) (sym is)))))

-- ---- lines and short blocks

module _ (who : Identity) (f : Fti) (rs : List Reading) (groups : List Group) (are : AreGroupsOf f (counted who rs) groups) where
  pub count_is : (b : ℕ) → b < block_count f → different_in groups b ≡ arrived_count (symbols (counted who rs)) b
  count_is b l = held_different who b rs (group_at groups b).members (are.members b l)

  pub enough_full : AreEnough groups → Suffices who f rs
  enough_full h b l = le-leb _ _ (let e = count_is b l in let n = are.need b l in let c = are.count in let g = h b (omega (arith, l, c)) in omega (arith, e, g, n))

  pub short_group : (b have need : ℕ) → IsFirstShortGroup groups b have need
      → IsFirstShort f (symbols (counted who rs)) b × (have ≡ arrived_count (symbols (counted who rs)) b) × (need ≡ source_count f b)
  short_group b have need h =
      let c = are.count in
      let l : b < block_count f = (let g = h.block in omega (arith, g, c)) in
      let e = count_is b l in
      let n = are.need b l in (
        record {
          in_range = l;
          short = lt-leb _ _ (let g = h.few in let hi = h.have_is in let ni = h.need_is in omega (arith, e, n, g, hi, ni));
          least = λ a m.
              (let la : a < block_count f = omega (arith, l, m) in
              let ea = count_is a la in
              let na = are.need a la in
              let g = h.blocks_before a m in
              le-leb _ _ (omega (arith, ea, na, g)));
        },
        h.have_is ∙ e,
        h.need_is ∙ n,
      )

  lines_same : (n : ℕ) → n ≤ block_count f → map (line_in groups) (below n) ≡ block_lines f (symbols (counted who rs)) n
  unfolding below
  lines_same zero l = refl
  lines_same (suc n) l =
      let arrivals = symbols (counted who rs) in
      map-append (line_in groups) (below n) (n ∷ [])
      ∙ ap (λ ls. ls ++ line_in groups n ∷ []) (lines_same n (omega arith))
      ∙ ap (λ (c : ℕ). block_lines f (symbols (counted who rs)) n ++ ((group_at groups n).need, c) ∷ []) (count_is n (omega arith))
      ∙ ap (λ (c : ℕ). block_lines f (symbols (counted who rs)) n ++ (c, arrived_count (symbols (counted who rs)) n) ∷ []) (are.need n (omega arith))
      ∙ sym (map-append (λ b. (source_count f b, arrived_count arrivals b)) (below n) (n ∷ []))

  pub lines_are : map (line_in groups) (below (length groups)) ≡ block_lines f (symbols (counted who rs)) (block_count f)
  lines_are = ap (λ (n : ℕ). map (line_in groups) (below n)) are.count ∙ lines_same (block_count f) (omega arith)

-- a map over one number more
pub map_below_more : {A : Type 0} (f : ℕ → A) (n : ℕ) → map f (below (n + 1)) ≡ map f (below n) ++ f n ∷ []
unfolding below
map_below_more f n = let e : n + 1 ≡ suc n = omega arith in ap (λ (m : ℕ). map f (below m)) e ∙ map-append f (below n) (n ∷ [])
