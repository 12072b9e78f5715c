-- The computed figures of groups are those over all losses.
use Rattle.std.specs.Prelude.{◌≡◌, ℕ, ◌+◌, ◌-◌, ◌<◌, ◌≤◌, Bool, true, false, not, nat_le, List, [], length, filter, min, refl}
use Rattle.std.specs.List.{AllByRecursion, list_any}
use Rattle.std.proofs.Common.{◌∙◌, sym, ap, subst, arith, leb-true}
use Rattle.std.proofs.lemmas.Bool.{leb-false, lt-leb}
use Rattle.lists.specs.Selection.{is_among, rest, loss_size, lost_from, is_run}
use Rattle.losses.specs.Number.{Number}
use Rattle.losses.specs.declared.groups.Member.{Member}
use Rattle.lists.specs.Below.{below}
use Rattle.losses.specs.Numbers.{has, present}
use Rattle.losses.specs.Members.{different_outside}
use Rattle.losses.specs.Starts.{HaveWindow}
use Rattle.losses.specs.Windows.{ArePlaced, IsLeastGap, IsShortWindow, members, place_at}
use Rattle.losses.specs.Costs.{IsWeighed, cheap_places}
use Rattle.losses.specs.Losses.{Blocks, IsBefore, is_enough, esis_in, taken_wholly}
use Rattle.losses.proofs.BlockLosses.{IsBlockKill, IsBlockMargin, IsBlockBurst}
use Rattle.losses.specs.Groups.{Group, group_at, places, is_at, blocks_of_groups}
use Rattle.losses.specs.Lightest.{IsHeavyGroup, IsWideGroup, IsNarrowGroup}
use Rattle.losses.proofs.Copies.{HasByteEsi}
use Rattle.lists.proofs.Lists.{filter_same, all_of}
use Rattle.losses.proofs.Places.{marks_places, marks_size, places_below, places_count, places_rise}
use Rattle.losses.proofs.Block.{cheap, cost, doomed, doomed_short, doomed_size, doomed_taken, is_doomed, short_costs, short_first, taken}
use Rattle.losses.proofs.Runs.{IsLeastRun, fewer_present, wider_run}
use Rattle.losses.proofs.Margins.{IsCut}
use Rattle.losses.proofs.Narrowest.{least_run, run_short, short_run, present_all}
use Rattle.losses.proofs.Weights.{doomed_are}
use Rattle.losses.proofs.Gathered.{cut_of, price_of, some_price, last_or, group_placed}
use Rattle.losses.proofs.Lines.{line, line_length, places_length, line_members, line_small, line_left, line_whole}
use Rattle.losses.specs.Ordered.{AreOrdered}

-- A group's cheapest such symbols cost no less than the least, and more before group `at`.
pub record IsGroupPriced (b k : ℕ) (ps : List Number) (least at : ℕ) : Type 0 where
  pub t : ℕ
  pub last : ℕ
  pub cut : IsCut 0 k ps t last
  pub low : least ≤ cost 0 t last ps
  pub early : b < at → least < cost 0 t last ps

-- a group's least short run is no less than the least
pub record IsGroupSpanned (k : ℕ) (ps : List Number) (least : ℕ) : Type 0 where
  pub size : ℕ
  pub run : IsLeastRun 0 k ps size
  pub low : least ≤ size

-- each group by a list of numbers of its own, as long as the list
module _ {X : Type 0} (these : Blocks X) (xs : List X) (ps : ℕ → List Number)
    (small : (b : ℕ) → b < these.count → AllByRecursion HasByteEsi (ps b))
    (len : (b : ℕ) → b < these.count → length (ps b) ≡ length xs)
    (whole : (b j : ℕ) → b < these.count → these.has_symbol xs b j ≡ has 0 (ps b) j)
    (left : (lost : ℕ → Bool) (b j : ℕ) → b < these.count → these.has_symbol (rest lost xs) b j ≡ has 0 (rest lost (ps b)) j) where
  left_of : (lost : ℕ → Bool) (b : ℕ) → b < these.count → esis_in these (rest lost xs) b ≡ present 0 (rest lost (ps b))
  left_of lost b hb = filter_same (these.has_symbol (rest lost xs) b) (has 0 (rest lost (ps b))) (below 256) (all_of _ (λ j. left lost b j hb) (below 256))

  size_of : (lost : ℕ → Bool) (b : ℕ) → b < these.count → loss_size lost (ps b) ≡ loss_size lost xs
  size_of lost b hb = ap (lost_from 0 lost) (len b hb)

  short_from : (b : ℕ) (lost : ℕ → Bool) → b < these.count → is_enough these (rest lost xs) b ≡ false → length (present 0 (rest lost (ps b))) < these.need b
  short_from b lost hb h = let e = leb-false _ _ h in let l = ap (λ (js : List ℕ). length js) (left_of lost b hb) in omega (arith, e, l)

  short_to : (b : ℕ) (lost : ℕ → Bool) → b < these.count → length (present 0 (rest lost (ps b))) < these.need b → is_enough these (rest lost xs) b ≡ false
  short_to b lost hb h = let l = ap (λ (js : List ℕ). length js) (left_of lost b hb) in lt-leb _ _ (omega (arith, h, l))

  taken_of : (lost : ℕ → Bool) (b : ℕ) → b < these.count → taken_wholly these xs lost b ≡ taken lost (ps b) 0
  taken_of lost b hb =
      ap (filter (λ j. not (these.has_symbol (rest lost xs) b j))) (filter_same (these.has_symbol xs b) (has 0 (ps b)) (below 256) (all_of _ (λ j. whole b j hb) (below 256)))
      ∙ filter_same (λ j. not (these.has_symbol (rest lost xs) b j)) (λ j. not (has 0 (rest lost (ps b)) j)) (present 0 (ps b))
      (all_of _ (λ j. ap not (left lost b j hb)) (present 0 (ps b)))

  module _ (at t last m : ℕ) (at_within : at < these.count) (cut_at : IsCut 0 (these.need at) (ps at) t last) (is : m + 1 ≡ cost 0 t last (ps at))
      (priced : (b : ℕ) → b < these.count → IsGroupPriced b (these.need b) (ps b) (m + 1) at) where
    pub margin : IsBlockMargin these xs m
    margin = record {
      bears = λ lost size b hb.
          elim (is_enough these (rest lost xs) b) as (λ v. is_enough these (rest lost xs) b ≡ v → v ≡ true) [
            | true ↦ λ e. refl
            | false ↦ λ e.
                (let q = priced b hb in
                let c = short_costs 0 (these.need b) q.t q.last (ps b) (small b hb) q.cut.count lost (short_from b lost hb e) in
                let l = q.low in
                let s = size_of lost b hb in
                absurd (omega (arith, c, l, size, is, s)))
          ] refl;
      greatest = λ n bears.
          elim (nat_le n m) as (λ v. nat_le n m ≡ v → n ≤ m) [
            | true ↦ λ e. leb-true n m e
            | false ↦ λ e.
                (let l = leb-false n m e in
                let lost = is_among (doomed 0 t last (ps at)) in
                let z = doomed_size 0 (these.need at) t last (ps at) (small at at_within) cut_at.count in
                let s = size_of lost at at_within in
                let g = bears lost (omega (arith, l, z, is, s)) at at_within in
                let h = short_to at lost at_within (doomed_short 0 (these.need at) t last (ps at) (small at at_within) cut_at.count) in
                absurd (cc))
          ] refl;
    }

    pub kill : IsBlockKill these xs (m + 1) at (doomed 0 t last (ps at))
    kill =
        let lost = is_among (doomed 0 t last (ps at)) in
        let here = small at at_within in
        let z = doomed_size 0 (these.need at) t last (ps at) here cut_at.count in
        let n = len at at_within in
        let s = size_of lost at at_within in
        record {
          rising = places_rise (is_doomed 0 t last (ps at)) 0 (ps at);
          count = places_count (is_doomed 0 t last (ps at)) 0 (ps at) ∙ sym (marks_size (is_doomed 0 t last (ps at)) lost 0 (ps at) (marks_places (is_doomed 0 t last (ps at)) 0 (ps at))) ∙ z ∙ sym is;
          within = places_below (is_doomed 0 t last (ps at)) 0 (length xs) (ps at) (omega (arith, n));
          short = record { size = sym s ∙ z ∙ sym is; block = at_within; short = short_to at lost at_within (doomed_short 0 (these.need at) t last (ps at) here cut_at.count) };
          least = λ b x h.
              elim (nat_le at b) as (λ v. nat_le at b ≡ v → at ≤ b) [
                | true ↦ λ e. leb-true at b e
                | false ↦ λ e.
                    (let l = leb-false at b e in
                    let q = priced b h.block in
                    let c = short_costs 0 (these.need b) q.t q.last (ps b) (small b h.block) q.cut.count x (short_from b x h.block h.short) in
                    let d = q.early (omega (arith, l)) in
                    let y = h.size in
                    let w = size_of x b h.block in
                    absurd (omega (arith, c, d, y, is, w)))
              ] refl;
          first = λ x h before.
              (let y = h.size in
              let w = size_of x at at_within in
              let e : taken_wholly these xs lost at ≡ cheap 0 t last (ps at) = taken_of lost at at_within ∙ doomed_taken 0 (these.need at) t last (ps at) here cut_at.count in
              short_first 0 (these.need at) t last (ps at) here cut_at.count x (short_from at x at_within h.short) (omega (arith, y, is, w))
              (subst (λ (ys : List ℕ). IsBefore ys (cheap 0 t last (ps at))) (taken_of x at at_within)
              (subst (λ (ys : List ℕ). IsBefore (taken_wholly these xs x at) ys) e before)));
        }

  module _ (at m : ℕ) (at_within : at < these.count) (run : IsLeastRun 0 (these.need at) (ps at) (m + 1))
      (spanned : (b : ℕ) → b < these.count → IsGroupSpanned (these.need b) (ps b) (m + 1)) where
    pub burst : IsBlockBurst these xs m
    burst =
        let r = run in
        let n = len at at_within in
        let i = r.is.within in
        record {
          within = omega (arith, i, n);
          bears = λ a l b hb.
              elim (is_enough these (rest (is_run a m) xs) b) as (λ v. is_enough these (rest (is_run a m) xs) b ≡ v → v ≡ true) [
                | true ↦ λ e. refl
                | false ↦ λ e.
                    (let s = short_from b (is_run a m) hb e in
                    let o = len b hb in
                    let c = (spanned b hb).run.least a m (record { within = omega (arith, l, o); short = s }) in
                    let y = (spanned b hb).low in
                    absurd (omega (arith, c, y)))
              ] refl;
          greatest = λ x l bears.
              elim (nat_le x m) as (λ v. nat_le x m ≡ v → x ≤ m) [
                | true ↦ λ e. leb-true x m e
                | false ↦ λ e.
                    (let g = leb-false x m e in
                    let c1 : min r.start (length xs - x) ≤ r.start = omega arith in
                    let c2 : r.start + (m + 1) ≤ min r.start (length xs - x) + x = omega (arith, i, g, l, n) in
                    let c3 : min r.start (length xs - x) + x ≤ length xs = omega (arith, l) in
                    let full = bears (min r.start (length xs - x)) c3 at at_within in
                    let few = fewer_present 0 (is_run r.start (m + 1)) (is_run (min r.start (length xs - x)) x) (ps at) (λ k. wider_run r.start (m + 1) (min r.start (length xs - x)) x k c1 c2) in
                    let h = leb-true _ _ full in
                    let w = ap (λ (js : List ℕ). length js) (left_of (is_run (min r.start (length xs - x)) x) at at_within) in
                    let s = r.is.short in
                    absurd (omega (arith, few, h, s, w)))
              ] refl;
        }

-- ---- from the weights of groups, as they are computed, to the figures

-- one group more
module _ (groups : List Group) (n : ℕ) where
  pub heavy_new : (at price price2 t2 last2 : ℕ) → price2 < price → ((b : ℕ) → b < n → IsHeavyGroup b (group_at groups b) price at)
      → IsWeighed (group_at groups n).members (group_at groups n).need price2 t2 last2 → (b : ℕ) → b < n + 1 → IsHeavyGroup b (group_at groups b) price2 n
  heavy_new at price price2 t2 last2 l h w =
      last_or (λ b. IsHeavyGroup b (group_at groups b) price2 n) n
      (λ b g. (let q = h b g in let y = q.low in record { t = q.t; last = q.last; price = q.price; weighed = q.weighed; low = omega (arith, y, l); early = λ z. omega (arith, y, l) }))
      (record { t = t2; last = last2; price = price2; weighed = w; low = omega arith; early = λ z. absurd (omega arith) })

  pub heavy_same : (at price price2 t2 last2 : ℕ) → price ≤ price2 → at < n → ((b : ℕ) → b < n → IsHeavyGroup b (group_at groups b) price at)
      → IsWeighed (group_at groups n).members (group_at groups n).need price2 t2 last2 → (b : ℕ) → b < n + 1 → IsHeavyGroup b (group_at groups b) price at
  heavy_same at price price2 t2 last2 l a h w =
      last_or (λ b. IsHeavyGroup b (group_at groups b) price at) n h
      (record { t = t2; last = last2; price = price2; weighed = w; low = l; early = λ z. absurd (omega (arith, z, a)) })

  pub wide_new : (burst gap : ℕ) → gap ≤ burst → ((b : ℕ) → b < n → IsWideGroup (group_at groups b) burst)
      → IsLeastGap (group_at groups n).members (group_at groups n).need gap → (b : ℕ) → b < n + 1 → IsWideGroup (group_at groups b) gap
  wide_new burst gap l h g =
      last_or (λ b. IsWideGroup (group_at groups b) gap) n
      (λ b m. (let q = h b m in let y = q.low in record { gap = q.gap; is = q.is; low = omega (arith, y, l) }))
      (record { gap = gap; is = g; low = omega arith })

  pub wide_same : (burst gap : ℕ) → burst ≤ gap → ((b : ℕ) → b < n → IsWideGroup (group_at groups b) burst)
      → IsLeastGap (group_at groups n).members (group_at groups n).need gap → (b : ℕ) → b < n + 1 → IsWideGroup (group_at groups b) burst
  wide_same burst gap l h g = last_or (λ b. IsWideGroup (group_at groups b) burst) n h (record { gap = gap; is = g; low = l })

  pub narrow_more : (burst : ℕ) → IsNarrowGroup groups n burst → IsNarrowGroup groups (n + 1) burst
  narrow_more burst q = let y = q.within in record { at = q.at; within = omega (arith, y); is = q.is }

module _ (groups : List Group) (n : ℕ) (are : AreOrdered groups n) where
  lines : ℕ → List Number
  lines b = line 0 n (group_at groups b).members

  small : (b : ℕ) → b < length groups → AllByRecursion HasByteEsi (line 0 n (group_at groups b).members)
  small b hb = line_small 0 n n _ (are.members b hb)

  len : (b : ℕ) → b < length groups → length (line 0 n (group_at groups b).members) ≡ length (places 0 n)
  len b hb = line_length 0 n (group_at groups b).members ∙ sym (places_length 0 n)

  whole : (b j : ℕ) → b < length groups → list_any (is_at (places 0 n) j) (group_at groups b).members ≡ has 0 (line 0 n (group_at groups b).members) j
  whole b j hb = line_whole n j _ (are.members b hb)

  left : (lost : ℕ → Bool) (b j : ℕ) → b < length groups
      → list_any (is_at (rest lost (places 0 n)) j) (group_at groups b).members ≡ has 0 (rest lost (line 0 n (group_at groups b).members)) j
  left lost b j hb = line_left lost n j _ (are.members b hb)

  of_line : (b : ℕ) → b < length groups → members 0 0 (line 0 n (group_at groups b).members) ≡ (group_at groups b).members
  of_line b hb = line_members 0 n n _ (omega arith) (are.members b hb)

  enough_of : (b : ℕ) → b < length groups → (group_at groups b).need ≤ different_outside (members 0 0 (line 0 n (group_at groups b).members)) 0 0
  enough_of b hb = let e = ap (λ (qs : List Member). different_outside qs 0 0) (of_line b hb) in let l = are.enough b hb in omega (arith, e, l)

  present_enough : (b : ℕ) → b < length groups → (group_at groups b).need ≤ length (present 0 (line 0 n (group_at groups b).members))
  present_enough b hb = let a = present_all 0 (line 0 n (group_at groups b).members) in let l = enough_of b hb in omega (arith, a, l)

  weighed_of : (b k price t last : ℕ) → b < length groups → IsWeighed (group_at groups b).members k price t last → IsWeighed (members 0 0 (line 0 n (group_at groups b).members)) k price t last
  weighed_of b k price t last hb w = subst (λ (qs : List Member). IsWeighed qs k price t last) (sym (of_line b hb)) w

  gap_of : (b k gap : ℕ) → b < length groups → IsLeastGap (group_at groups b).members k gap → IsLeastGap (members 0 0 (line 0 n (group_at groups b).members)) k gap
  gap_of b k gap hb g = subst (λ (qs : List Member). IsLeastGap qs k gap) (sym (of_line b hb)) g

  module _ (at price t last : ℕ) (within : at < length groups) (weighed : IsWeighed (group_at groups at).members (group_at groups at).need price t last)
      (heavy : (b : ℕ) → b < length groups → IsHeavyGroup b (group_at groups b) price at) where
    pub some : 1 ≤ price
    some = some_price 0 (group_at groups at).need price t last (line 0 n (group_at groups at).members) (weighed_of at _ price t last within weighed) (present_enough at within)

    priced : (b : ℕ) → b < length groups → IsGroupPriced b (group_at groups b).need (line 0 n (group_at groups b).members) (price - 1 + 1) at
    priced b hb =
        let q = heavy b hb in
        let w = weighed_of b (group_at groups b).need q.price q.t q.last hb q.weighed in
        let r = price_of 0 (group_at groups b).need q.price q.t q.last (line 0 n (group_at groups b).members) w in
        let y = q.low in
        record {
          t = q.t;
          last = q.last;
          cut = cut_of 0 (group_at groups b).need q.price q.t q.last (line 0 n (group_at groups b).members) w;
          low = (let s = some in omega (arith, r, y, s));
          early = λ z. (let x = q.early z in let s = some in omega (arith, r, x, s));
        }

    cut : IsCut 0 (group_at groups at).need (line 0 n (group_at groups at).members) t last
    cut = cut_of 0 _ price t last _ (weighed_of at _ price t last within weighed)

    is : price - 1 + 1 ≡ cost 0 t last (line 0 n (group_at groups at).members)
    is =
        let p = price_of 0 (group_at groups at).need price t last (line 0 n (group_at groups at).members) (weighed_of at (group_at groups at).need price t last within weighed) in
        let s = some in
        omega (arith, p, s)

    pub margin_of_groups : IsBlockMargin (blocks_of_groups groups []) (places 0 n) (price - 1)
    margin_of_groups = margin (blocks_of_groups groups []) (places 0 n) (λ b. line 0 n (group_at groups b).members) small len whole left at t last (price - 1) within cut is priced

    pub kill_of_groups : IsBlockKill (blocks_of_groups groups []) (places 0 n) (price - 1 + 1) at (cheap_places (group_at groups at).members t last)
    kill_of_groups =
        let e : cheap_places (group_at groups at).members t last ≡ doomed 0 t last (line 0 n (group_at groups at).members) =
        ap (λ (qs : List Member). cheap_places qs t last) (sym (of_line at within)) ∙ doomed_are 0 (line 0 n (group_at groups at).members) t last in
        subst (λ (ks : List ℕ). IsBlockKill (blocks_of_groups groups []) (places 0 n) (price - 1 + 1) at ks) (sym e)
        (kill (blocks_of_groups groups []) (places 0 n) (λ b. line 0 n (group_at groups b).members) small len whole left at t last (price - 1) within cut is priced)

  pub burst_of_groups : (at gap : ℕ) → at < length groups → IsLeastGap (group_at groups at).members (group_at groups at).need gap
      → ((b : ℕ) → b < length groups → IsWideGroup (group_at groups b) gap) → IsBlockBurst (blocks_of_groups groups []) (places 0 n) gap
  burst_of_groups at gap within narrow wide =
      burst (blocks_of_groups groups []) (places 0 n) (λ b. line 0 n (group_at groups b).members) small len whole left at gap within
      (least_run 0 (line 0 n (group_at groups at).members) (group_at groups at).need gap (enough_of at within) (gap_of at _ gap within narrow))
      (λ b hb.
      (let q = wide b hb in
      let y = q.low in
      record { size = q.gap + 1; run = least_run 0 (line 0 n (group_at groups b).members) (group_at groups b).need q.gap (enough_of b hb) (gap_of b _ q.gap hb q.is); low = omega (arith, y) }))

  -- a run that has the places of a group's short window leaves it short
  pub window_short : (b a m e : ℕ) → b < length groups → HaveWindow (group_at groups b).members (group_at groups b).need a e → e < a + m
      → is_enough (blocks_of_groups groups []) (rest (is_run a m) (places 0 n)) b ≡ false
  window_short b a m e hb h l =
      short_to (blocks_of_groups groups []) (places 0 n) (λ b. line 0 n (group_at groups b).members) small len whole left b (is_run a m) hb
      (run_short 0 (line 0 n (group_at groups b).members) (group_at groups b).need a m e (subst (λ (qs : List Member). HaveWindow qs (group_at groups b).need a e) (sym (of_line b hb)) h) l)

  -- and one that leaves it short has those
  pub short_window_of : (b a m : ℕ) → b < length groups → is_enough (blocks_of_groups groups []) (rest (is_run a m) (places 0 n)) b ≡ false
      → (x : ℕ) × (y : ℕ) × IsShortWindow (group_at groups b).members (group_at groups b).need x y × (a ≤ place_at (group_at groups b).members x) × (place_at (group_at groups b).members (y - 1) < a + m)
  short_window_of b a m hb h =
      subst (λ (qs : List Member). (x : ℕ) × (y : ℕ) × IsShortWindow qs (group_at groups b).need x y × (a ≤ place_at qs x) × (place_at qs (y - 1) < a + m)) (of_line b hb)
      (short_run 0 (line 0 n (group_at groups b).members) (group_at groups b).need a m (enough_of b hb)
      (short_from (blocks_of_groups groups []) (places 0 n) (λ b. line 0 n (group_at groups b).members) small len whole left b (is_run a m) hb h))

  -- the members of a group stand at rising places
  pub placed_of : (b : ℕ) → b < length groups → ArePlaced (group_at groups b).members
  placed_of b hb = group_placed 0 (line 0 n (group_at groups b).members) (group_at groups b).members (sym (of_line b hb))
