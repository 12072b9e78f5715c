-- Where the first of the narrowest windows begins is the first place from which no more than the
-- burst may be missed.
use Rattle.std.proofs.Common.{◌≡◌, ℕ, ◌+◌, ◌-◌, ◌<◌, ◌≤◌, Bool, true, false, ◌&&◌, ◌||◌, ◌==◌, nat_lt, List, length, get_or, Option, Some, None, refl, arith, ltb-true}
use Rattle.std.proofs.lemmas.Bool.{ltb-false, eqb-true, eq-eqb}
use Rattle.lists.specs.Selection.{rest, is_run}
use Rattle.losses.specs.Groups.{Group, group_at, places, blocks_of_groups}
use Rattle.losses.specs.Lightest.{IsWideGroup, AreNarrowest}
use Rattle.losses.specs.Losses.{IsBurst, is_enough}
use Rattle.losses.specs.Ordered.{AreOrdered, AreOrderedCarriers}
use Rattle.losses.specs.Runs.{Lacks, IsEnoughBefore, IsFirstBurst}
use Rattle.losses.specs.Starts.{AreShort, IsFirstGap}
use Rattle.losses.specs.Windows.{IsLeastGap, IsShortWindow, place_at}
use Rattle.losses.proofs.CarrierGroup.{span, span_fits, last_below, taken_run}
use Rattle.losses.proofs.Gathered.{last_or}
use Rattle.losses.proofs.GroupFigures.{short_window_of}
use Rattle.losses.proofs.Lines.{places_length}
use Rattle.losses.proofs.LongestRuns.{lacks}
use Rattle.losses.proofs.Starts.{member_below}

-- ---- the order of gaps

pub before_yes : (m n p q : ℕ) → (nat_lt m n || (m == n && nat_lt p q)) ≡ true → (m ≤ n) × (m ≡ n → p < q)
before_yes m n p q h =
    elim (nat_lt m n) as (λ v. nat_lt m n ≡ v → (v || (m == n && nat_lt p q)) ≡ true → (m ≤ n) × (m ≡ n → p < q)) [
      | true ↦ λ e k. (let l = ltb-true m n e in (omega (arith, l), λ same. absurd (omega (arith, l, same))))
      | false ↦ λ e k. equal (m == n) refl k
    ] refl h
  where
    equal : (v : Bool) → (m == n) ≡ v → (v && nat_lt p q) ≡ true → (m ≤ n) × (m ≡ n → p < q)
    equal true e k = let s = eqb-true m n e in (omega (arith, s), λ same. ltb-true p q k)
    equal false e k = absurd (cc)

pub before_no : (m n p q : ℕ) → (nat_lt m n || (m == n && nat_lt p q)) ≡ false → (n ≤ m) × (m ≡ n → q ≤ p)
before_no m n p q h =
    elim (nat_lt m n) as (λ v. nat_lt m n ≡ v → (v || (m == n && nat_lt p q)) ≡ false → (n ≤ m) × (m ≡ n → q ≤ p)) [
      | true ↦ λ e k. absurd (cc)
      | false ↦ λ e k. (ltb-false m n e, λ same. equal (m == n) (eq-eqb m n same) k)
    ] refl h
  where
    equal : (v : Bool) → v ≡ true → (v && nat_lt p q) ≡ false → q ≤ p
    equal true e k = ltb-false p q k
    equal false e k = absurd (cc)

-- ---- one group more

module _ (groups : List Group) where
  pub narrowest_first : (place gap : ℕ) → IsFirstGap (group_at groups 0).members (group_at groups 0).need place gap → AreNarrowest groups 1 0 place gap
  narrowest_first place gap first = record {
    within = omega arith;
    window = first.window;
    first = λ b x y l.
        last_or (λ b. IsShortWindow (group_at groups b).members (group_at groups b).need x y
        → place_at (group_at groups b).members (y - 1) ≤ place_at (group_at groups b).members x + gap → place ≤ place_at (group_at groups b).members x) 0
        (λ b g. absurd (omega (arith, g))) (first.first x y) b (omega (arith, l));
    early = λ b x y l. absurd (omega (arith, l));
  }

  module _ (n at place gap place2 gap2 : ℕ) (old : AreNarrowest groups n at place gap)
      (first : IsFirstGap (group_at groups n).members (group_at groups n).need place2 gap2) where
    pub narrowest_new : gap2 ≤ gap → (gap2 ≡ gap → place2 < place) → ((b : ℕ) → b < n → IsWideGroup (group_at groups b) gap) → AreNarrowest groups (n + 1) n place2 gap2
    narrowest_new few early wide = record {
      within = omega arith;
      window = first.window;
      first = λ b x y l.
          last_or (λ b. IsShortWindow (group_at groups b).members (group_at groups b).need x y
          → place_at (group_at groups b).members (y - 1) ≤ place_at (group_at groups b).members x + gap2 → place2 ≤ place_at (group_at groups b).members x) n
          (λ b g is far.
          (let q = wide b g in
          let low = q.low in
          let least = q.is.least x y is in
          let same : gap2 ≡ gap = omega (arith, low, least, far, few) in
          let e = early same in
          let o = old.first b x y g is (omega (arith, far, same)) in
          omega (arith, e, o)))
          (first.first x y) b l;
      early = λ b x y l is far.
          (let q = wide b l in
          let low = q.low in
          let least = q.is.least x y is in
          let same : gap2 ≡ gap = omega (arith, low, least, far, few) in
          let e = early same in
          let o = old.first b x y l is (omega (arith, far, same)) in
          omega (arith, e, o));
    }

    pub narrowest_same : gap ≤ gap2 → (gap2 ≡ gap → place ≤ place2) → IsLeastGap (group_at groups n).members (group_at groups n).need gap2 → AreNarrowest groups (n + 1) at place gap
    narrowest_same few early is_least = record {
      within = (let w = old.within in omega (arith, w));
      window = old.window;
      first = λ b x y l.
          last_or (λ b. IsShortWindow (group_at groups b).members (group_at groups b).need x y
          → place_at (group_at groups b).members (y - 1) ≤ place_at (group_at groups b).members x + gap → place ≤ place_at (group_at groups b).members x) n
          (λ b g. old.first b x y g)
          (λ is far.
          (let least = is_least.least x y is in
          let same : gap2 ≡ gap = omega (arith, least, far, few) in
          let e = early same in
          let o = first.first x y is (omega (arith, far, same)) in
          omega (arith, e, o)))
          b l;
      early = old.early;
    }

-- ---- the groups and the carriers

module _ (groups : List Group) (carriers : List ℕ) (n : ℕ) (are : AreOrdered groups n) (came : AreOrderedCarriers carriers n) where
  module _ (burst place : ℕ) (wide : (b : ℕ) → b < length groups → IsWideGroup (group_at groups b) burst) (few : burst ≤ span carriers) where
    ends_within : (o : Option ℕ) → AreShort groups carriers place (place + burst) o → place + burst < n
    ends_within None h =
        let from = h.0 in
        let up = span_fits n carriers came in
        let last = last_below n carriers came in
        omega (arith, from, up, last, few)
    ends_within (Some b) h =
        let w = h.1 in
        let some = w.is.some in
        let within = w.is.within in
        let from = w.from in
        let q = wide b h.0 in
        let low = q.low in
        let least = q.is.least w.start w.end w.is in
        let last = member_below 0 n (w.end - 1) (group_at groups b).members (are.members b h.0) (omega (arith, some, within)) in
        omega (arith, from, low, least, last)

    module _ (first : (b x y : ℕ) → b < length groups → IsShortWindow (group_at groups b).members (group_at groups b).need x y
        → place_at (group_at groups b).members (y - 1) ≤ place_at (group_at groups b).members x + burst → place ≤ place_at (group_at groups b).members x)
        (last : span carriers ≤ burst → place ≤ get_or carriers 0 0) where
      -- no run of that length from a place before it is the longest
      none_earlier : (s m : ℕ) (o : Option ℕ) → s < place → m ≡ burst → ¬ Lacks (blocks_of_groups groups carriers) (rest (is_run s (m + 1)) (places 0 n)) o
      none_earlier s m None l e h =
          let w = taken_run n carriers came s (m + 1) h in
          let from = w.0 in
          let to = w.1 in
          let up = span_fits n carriers came in
          let c = last (omega (arith, from, to, e)) in
          omega (arith, from, to, up, c, few, l, e)
      none_earlier s m (Some b) l e h =
          let w = short_window_of groups n are b s (m + 1) h.0 h.1 in
          let from = w.3 in
          let to = w.4 in
          let q = wide b h.0 in
          let low = q.low in
          let least = q.is.least w.0 w.1 w.2 in
          let c = first b w.0 w.1 h.0 w.2 (omega (arith, from, to, e)) in
          omega (arith, from, to, low, least, c, l, e)

      is_first : (o : Option ℕ) → AreShort groups carriers place (place + burst) o → IsBurst (blocks_of_groups groups carriers) (places 0 n) burst
          → IsEnoughBefore (blocks_of_groups groups carriers) (rest (is_run place (burst + 1)) (places 0 n)) o
          → IsFirstBurst (blocks_of_groups groups carriers) (places 0 n) burst place o
      is_first o short is before =
          let p = places_length 0 n in
          let l = ends_within o short in
          record {
            run = record {
              within = omega (arith, p, l);
              harmless = is.bears place (omega (arith, p, l));
              lacks = lacks groups carriers n are came place (place + burst) place (burst + 1) o short (omega arith) (omega arith);
            };
            first = λ s other g r e. none_earlier s other.length other.block g e r.lacks;
            before = before;
          }

    -- a group that has no window so narrow there isn't left short
    enough_there : (b : ℕ) → b < length groups
        → ((x y : ℕ) → IsShortWindow (group_at groups b).members (group_at groups b).need x y
        → place_at (group_at groups b).members (y - 1) ≤ place_at (group_at groups b).members x + burst → place < place_at (group_at groups b).members x)
        → is_enough (blocks_of_groups groups carriers) (rest (is_run place (burst + 1)) (places 0 n)) b ≡ true
    enough_there b l later =
        elim (is_enough (blocks_of_groups groups carriers) (rest (is_run place (burst + 1)) (places 0 n)) b)
        as (λ v. is_enough (blocks_of_groups groups carriers) (rest (is_run place (burst + 1)) (places 0 n)) b ≡ v → v ≡ true) [
          | true ↦ λ e. refl
          | false ↦ λ e.
              (let w = short_window_of groups n are b place (burst + 1) l e in
              let from = w.3 in
              let to = w.4 in
              let q = wide b l in
              let low = q.low in
              let least = q.is.least w.0 w.1 w.2 in
              let c = later w.0 w.1 w.2 (omega (arith, from, to)) in
              absurd (omega (arith, from, to, low, least, c)))
        ] refl

  module _ (at place gap : ℕ) (narrowest : AreNarrowest groups (length groups) at place gap) (wide : (b : ℕ) → b < length groups → IsWideGroup (group_at groups b) gap) where
    pub first_of_blocks : gap ≤ span carriers → (span carriers ≡ gap → place ≤ get_or carriers 0 0) → IsBurst (blocks_of_groups groups carriers) (places 0 n) gap
        → IsFirstBurst (blocks_of_groups groups carriers) (places 0 n) gap place (Some at)
    first_of_blocks few early =
        (λ is. is_first gap place wide few narrowest.first (λ g. early (omega (arith, g, few))) (Some at) (narrowest.within, narrowest.window) is
        (λ b l. (let up = narrowest.within in enough_there gap place wide few b (omega (arith, l, up)) (λ x y. narrowest.early b x y l))))

    pub first_of_carriers : span carriers ≤ gap → (span carriers ≡ gap → get_or carriers 0 0 < place) → IsBurst (blocks_of_groups groups carriers) (places 0 n) (span carriers)
        → IsFirstBurst (blocks_of_groups groups carriers) (places 0 n) (span carriers) (get_or carriers 0 0) None
    first_of_carriers few early =
        let wider : (b : ℕ) → b < length groups → IsWideGroup (group_at groups b) (span carriers) =
        (λ b l. (let q = wide b l in let low = q.low in record { gap = q.gap; is = q.is; low = omega (arith, low, few) })) in
        let later : (b x y : ℕ) → b < length groups → IsShortWindow (group_at groups b).members (group_at groups b).need x y
        → place_at (group_at groups b).members (y - 1) ≤ place_at (group_at groups b).members x + span carriers → get_or carriers 0 0 < place_at (group_at groups b).members x =
        (λ b x y l is far.
        (let q = wide b l in
        let low = q.low in
        let least = q.is.least x y is in
        let same : span carriers ≡ gap = omega (arith, low, least, far, few) in
        let e = early same in
        let o = narrowest.first b x y l is (omega (arith, far, same)) in
        omega (arith, e, o))) in
        (λ is. is_first (span carriers) (get_or carriers 0 0) wider (omega arith)
        (λ b x y l is far. (let z = later b x y l is far in omega (arith, z)))
        (λ g. omega arith) None (omega arith, (let up = span_fits n carriers came in omega (arith, up))) is
        (λ b l. enough_there (span carriers) (get_or carriers 0 0) wider (omega arith) b l (λ x y. later b x y l)))
