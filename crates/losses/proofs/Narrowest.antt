-- The narrowest window of a block's members is its least short run.
use Rattle.std.proofs.Common.{◌≡◌, ℕ, zero, suc, ◌+◌, ◌-◌, ◌<◌, ◌≤◌, Bool, true, false, ◌==◌, cond, List, nat_lt, nat_le, [], ◌∷◌, length, refl, ap, sym, ◌∙◌, arith, ltb-true, leb-true}
use Rattle.std.proofs.lemmas.Bool.{lt-ltb, le-ltb, ltb-false, leb-false, le-leb, lt-leb}
use Rattle.lists.specs.Selection.{is_run, rest, rest_from}
use Rattle.losses.proofs.Grouping.{any_is}
use Rattle.losses.proofs.Link.{IsWindow, has_rest, is_left, window_left}
use Rattle.lists.proofs.Lists.{all_of, filter_same}
use Rattle.losses.proofs.Runs.{IsLeastRun}
use Rattle.losses.proofs.Windows.{different_le, place_le, short_some}
use Rattle.losses.specs.Members.{different_outside, outside}
use Rattle.losses.specs.Windows.{ArePlaced, IsLeastGap, IsShortWindow, member, members, place_at}
use Rattle.losses.specs.Starts.{HaveWindow}
use Rattle.lists.specs.Below.{below}
use Rattle.losses.specs.Numbers.{has, present}
use Rattle.losses.specs.declared.groups.Member.{Member}
use Rattle.losses.specs.Number.{Number}

-- places of members are places of the list, and rise
pub record AreBetween (i n : ℕ) (qs : List Member) : Type 0 where
  pub low : (k : ℕ) → k < length qs → i ≤ place_at qs k
  pub high : (k : ℕ) → k < length qs → place_at qs k < n
  pub placed : ArePlaced qs

between_low : (i n e : ℕ) (qs : List Member) → AreBetween (i + 1) n qs → (k : ℕ) → k < length (member i e ∷ qs) → i ≤ place_at (member i e ∷ qs) k
between_low i n e qs h zero g = omega arith
between_low i n e qs h (suc k) g = let a = h.low k (omega arith) in omega (arith, a)

between_high : (i n e : ℕ) (qs : List Member) → i < n → AreBetween (i + 1) n qs → (k : ℕ) → k < length (member i e ∷ qs) → place_at (member i e ∷ qs) k < n
between_high i n e qs l h zero g = l
between_high i n e qs l h (suc k) g = h.high k (omega arith)

between_placed : (i n e : ℕ) (qs : List Member) → AreBetween (i + 1) n qs → ArePlaced (member i e ∷ qs)
between_placed i n e qs h x zero l g = absurd (omega arith)
between_placed i n e qs h zero (suc y) l g = let a = h.low y (omega arith) in omega (arith, a)
between_placed i n e qs h (suc x) (suc y) l g = h.placed x y (omega arith) (omega arith)

between_cons : (i n e : ℕ) (qs : List Member) → i < n → AreBetween (i + 1) n qs → AreBetween i n (member i e ∷ qs)
between_cons i n e qs l h = record {
  low = between_low i n e qs h;
  high = between_high i n e qs l h;
  placed = between_placed i n e qs h;
}

between_wider : (i n : ℕ) (qs : List Member) → AreBetween (i + 1) n qs → AreBetween i n qs
between_wider i n qs h = record { low = λ k g. (let a = h.low k g in omega (arith, a)); high = h.high; placed = h.placed }

pub members_between : (b i n : ℕ) (ps : List Number) → i + length ps ≤ n → AreBetween i n (members b i ps)
members_between b i n [] l = record { low = λ k g. absurd (omega arith); high = λ k g. absurd (omega arith); placed = λ x y g m. absurd (omega arith) }
members_between b i n (p ∷ ps) l =
    let h = members_between b (i + 1) n ps (omega arith) in
    elim (p.block == b) as (λ v. AreBetween i n (cond v (member i p.esi ∷ members b (i + 1) ps) (members b (i + 1) ps))) [
      | true ↦ between_cons i n p.esi (members b (i + 1) ps) (omega arith) h
      | false ↦ between_wider i n (members b (i + 1) ps) h
    ]

-- how many members stand before a place
pub record IsCutAt (qs : List Member) (a n x : ℕ) : Type 0 where
  pub within : x ≤ n
  pub early : (i : ℕ) → i < x → place_at qs i < a
  pub late : (i : ℕ) → i < n → x ≤ i → a ≤ place_at qs i

-- from which member to which a run of n places from a on takes them, and how many it leaves
record IsTaken (qs : List Member) (a n x y few : ℕ) : Type 0 where
  pub order : x ≤ y
  pub first : IsCutAt qs a (length qs) x
  pub last : IsCutAt qs (a + n) (length qs) y
  pub left : few ≡ different_outside qs x y

cut_at : (qs : List Member) (a : ℕ) → ArePlaced qs → (n : ℕ) → n ≤ length qs → (x : ℕ) × IsCutAt qs a n x
cut_at qs a placed zero l = (0, record { within = omega arith; early = λ i g. absurd (omega arith); late = λ i g h. absurd (omega arith) })
cut_at qs a placed (suc n) l =
    let w = cut_at qs a placed n (omega arith) in
    elim (nat_lt (place_at qs n) a) as (λ v. nat_lt (place_at qs n) a ≡ v → (x : ℕ) × IsCutAt qs a (suc n) x) [
      | true ↦ λ e.
          (let g = ltb-true (place_at qs n) a e in (
            suc n,
            record {
              within = omega arith;
              early = λ i h.
                  elim (nat_lt i n) as (λ v. nat_lt i n ≡ v → place_at qs i < a) [
                    | true ↦ λ f. (let p = placed i n (ltb-true i n f) (omega arith) in omega (arith, p, g))
                    | false ↦ λ f. (let m = ltb-false i n f in let same : i ≡ n = omega (arith, m, h) in let p = ap (place_at qs) same in omega (arith, p, g))
                  ] refl;
              late = λ i h m. absurd (omega arith);
            },
          ))
      | false ↦ λ e.
          (let g = ltb-false (place_at qs n) a e in
          let t = w.1.within in (
            w.0,
            record {
              within = omega (arith, t);
              early = w.1.early;
              late = λ i h m.
                  elim (nat_lt i n) as (λ v. nat_lt i n ≡ v → a ≤ place_at qs i) [
                    | true ↦ λ f. w.1.late i (ltb-true i n f) m
                    | false ↦ λ f. (let q = ltb-false i n f in let same : i ≡ n = omega (arith, q, h) in let p = ap (place_at qs) same in omega (arith, p, g))
                  ] refl;
            },
          ))
    ] refl

in_run : (a m k : ℕ) → a ≤ k → k < a + m → is_run a m k ≡ true
in_run a m k l g = let e : nat_le a k ≡ true = le-leb a k l in let d : nat_lt k (a + m) ≡ true = lt-ltb k (a + m) g in rw (e, d) refl

before_run : (a m k : ℕ) → k < a → is_run a m k ≡ false
before_run a m k l = let e : nat_le a k ≡ false = lt-leb a k l in rw e refl

after_run : (a m k : ℕ) → a + m ≤ k → is_run a m k ≡ false
after_run a m k l = let e : nat_le a k ≡ true = le-leb a k (omega arith) in let d : nat_lt k (a + m) ≡ false = le-ltb k (a + m) l in rw (e, d) refl

nothing : (i : ℕ) (ps : List Number) → rest_from i (λ k. false) ps ≡ ps
nothing i [] = refl
nothing i (p ∷ ps) = ap (λ (qs : List Number). p ∷ qs) (nothing (i + 1) ps)

module _ (b : ℕ) (ps : List Number) where
  -- what a loss leaves, where it takes a window
  pub present_window : (lost : ℕ → Bool) (x y : ℕ) → IsWindow (members b 0 ps) lost x y → length (present b (rest lost ps)) ≡ different_outside (members b 0 ps) x y
  unfolding different_outside
  present_window lost x y w =
      ap (λ (xs : List ℕ). length xs)
      (filter_same (has b (rest lost ps)) (λ j. nat_lt 0 (outside (members b 0 ps) x y j)) (below 256)
      (all_of _ (λ j. has_rest b j lost 0 ps ∙ any_is (is_left lost j) (members b 0 ps) ∙ ap (nat_lt 0) (window_left (members b 0 ps) lost x y j w)) (below 256)))

  -- the members that a run takes
  run_window : (a n : ℕ) → (x : ℕ) × (y : ℕ) × IsTaken (members b 0 ps) a n x y (length (present b (rest (is_run a n) ps)))
  run_window a n =
      let m = members_between b 0 (length ps) ps (omega arith) in
      let x = cut_at (members b 0 ps) a m.placed (length (members b 0 ps)) (omega arith) in
      let y = cut_at (members b 0 ps) (a + n) m.placed (length (members b 0 ps)) (omega arith) in
      let xw = x.1.within in
      let order : x.0 ≤ y.0 =
      elim (nat_le x.0 y.0) as (λ v. nat_le x.0 y.0 ≡ v → x.0 ≤ y.0) [
        | true ↦ λ e. leb-true x.0 y.0 e
        | false ↦ λ e. (let l = leb-false x.0 y.0 e in let p = x.1.early y.0 l in let q = y.1.late y.0 (omega (arith, l, xw)) (omega arith) in absurd (omega (arith, p, q)))
      ] refl in (
        x.0,
        y.0,
        record {
          order = order;
          first = x.1;
          last = y.1;
          left = present_window (is_run a n) x.0 y.0
              (record {
                order = order;
                early = λ i l h. before_run a n (place_at (members b 0 ps) i) (x.1.early i h);
                inner = λ i l h q. in_run a n (place_at (members b 0 ps) i) (x.1.late i l h) (y.1.early i q);
                late = λ i l h. after_run a n (place_at (members b 0 ps) i) (y.1.late i l h);
              });
        },
      )

  pub least_run : (k gap : ℕ) → k ≤ different_outside (members b 0 ps) 0 0 → IsLeastGap (members b 0 ps) k gap → IsLeastRun b k ps (gap + 1)
  least_run k gap enough g =
      let qs = members b 0 ps in
      let m = members_between b 0 (length ps) ps (omega arith) in
      let s = g.is.some in
      let t = g.is.within in
      let z = g.size in
      let top = m.high (g.end - 1) (omega (arith, s, t)) in
      record {
        start = place_at (members b 0 ps) g.start;
        is = record {
          within = omega (arith, top, z);
          short =
              (let e = present_window (is_run (place_at (members b 0 ps) g.start) (gap + 1)) g.start g.end
              (record {
                order = omega (arith, s);
                early = λ i l h. before_run (place_at (members b 0 ps) g.start) (gap + 1) (place_at (members b 0 ps) i) (m.placed i g.start h (omega (arith, s, t)));
                inner = λ i l h n. in_run (place_at (members b 0 ps) g.start) (gap + 1) (place_at (members b 0 ps) i) (place_le (members b 0 ps) k m.placed enough g.start i h l)
                    (let p = place_le (members b 0 ps) k m.placed enough i (g.end - 1) (omega (arith, n)) (omega (arith, s, t)) in omega (arith, p, z));
                late = λ i l h. after_run (place_at (members b 0 ps) g.start) (gap + 1) (place_at (members b 0 ps) i) (let p = m.placed (g.end - 1) i (omega (arith, h, s)) l in omega (arith, p, z));
              }) in
              let f = g.is.short in
              omega (arith, e, f));
        };
        least = λ a n r.
            (let w = run_window a n in
            let f = r.short in
            let e = w.2.left in
            let o = w.2.order in
            let few : different_outside (members b 0 ps) w.0 w.1 < k = omega (arith, e, f) in
            let some = short_some (members b 0 ps) k m.placed enough w.0 w.1 o few in
            let yw = w.2.last.within in
            let c = g.least w.0 w.1 (record { some = some; within = yw; short = few }) in
            let p = w.2.first.late w.0 (omega (arith, some, yw)) (omega arith) in
            let q = w.2.last.early (w.1 - 1) (omega (arith, some)) in
            omega (arith, c, p, q));
      }

  -- a run that has a short window's places leaves fewer
  pub run_short : (k a n e : ℕ) → HaveWindow (members b 0 ps) k a e → e < a + n → length (present b (rest (is_run a n) ps)) < k
  run_short k a n e h l =
      let w = run_window a n in
      let s = h.is.some in
      let i = h.is.within in
      let from = h.from in
      let to = h.to in
      let early : w.0 ≤ h.start =
      elim (nat_le w.0 h.start) as (λ v. nat_le w.0 h.start ≡ v → w.0 ≤ h.start) [
        | true ↦ λ t. leb-true w.0 h.start t
        | false ↦ λ t. (let g = leb-false w.0 h.start t in let p = w.2.first.early h.start g in absurd (omega (arith, p, from)))
      ] refl in
      let late : h.end ≤ w.1 =
      elim (nat_le h.end w.1) as (λ v. nat_le h.end w.1 ≡ v → h.end ≤ w.1) [
        | true ↦ λ t. leb-true h.end w.1 t
        | false ↦ λ t. (let g = leb-false h.end w.1 t in let p = w.2.last.late (h.end - 1) (omega (arith, s, i)) (omega (arith, g)) in absurd (omega (arith, p, to, l)))
      ] refl in
      let d = different_le (members b 0 ps) w.0 w.1 h.start h.end early late in
      let f = h.is.short in
      let left = w.2.left in
      omega (arith, d, f, left)

  -- and one that leaves fewer has those of a short window
  pub short_run : (k a n : ℕ) → k ≤ different_outside (members b 0 ps) 0 0 → length (present b (rest (is_run a n) ps)) < k
      → (x : ℕ) × (y : ℕ) × IsShortWindow (members b 0 ps) k x y × (a ≤ place_at (members b 0 ps) x) × (place_at (members b 0 ps) (y - 1) < a + n)
  short_run k a n enough f =
      let m = members_between b 0 (length ps) ps (omega arith) in
      let w = run_window a n in
      let e = w.2.left in
      let o = w.2.order in
      let few : different_outside (members b 0 ps) w.0 w.1 < k = omega (arith, e, f) in
      let some = short_some (members b 0 ps) k m.placed enough w.0 w.1 o few in
      let yw = w.2.last.within in
      (w.0, w.1, record { some = some; within = yw; short = few }, w.2.first.late w.0 (omega (arith, some, yw)) (omega arith), w.2.last.early (w.1 - 1) (omega (arith, some)))

  -- with no loss
  pub present_all : length (present b ps) ≡ different_outside (members b 0 ps) 0 0
  present_all =
      ap (λ (xs : List Number). length (present b xs)) (sym (nothing 0 ps))
      ∙ present_window (λ k. false) 0 0 (record { order = omega arith; early = λ i l h. refl; inner = λ i l h n. absurd (omega arith); late = λ i l h. refl })
