-- The runs that were made are the longest that are harmless.
use Rattle.std.proofs.Common.{◌≡◌, ◌∙◌, ℕ, zero, suc, ◌+◌, ◌-◌, ◌<◌, ◌≤◌, true, false, nat_lt, nat_le, min, List, length, get_or, Option, Some, None, refl, sym, ap, subst, arith, ltb-true, leb-true}
use Rattle.std.specs.List.{list_any}
use Rattle.std.proofs.lemmas.Bool.{ltb-false, leb-false}
use Rattle.lists.specs.Selection.{rest, is_among, is_run}
use Rattle.losses.specs.declared.longest.Run.{Run}
use Rattle.losses.specs.Groups.{Group, group_at, places, blocks_of_groups}
use Rattle.losses.specs.Losses.{is_enough, IsHarmless, IsBurst}
use Rattle.losses.specs.Ordered.{AreOrdered, AreOrderedCarriers}
use Rattle.losses.specs.Runs.{run_at, Lacks, IsRunFrom, AreRuns, IsLeastLength}
use Rattle.losses.specs.Starts.{IsUpTo, AreSpread, AreShort, AreGroupsMarked}
use Rattle.losses.specs.Windows.{place_at}
use Rattle.losses.proofs.CarrierGroup.{run_takes, taken_run, span_fits, last_below}
use Rattle.losses.proofs.GroupFigures.{window_short, short_window_of, placed_of}
use Rattle.losses.proofs.Lines.{places_length}
use Rattle.losses.proofs.Starts.{window_places}

module _ (groups : List Group) (carriers : List ℕ) (n : ℕ) (are : AreOrdered groups n) (came : AreOrderedCarriers carriers n) where
  -- a run that has those places leaves the group short, or takes all carriers
  pub lacks : (a e s m : ℕ) (o : Option ℕ) → AreShort groups carriers a e o → s ≤ a → e < s + m → Lacks (blocks_of_groups groups carriers) (rest (is_run s m) (places 0 n)) o
  lacks a e s m None h l g = run_takes n carriers came s m (let f = h.0 in omega (arith, f, l)) (let f = h.1 in omega (arith, f, g))
  lacks a e s m (Some b) h l g =
      let w = h.1 in
      (h.0, window_short groups n are b s m e h.0 (record { start = w.start; end = w.end; is = w.is; from = (let f = w.from in omega (arith, f, l)); to = w.to }) g)

  harms : (s m : ℕ) (o : Option ℕ) → Lacks (blocks_of_groups groups carriers) (rest (is_run s m) (places 0 n)) o → ¬ IsHarmless (blocks_of_groups groups carriers) (places 0 n) (is_run s m)
  harms s m None h harmless = let c = harmless.carrier in absurd (cc)
  harms s m (Some b) h harmless = let f = harmless.full b h.0 in let e = h.1 in absurd (cc)

  module _ (made runs : List (Option Run)) (marked : AreGroupsMarked groups carriers n (length groups) made)
      (taken : IsUpTo (run_at made (get_or carriers 0 0)) (get_or carriers (length carriers - 1) 0 - get_or carriers 0 0)) (spread : AreSpread 0 made runs) where
    ends : (s : ℕ) (run : Run) → run_at runs s ≡ Some run → (s + run.length < n) × ((a m : ℕ) → a ≤ s → s + run.length < a + m → Lacks (blocks_of_groups groups carriers) (rest (is_run a m) (places 0 n)) run.block)
    ends s run h =
        let b = spread.sound s run h in
        let z = b.size in
        let m = marked.sound (s + b.by) b.behind b.is in
        let l = m.0 in (
          omega (arith, l, z),
          λ a k g f. subst (λ (o : Option ℕ). Lacks (blocks_of_groups groups carriers) (rest (is_run a k) (places 0 n)) o) (sym b.block)
              (lacks (s + b.by) (s + b.by + b.behind.length) a k b.behind.block m.1 (omega (arith, g)) (omega (arith, f, z))),
        )

    -- what ends behind a place bounds the run from there
    up_to_behind : (s x e : ℕ) → s ≤ x → x ≤ e → e < n → IsUpTo (run_at made x) (e - x) → IsUpTo (run_at runs s) (e - s)
    up_to_behind s x e l g f u =
        let count = marked.count in
        let at : x ≡ s + (x - s) = omega (arith, l) in
        let size : e - x + (x - s) ≡ e - s = omega (arith, l, g) in
        subst (λ (k : ℕ). IsUpTo (run_at runs s) k) size
        (spread.seen s (x - s) (e - x) (omega arith) (omega (arith, count, l, g, f)) (subst (λ (i : ℕ). IsUpTo (run_at made i) (e - x)) at u))

    -- no run from this place on is so short
    harmless : (s m : ℕ) → s + m ≤ n → ((k : ℕ) → k < m → ¬ IsUpTo (run_at runs s) k) → IsHarmless (blocks_of_groups groups carriers) (places 0 n) (is_run s m)
    harmless s m l none = record {
      full = λ b hb.
          elim (is_enough (blocks_of_groups groups carriers) (rest (is_run s m) (places 0 n)) b) as (λ v. is_enough (blocks_of_groups groups carriers) (rest (is_run s m) (places 0 n)) b ≡ v → v ≡ true) [
            | true ↦ λ e. refl
            | false ↦ λ e.
                (let w = short_window_of groups n are b s m hb e in
                let x = place_at (group_at groups b).members w.0 in
                let y = place_at (group_at groups b).members (w.1 - 1) in
                let from = w.3 in
                let to = w.4 in
                let up = window_places (group_at groups b).members (group_at groups b).need (placed_of groups n are b hb) (are.enough b hb) w.0 w.1 w.2 in
                let u = up_to_behind s (place_at (group_at groups b).members w.0) (place_at (group_at groups b).members (w.1 - 1)) from up (omega (arith, to, l)) (marked.seen b w.0 w.1 hb w.2) in
                absurd (none (place_at (group_at groups b).members (w.1 - 1) - s) (omega (arith, from, up, to)) u))
          ] refl;
      carrier =
          elim (list_any (is_among carriers) (rest (is_run s m) (places 0 n))) as (λ v. list_any (is_among carriers) (rest (is_run s m) (places 0 n)) ≡ v → v ≡ true) [
            | true ↦ λ e. refl
            | false ↦ λ e.
                (let w = taken_run n carriers came s m e in
                let from = w.0 in
                let to = w.1 in
                let up = span_fits n carriers came in
                let u = up_to_behind s (get_or carriers 0 0) (get_or carriers (length carriers - 1) 0) from up (omega (arith, to, l)) taken in
                absurd (none (get_or carriers (length carriers - 1) 0 - s) (omega (arith, from, up, to)) u))
          ] refl;
    }

    -- from a place on
    from_place : (s : ℕ) (o : Option Run) → run_at runs s ≡ o → IsRunFrom (blocks_of_groups groups carriers) (places 0 n) s o
    from_place s None is =
        λ m l. harmless s m (let p = places_length 0 n in omega (arith, p, l)) (λ k g u. subst (λ (o : Option Run). IsUpTo o k) is u)
    from_place s (Some run) is =
        let e = ends s run is in
        let p = places_length 0 n in
        let w = e.0 in
        record {
          within = omega (arith, w, p);
          harmless = harmless s run.length (omega (arith, w)) (λ k g u. let l : run.length ≤ k = subst (λ (o : Option Run). IsUpTo o k) is u in omega (arith, l, g));
          lacks = e.1 s (run.length + 1) (omega arith) (omega arith);
        }

    pub are_runs : AreRuns (blocks_of_groups groups carriers) (places 0 n) runs
    are_runs = record {
      count = spread.count ∙ marked.count ∙ sym (places_length 0 n);
      each = λ s l. from_place s (run_at runs s) refl;
    }

    -- ---- the shortest of them

    -- from the first place on a run that goes to the end takes all carriers
    first_run : (o : Option Run) → run_at runs 0 ≡ o → (run : Run) × (run_at runs 0 ≡ Some run)
    first_run (Some run) is = (run, is)
    first_run None is =
        let p = places_length 0 n in
        let all = from_place 0 None is n (omega (arith, p)) in
        absurd (harms 0 n None (run_takes n carriers came 0 n (omega arith) (let b = last_below n carriers came in omega (arith, b))) all)

    -- the shortest up to a place
    record IsShortest (k : ℕ) : Type 0 where
      pub start : ℕ
      pub run : Run
      pub is : run_at runs start ≡ Some run
      pub least : (s : ℕ) (other : Run) → s < k + 1 → run_at runs s ≡ Some other → run.length ≤ other.length

    one_more : (k : ℕ) → IsShortest k → (o : Option Run) → run_at runs (suc k) ≡ o → IsShortest (suc k)
    one_more k h None is = record {
      start = h.start;
      run = h.run;
      is = h.is;
      least = λ s other l e.
          elim (nat_lt s (k + 1)) as (λ v. nat_lt s (k + 1) ≡ v → h.run.length ≤ other.length) [
            | true ↦ λ t. h.least s other (ltb-true s (k + 1) t) e
            | false ↦ λ t. (let g = ltb-false s (k + 1) t in let same : s ≡ suc k = omega (arith, g, l) in let d = ap (run_at runs) same in absurd (cc))
          ] refl;
    }
    one_more k h (Some run) is =
        elim (nat_lt run.length h.run.length) as (λ v. nat_lt run.length h.run.length ≡ v → IsShortest (suc k)) [
          | true ↦ λ u. record {
            start = suc k;
            run = run;
            is = is;
            least = λ s other l e.
                elim (nat_lt s (k + 1)) as (λ v. nat_lt s (k + 1) ≡ v → run.length ≤ other.length) [
                  | true ↦ λ t. (let m = h.least s other (ltb-true s (k + 1) t) e in let f = ltb-true run.length h.run.length u in omega (arith, m, f))
                  | false ↦ λ t. (let g = ltb-false s (k + 1) t in let same : s ≡ suc k = omega (arith, g, l) in let d = ap (run_at runs) same in let one : other ≡ run = cc in let z = ap (λ (r : Run). r.length) one in omega (arith, z))
                ] refl;
          }
          | false ↦ λ u. record {
            start = h.start;
            run = h.run;
            is = h.is;
            least = λ s other l e.
                elim (nat_lt s (k + 1)) as (λ v. nat_lt s (k + 1) ≡ v → h.run.length ≤ other.length) [
                  | true ↦ λ t. h.least s other (ltb-true s (k + 1) t) e
                  | false ↦ λ t. (let g = ltb-false s (k + 1) t in let f = ltb-false run.length h.run.length u in let same : s ≡ suc k = omega (arith, g, l) in let d = ap (run_at runs) same in let one : other ≡ run = cc in let z = ap (λ (r : Run). r.length) one in omega (arith, z, f))
                ] refl;
          }
        ] refl

    shortest : (k : ℕ) → IsShortest k
    shortest zero =
        let f = first_run (run_at runs 0) refl in
        record {
          start = 0;
          run = f.0;
          is = f.1;
          least = λ s other l e. (let same : s ≡ 0 = omega (arith, l) in let d = ap (run_at runs) same in let first = f.1 in let one : other ≡ f.0 = cc in let z = ap (λ (r : Run). r.length) one in omega (arith, z));
        }
    shortest (suc k) = one_more k (shortest k) (run_at runs (suc k)) refl

    -- no run of that length harms
    bears : (h : IsShortest n) → (a : ℕ) → a + h.run.length ≤ length (places 0 n) → IsHarmless (blocks_of_groups groups carriers) (places 0 n) (is_run a h.run.length)
    bears h a l =
        let p = places_length 0 n in
        harmless a h.run.length (omega (arith, p, l)) (λ k g u. not_shorter k g (run_at runs a) refl u)
      where
        not_shorter : (k : ℕ) → k < h.run.length → (o : Option Run) → run_at runs a ≡ o → IsUpTo (run_at runs a) k → ⊥
        not_shorter k g None is u = subst (λ (o : Option Run). IsUpTo o k) is u
        not_shorter k g (Some run) is u =
            let p = places_length 0 n in
            let up : run.length ≤ k = subst (λ (o : Option Run). IsUpTo o k) is u in
            let low = h.least a run (omega (arith, p, l)) is in
            omega (arith, up, low, g)

    -- the burst isn't longer than any run
    no_longer : (burst s : ℕ) (run : Run) → IsBurst (blocks_of_groups groups carriers) (places 0 n) burst → run_at runs s ≡ Some run → burst ≤ run.length
    no_longer burst s run is e =
        elim (nat_le burst run.length) as (λ v. nat_le burst run.length ≡ v → burst ≤ run.length) [
          | true ↦ λ t. leb-true burst run.length t
          | false ↦ λ t.
              (let g = leb-false burst run.length t in
              let p = places_length 0 n in
              let w = is.within in
              let h = ends s run e in
              let l = h.0 in
              absurd (harms (min s (n - burst)) burst run.block (h.1 (min s (n - burst)) burst (omega arith) (omega (arith, g, l, p, w)))
              (is.bears (min s (n - burst)) (omega (arith, p, w)))))
        ] refl

    pub least_is_burst : (burst : ℕ) → IsBurst (blocks_of_groups groups carriers) (places 0 n) burst → IsLeastLength runs burst
    least_is_burst burst is =
        let h = shortest n in
        let p = places_length 0 n in
        let l = (ends h.start h.run h.is).0 in
        let up = is.greatest h.run.length (omega (arith, l, p)) (bears h) in
        let low = no_longer burst h.start h.run is h.is in
        record {
          start = h.start;
          run = h.run;
          is = h.is;
          size = omega (arith, up, low);
          least = λ s other e. no_longer burst s other is e;
        }
