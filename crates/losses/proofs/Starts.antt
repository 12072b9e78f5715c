-- Runs as they are made: what a window, a shorter run and a run from behind tell.
use Rattle.std.proofs.Common.{◌≡◌, ◌∙◌, ℕ, zero, suc, ◌+◌, ◌-◌, ◌<◌, ◌≤◌, ◌⊎◌, inl, inr, Bool, true, false, nat_lt, ◌==◌, cond, List, [], ◌∷◌, length, get_or, set, get_or-set_same, get_or-set_other, length-set, Option, Some, None, refl, sym, ap, subst, arith, ltb-true}
use Rattle.std.proofs.lemmas.Bool.{ltb-false, eqb-true, eqb-false}
use Rattle.losses.specs.declared.groups.Member.{Member}
use Rattle.losses.specs.declared.longest.Run.{Run}
use Rattle.losses.specs.declared.window.Window.{Window}
use Rattle.losses.specs.Members.{different_outside}
use Rattle.losses.specs.Runs.{run_at}
use Rattle.losses.specs.Groups.{Group, group_at}
use Rattle.losses.specs.Ordered.{AreMembersFrom}
use Rattle.losses.specs.Starts.{IsWindow, shorter, IsUpTo, AreMarked, IsFromBehind, AreSpread, AreShort, AreGroupsMarked}
use Rattle.losses.proofs.Gathered.{last_or}
use Rattle.losses.specs.Windows.{ArePlaced, IsShortWindow, place_at}
use Rattle.losses.proofs.Windows.{different_le, place_le, short_some}

-- ---- windows

module _ (qs : List Member) (k : ℕ) (placed : ArePlaced qs) (enough : k ≤ different_outside qs 0 0) where
  -- a window that was widened
  pub short_window : (w : Window) → IsWindow qs k w → (v : Bool) → v ≡ nat_lt (different_outside qs w.start w.end) k → v ≡ true → IsShortWindow qs k w.start w.end
  short_window w is v e t =
      let few = ltb-true _ _ (sym e ∙ t) in
      record { some = short_some qs k placed enough w.start w.end is.order few; within = is.within; short = few }

  pub window_places : (x y : ℕ) → IsShortWindow qs k x y → place_at qs x ≤ place_at qs (y - 1)
  window_places x y is = let s = is.some in let w = is.within in place_le qs k placed enough x (y - 1) (omega (arith, s)) (omega (arith, s, w))

  -- no window from here on is short
  pub none_short : (w : Window) → IsWindow qs k w → (v : Bool) → v ≡ nat_lt (different_outside qs w.start w.end) k → v ≡ false → w.end ≡ length qs
      → (x y : ℕ) → w.start ≤ x → ¬ IsShortWindow qs k x y
  none_short w is v e f all x y l short =
      let full = ltb-false _ _ (sym e ∙ f) in
      let s = short.short in
      let i = short.within in
      let m = different_le qs w.start w.end x y l (omega (arith, all, i)) in
      omega (arith, full, s, m)

-- ---- one run more

pub up_to_more : (o : Option Run) (m n : ℕ) → m ≤ n → IsUpTo o m → IsUpTo o n
up_to_more None m n l h = h
up_to_more (Some run) m n l h = omega (arith, l, h)

kept_shorter : (o : Option Run) (run : Run) (m : ℕ) → IsUpTo o m → (shorter o run).length ≤ m
kept_shorter None run m h = absurd h
kept_shorter (Some old) run m h =
    elim (nat_lt run.length old.length) as (λ v. nat_lt run.length old.length ≡ v → (cond v run old).length ≤ m) [
      | true ↦ λ e. (let l = ltb-true run.length old.length e in omega (arith, l, h))
      | false ↦ λ e. h
    ] refl

new_shorter : (o : Option Run) (run : Run) → (shorter o run).length ≤ run.length
new_shorter None run = omega arith
new_shorter (Some old) run =
    elim (nat_lt run.length old.length) as (λ v. nat_lt run.length old.length ≡ v → (cond v run old).length ≤ run.length) [
      | true ↦ λ e. omega arith
      | false ↦ λ e. ltb-false run.length old.length e
    ] refl

either : (o : Option Run) (run : Run) → (o ≡ Some (shorter o run)) ⊎ (shorter o run ≡ run)
either None run = inr refl
either (Some old) run =
    elim (nat_lt run.length old.length) as (λ v. (Some old ≡ Some (cond v run old)) ⊎ (cond v run old ≡ run)) [ true ↦ inr refl | false ↦ inl refl ]

module _ (old new : List (Option Run)) (s : ℕ) (run : Run) (within : s < length old) (is : new ≡ set old s (Some (shorter (run_at old s) run))) where
  pub put_count : length new ≡ length old
  put_count = ap (λ (runs : List (Option Run)). length runs) is ∙ length-set old s _

  put_here : run_at new s ≡ Some (shorter (run_at old s) run)
  put_here = ap (λ (runs : List (Option Run)). run_at runs s) is ∙ get_or-set_same old s (Some (shorter (run_at old s) run)) None within

  pub put_elsewhere : (j : ℕ) → (j ≡ s → ⊥) → run_at new j ≡ run_at old j
  put_elsewhere j ne = ap (λ (runs : List (Option Run)). run_at runs j) is ∙ get_or-set_other old s j (Some (shorter (run_at old s) run)) None ne

  pub put_new : IsUpTo (run_at new s) run.length
  put_new = subst (λ (o : Option Run). IsUpTo o run.length) (sym put_here) (new_shorter (run_at old s) run)

  pub put_kept : (j m : ℕ) → IsUpTo (run_at old j) m → IsUpTo (run_at new j) m
  put_kept j m h =
      elim (j == s) as (λ v. (j == s) ≡ v → IsUpTo (run_at new j) m) [
        | true ↦ λ e.
            (let same : s ≡ j = sym (eqb-true j s e) in
            let here = subst (λ (i : ℕ). IsUpTo (run_at old i) m) (sym same) h in
            subst (λ (i : ℕ). IsUpTo (run_at new i) m) same
            (subst (λ (o : Option Run). IsUpTo o m) (sym put_here) (kept_shorter (run_at old s) run m here)))
        | false ↦ λ e. subst (λ (o : Option Run). IsUpTo o m) (sym (put_elsewhere j (eqb-false j s e))) h
      ] refl

  pub put_sound : (j : ℕ) (r : Run) → run_at new j ≡ Some r → (run_at old j ≡ Some r) ⊎ ((j ≡ s) × (r ≡ run))
  put_sound j r h =
      elim (j == s) as (λ v. (j == s) ≡ v → (run_at old j ≡ Some r) ⊎ ((j ≡ s) × (r ≡ run))) [
        | true ↦ λ e.
            (let same : j ≡ s = eqb-true j s e in
            let here : run_at new s ≡ Some r = subst (λ (i : ℕ). run_at new i ≡ Some r) same h in
            let one : r ≡ shorter (run_at old s) run = cc (put_here) in
            elim (either (run_at old s) run) [
              | inl a ↦ inl (subst (λ (i : ℕ). run_at old i ≡ Some r) (sym same) (a ∙ ap (λ (x : Run). Some x) (sym one)))
              | inr a ↦ inr (same, one ∙ a)
            ])
        | false ↦ λ e. inl (sym (put_elsewhere j (eqb-false j s e)) ∙ h)
      ] refl

-- ---- a group's windows, from one start after the other

module _ (qs : List Member) (k : ℕ) (placed : ArePlaced qs) (enough : k ≤ different_outside qs 0 0) (block : ℕ) (old mid : List (Option Run)) (x : ℕ)
    (are : AreMarked qs k block x old mid) where
  -- the window from this start
  pub mark_more : (new : List (Option Run)) (y n : ℕ) → IsShortWindow qs k x y → ((z : ℕ) → z < y → k ≤ different_outside qs x z)
      → place_at qs x + n ≡ place_at qs (y - 1) → place_at qs (y - 1) < length old
      → new ≡ set mid (place_at qs x) (Some (shorter (run_at mid (place_at qs x)) (record { length = n; block = Some block }))) → AreMarked qs k block (x + 1) old new
  mark_more new y n short before size fits is =
      let run : Run = record { length = n; block = Some block } in
      let count = are.count in
      let here : place_at qs x < length mid = omega (arith, count, fits, size) in
      record {
        count = put_count mid new (place_at qs x) (record { length = n; block = Some block }) here is ∙ are.count;
        sound = λ s r h.
            elim (put_sound mid new (place_at qs x) (record { length = n; block = Some block }) here is s r h) [
              | inl a ↦ are.sound s r a
              | inr a ↦ inr (
                ap (λ (z : Run). z.block) a.1,
                (let l = ap (λ (z : Run). z.length) a.1 in
                    record { start = x; end = y; is = short; from = (let b = a.0 in omega (arith, b)); to = (let b = a.0 in omega (arith, b, l, size)) }),
                (let l = ap (λ (z : Run). z.length) a.1 in let b = a.0 in omega (arith, b, l, size, fits)),
              )
            ];
        kept = λ s m h. put_kept mid new (place_at qs x) (record { length = n; block = Some block }) here is s m (are.kept s m h);
        seen = λ i z l h.
            elim (nat_lt i x) as (λ v. nat_lt i x ≡ v → IsUpTo (run_at new (place_at qs i)) (place_at qs (z - 1) - place_at qs i)) [
              | true ↦ λ e. put_kept mid new (place_at qs x) (record { length = n; block = Some block }) here is (place_at qs i) _ (are.seen i z (ltb-true i x e) h)
              | false ↦ λ e.
                  (let g = ltb-false i x e in
                  let same : x ≡ i = omega (arith, l, g) in
                  let there : IsShortWindow qs k x z = subst (λ (w : ℕ). IsShortWindow qs k w z) (sym same) h in
                  let some = short.some in
                  let within = there.within in
                  let few = there.short in
                  let late : y ≤ z =
                  elim (nat_lt z y) as (λ v. nat_lt z y ≡ v → y ≤ z) [
                    | true ↦ λ f. (let b = before z (ltb-true z y f) in absurd (omega (arith, b, few)))
                    | false ↦ λ f. ltb-false z y f
                  ] refl in
                  let up = place_le qs k placed enough (y - 1) (z - 1) (omega (arith, late)) (omega (arith, late, some, within)) in
                  subst (λ (w : ℕ). IsUpTo (run_at new (place_at qs w)) (place_at qs (z - 1) - place_at qs w)) same
                  (up_to_more _ n _ (omega (arith, up, size)) (put_new mid new (place_at qs x) (record { length = n; block = Some block }) here is)))
            ] refl;
      }

  -- none from this one on
  pub mark_last : ((i y : ℕ) → x ≤ i → ¬ IsShortWindow qs k i y) → AreMarked qs k block (length qs) old mid
  mark_last none = record {
    count = are.count;
    sound = are.sound;
    kept = are.kept;
    seen = λ i y l h.
        elim (nat_lt i x) as (λ v. nat_lt i x ≡ v → IsUpTo (run_at mid (place_at qs i)) (place_at qs (y - 1) - place_at qs i)) [
          | true ↦ λ e. are.seen i y (ltb-true i x e) h
          | false ↦ λ e. absurd (none i y (ltb-false i x e) h)
        ] refl;
  }

-- ---- runs that begin earlier

module _ (p : ℕ) (old mid : List (Option Run)) (are : AreSpread (suc p) old mid) (within : suc p < length old) where
  from_behind : (behind r : Run) → IsFromBehind old (suc p) behind → r ≡ record { length = behind.length + 1; block = behind.block } → IsFromBehind old p r
  from_behind behind r h e =
      let l = ap (λ (x : Run). x.length) e in
      let s = h.size in
      let at : suc p + h.by ≡ p + (h.by + 1) = omega arith in
      record {
        by = h.by + 1;
        behind = h.behind;
        is = subst (λ (i : ℕ). run_at old i ≡ Some h.behind) at h.is;
        size = omega (arith, l, s);
        block = ap (λ (x : Run). x.block) e ∙ h.block;
      }

  pub spread_more : (behind : Run) (new : List (Option Run)) → run_at mid (suc p) ≡ Some behind
      → new ≡ set mid p (Some (shorter (run_at mid p) (record { length = behind.length + 1; block = behind.block }))) → AreSpread p old new
  spread_more behind new h is =
      let count = are.count in
      let here : p < length mid = omega (arith, count, within) in
      record {
        count = put_count mid new p (record { length = behind.length + 1; block = behind.block }) here is ∙ are.count;
        sound = λ s r e.
            elim (put_sound mid new p (record { length = behind.length + 1; block = behind.block }) here is s r e) [
              | inl a ↦ are.sound s r a
              | inr a ↦ subst (λ (i : ℕ). IsFromBehind old i r) (sym a.0) (from_behind behind r (are.sound (suc p) behind h) a.1)
            ];
        kept = λ s l. put_elsewhere mid new p (record { length = behind.length + 1; block = behind.block }) here is s (λ e. omega (arith, e, l)) ∙ are.kept s (omega (arith, l));
        seen = λ s by m l g u.
            elim (nat_lt p s) as (λ v. nat_lt p s ≡ v → IsUpTo (run_at new s) (m + by)) [
              | true ↦ λ e. put_kept mid new p (record { length = behind.length + 1; block = behind.block }) here is s (m + by) (are.seen s by m (let a = ltb-true p s e in omega (arith, a)) g u)
              | false ↦ λ e.
                  (let a = ltb-false p s e in
                  let same : p ≡ s = omega (arith, a, l) in
                  subst (λ (i : ℕ). IsUpTo (run_at new i) (m + by)) same
                  (at_start by m (subst (λ (i : ℕ). IsUpTo (run_at old (i + by)) m) (sym same) u) (omega (arith, g, same))))
            ] refl;
      }
    where
      at_start : (by m : ℕ) → IsUpTo (run_at old (p + by)) m → p + by < length old → IsUpTo (run_at new p) (m + by)
      at_start zero m u g =
          let count = are.count in
          let z : p + 0 ≡ p = omega arith in
          let o = subst (λ (i : ℕ). IsUpTo (run_at old i) m) z u in
          up_to_more _ m (m + 0) (omega arith)
          (put_kept mid new p (record { length = behind.length + 1; block = behind.block }) (omega (arith, count, within)) is p m
          (subst (λ (x : Option Run). IsUpTo x m) (sym (are.kept p (omega arith))) o))
      at_start (suc d) m u g =
          let count = are.count in
          let z : p + suc d ≡ suc p + d = omega arith in
          let o = are.seen (suc p) d m (omega arith) (omega (arith, g)) (subst (λ (i : ℕ). IsUpTo (run_at old i) m) z u) in
          let b : behind.length ≤ m + d = subst (λ (x : Option Run). IsUpTo x (m + d)) h o in
          up_to_more _ (behind.length + 1) (m + suc d) (omega (arith, b)) (put_new mid new p (record { length = behind.length + 1; block = behind.block }) (omega (arith, count, within)) is)

  pub spread_none : run_at mid (suc p) ≡ None → AreSpread p old mid
  spread_none h = record {
    count = are.count;
    sound = are.sound;
    kept = λ s l. are.kept s (omega (arith, l));
    seen = λ s by m l g u.
        elim (nat_lt p s) as (λ v. nat_lt p s ≡ v → IsUpTo (run_at mid s) (m + by)) [
          | true ↦ λ e. are.seen s by m (let a = ltb-true p s e in omega (arith, a)) g u
          | false ↦ λ e.
              (let a = ltb-false p s e in
              let same : p ≡ s = omega (arith, a, l) in
              subst (λ (i : ℕ). IsUpTo (run_at mid i) (m + by)) same
              (at_start by m (subst (λ (i : ℕ). IsUpTo (run_at old (i + by)) m) (sym same) u) (omega (arith, g, same))))
        ] refl;
  }
    where
      at_start : (by m : ℕ) → IsUpTo (run_at old (p + by)) m → p + by < length old → IsUpTo (run_at mid p) (m + by)
      at_start zero m u g =
          let z : p + 0 ≡ p = omega arith in
          let o = subst (λ (i : ℕ). IsUpTo (run_at old i) m) z u in
          up_to_more _ m (m + 0) (omega arith) (subst (λ (x : Option Run). IsUpTo x m) (sym (are.kept p (omega arith))) o)
      at_start (suc d) m u g =
          let z : p + suc d ≡ suc p + d = omega arith in
          let o = are.seen (suc p) d m (omega arith) (omega (arith, g)) (subst (λ (i : ℕ). IsUpTo (run_at old i) m) z u) in
          absurd (subst (λ (x : Option Run). IsUpTo x (m + d)) h o)

-- ---- groups, one after the other, and the carriers

pub member_below : (i n k : ℕ) (qs : List Member) → AreMembersFrom i n qs → k < length qs → place_at qs k < n
member_below i n k [] h l = absurd (omega (arith, l))
member_below i n zero (q ∷ qs) h l = h.1
member_below i n (suc k) (q ∷ qs) h l = member_below (q.place + 1) n k qs h.3 (omega (arith, l))

pub group_more : (groups : List Group) (carriers : List ℕ) (len n : ℕ) (old new : List (Option Run)) → n < length groups → AreGroupsMarked groups carriers len n old
    → AreMarked (group_at groups n).members (group_at groups n).need n (length (group_at groups n).members) old new → AreGroupsMarked groups carriers len (n + 1) new
group_more groups carriers len n old new within are more = record {
  count = more.count ∙ are.count;
  sound = λ s run h.
      elim (more.sound s run h) [
        | inl a ↦ are.sound s run a
        | inr a ↦ (
          (let b = a.2 in let c = are.count in omega (arith, b, c)),
          subst (λ (o : Option ℕ). AreShort groups carriers s (s + run.length) o) (sym a.0) (within, a.1),
        )
      ];
  seen = λ b i y l.
      last_or (λ b. IsShortWindow (group_at groups b).members (group_at groups b).need i y
      → IsUpTo (run_at new (place_at (group_at groups b).members i)) (place_at (group_at groups b).members (y - 1) - place_at (group_at groups b).members i)) n
      (λ b g h. more.kept (place_at (group_at groups b).members i) (place_at (group_at groups b).members (y - 1) - place_at (group_at groups b).members i) (are.seen b i y g h))
      (λ h. more.seen i y (let s = h.some in let w = h.within in omega (arith, s, w)) h) b l;
}

module _ (groups : List Group) (carriers : List ℕ) (len n : ℕ) (old new : List (Option Run)) (are : AreGroupsMarked groups carriers len n old) (m : ℕ)
    (size : get_or carriers 0 0 + m ≡ get_or carriers (length carriers - 1) 0) (within : get_or carriers (length carriers - 1) 0 < len)
    (is : new ≡ set old (get_or carriers 0 0) (Some (shorter (run_at old (get_or carriers 0 0)) (record { length = m; block = None })))) where
  here : get_or carriers 0 0 < length old
  here = let c = are.count in omega (arith, size, within, c)

  pub carriers_more : AreGroupsMarked groups carriers len n new
  carriers_more = record {
    count = put_count old new (get_or carriers 0 0) (record { length = m; block = None }) here is ∙ are.count;
    sound = λ s run h.
        elim (put_sound old new (get_or carriers 0 0) (record { length = m; block = None }) here is s run h) [
          | inl a ↦ are.sound s run a
          | inr a ↦
              (let at = a.0 in
              let l = ap (λ (r : Run). r.length) a.1 in (
                omega (arith, at, l, size, within),
                subst (λ (o : Option ℕ). AreShort groups carriers s (s + run.length) o) (sym (ap (λ (r : Run). r.block) a.1)) (omega (arith, at), omega (arith, at, l, size)),
              ))
        ];
    seen = λ b i y l h.
        put_kept old new (get_or carriers 0 0) (record { length = m; block = None }) here is (place_at (group_at groups b).members i)
        (place_at (group_at groups b).members (y - 1) - place_at (group_at groups b).members i) (are.seen b i y l h);
  }

  pub carriers_taken : IsUpTo (run_at new (get_or carriers 0 0)) m
  carriers_taken = put_new old new (get_or carriers 0 0) (record { length = m; block = None }) here is
