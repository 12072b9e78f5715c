use Rattle.std.proofs.Common.{◌≡◌, ℕ, ◌+◌, ◌-◌, ◌<◌, ◌≤◌, ◌⊎◌, ◌∙◌, ap, sym, arith, inl, inr, refl, subst}
use Rattle.std.proofs.lemmas.Bool.{ltb-false}
use Rattle.losses.proofs.Starts.{short_window, window_places}
use Rattle.losses.proofs.Windows.{IsFound, done_all, done_early, more_least}
use Rattle.losses.specs.Members.{different_outside}
use Rattle.losses.specs.declared.window.Gap.{Gap}
use Rattle.losses.specs.Windows.{IsShortWindow, place_at}
use Rattle.losses.proofs.window.least_gap.Goals as goal
use Rattle.losses.proofs.window.least_gap.Goals.{then-start-eq0, then-start-eq0-via-then-start-eq0, then-start-eq0-via-else-start-eq0+then-length-least, else-start-eq0+else-length-least}

pub loop-start-init : goal.loop-start-init
loop-start-init c = record {
  at = c.new-window.ensures.start;
  window = c.new-window.ensures.window c.args.need;
  least = λ x y l. absurd (omega (arith, l));
  found = inl refl;
}

pub overflow_sub-length-in-loop-start : goal.overflow_sub-length-in-loop-start
overflow_sub-length-in-loop-start c =
    let e = c.widen.ensures in
    let s = short_window c.args.members.now c.args.need c.requires.placed c.requires.enough c.widen.new.self e.window c.widen.result e.short c.if-not-widen.false in
    let p = window_places c.args.members.now c.args.need c.requires.placed c.requires.enough c.widen.new.self.start c.widen.new.self.end s in
    let at : c.widen.new.self.start ≡ c.loop-start.start = e.start ∙ c.loop-start.invariant.at in
    subst (λ (x : ℕ). place_at c.args.members.now x ≤ place_at c.args.members.now (c.widen.new.self.end - 1)) at p

pub narrow-requires-clause-some : goal.narrow-requires-clause-some
narrow-requires-clause-some c =
    let e = c.widen.ensures in
    (short_window c.args.members.now c.args.need c.requires.placed c.requires.enough c.widen.new.self e.window c.widen.result e.short c.if-not-widen.false).some

pub loop-start-preserved : goal.loop-start-preserved
loop-start-preserved c =
    let w = c.widen.ensures in
    let start = c.loop-start.start in
    let end = c.widen.new.self.end in
    let at : c.widen.new.self.start ≡ c.loop-start.start = w.start ∙ c.loop-start.invariant.at in
    let window : IsShortWindow c.args.members.now c.args.need c.loop-start.start c.widen.new.self.end =
    subst (λ (x : ℕ). IsShortWindow c.args.members.now c.args.need x c.widen.new.self.end) at
    (short_window c.args.members.now c.args.need c.requires.placed c.requires.enough c.widen.new.self w.window c.widen.result w.short c.if-not-widen.false) in
    let before : (y : ℕ) → y < c.widen.new.self.end → c.args.need ≤ different_outside c.args.members.now c.loop-start.start y =
    λ y l. subst (λ (x : ℕ). c.args.need ≤ different_outside c.args.members.now x y) at (w.window.before y l) in
    let up = window_places c.args.members.now c.args.need c.requires.placed c.requires.enough c.loop-start.start c.widen.new.self.end window in
    let size : place_at c.args.members.now c.loop-start.start + (place_at c.args.members.now (c.widen.new.self.end - 1) - place_at c.args.members.now c.loop-start.start) ≡ place_at c.args.members.now (c.widen.new.self.end - 1) = omega (arith, up) in
    let more = more_least c.args.members.now c.args.need c.requires.placed c.requires.enough c.loop-start.start c.widen.new.self.end c.loop-start.least.length c.if-start-eq0.least.length
    (place_at c.args.members.now (c.widen.new.self.end - 1) - place_at c.args.members.now c.loop-start.start) window before size c.loop-start.invariant.least in
    let found : c.if-start-eq0.least ≡ record { place = place_at c.args.members.now c.loop-start.start; length = place_at c.args.members.now (c.widen.new.self.end - 1) - place_at c.args.members.now c.loop-start.start }
    → ((c.loop-start.start ≡ 0) ⊎ (place_at c.args.members.now (c.widen.new.self.end - 1) - place_at c.args.members.now c.loop-start.start < c.loop-start.least.length))
    → IsFound c.args.members.now c.args.need c.if-start-eq0.least.place c.if-start-eq0.least.length =
    λ e narrower. (let l = ap (λ (g : Gap). g.length) e in let p = ap (λ (g : Gap). g.place) e in record {
      start = c.loop-start.start;
      end = c.widen.new.self.end;
      is = window;
      from = sym p;
      size = omega (arith, l, size);
      wider = λ x y g h.
          elim narrower [
            | inl z ↦ absurd (omega (arith, z, g))
            | inr z ↦ (let a = c.loop-start.invariant.least x y g h in omega (arith, a, z, l))
          ];
    }) in
    record {
      at = c.narrow.ensures.start ∙ ap (λ (x : ℕ). x + 1) at;
      window = c.narrow.ensures.window c.args.need w.window;
      least =
          elim c.if-start-eq0.branch [
            | then-start-eq0 z ↦
                (let e = ap (λ (g : Gap). g.length) z.least-is in
                more (omega (arith, e))
                (elim z.then-start-eq0.branch [
                  | then-start-eq0-via-then-start-eq0 v ↦ inl (omega (arith, v))
                  | then-start-eq0-via-else-start-eq0+then-length-least v ↦ inr (omega (arith, v, e))
                ]))
            | else-start-eq0+else-length-least z ↦ (let e = ap (λ (g : Gap). g.length) z.least-is in more (omega (arith, z, e)) (inr (omega (arith, e))))
          ];
      found =
          elim c.if-start-eq0.branch [
            | then-start-eq0 z ↦
                inr (found z.least-is
                (elim z.then-start-eq0.branch [
                  | then-start-eq0-via-then-start-eq0 v ↦ inl (omega (arith, v))
                  | then-start-eq0-via-else-start-eq0+then-length-least v ↦ inr (omega (arith, v))
                ]))
            | else-start-eq0+else-length-least z ↦
                elim c.loop-start.invariant.found [
                  | inl q ↦ absurd (omega (arith, q, z))
                  | inr q ↦ inr (subst (λ (g : Gap). IsFound c.args.members.now c.args.need g.place g.length) (sym z.least-is) q)
                ]
          ];
    }

pub returns-after-loop-start : goal.returns-after-loop-start
returns-after-loop-start c =
    let done =
    done_all c.args.members.now c.args.need c.requires.placed c.requires.enough c.loop-start.start c.loop-start.least.place c.loop-start.least.length c.requires.some (omega arith) c.loop-start.invariant.least c.loop-start.invariant.found in
    record { least = done.0; first = done.1 }

pub returns-then-not-widen : goal.returns-then-not-widen
returns-then-not-widen c =
    let w = c.widen.ensures in
    let at : c.widen.new.self.start ≡ c.loop-start.start = w.start ∙ c.loop-start.invariant.at in
    let all = w.all c.if-not-widen.true in
    let full = ltb-false _ _ (sym w.short ∙ c.if-not-widen.true) in
    let d = ap (λ (x : ℕ). different_outside c.args.members.now x c.widen.new.self.end) at in
    let b = ap (λ (y : ℕ). different_outside c.args.members.now c.loop-start.start y) all in
    let done =
    done_early c.args.members.now c.args.need c.requires.placed c.requires.enough c.loop-start.start c.loop-start.least.place c.loop-start.least.length c.requires.some
    (omega (arith, full, d, b)) c.loop-start.invariant.least c.loop-start.invariant.found in
    record { least = done.0; first = done.1 }
