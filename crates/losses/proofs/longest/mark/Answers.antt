use Rattle.std.proofs.Common.{◌≡◌, ℕ, ◌+◌, ◌-◌, ◌<◌, ◌≤◌, ◌∙◌, ap, arith, inl, refl, subst}
use Rattle.losses.proofs.Starts.{short_window, window_places, none_short, mark_more, mark_last}
use Rattle.losses.specs.Members.{different_outside}
use Rattle.losses.specs.Windows.{IsShortWindow, place_at}
use Rattle.losses.proofs.longest.mark.Goals as goal

pub loop-start-init : goal.loop-start-init
loop-start-init c = record {
  at = c.new-window.ensures.start;
  window = c.new-window.ensures.window c.args.need;
  marked = record { count = refl; sound = λ s r h. inl h; kept = λ s m h. h; seen = λ i y l. absurd (omega (arith, l)) };
}

pub overflow_sub-length-in-loop-start : goal.overflow_sub-length-in-loop-start
overflow_sub-length-in-loop-start c =
    let e = c.widen.ensures in
    let s = short_window c.args.members.now c.args.need c.requires.placed c.requires.enough c.widen.new.self e.window c.widen.result e.short c.if-not-widen.false in
    let p = window_places c.args.members.now c.args.need c.requires.placed c.requires.enough c.widen.new.self.start c.widen.new.self.end s in
    let at : c.widen.new.self.start ≡ c.loop-start.start = e.start ∙ c.loop-start.invariant.at in
    subst (λ (x : ℕ). place_at c.args.members.now x ≤ place_at c.args.members.now (c.widen.new.self.end - 1)) at p

pub narrow-requires-clause-some : goal.narrow-requires-clause-some
narrow-requires-clause-some c =
    let e = c.widen.ensures in
    (short_window c.args.members.now c.args.need c.requires.placed c.requires.enough c.widen.new.self e.window c.widen.result e.short c.if-not-widen.false).some

pub loop-start-preserved : goal.loop-start-preserved
loop-start-preserved c =
    let w = c.widen.ensures in
    let at : c.widen.new.self.start ≡ c.loop-start.start = w.start ∙ c.loop-start.invariant.at in
    let window : IsShortWindow c.args.members.now c.args.need c.loop-start.start c.widen.new.self.end =
    subst (λ (x : ℕ). IsShortWindow c.args.members.now c.args.need x c.widen.new.self.end) at
    (short_window c.args.members.now c.args.need c.requires.placed c.requires.enough c.widen.new.self w.window c.widen.result w.short c.if-not-widen.false) in
    let before : (y : ℕ) → y < c.widen.new.self.end → c.args.need ≤ different_outside c.args.members.now c.loop-start.start y =
    λ y l. subst (λ (x : ℕ). c.args.need ≤ different_outside c.args.members.now x y) at (w.window.before y l) in
    let up = window_places c.args.members.now c.args.need c.requires.placed c.requires.enough c.loop-start.start c.widen.new.self.end window in
    let size : place_at c.args.members.now c.loop-start.start + (place_at c.args.members.now (c.widen.new.self.end - 1) - place_at c.args.members.now c.loop-start.start) ≡ place_at c.args.members.now (c.widen.new.self.end - 1) = omega (arith, up) in
    let some = window.some in
    let within = window.within in
    let fits = c.requires.within (c.widen.new.self.end - 1) (omega (arith, some, within)) in
    record {
      at = c.narrow.ensures.start ∙ ap (λ (x : ℕ). x + 1) at;
      window = c.narrow.ensures.window c.args.need w.window;
      marked = mark_more c.args.members.now c.args.need c.requires.placed c.requires.enough c.args.block c.args.runs.now c.loop-start.runs c.loop-start.start c.loop-start.invariant.marked
          c.put.new.runs c.widen.new.self.end _ window before size fits c.put.ensures;
    }

pub returns-then-not-widen : goal.returns-then-not-widen
returns-then-not-widen c =
    let w = c.widen.ensures in
    let at : c.widen.new.self.start ≡ c.loop-start.start = w.start ∙ c.loop-start.invariant.at in
    mark_last c.args.members.now c.args.need c.requires.placed c.requires.enough c.args.block c.args.runs.now c.loop-start.runs c.loop-start.start c.loop-start.invariant.marked
    (λ i y l. none_short c.args.members.now c.args.need c.requires.placed c.requires.enough c.widen.new.self w.window c.widen.result w.short c.if-not-widen.true (w.all c.if-not-widen.true) i y (omega (arith, at, l)))
