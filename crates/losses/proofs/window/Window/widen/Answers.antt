use Rattle.std.proofs.Common.{rules, ◌≡◌, ℕ, ◌≤◌, true, false, nat_lt, get_or, ap, ◌∙◌, arith, refl}
use Rattle.std.proofs.lemmas.Bool.{ltb-true, ltb-false}
use Rattle.losses.proofs.Windows.{filled_is, lost_copies}
use Rattle.losses.specs.Members.{different_outside}
use Rattle.losses.specs.Windows.{member}
use Rattle.losses.proofs.window.Window.widen.Goals as goal

pub set_copies-self-requires : goal.set_copies-self-requires
set_copies-self-requires c = record { counted = c.loop-self.invariant.window.left }

pub loop-self-preserved : goal.loop-self-preserved
loop-self-preserved c =
    let qs = c.args.members.now in
    let self = c.loop-self.self in
    let w = c.loop-self.invariant.window in
    let f = filled_is c.args.members.now c.loop-self.self.copies c.loop-self.self.start c.loop-self.self.end w.copies in
    let t = c.loop-self-test.true in
    let n = c.if-self-members.true in
    record {
      start = c.loop-self.invariant.start;
      window = record {
        size = search rules;
        copies =
            lost_copies c.args.members.now c.loop-self.self.copies c.set_copies-self.new.copies c.loop-self.self.start c.loop-self.self.end (get_or c.args.members.now c.loop-self.self.end (member 0 0)).esi w.size (omega arith) w.copies
            (omega (arith, n)) refl c.set_copies-self.ensures.copies;
        left = c.set_copies-self.ensures.counted;
        order = (let o = w.order in omega (arith, o));
        within = omega (arith, n);
        before = λ y l.
            elim (nat_lt y c.loop-self.self.end) as (λ v. nat_lt y c.loop-self.self.end ≡ v → c.args.need ≤ different_outside c.args.members.now c.loop-self.self.start y) [
              | true ↦ λ e. w.before y (ltb-true y c.loop-self.self.end e)
              | false ↦ λ e.
                  (let g = ltb-false y c.loop-self.self.end e in
                  let same : y ≡ c.loop-self.self.end = omega (arith, l, g) in
                  let d = ap (λ (z : ℕ). different_outside c.args.members.now c.loop-self.self.start z) same in
                  let i = w.left in
                  omega (arith, d, f, i, t))
            ] refl;
      };
    }

pub returns-clause-short : goal.returns-clause-short
returns-clause-short c =
    let w = c.loop-self.invariant.window in
    let f = filled_is c.args.members.now c.loop-self.self.copies c.loop-self.self.start c.loop-self.self.end w.copies in
    ap (λ (n : ℕ). nat_lt n c.args.need) (w.left ∙ f)
