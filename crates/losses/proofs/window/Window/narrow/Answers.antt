use Rattle.std.proofs.Common.{rules, ◌+◌, get_or, arith, refl}
use Rattle.losses.proofs.Windows.{different_le, given_copies}
use Rattle.losses.specs.Windows.{member}
use Rattle.losses.proofs.window.Window.narrow.Goals as goal

pub set_copies-self-requires : goal.set_copies-self-requires
set_copies-self-requires c = record { counted = c.requires.window.1.left }

pub returns-clause-window : goal.returns-clause-window
returns-clause-window c = λ need w. (
    let i = w.within in
    let s = c.requires.some in
    record {
      size = search rules;
      copies =
          given_copies c.args.members.now c.args.self.now.copies c.set_copies-self.new.copies c.args.self.now.start c.args.self.now.end (get_or c.args.members.now c.args.self.now.start (member 0 0)).esi w.size (omega arith) w.copies
          (omega (arith, i, s)) refl c.set_copies-self.ensures.copies;
      left = c.set_copies-self.ensures.counted;
      order = omega (arith, s);
      within = i;
      before = λ y l. (let b = w.before y l in let m = different_le c.args.members.now c.args.self.now.start y (c.args.self.now.start + 1) y (omega arith) (omega arith) in omega (arith, b, m));
    })
