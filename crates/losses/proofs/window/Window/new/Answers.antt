use Rattle.std.proofs.Common.{rules, arith}
use Rattle.losses.proofs.window.Window.new.Goals as goal

pub returns-clause-window : goal.returns-clause-window
returns-clause-window c = λ need. record {
  size = search rules;
  copies = λ j l. (let e = c.copies_of-copies.ensures j l in omega (arith, e));
  left = c.different-left.ensures;
  order = omega arith;
  within = omega arith;
  before = λ y l. absurd (omega (arith, l));
}
