use Rattle.std.proofs.Common.{◌≡◌, drop}
use Rattle.std.specs.Prelude.{max}
use Rattle.session.specs.Turns.{longest as longest_of}
use Rattle.session.proofs.joining.longest.Given as goal

abbrev pub invariant-loop-session : goal.invariant-loop-session
invariant-loop-session l = longest_of l.sessions ≡ max l.most (longest_of (drop l.session-index l.sessions))
