use Rattle.std.proofs.Common.{◌≡◌, ◌++◌, take}
use Rattle.session.proofs.joining.push_all.Given as goal

abbrev pub invariant-loop-place : goal.invariant-loop-place
invariant-loop-place l = l.joined ≡ l.initial.joined ++ take l.place l.session
