use Rattle.std.proofs.Common.{◌≡◌, take}
use Rattle.session.specs.Turns.{one_after_other, rounds}
use Rattle.session.proofs.session.Session.join.Given as goal

abbrev pub invariant-loop-place : goal.invariant-loop-place
invariant-loop-place l = l.joined ≡ rounds l.sessions l.place

abbrev pub invariant-loop-session : goal.invariant-loop-session
invariant-loop-session l = l.joined ≡ one_after_other (take l.session-index l.sessions)
