use Rattle.std.proofs.Common.{◌≡◌, ◌++◌, take}
use Rattle.session.specs.Joined.{round as round_of}
use Rattle.session.proofs.joining.push_round.Given as goal

abbrev pub invariant-loop-session : goal.invariant-loop-session
invariant-loop-session l = l.joined ≡ l.initial.joined ++ round_of (take l.session-index l.sessions) l.place
