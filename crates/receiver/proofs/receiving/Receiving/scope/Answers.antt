use Rattle.std.proofs.Common.{refl}
use Rattle.receiver.proofs.Fed.{scope_stands}
use Rattle.receiver.proofs.receiving.Receiving.scope.Goals as goal
use Rattle.receiver.proofs.receiving.Receiving.scope.Goals.{in-Some, in-None}

pub returns-clause-scope : goal.returns-clause-scope
returns-clause-scope c = λ told ds stands.
    scope_stands c.args.self.now told ds c.match-self.fti stands
    (elim c.match-self.branch [
      | in-Some w ↦ rw (w.in-Some.is, w.fti-is) refl
      | in-None w ↦ rw (w.in-None.is, w.fti-is) refl
    ])
