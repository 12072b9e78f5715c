use Rattle.std.proofs.Common.{rules, subst}
use Rattle.reception.specs.declared.scope.Scope.{Scope}
use Rattle.reception.specs.Step.{IsLook}
use Rattle.receiver.proofs.Begun.{other_begins}
use Rattle.receiver.proofs.receiving.Receiving.is_begun_by.Goals as goal

pub returns-in_default-clause-other : goal.returns-in_default-clause-other
returns-in_default-clause-other c = λ _. let h = c.in_default.is in other_begins c.args.self.now.identity c.args.datagram.now c.look.new.self c.look.result
    (subst (λ (s : Scope). IsLook c.args.datagram.now s c.look.new.self c.look.result) c.new-scope.ensures c.look.ensures) (search rules)
