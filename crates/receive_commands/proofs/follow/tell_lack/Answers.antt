use Rattle.std.proofs.Common.{refl}
use Rattle.request.specs.declared.requests.Request.TheVariants.{Follow}
use Rattle.host.specs.World.{KeepsFiles, IsSilent}
use Rattle.commands.specs.Doing.{IsUndone}
use Rattle.commands.specs.declared.fault.Stop.TheVariants.{Unprinted}
use Rattle.commands.proofs.Stopping.{passed_on}
use Rattle.receive_commands.proofs.Followed.{failed_before, lack_told, lack_unsaid}
use Rattle.receive_commands.proofs.Showed.{keeps_all}
use Rattle.receive_commands.proofs.follow.tell_lack.Goals as goal
use Rattle.receive_commands.proofs.follow.tell_lack.Goals.{in-Some, in_default}

pub returns-then-not-said-clause-fault : goal.returns-then-not-said-clause-fault
returns-then-not-said-clause-fault g c = λ old lacking.
    let r = c.args.request.now in
    let mid = g.H.Host.world c.args.host.now in
    let between = g.H.Host.world c.match-into_output.host in
    let kept : KeepsFiles mid between = elim c.match-into_output.branch [
      | in-Some w ↦ rw w.host-is w.give_up.ensures.files
      | in_default w ↦ rw w.host-is (keeps_all mid)
    ] in
    let silent : IsSilent mid between = elim c.match-into_output.branch [
      | in-Some w ↦ rw w.host-is w.give_up.ensures.silent
      | in_default w ↦ rw w.host-is record { printed = refl; failed = refl; refused = refl }
    ] in
    lack_unsaid r old mid c.args.followed c.args.answer.now lacking between kept silent between (keeps_all between)
    (failed_before r old mid c.args.followed c.args.answer.now lacking between kept silent c.if-not-said.true)

pub returns-in_err-print-clause-fault : goal.returns-in_err-print-clause-fault
returns-in_err-print-clause-fault g c = λ old lacking.
    let r = c.args.request.now in
    let mid = g.H.Host.world c.args.host.now in
    let between = g.H.Host.world c.match-into_output.host in
    let kept : KeepsFiles mid between = elim c.match-into_output.branch [
      | in-Some w ↦ rw w.host-is w.give_up.ensures.files
      | in_default w ↦ rw w.host-is (keeps_all mid)
    ] in
    let silent : IsSilent mid between = elim c.match-into_output.branch [
      | in-Some w ↦ rw w.host-is w.give_up.ensures.silent
      | in_default w ↦ rw w.host-is record { printed = refl; failed = refl; refused = refl }
    ] in
    let new = g.H.Host.world c.print.new.host in
    passed_on c.from_residual-in_err-print.result Unprinted (IsUndone old new (Follow r)) c.from_residual-in_err-print.ensures.1
    (lack_unsaid r old mid c.args.followed c.args.answer.now lacking between kept silent new c.print.ensures.files c.in_err-print.ensures.fails)

pub returns-clause-ok : goal.returns-clause-ok
returns-clause-ok g c = λ old lacking.
    let r = c.args.request.now in
    let mid = g.H.Host.world c.args.host.now in
    let between = g.H.Host.world c.match-into_output.host in
    let kept : KeepsFiles mid between = elim c.match-into_output.branch [
      | in-Some w ↦ rw w.host-is w.give_up.ensures.files
      | in_default w ↦ rw w.host-is (keeps_all mid)
    ] in
    let silent : IsSilent mid between = elim c.match-into_output.branch [
      | in-Some w ↦ rw w.host-is w.give_up.ensures.silent
      | in_default w ↦ rw w.host-is record { printed = refl; failed = refl; refused = refl }
    ] in
    lack_told r old mid c.args.followed c.args.answer.now lacking between kept silent (g.H.Host.world c.print.new.host) c.in_ok-done.done.status _ c.if-not-said.false
    c.print.ensures.files c.in_ok-print.ensures.printed c.in_ok-done.ensures.0 c.in_ok-done.ensures.1
