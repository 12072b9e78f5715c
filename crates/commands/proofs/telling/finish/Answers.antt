use Rattle.std.proofs.Common.{Result, subst}
use Rattle.std.specs.Prelude.{IfErr}
use Rattle.commands.specs.declared.done.Done.{Done}
use Rattle.commands.specs.declared.fault.Fault.{Fault}
use Rattle.commands.specs.Doing.{HasStopped, IsUndone}
use Rattle.commands.proofs.Stopping.{done_then, passed_on, undone, unprinted_then}
use Rattle.commands.proofs.telling.finish.Goals as goal

pub returns-in_err-done-clause-fault : goal.returns-in_err-done-clause-fault
returns-in_err-done-clause-fault g c old r made stopped =
    let w = g.H.Host.world c.args.host.now in
    let fault = c.in_err-done.field-0.0 in
    let why = subst (λ (d : Result Done Fault). IfErr d (HasStopped old w r)) c.in_err-done.was stopped in
    passed_on c.from_residual.result _ (IsUndone old w r) c.from_residual.ensures.1 (undone old w r fault why)

pub returns-in_err-print-clause-fault : goal.returns-in_err-print-clause-fault
returns-in_err-print-clause-fault g c = λ old r made stopped.
    let mid = g.H.Host.world c.args.host.now in
    let new = g.H.Host.world c.print.new.host in
    let is = rw c.in_ok-done.was at made in
    passed_on c.from_residual-in_err-print.result _ (IsUndone old new r) c.from_residual-in_err-print.ensures.1
    (unprinted_then old mid new r c.in_ok-done.done is c.print.ensures.files c.in_err-print.ensures.fails)

pub returns-clause-ok : goal.returns-clause-ok
returns-clause-ok g c = λ old r made.
    let mid = g.H.Host.world c.args.host.now in
    let new = g.H.Host.world c.print.new.host in
    let is = rw c.in_ok-done.was at made in
    done_then old mid new r c.in_ok-done.done is c.print.ensures.files c.in_ok-print.ensures.printed
