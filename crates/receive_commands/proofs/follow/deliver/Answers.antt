use Rattle.std.proofs.Common.{refl, subst, sym}
use Rattle.request.specs.declared.requests.Request.TheVariants.{Follow}
use Rattle.commands.specs.Doing.{IsUndone}
use Rattle.commands.specs.declared.fault.Stop.{Stop}
use Rattle.commands.specs.declared.fault.Stop.TheVariants.{Unprinted}
use Rattle.receive_commands.proofs.Delivered.{not_kept, delivered, undelivered, undelivered_unsaid}
use Rattle.commands.proofs.Stopping.{passed_on}
use Rattle.receive_commands.proofs.follow.deliver.Goals as goal

pub returns-in-Err-clause-fault : goal.returns-in-Err-clause-fault
returns-in-Err-clause-fault g c = λ old received.
    let r = c.args.request.now in
    let new = g.H.Host.world c.keep_object.new.host in
    subst (λ (stop : Stop). IsUndone old new (Follow r) stop) (sym c.stop_by.ensures)
    (not_kept r old (g.H.Host.world c.args.host.now) c.args.followed received (g.H.Host.world c.tell_complete-said.new.host) c.tell_complete-said.result c.tell_complete-said.ensures.said
    c.tell_complete-said.ensures.before c.tell_complete-said.ensures.files new c.keep_object.ensures.silent c.keep_object.ensures.created c.in-Err.ensures.files
    r.output.name refl c.in-Err.fault c.in-Err.ensures.given c.in-Err.ensures.fault)

pub returns-then-not-said-clause-fault : goal.returns-then-not-said-clause-fault
returns-then-not-said-clause-fault g c = λ old received.
    undelivered_unsaid c.args.request.now old (g.H.Host.world c.args.host.now) c.args.followed received (g.H.Host.world c.tell_complete-said.new.host) c.tell_complete-said.result
    c.tell_complete-said.ensures.said c.tell_complete-said.ensures.before c.tell_complete-said.ensures.files (g.H.Host.world c.keep_object.new.host) c.keep_object.ensures.silent
    c.keep_object.ensures.created c.in-Ok.ensures.free c.in-Ok.length c.in-Ok.ensures.kept c.if-not-said.true

pub returns-in_err-print_count-clause-fault : goal.returns-in_err-print_count-clause-fault
returns-in_err-print_count-clause-fault g c = λ old received.
    let r = c.args.request.now in
    let end = g.H.Host.world c.print_count.new.host in
    passed_on c.from_residual.result Unprinted (IsUndone old end (Follow r)) c.from_residual.ensures.1
    (undelivered r old (g.H.Host.world c.args.host.now) c.args.followed received (g.H.Host.world c.tell_complete-said.new.host) c.tell_complete-said.result
    c.tell_complete-said.ensures.said c.tell_complete-said.ensures.before c.tell_complete-said.ensures.files (g.H.Host.world c.keep_object.new.host) c.keep_object.ensures.silent
    c.keep_object.ensures.created c.in-Ok.ensures.free c.in-Ok.length c.in-Ok.ensures.kept end c.print_count.ensures.files c.in_err-print_count.ensures.fails)

pub returns-clause-ok : goal.returns-clause-ok
returns-clause-ok g c = λ old received.
    delivered c.args.request.now old (g.H.Host.world c.args.host.now) c.args.followed received (g.H.Host.world c.tell_complete-said.new.host) c.tell_complete-said.result
    c.tell_complete-said.ensures.said c.tell_complete-said.ensures.before c.tell_complete-said.ensures.files (g.H.Host.world c.keep_object.new.host) c.keep_object.ensures.silent
    c.keep_object.ensures.created c.in-Ok.ensures.free c.in-Ok.length c.in-Ok.ensures.kept (g.H.Host.world c.print_count.new.host) c.if-not-said.false c.print_count.ensures.files
    c.in_ok-print_count.ensures.printed
