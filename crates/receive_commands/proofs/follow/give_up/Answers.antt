use Rattle.std.proofs.Common.{refl, subst, sym}
use Rattle.request.specs.declared.requests.Request.TheVariants.{Follow}
use Rattle.commands.specs.Doing.{IsUndone}
use Rattle.commands.specs.declared.fault.Stop.{Stop}
use Rattle.receive_commands.proofs.Followed.{gave_up}
use Rattle.receive_commands.proofs.follow.give_up.Goals as goal

pub returns : goal.returns
returns g c = λ old why.
    let r = c.args.request.now in
    let new = g.H.Host.world c.drop_output.new.host in
    subst (λ (stop : Stop). IsUndone old new (Follow r) stop) (sym c.stop_by.ensures)
    (gave_up r old (g.H.Host.world c.args.host.now) c.args.followed new c.drop_output.ensures.files c.drop_output.ensures.silent
    c.args.unwritten r.output.name refl why c.drop_output.result c.drop_output.ensures.fault)
