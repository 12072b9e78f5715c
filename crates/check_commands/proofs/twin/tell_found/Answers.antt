use Rattle.std.proofs.Common.{refl}
use Rattle.check_commands.proofs.TwinnedFiles.{untwinned_in}
use Rattle.check_commands.proofs.twin.tell_found.Goals as goal

pub returns-in_ok-untwinned_line-in-None-clause-ok : goal.returns-in_ok-untwinned_line-in-None-clause-ok
returns-in_ok-untwinned_line-in-None-clause-ok g c =
    untwinned_in (g.H.Host.world c.args.host.now) c.args.request.now c.args.verdict.now c.in_ok-untwinned_line-in-None.field-0 (rw c.in-None.is at c.requires.found)
    c.in_ok-untwinned_line-in-None.ensures _ refl refl
