use Rattle.std.proofs.Common.{rules, subst, sym}
use Rattle.request.specs.declared.requests.Request.{Request}
use Rattle.request.specs.declared.requests.Request.TheVariants.{Follow}
use Rattle.commands.specs.Outcomes.{IsRun}
use Rattle.tool.proofs.running.run.Goals as goal

pub returns-in-Follow-clause-run : goal.returns-in-Follow-clause-run
returns-in-Follow-clause-run g c =
    let old = g.H.Host.world c.args.host.now in
    let new = g.H.Host.world c.settle-in-Follow.new.host in
    subst (λ (r : Request). IsRun old new r c.settle-in-Follow.result.status) (sym c.in-Follow.is)
    (c.settle-in-Follow.ensures.run old (Follow c.in-Follow.request) c.follow-outcome.ensures.ok c.follow-outcome.ensures.fault)

pub returns-clause-run : goal.returns-clause-run
returns-clause-run g c =
    let old = g.H.Host.world c.args.host.now in
    let r = c.args.request.now in
    c.settle-2.ensures.run old r (c.finish-outcome.ensures.ok old r (search rules)) (c.finish-outcome.ensures.fault old r (search rules) (search rules))
