use Rattle.std.proofs.Common.{[], ap}
use Rattle.std.proofs.lemmas.Result.{IfOk-weaker, IfErr-weaker}
use Rattle.commands.specs.declared.fault.Fault.TheVariants.{Memory}
use Rattle.send_commands.proofs.Joins.{all_opened_by, err_up_to, name_opened, ok_up_to}
use Rattle.send_commands.proofs.join.open_all.Goals as goal

pub loop-name-preserved : goal.loop-name-preserved
loop-name-preserved g c =
    rw c.in-Ok-push.ensures.items
    (name_opened g.H.Input.Read.remaining (g.H.Host.world c.args.host.now).files c.args.names.now c.loop-name.name-index _ c.loop-name.inputs.items c.in-Ok.input c.loop-name-test.true
    c.loop-name.invariant c.in-Ok.ensures.input.bytes)

pub returns-clause-opened : goal.returns-clause-opened
returns-clause-opened g c =
    all_opened_by (g.H.Host.world c.args.host.now) c.args.names.now c.loop-name.name-index _ c.loop-name-test.false c.loop-name.auto.name-index-end c.loop-name.invariant

pub returns-in-Err-clause-opened : goal.returns-in-Err-clause-opened
returns-in-Err-clause-opened g c =
    IfOk-weaker c.up_to.result _ _
    (λ files h. ok_up_to (g.H.Host.world c.args.host.now) c.args.names.now c.loop-name.name-index _ g.H.Input.Read.remaining c.loop-name.inputs.items c.in-Err.fault c.loop-name-test.true
    c.loop-name.invariant c.in-Err.ensures.fault files.inputs.items files.unopened (ap (λ v. v.items) h.0, h.1, h.2)) c.up_to.ensures.ok

pub returns-in-Err-clause-fault : goal.returns-in-Err-clause-fault
returns-in-Err-clause-fault g c =
    IfErr-weaker c.up_to.result _ _
    (λ e h. err_up_to (g.H.Host.world c.args.host.now) c.args.names.now c.loop-name.name-index _ g.H.Input.Read.remaining c.loop-name.inputs.items c.in-Err.fault c.loop-name-test.true
    c.loop-name.invariant c.in-Err.ensures.fault e h) c.up_to.ensures.fault

pub returns-in_default-clause-opened : goal.returns-in_default-clause-opened
returns-in_default-clause-opened g c =
    IfOk-weaker c.up_to-in_default.result _ _
    (λ files h. ok_up_to (g.H.Host.world c.args.host.now) c.args.names.now c.loop-name.name-index (record { ref_ptr = (0, 0); now = [] }) g.H.Input.Read.remaining c.push.new.self.items Memory c.loop-name-test.true
    (rw c.in_default.ensures.items c.loop-name.invariant) tt files.inputs.items files.unopened (ap (λ v. v.items) h.0, h.1, h.2)) c.up_to-in_default.ensures.ok

pub returns-in_default-clause-fault : goal.returns-in_default-clause-fault
returns-in_default-clause-fault g c =
    IfErr-weaker c.up_to-in_default.result _ _
    (λ e h. err_up_to (g.H.Host.world c.args.host.now) c.args.names.now c.loop-name.name-index (record { ref_ptr = (0, 0); now = [] }) g.H.Input.Read.remaining c.push.new.self.items Memory c.loop-name-test.true
    (rw c.in_default.ensures.items c.loop-name.invariant) tt e h) c.up_to-in_default.ensures.fault
