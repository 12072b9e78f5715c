use Rattle.std.proofs.Common.{[]}
use Rattle.commands.proofs.Stopping.{passed_on}
use Rattle.send_commands.specs.Opening.{sessions}
use Rattle.send_commands.proofs.Joins.{first_appended, other_appended, other_unappended, other_unopened, unappended_behind}
use Rattle.send_commands.proofs.join.append_each.Goals as goal

pub loop-name-init : goal.loop-name-init
loop-name-init g c =
    first_appended (g.H.Host.world c.args.host.now).files c.args.first.now (g.H.Input.Read.remaining c.args.input) (g.W.Write.contents c.args.writer.now) (g.W.Write.contents c.append_one.new.writer)
    c.in_ok-count.count c.requires.bytes c.in_ok-count.ensures.appended

pub loop-name-preserved : goal.loop-name-preserved
loop-name-preserved g c =
    other_appended (g.H.Host.world c.args.host.now).files c.args.first.now c.args.others.now c.loop-name.name-index _ (g.H.Input.Read.remaining c.in-Ok.input) (g.W.Write.contents c.args.writer.now)
    (g.W.Write.contents c.loop-name.writer) (g.W.Write.contents c.append_one-in-loop-name.new.writer) c.loop-name.count c.in_ok-more.more c.in-Some.sum c.loop-name-test.true c.loop-name.invariant
    c.in-Ok.ensures.input.bytes c.in_ok-more.ensures.appended c.in-Some.ensures.1

pub returns-in_err-count-clause-fault : goal.returns-in_err-count-clause-fault
returns-in_err-count-clause-fault g c =
    passed_on c.from_residual.result c.in_err-count.field-0.0 _ c.from_residual.ensures.1
    (unappended_behind (g.H.Host.world c.args.host.now) [] (sessions c.args.others.now) c.args.first.now [] (g.H.Input.Read.remaining c.args.input) c.in_err-count.field-0.0 tt c.requires.bytes
    c.in_err-count.ensures.fault)

pub returns-in_err-more-clause-fault : goal.returns-in_err-more-clause-fault
returns-in_err-more-clause-fault g c =
    passed_on c.from_residual-in_err-more.result c.in_err-more.field-0.0 _ c.from_residual-in_err-more.ensures.1
    (other_unappended (g.H.Host.world c.args.host.now) c.args.first.now c.args.others.now c.loop-name.name-index _ c.loop-name-test.true (g.W.Write.contents c.args.writer.now)
    (g.W.Write.contents c.loop-name.writer) c.loop-name.count c.loop-name.invariant (g.H.Input.Read.remaining c.in-Ok.input) c.in_err-more.field-0.0 c.in-Ok.ensures.input.bytes c.in_err-more.ensures.fault)

pub returns-in-Err-clause-fault : goal.returns-in-Err-clause-fault
returns-in-Err-clause-fault g c =
    other_unopened (g.H.Host.world c.args.host.now) c.args.first.now c.args.others.now c.loop-name.name-index _ c.loop-name-test.true (g.W.Write.contents c.args.writer.now)
    (g.W.Write.contents c.loop-name.writer) c.loop-name.count c.loop-name.invariant c.in-Err.fault c.in-Err.ensures.fault
