use Rattle.std.proofs.Common.{refl}
use Rattle.losses.specs.Groups.{groups_of}
use Rattle.cert.specs.Tallying.{nothing, tallied_of}
use Rattle.cert.proofs.DatagramSteps.{block_there, passes, passes_over}
use Rattle.file_check.proofs.index.Index.take.Goals as goal

pub put-requires : goal.put-requires
put-requires c =
    block_there nothing c.requires.tallied.0 (tallied_of c.args.self.now.tally) c.requires.tallied.1 c.requires.tallied.2
    c.args.datagram.now c.in-Ok-Some.packet (rw (c.in-Ok-Some.is, c.in-Ok-Some.field-0-is) at c.look.ensures)

pub returns-in_ok-push-in-Ok-Some-clause-taken : goal.returns-in_ok-push-in-Ok-Some-clause-taken
returns-in_ok-push-in-Ok-Some-clause-taken c = λ f ds h none. (
    let e = c.in_ok-put-in-Ok-Some.ensures in
    rw (e.scope, e.count, e.taken)
    (passes nothing f (tallied_of c.args.self.now.tally) ds h
    c.args.datagram.now c.in-Ok-Some.packet (rw (c.in-Ok-Some.is, c.in-Ok-Some.field-0-is) at c.look.ensures)
    (groups_of c.put.new.self.groups) c.put.new.self.carriers.items refl e.put e.carriers))

pub returns-in_ok-push-in-Ok-None-clause-taken : goal.returns-in_ok-push-in-Ok-None-clause-taken
returns-in_ok-push-in-Ok-None-clause-taken c = λ f ds h none. (
    let e = c.in_ok-pass_over-in-Ok-None.ensures in
    rw (e.scope, e.count, e.taken, e.groups, e.carriers)
    (passes_over nothing f (tallied_of c.args.self.now.tally) ds h
    c.args.datagram.now (rw (c.in-Ok-None.is, c.in-Ok-None.field-0-is) at c.look.ensures)))
