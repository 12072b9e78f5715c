use Rattle.std.proofs.Common.{◌∙◌, sym}
use Rattle.losses.specs.Groups.{groups_of}
use Rattle.cert.specs.Tallying.{by_certificate, tallied_of}
use Rattle.cert.proofs.DatagramSteps.{refuses_fault, packet_in_range, symbol_long, block_there, passes, passes_over, refuses_symbol}
use Rattle.cert.proofs.checker.Checker.step.Goals as goal

pub first_wrong_column_of-requires-clause-range : goal.first_wrong_column_of-requires-clause-range
first_wrong_column_of-requires-clause-range c =
    packet_in_range (by_certificate c.args.self.now.symbols) c.args.self.now.symbols.fti (tallied_of c.args.self.now.tally) c.requires.0 c.requires.1
    c.args.datagram.now c.in-Ok-Some.packet (rw (c.in-Ok-Some.is, c.in-Ok-Some.field-0-is) at c.look.ensures)

pub first_wrong_column_of-requires-clause-symbol : goal.first_wrong_column_of-requires-clause-symbol
first_wrong_column_of-requires-clause-symbol c =
    symbol_long (by_certificate c.args.self.now.symbols) c.args.self.now.symbols.fti (tallied_of c.args.self.now.tally) c.requires.0 c.requires.1
    c.args.datagram.now c.in-Ok-Some.packet (rw (c.in-Ok-Some.is, c.in-Ok-Some.field-0-is) at c.look.ensures)

pub put-requires : goal.put-requires
put-requires c =
    block_there (by_certificate c.args.self.now.symbols) c.args.self.now.symbols.fti (tallied_of c.args.self.now.tally) c.requires.0 c.requires.1
    c.args.datagram.now c.in-Ok-Some.packet (rw (c.in-Ok-Some.is, c.in-Ok-Some.field-0-is) at c.look.ensures)

pub returns-in-Ok-None-clause-passed : goal.returns-in-Ok-None-clause-passed
returns-in-Ok-None-clause-passed c = λ datagrams h none. (
    let e = c.in_ok-pass_over-in-Ok-None.ensures in
    rw (e.scope, e.count, e.taken, e.groups, e.carriers)
    (passes_over (by_certificate c.args.self.now.symbols) c.args.self.now.symbols.fti (tallied_of c.args.self.now.tally) datagrams h
    c.args.datagram.now (rw (c.in-Ok-None.is, c.in-Ok-None.field-0-is) at c.look.ensures)))

pub returns-in-Err-clause-against : goal.returns-in-Err-clause-against
returns-in-Err-clause-against c = λ datagrams h.
    refuses_fault (by_certificate c.args.self.now.symbols) c.args.self.now.symbols.fti (tallied_of c.args.self.now.tally) datagrams h
    c.args.datagram.now c.in-Err.reason (rw c.in-Err.is at c.look.ensures)

pub returns-in-Some-clause-against : goal.returns-in-Some-clause-against
returns-in-Some-clause-against c = λ datagrams h.
    refuses_symbol (by_certificate c.args.self.now.symbols) c.args.self.now.symbols.fti (tallied_of c.args.self.now.tally) datagrams h
    c.args.datagram.now c.in-Ok-Some.packet (rw (c.in-Ok-Some.is, c.in-Ok-Some.field-0-is) at c.look.ensures) c.in-Some.column
    (sym c.first_wrong_column_of.ensures.column ∙ c.in-Some.is)

pub returns-clause-passed : goal.returns-clause-passed
returns-clause-passed c = λ datagrams h none. (
    let e = c.in_ok-put.ensures in
    rw (c.first_wrong_column_of.ensures.certificate, e.scope, e.count, e.taken)
    (passes (by_certificate c.args.self.now.symbols) c.args.self.now.symbols.fti (tallied_of c.args.self.now.tally) datagrams h
    c.args.datagram.now c.in-Ok-Some.packet (rw (c.in-Ok-Some.is, c.in-Ok-Some.field-0-is) at c.look.ensures)
    (groups_of c.put.new.self.groups) c.put.new.self.carriers.items (sym c.first_wrong_column_of.ensures.column ∙ c.in_default.is) e.put e.carriers))
