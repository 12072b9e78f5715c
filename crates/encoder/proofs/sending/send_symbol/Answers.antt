use Rattle.std.proofs.Common.{take, length}
use Rattle.alc.specs.Views.{lent}
use Rattle.encoder.proofs.Sent.{one_sent, one_some}
use Rattle.encoder.proofs.InPasses.{sent_at, can_be_written}
use Rattle.encoder.proofs.sending.send_symbol.Goals as goal

pub write-size-requires-clause-writable : goal.write-size-requires-clause-writable
write-size-requires-clause-writable g c =
    let t = c.args.t.now in
    can_be_written t.fti t.every c.args.place (lent c.fti_at.result) c.args.block c.args.esi (length c.args.symbol.now) c.fti_at.ensures t.valid c.requires.block c.requires.esi c.requires.symbol

pub returns-in-Ok-clause-sent : goal.returns-in-Ok-clause-sent
returns-in-Ok-clause-sent g c = λ object agrees.
    let t = c.args.t.now in
    one_sent object t.fti t.tsi t.toi t.every (record { place = c.args.place; block = c.args.block; esi = c.args.esi }) (take c.write-size.result c.write-size.new.out) _ _
    (sent_at object t.fti t.tsi t.toi t.every c.args.place c.args.block c.args.esi c.write-size.result (lent c.fti_at.result) c.args.symbol.now c.write-size.new.out _
    agrees c.fti_at.ensures c.write-size.ensures.length c.write-size.ensures.written)
    c.in-Ok.ensures.ok

pub returns-in-Err-clause-some : goal.returns-in-Err-clause-some
returns-in-Err-clause-some g c = λ object agrees.
    let t = c.args.t.now in
    one_some object t.fti t.tsi t.toi t.every (record { place = c.args.place; block = c.args.block; esi = c.args.esi }) (take c.write-size.result c.write-size.new.out) _ _
    (sent_at object t.fti t.tsi t.toi t.every c.args.place c.args.block c.args.esi c.write-size.result (lent c.fti_at.result) c.args.symbol.now c.write-size.new.out _
    agrees c.fti_at.ensures c.write-size.ensures.length c.write-size.ensures.written)
    c.in-Err.ensures.err
