use Rattle.std.proofs.Common.{rules}
use Rattle.receiver.proofs.Noted.{on_ok, room_for}
use Rattle.receiver.proofs.esis.Esis.reserve.Goals as goal

pub returns-in-Some-clause-room : goal.returns-in-Some-clause-room
returns-in-Some-clause-room c =
    let updates = (c.get_mut.follows.holds c.reserve.new.self).3 (search rules) in
    on_ok c.reserve.result _ _ (room_for _ c.args.block c.reserve.new.self _ _ c.share-share.ensures c.index-index.ensures updates.1) c.reserve.ensures.room

pub returns-in-Ok-clause-room : goal.returns-in-Ok-clause-room
returns-in-Ok-clause-room c = room_for _ c.args.block c.reserve-2.new.self _ _ c.share-share.ensures c.index-index.ensures c.in-Ok.ensures.updates.1 c.in_ok-reserve.ensures.room
