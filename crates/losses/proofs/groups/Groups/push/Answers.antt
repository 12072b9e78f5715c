use Rattle.std.proofs.Common.{arith}
use Rattle.std.proofs.lemmas.Result.{on_ok_weaker, on_err_weaker}
use Rattle.losses.proofs.SharedGroups.{share_there, put_in, not_put_in}
use Rattle.losses.proofs.groups.Groups.push.Goals as goal

pub index_mut-requires : goal.index_mut-requires
index_mut-requires c = let there = share_there c.args.self.now c.args.group c.requires in omega (arith, there, c.share-share.ensures)

pub returns-clause-pushed : goal.returns-clause-pushed
returns-clause-pushed c =
    on_ok_weaker c.put_behind.result
    (put_in c.args.self.now c.share-share.result _ c.put_behind.new.values c.index_mut.result.now c.requires c.share-share.ensures c.index_mut.ensures.value)
    c.put_behind.ensures.put

pub returns-clause-stays : goal.returns-clause-stays
returns-clause-stays c =
    on_err_weaker c.put_behind.result
    (not_put_in c.args.self.now c.share-share.result (record { place = c.args.member.place; group = c.args.group; esi = c.args.member.esi }) c.put_behind.new.values c.index_mut.result.now c.requires c.share-share.ensures c.index_mut.ensures.value)
    c.put_behind.ensures.stays
