use Rattle.std.proofs.Common.{◌∙◌, ℕ, List, ap, sym, arith}
use Rattle.losses.specs.declared.groups.Entry.{Entry}
use Rattle.std.specs.Global.{Vec}
use Rattle.losses.specs.Groups.{entries_at, members_among}
use Rattle.losses.proofs.SharedGroups.{count_of, members_of, share_there, entries_are}
use Rattle.losses.proofs.groups.Groups.entries_near.Goals as goal

pub overflow_cast-group : goal.overflow_cast-group
overflow_cast-group c = let few = c.args.self.now.few in omega (arith, c.requires, few, count_of c.args.self.now)

pub index-requires : goal.index-requires
index-requires c = let there = share_there c.args.self.now c.args.group c.requires in omega (arith, there, c.share-share.ensures)

pub returns : goal.returns
returns c =
    let groups = c.args.self.now in
    let there = share_there groups c.args.group c.requires in
    ap (λ (es : List Entry). members_among c.args.group es)
    (c.as_slice.ensures.value ∙ ap (λ (v : Vec Entry). v.items) c.index.ensures
    ∙ sym (entries_are groups.shares.items c.share-share.result c.index.result.now (omega (arith, there, c.share-share.ensures)))
    ∙ ap (λ (a : ℕ). entries_at groups.shares.items a) c.share-share.ensures)
    ∙ sym (members_of groups c.args.group (omega (arith, c.requires, count_of groups)))
