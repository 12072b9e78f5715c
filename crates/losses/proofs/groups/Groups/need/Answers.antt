use Rattle.std.proofs.Common.{◌∙◌, sym, arith}
use Rattle.losses.proofs.SharedGroups.{count_of, need_of}
use Rattle.losses.proofs.groups.Groups.need.Goals as goal

pub index-requires : goal.index-requires
index-requires c = omega (arith, c.requires, count_of c.args.self.now)

pub returns : goal.returns
returns c = c.from.ensures ∙ c.index.ensures ∙ sym (need_of c.args.self.now c.args.group c.index.result.now (omega (arith, c.requires, count_of c.args.self.now)))
