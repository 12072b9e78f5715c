use Rattle.std.proofs.Common.{◌∙◌, sym, ap}
use Rattle.losses.specs.Groups.{different as different_of, members_among}
use Rattle.losses.proofs.Ordering.{different_is}
use Rattle.losses.proofs.Weights.{filled_all}
use Rattle.losses.proofs.groups.Groups.different.Goals as goal

pub returns : goal.returns
returns c =
    let members = members_among c.args.group c.entries_near.result.now in
    c.different.ensures ∙ filled_all c.copies_among.result members c.copies_among.ensures
    ∙ sym (different_is members) ∙ ap (λ qs. different_of qs) c.entries_near.ensures
