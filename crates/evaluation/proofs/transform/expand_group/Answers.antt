use Rattle.std.proofs.Common.{◌+◌, ◌*◌}
use Rattle.evaluation.specs.Transform.{rows_added, group_expanded}
use Rattle.evaluation.proofs.transform.expand_group.Goals as goal

pub returns : goal.returns
unfolding group_expanded
returns c = λ w count source are.
    c.add_rows-2.ensures (λ d. rows_added c.args.q (c.args.from + 2 * c.args.q) (c.args.from + 3 * c.args.q) (w d)) count source (c.add_rows.ensures w count source are)
