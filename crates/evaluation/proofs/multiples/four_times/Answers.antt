use Rattle.std.proofs.Common.{◌%◌, get_or, ◌∙◌, ◌++◌, arith}
use Rattle.std.proofs.lemmas.List.FromFn.{get_or-map-range_with_len}
use Rattle.std.proofs.lemmas.List.{get_or_append_left}
use Rattle.evaluation.proofs.multiples.four_times.Goals as goal

pub returns : goal.returns
returns c = λ k l.
    get_or-map-range_with_len (λ j. get_or (c.args.table ++ c.args.table) (j % 16) 0) 0 64 k k 0 l (omega arith)
    ∙ get_or_append_left c.args.table c.args.table 0 (k % 16) (omega (arith, c.fits-table.0))
