use Rattle.std.proofs.Common.{subst}
use Rattle.request.specs.Matching.{IsTold}
use Rattle.request.proofs.Getters.{is_subcommand}
use Rattle.request.proofs.matched.matched_line.Goals as goal

pub named_line-requires : goal.named_line-requires
named_line-requires c =
    subst IsTold (is_subcommand c.args.matches.now c.subcommand.result c.unwrap.result c.subcommand.ensures.name c.subcommand.ensures.rows c.unwrap.ensures) c.requires
