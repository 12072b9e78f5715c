use Rattle.std.proofs.Common.{◌≡◌}
use Rattle.certificate.proofs.BlockByBlock.{Passes}
use Rattle.certificate.proofs.converting.pass_over.Given as goal

abbrev pub invariant-loop-got : goal.invariant-loop-got
invariant-loop-got g l = record {
  passes : Passes l.count l.left (g.R.Read.remaining l.initial.reader) (g.R.Read.remaining l.reader);
  stays : g.R.Read.sound l.reader ≡ g.R.Read.sound l.initial.reader;
}

abbrev pub decreases-loop-got : goal.decreases-loop-got
decreases-loop-got g l = l.left
