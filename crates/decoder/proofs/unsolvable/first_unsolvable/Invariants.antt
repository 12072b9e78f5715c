use Rattle.decoder.proofs.Unsound.{LeastSoFar}
use Rattle.decoder.proofs.unsolvable.first_unsolvable.Given as goal

abbrev pub invariant-loop-b : goal.invariant-loop-b
invariant-loop-b g l = record {
  least : g.S.Source.Told l.coded.source.now → LeastSoFar (g.S.Source.known l.coded.source.now) (g.S.Source.at l.coded.source.now) l.b-items l.b-index l.least;
  fits : g.S.Source.Fits l.coded.source.now l.coded.codes.now l.workspace;
}
