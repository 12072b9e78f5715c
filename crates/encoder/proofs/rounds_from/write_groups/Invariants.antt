use Rattle.std.proofs.Common.{◌≡◌, ◌<◌, ◌+◌}
use Rattle.std.specs.Prelude.{is_some}
use Rattle.partition.specs.Fti.{block_count}
use Rattle.encoder.specs.BlocksRead.{HasRead}
use Rattle.encoder.specs.RoundPlaces.{AreSymbolsOf, HasFrames, IsAsLong, progress}
use Rattle.encoder.proofs.rounds_from.write_groups.Given as goal

abbrev pub invariant-loop-block : goal.invariant-loop-block
invariant-loop-block g l = record {
  read : HasRead l.t.fti l.block (g.R.Read.remaining l.initial.reader) (g.R.Read.remaining l.reader)
      (λ object. HasFrames object l.t.fti l.t.tsi l.t.toi l.t.every (progress l.group.first 0 0) (g.W.Write.contents l.writer)
      × AreSymbolsOf object l.t.fti l.group.first l.group.count l.symbols);
  at : l.group.first + l.group.count ≡ l.block;
  few : l.group.count < l.at_once;
  ends : l.block ≡ block_count l.t.fti → l.group.count ≡ 0;
  long : IsAsLong l.t.fti l.t.every (g.W.Write.contents l.writer);
  told : is_some (g.W.Write.contents l.writer) ≡ is_some (g.W.Write.contents l.initial.writer);
  stays : g.R.Read.sound l.reader ≡ g.R.Read.sound l.initial.reader;
}
