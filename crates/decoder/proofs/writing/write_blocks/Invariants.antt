use Rattle.std.proofs.Common.{◌≤◌, ◌+◌, ◌*◌, ℕ, List, length}
use Rattle.partition.specs.Fti.{start_of}
use Rattle.std.specs.Io.KnownBytes.{Appends}
use Rattle.decoder.proofs.ObjectSoFar.{SoFar}
use Rattle.decoder.proofs.writing.write_blocks.Given as goal

abbrev pub invariant-loop-b : goal.invariant-loop-b
invariant-loop-b g l = record {
  object : List ℕ;
  so_far : g.S.Source.Told l.coded.source.now → SoFar (g.S.Source.known l.coded.source.now) (g.S.Source.at l.coded.source.now) l.b object;
  written : Appends (g.W.Write.contents l.initial.writer) (g.W.Write.contents l.writer) object;
  few : length object ≤ start_of (g.S.Source.known l.coded.source.now) l.b * (g.S.Source.known l.coded.source.now).symbol_length;
  room : g.W.Write.room l.initial.writer ≤ g.W.Write.room l.writer + length object;
  fits : g.S.Source.Fits l.coded.source.now l.coded.codes.now l.workspace;
}
