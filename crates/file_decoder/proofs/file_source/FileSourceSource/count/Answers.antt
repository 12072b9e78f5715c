use Rattle.std.specs.Option.{unwrap_or}
use Rattle.std.proofs.Common.{[]}
use Rattle.file_decoder.specs.InFile.{held_in}
use Rattle.file_decoder.proofs.file_source.FileSourceSource.count.Goals as goal

pub returns : goal.returns
returns g c = c.have.ensures (held_in (unwrap_or (g.F.ReadAt.content c.args.self.now.file.now) []))
