use Rattle.std.proofs.Common.{ap, Some, ◌∙◌}
use Rattle.host.proofs.Found.{put_in}
use Rattle.host.specs.Files.{files_of}
use Rattle.host.specs.World.{with_file}
use Rattle.host.proofs.memory.MemoryHostHost.keep_file.Goals as goal

pub returns-in-Ok-clause-kept : goal.returns-in-Ok-clause-kept
returns-in-Ok-clause-kept c =
    ap Some (put_in _ _ _ _ c.in-Ok.ensures.ok ∙ ap (with_file (files_of c.args.self.now.files.items) c.args.name.now) c.into_bytes.ensures)
