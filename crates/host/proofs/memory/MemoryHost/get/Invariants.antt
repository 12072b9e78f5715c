use Rattle.std.proofs.Common.{◌≡◌, take}
use Rattle.std.specs.Option.{option_map}
use Rattle.host.specs.Files.{files_of}
use Rattle.host.proofs.memory.MemoryHost.get.Given as goal

abbrev pub invariant-loop-known : goal.invariant-loop-known
invariant-loop-known l = option_map (λ bytes. bytes.now) l.found ≡ files_of (take l.known-index l.known-items) l.name
