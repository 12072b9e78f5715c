-- Why frames that are copied aren't all written.
use Rattle.std.specs.Prelude.{◌≢◌, ⊤}
use Rattle.session.specs.declared.frame.FrameFault.{FrameFault}
use Rattle.session.specs.declared.frame.FrameFault.TheVariants.{Io, NoMemory}
use Rattle.commands.specs.declared.fault.Fault.TheVariants.{Memory, Frame}
use Rattle.commands.specs.declared.output.Unwritten.{Unwritten}
use Rattle.commands.specs.declared.output.Unwritten.TheVariants.{Writing, Fault}

-- reading or writing has failed, or there is no memory, or a frame can't be read, for this reason
abbrev pub IsCutShort : (FrameFault → Type 0) → Unwritten → Type 0
IsCutShort Is Writing = Is Io
IsCutShort Is (Fault Memory) = ⊤
IsCutShort Is (Fault (Frame fault)) = (fault ≢ Io) × (fault ≢ NoMemory) × Is fault
IsCutShort Is unwritten = ⊥
