-- What was read where the numbers of a session's datagrams are asked for.
use Rattle.std.specs.Prelude.{ℕ, Bool, List, Option, ⊤}
use Rattle.std.specs.Io.KnownBytes.{IsAtEnd}
use Rattle.session.specs.Frames.{IsReadFault}
use Rattle.session.specs.declared.frame.FrameFault.{FrameFault}
use Rattle.session.specs.declared.frame.FrameFault.TheVariants.{NoMemory as NoFrameMemory}
use Rattle.alc.specs.Reading.{Reading}
use Rattle.inventory.specs.Tells.{Tells}
use Rattle.inventory.specs.declared.collecting.Summary.{Summary}
use Rattle.commands.specs.Commands.{AreReadAs}
use Rattle.commands.specs.declared.fault.Fault.{Fault}
use Rattle.commands.specs.declared.fault.Fault.TheVariants.{Memory, Frame}

-- datagrams were read and counted
abbrev pub AreCounted : Option (List ℕ) → Option (List ℕ) → Summary → Type 0
AreCounted opened left summary =
    (readings : List Reading) × AreReadAs opened left readings × Tells readings summary

-- those were all
abbrev pub AreAllCounted : Option (List ℕ) → Summary → Type 0
AreAllCounted opened summary =
    (left : Option (List ℕ)) × IsAtEnd left × AreCounted opened left summary

-- behind some comes no frame
abbrev pub IsCutBehind : FrameFault → Option (List ℕ) → Type 0
IsCutBehind fault opened =
    (left : Option (List ℕ)) × (readings : List Reading) × AreReadAs opened left readings
    × (rest : Option (List ℕ)) × (failed : Bool) × IsReadFault fault left rest failed

-- why no more are counted
abbrev pub IsUncounted : Option (List ℕ) → Fault → Type 0
IsUncounted opened (Frame NoFrameMemory) = ⊥
IsUncounted opened (Frame fault) = IsCutBehind fault opened
IsUncounted opened Memory = ⊤
IsUncounted opened fault = ⊥
