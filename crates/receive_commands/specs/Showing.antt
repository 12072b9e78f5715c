-- What is printed of datagrams that are shown.
use Rattle.std.specs.Prelude.{◌≡◌, ℕ, Bool, true, List, [], ◌∷◌, Option}
use Rattle.std.specs.Io.KnownBytes.{IsAtEnd, Appends}
use Rattle.session.specs.Frames.{IsReadFault}
use Rattle.session.specs.declared.frame.FrameFault.{FrameFault}
use Rattle.session.specs.declared.frame.FrameFault.TheVariants.{NoMemory as NoFrameMemory}
use Rattle.alc.specs.Reading.{Reading, Reads}
use Rattle.host.specs.World.{World}
use Rattle.commands.specs.Lines.{line_of, numbered, reading_text}
use Rattle.commands.specs.Commands.{AreReadAs, shown_status}
use Rattle.commands.specs.declared.fault.Fault.TheVariants.{Memory, Frame}
use Rattle.commands.specs.declared.fault.Stop.{Stop}
use Rattle.commands.specs.declared.fault.Stop.TheVariants.{ByFault, Unprinted}

-- the line of the datagram at a place was printed; its status
abbrev pub ShowsOne : ℕ → List ℕ → World → World → ℕ → Type 0
ShowsOne place d old new status =
    (reading : Reading) × Reads d reading × (status ≡ shown_status (reading ∷ []))
    × Appends old.printed new.printed (line_of (reading_text place reading))

-- the lines of the datagrams that were read were printed
abbrev pub Shows : Option (List ℕ) → Option (List ℕ) → List Reading → World → World → Type 0
Shows opened left readings old new =
    AreReadAs opened left readings
    × Appends old.printed new.printed (numbered reading_text 0 readings)

-- those were all; their status
abbrev pub ShowsAll : Option (List ℕ) → World → World → ℕ → Type 0
ShowsAll opened old new status =
    (left : Option (List ℕ)) × (readings : List Reading) × Shows opened left readings old new
    × IsAtEnd left × (status ≡ shown_status readings)

-- behind them comes no frame
abbrev pub IsCutBehind : FrameFault → Option (List ℕ) → World → World → Type 0
IsCutBehind fault opened old new =
    (left : Option (List ℕ)) × (readings : List Reading) × Shows opened left readings old new
    × (rest : Option (List ℕ)) × (failed : Bool) × IsReadFault fault left rest failed

-- why no more are shown
abbrev pub IsUnshown : Option (List ℕ) → World → World → Stop → Type 0
IsUnshown opened old new (ByFault (Frame NoFrameMemory)) = ⊥
IsUnshown opened old new (ByFault (Frame fault)) = IsCutBehind fault opened old new
IsUnshown opened old new (ByFault Memory) =
    (left : Option (List ℕ)) × (readings : List Reading) × Shows opened left readings old new
IsUnshown opened old new (ByFault fault) = ⊥
IsUnshown opened old new Unprinted = new.failed ≡ true
