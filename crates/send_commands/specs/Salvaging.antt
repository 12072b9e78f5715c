-- Frames that are copied up to what is none.
use Rattle.std.specs.Prelude.{◌≡◌, ◌≢◌, ℕ, Bool, true, false, List, Option, length, ⊤, IfSome}
use Rattle.std.specs.Io.KnownBytes.{Appends}
use Rattle.session.specs.Frames.{frames, HasRead}
use Rattle.session.specs.declared.frame.FrameFault.{FrameFault}
use Rattle.session.specs.declared.frame.FrameFault.TheVariants.{Io, NoMemory}
use Rattle.commands.specs.Commands.{IsSalvaged}
use Rattle.commands.specs.declared.fault.Fault.TheVariants.{Memory, Frame}
use Rattle.commands.specs.declared.output.Unwritten.{Unwritten}
use Rattle.commands.specs.declared.output.Unwritten.TheVariants.{Writing, Fault}

-- the frames that the reader's bytes begin with were written; the status, and how many there were
pub record HasSalvaged (old before after : Option (List ℕ)) (status count : ℕ) : Type 0 where
  pub datagrams : List (List ℕ)
  pub front : IfSome old (IsSalvaged datagrams status)
  pub written : Appends before after (frames datagrams)
  pub counted : count ≡ length datagrams

-- so many frames were read and written
pub record HasCopied (old new before after : Option (List ℕ)) (count : ℕ) : Type 0 where
  pub datagrams : List (List ℕ)
  pub read : HasRead old new datagrams
  pub written : Appends before after (frames datagrams)
  pub counted : count ≡ length datagrams

-- the fault tells of bytes that are no frame
abbrev pub IsBroken : FrameFault → Type 0
IsBroken fault = (fault ≢ Io) × (fault ≢ NoMemory)

-- reading has failed for such a fault, or there is no memory
abbrev pub IsUnreadFor : FrameFault → Unwritten → Type 0
IsUnreadFor read (Fault Memory) = ⊤
IsUnreadFor read (Fault (Frame fault)) = (fault ≡ Io) × (read ≡ Io)
IsUnreadFor read unwritten = ⊥

-- why frames weren't copied: the writer has failed, or the reader, which isn't sound, or there is
-- no memory
abbrev pub IsUncopied : Bool → Bool → Unwritten → Type 0
IsUncopied sound failed Writing = failed ≡ true
IsUncopied sound failed (Fault Memory) = ⊤
IsUncopied sound failed (Fault (Frame fault)) = (fault ≡ Io) × (sound ≡ false)
IsUncopied sound failed unwritten = ⊥
