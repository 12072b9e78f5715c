-- What is told and written of a session that is decoded.
use Rattle.std.specs.Prelude.{◌≡◌, ℕ, List, ⊤}
use Rattle.reception.specs.Answer.{Answer}
use Rattle.host.specs.World.{World}
use Rattle.commands.specs.Inputs.{ASession, IsUnread}
use Rattle.commands.specs.Lines.{line_of, answer_text}
use Rattle.commands.specs.Commands.{answer_status}
use Rattle.commands.specs.Doing.{text_of}
use Rattle.commands.specs.declared.done.Done.{Done}
use Rattle.commands.specs.declared.output.Unwritten.{Unwritten}
use Rattle.commands.specs.declared.output.Unwritten.TheVariants.{Writing, Fault}

-- the answer's line and status
abbrev pub IsToldOf : Answer → Done → Type 0
IsToldOf answer done =
    (text_of done.told ≡ line_of (answer_text answer)) × (done.status ≡ answer_status answer)

-- writing has failed, or the session can't be read again
abbrev pub IsWriteBroken : World → List ℕ → Unwritten → Type 0
IsWriteBroken world session Writing = ⊤
IsWriteBroken world session (Fault fault) = IsUnread world (ASession session) fault
