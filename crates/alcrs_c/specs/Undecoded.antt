-- Why there is no answer.
use Rattle.std.specs.Prelude.{ℕ, List, ⊤}
use Rattle.session.specs.Frames.{StopsAt}
use Rattle.alcrs_c.specs.declared.decode.Undecoded.{Undecoded}
use Rattle.alcrs_c.specs.declared.decode.Undecoded.TheVariants.{Session, NoMemory}

-- the bytes are no session's, or memory is wanting
abbrev pub IsUndecoded : List ℕ → Undecoded → Type 0
IsUndecoded session (Session e) = StopsAt e session
IsUndecoded session NoMemory = ⊤
