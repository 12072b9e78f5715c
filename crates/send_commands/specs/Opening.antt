-- Sessions that are joined: several files that are open at once, or one after the other.
use Rattle.std.specs.Prelude.{◌≡◌, ◌≢◌, ℕ, Bool, false, List, [], ◌∷◌, ◌++◌, Option, Some, None}
use Rattle.std.specs.Prelude.{length, map, take, ⊤}
use Rattle.std.specs.Borrow.{Bor}
use Rattle.std.specs.Io.KnownBytes.{Appends, IsAtEnd}
use Rattle.session.specs.Frames.{frames, HasRead, IsSessionFault}
use Rattle.session.specs.Joined.{joined}
use Rattle.session.specs.declared.frame.FrameFault.TheVariants.{Io, NoMemory}
use Rattle.host.specs.World.{Files, World}
use Rattle.commands.specs.Inputs.{Input, ASession, AStream, Datagrams, Opened, HasValue}
use Rattle.commands.specs.Inputs.{HaveValues, IsUnopened, IsFirstUnread}
use Rattle.commands.specs.declared.fault.Fault.{Fault}
use Rattle.commands.specs.declared.fault.Fault.TheVariants.{Memory, Frame}
use Rattle.commands.specs.declared.output.Unwritten.{Unwritten}
use Rattle.commands.specs.declared.output.Unwritten.TheVariants as unwritten

abbrev pub sessions : List (Bor (List ℕ)) → List Input
sessions names = map (λ name. ASession name.now) names

-- each reader gives the bytes of the file of its name
abbrev pub AreOpen : Option Files → List (List ℕ) → List (Option (List ℕ)) → Type 0
AreOpen files [] [] = ⊤
AreOpen files [] (opened ∷ others) = ⊥
AreOpen files (name ∷ names) [] = ⊥
AreOpen files (name ∷ names) (opened ∷ others) =
    HasValue files (AStream name) (Opened opened) × AreOpen files names others

-- the first file that wasn't opened, if there is one, is that behind those that were
abbrev pub IsNext : World → List (Bor (List ℕ)) → ℕ → Option Fault → Type 0
IsNext world names n None = n ≡ length names
IsNext world names n (Some fault) = (before : List (Bor (List ℕ))) × (name : Bor (List ℕ))
    × (behind : List (Bor (List ℕ))) × (names ≡ before ++ name ∷ behind) × (length before ≡ n)
    × IsUnopened world name.now fault

-- files were opened in their order
pub record AreOpened (world : World) (names : List (Bor (List ℕ)))
    (opened : List (Option (List ℕ))) (unopened : Option Fault) : Type 0 where
  pub those : AreOpen world.files (map (λ name. name.now) (take (length opened) names)) opened
  pub next : IsNext world names (length opened) unopened
  pub first : opened ≡ [] → names ≡ []

-- all that a reader had left were frames, and they were written; how many
pub record IsAppended (left before after : Option (List ℕ)) (count : ℕ) : Type 0 where
  pub datagrams : List (List ℕ)
  pub rest : Option (List ℕ)
  pub read : HasRead left rest datagrams
  pub end : IsAtEnd rest
  pub written : Appends before after (frames datagrams)
  pub counted : count ≡ length datagrams

-- why they weren't: no frame follows, or reading or writing has failed, or there is no memory
abbrev pub IsUnappendedOne : Option (List ℕ) → Unwritten → Type 0
IsUnappendedOne left unwritten.Writing = ⊤
IsUnappendedOne left (unwritten.Fault Memory) = ⊤
IsUnappendedOne left (unwritten.Fault (Frame fault)) =
    (fault ≢ Io) × (fault ≢ NoMemory) × (failed : Bool) × IsSessionFault fault left failed
IsUnappendedOne left unwritten = ⊥

-- the sessions that these inputs are were written, one after the other; how many datagrams they
-- have
pub record AreAppended (files : Option Files) (inputs : List Input)
    (before after : Option (List ℕ)) (count : ℕ) : Type 0 where
  pub lists : List (List (List ℕ))
  pub have : HaveValues files inputs (map Datagrams lists)
  pub written : Appends before after (frames (joined false lists))
  pub counted : count ≡ length (joined false lists)

-- why they weren't
abbrev pub IsUnappended : World → List Input → Unwritten → Type 0
IsUnappended world inputs unwritten.Writing = ⊤
IsUnappended world inputs (unwritten.Fault Memory) = ⊤
IsUnappended world inputs (unwritten.Fault fault) = IsFirstUnread world inputs fault
