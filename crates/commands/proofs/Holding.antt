-- What an input that was opened shows of its file, and what was written to an output.
use Rattle.std.proofs.Common.{◌≡◌, ◌∙◌, ◌++◌, ℕ, List, [], Option, Some, None, Result, Ok, refl, sym, ap, subst}
use Rattle.std.specs.Prelude.{IfSome, IfOk, ⊤}
use Rattle.std.specs.Io.KnownBytes.{Consumes, IsAtEnd}
use Rattle.std.proofs.lemmas.List.{append-nil}
use Rattle.session.specs.Frames.{frames, HasRead}
use Rattle.host.specs.World.{Files, Holds}
use Rattle.commands.specs.Inputs.{ASession, AStream, Datagrams, Opened, HasValue}
use Rattle.commands.specs.declared.output.Unwritten.{Unwritten}

-- a file that opened is there
pub is_there : (files : Option Files) (name : List ℕ) (opened : Option (List ℕ)) → HasValue files (AStream name) (Opened opened) → Holds files name (λ bytes. ⊤)
is_there None name opened opens = tt
is_there (Some held) name opened opens = (opens.0, opens.1, tt)

-- all of one file's bytes were its frames
pub holds_session : (files : Option Files) (name : List ℕ) (opened left : Option (List ℕ)) (datagrams : List (List ℕ)) → HasValue files (AStream name) (Opened opened)
    → HasRead opened left datagrams → IsAtEnd left → HasValue files (ASession name) (Datagrams datagrams)
holds_session None name opened left datagrams opens read ends = tt
holds_session (Some held) name None left datagrams opens read ends = let bad = opens.2 in cc
holds_session (Some held) name (Some x) None datagrams opens read ends = absurd read.consumed
holds_session (Some held) name (Some x) (Some y) datagrams opens read ends =
    let end : y ≡ [] = ends in
    let whole : x ≡ frames datagrams = read.consumed ∙ ap (λ (l : List ℕ). frames datagrams ++ l) end ∙ append-nil (frames datagrams) in
    let same : x ≡ opens.0 = ap (λ (o : Option (List ℕ)). bytes_of o) opens.2 in
    (opens.0, opens.1, record { whole = sym same ∙ whole; each = read.each })
  where
    bytes_of : Option (List ℕ) → List ℕ
    bytes_of None = []
    bytes_of (Some bytes) = bytes

-- nothing was read
pub nothing_consumed : (a : Option (List ℕ)) → Consumes a a []
nothing_consumed None = tt
nothing_consumed (Some xs) = refl

-- what is told of a file's bytes is so of those that it holds
pub holds_told : (files : Option Files) (name : List ℕ) (content : Option (List ℕ)) (P : List ℕ → Type 0) → Holds files name (λ bytes. content ≡ Some bytes) → IfSome content P → Holds files name P
holds_told None name content P given h = tt
holds_told (Some held) name content P given h = (given.0, given.1, (rw given.2 at h))

-- what holds of the count that was written holds of the one that was told
pub committed : (w : Result ℕ Unwritten) (count : ℕ) (P : ℕ → Type 0) → w ≡ Ok count → IfOk w P → P count
committed w count P is p = subst (λ (r : Result ℕ Unwritten). IfOk r P) is p
