-- What a command meets outside: files, and the output that its lines go to.
use Rattle.std.specs.Prelude.{◌≡◌, ◌⊎◌, ℕ, Bool, true, false, List, [], ◌∷◌, Option, Some, None, ⊤}
use Rattle.std.specs.Prelude.{◌++◌, length, IfSome, IsSome, if◌then◌else◌}
use Rattle.std.specs.Str.{bytes_eq}
use Rattle.std.specs.Option.{option_map}
use Rattle.host.specs.declared.host.FileFault.{FileFault}
use Rattle.host.specs.declared.host.FileFault.TheVariants.{Io, NoMemory}
use Rattle.host.specs.declared.host.KeepFault.{KeepFault}
use Rattle.host.specs.declared.host.KeepFault.TheVariants as keep

-- what each name stands for, if it does
abbrev pub Files : Type 0
Files = List ℕ → Option (List ℕ)

-- what is done with the file of a name
pub data Call : Type 0 where
  Opening : List ℕ → Call
  Reading : List ℕ → Call
  Creating : List ℕ → Call
  Writing : List ℕ → Call

-- an output that was asked for: its name, and whether a file that is there is to stay
abbrev pub Wanted : Type 0
Wanted = List ℕ × Bool

-- What each name stands for, if it is told; which calls are refused, not counting those for which
-- there is no memory; what was printed, if it is told, and whether printing has failed; the outputs
-- that were asked for, if they are told.
pub record World : Type 0 where
  pub files : Option Files
  pub refused : Call → Bool
  pub printed : Option (List ℕ)
  pub failed : Bool
  pub created : Option (List Wanted)

-- the files, with these bytes under one name
abbrev pub with_file : Files → List ℕ → List ℕ → Files
with_file files name bytes = λ other. if bytes_eq name other then Some bytes else files other

-- a file of this name is there, and its bytes are such
abbrev pub Holds : Option Files → List ℕ → (List ℕ → Type 0) → Type 0
Holds files name P = IfSome files (λ held. (bytes : List ℕ) × (held name ≡ Some bytes) × P bytes)

-- these bytes stand under this name, and all other files are as before
abbrev pub Replaces : Option Files → Option Files → List ℕ → List ℕ → Type 0
Replaces before after name bytes = IfSome before (λ held. after ≡ Some (with_file held name bytes))

-- one output more
abbrev pub one_more : List ℕ → Bool → Option (List Wanted) → Option (List Wanted)
one_more name no_clobber created =
    option_map (λ wanted. wanted ++ (name, no_clobber) ∷ []) created

-- a call may fail: files aren't told, or it is refused
abbrev pub MayFail : World → Call → Type 0
MayFail world call = (world.files ≡ None) ⊎ (world.refused call ≡ true)

-- ---- what the host's calls promise

-- an input that was opened gives the file's bytes, from the front on or at offsets, and only fails
-- if reading it is refused
pub record GivesFile (world : World) (name : List ℕ) (remaining : Option (List ℕ))
    (sound : Bool) : Type 0 where
  pub bytes : Holds world.files name (λ bytes. remaining ≡ Some bytes)
  pub fails : sound ≡ false → MayFail world (Reading name)

-- so many bytes are left, where it is told what is
abbrev pub LeavesBytes : Option (List ℕ) → ℕ → Type 0
LeavesBytes remaining count = IfSome remaining (λ bytes. length bytes ≡ count)

-- a new output holds nothing, where files are told
abbrev pub IsBlank : World → Option (List ℕ) → Type 0
IsBlank world contents = IfSome world.files (λ held. contents ≡ Some [])

-- why an output of this name isn't written: writing is refused, or there is no memory
abbrev pub IsRefused : World → List ℕ → FileFault → Type 0
IsRefused world name Io = MayFail world (Writing name)
IsRefused world name NoMemory = ⊤

-- why a file doesn't open: it isn't there, or opening is refused, or there is no memory
abbrev pub IsMissing : World → List ℕ → FileFault → Type 0
IsMissing world name Io =
    MayFail world (Opening name) ⊎ IfSome world.files (λ held. held name ≡ None)
IsMissing world name NoMemory = ⊤

-- where a file that is there is to stay, none is
abbrev pub IsFree : Option Files → List ℕ → Bool → Type 0
IsFree files name no_clobber = no_clobber ≡ true → IfSome files (λ held. held name ≡ None)

-- a file is there that is to stay, where it is told which are
abbrev pub IsToStay : Option Files → List ℕ → Bool → Type 0
IsToStay files name no_clobber =
    (no_clobber ≡ true) × IfSome files (λ held. IsSome (held name))

-- why what was written isn't kept: its file couldn't be created, as one is there that is to stay,
-- or creating is refused; or writing or keeping is; or there is no memory
abbrev pub IsKeepFault : World → List ℕ → Bool → KeepFault → Type 0
IsKeepFault world name no_clobber keep.Uncreated =
    MayFail world (Creating name) ⊎ IsToStay world.files name no_clobber
IsKeepFault world name no_clobber keep.Io = MayFail world (Writing name)
IsKeepFault world name no_clobber keep.NoMemory = ⊤

-- files and outputs are as before, and so is what is refused
pub record KeepsFiles (old new : World) : Type 0 where
  pub files : new.files ≡ old.files
  pub refused : new.refused ≡ old.refused
  pub created : new.created ≡ old.created

-- nothing was printed, and what is refused is as before
pub record IsSilent (old new : World) : Type 0 where
  pub printed : new.printed ≡ old.printed
  pub failed : new.failed ≡ old.failed
  pub refused : new.refused ≡ old.refused
