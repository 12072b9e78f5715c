-- What a command does.
use Rattle.std.specs.Prelude.{◌≡◌, ◌⊎◌, ℕ, true, List, [], Option, Some, None, ⊤, take}
use Rattle.std.specs.Io.KnownBytes.{Appends}
use Rattle.partition.specs.Fti.{Fti}
use Rattle.session.specs.Frames.{IsFramed}
use Rattle.alc.specs.Reading.{Reading}
use Rattle.reception.specs.declared.scope.Identity.{Identity}
use Rattle.reception.specs.Answer.{reception_of}
use Rattle.reception.specs.Reception.{IsClean, ReadAll}
use Rattle.reception.specs.Symbols.{AllFull}
use Rattle.request.specs.declared.requests.Output.{Output}
use Rattle.request.specs.declared.requests.Request.{Request}
use Rattle.request.specs.declared.requests.Request.TheVariants.{Check, Twin, Show, Decode, Follow}
use Rattle.request.specs.declared.requests.Request.TheVariants.{Drop, Join}
use Rattle.host.specs.World.{Files, World, Holds, IsFree, IsToStay, MayFail, Creating, Writing}
use Rattle.host.specs.World.{Replaces, one_more}
use Rattle.commands.specs.Inputs.{AStream, Value, Opened, HasValue, HaveValues, AreThere}
use Rattle.commands.specs.Inputs.{IsUnopened}
use Rattle.commands.specs.Inputs.{IsFirstUnread}
use Rattle.commands.specs.Lines.{TellsFault}
use Rattle.commands.specs.Following.{IsHeardInPart, BringsCarrier}
use Rattle.commands.specs.Commands.{inputs_of, place_inputs, output_of, IsWriteFault, Outcome}
use Rattle.commands.specs.Commands.{AreReadAs, Gives, told_before, Refuses}
use Rattle.commands.specs.declared.fault.Fault.{Fault}
use Rattle.commands.specs.declared.fault.Fault.TheVariants.{Open, Memory}

-- just this output was asked for
abbrev pub HasAsked : World → World → Output → Type 0
HasAsked old new output =
    new.created ≡ one_more output.name.now output.no_clobber old.created

-- the output's bytes stand under its name, and just it was asked for; or there is none, and nothing
-- has changed
abbrev pub IsOutput : World → World → Option Output → Option (List ℕ) → Type 0
IsOutput old new (Some output) (Some bytes) =
    Replaces old.files new.files output.name.now bytes × HasAsked old new output
    × IsFree old.files output.name.now output.no_clobber
IsOutput old new None (Some bytes) = ⊥
IsOutput old new name None = (new.files ≡ old.files) × (new.created ≡ old.created)

-- no datagram has a fault, a carrier came, and no block is short
abbrev pub AreCleanAndFull : Identity → List (List ℕ) → Type 0
AreCleanAndFull who datagrams = (readings : List Reading) × ReadAll datagrams readings × (f : Fti)
    × IsClean (reception_of who readings) f × AllFull f (reception_of who readings).symbols

-- the inputs give an output
abbrev pub GivesOutput : Option Files → Request → Type 0
GivesOutput files r =
    (values : List Value) × (outcome : Outcome) × (bytes : List ℕ)
    × HaveValues files (inputs_of r) values × Gives r values outcome × (outcome.output ≡ Some bytes)

-- Whether an output may be asked for before a fault: for an object, once datagrams leave nothing
-- out, or, for datagrams that are followed, once a carrier came; for a picture, where the answer is
-- yes; for a session without some places, once it is there and the file of places is read; for
-- sessions that are joined, once the first is there; else once all inputs are there.
abbrev pub MayCreate : Option Files → Request → Type 0
MayCreate files (Check r) = GivesOutput files (Check r)
MayCreate files (Show r) = ⊥
MayCreate files (Twin r) = GivesOutput files (Twin r)
MayCreate files (Decode r) = Holds files r.session.now
    (λ bytes. (datagrams : List (List ℕ)) × IsFramed datagrams bytes
    × AreCleanAndFull r.identity datagrams)
MayCreate files (Follow r) =
    Holds files r.session.now (λ bytes. BringsCarrier r.identity (Some bytes))
MayCreate files (Drop r) = Holds files r.session.now (λ bytes. ⊤)
    × ((values : List Value) × HaveValues files (place_inputs r.places_file) values)
MayCreate files (Join r) = AreThere files (take 1 (inputs_of (Join r)))
MayCreate files r = AreThere files (inputs_of r)

-- none was asked for, or the request's own, as it may be
abbrev pub MayHaveCreated : World → World → Request → Type 0
MayHaveCreated old new r = (new.created ≡ old.created)
    ⊎ (((output : Output) × (output_of r ≡ Some output) × HasAsked old new output)
    × MayCreate old.files r)

-- What was made of an output's bytes. An object is written while its symbols come or are looked at:
-- where they turn out to be too few or of none, its output may have been asked for, and is given
-- up.
abbrev pub IsMade : World → World → Request → Option (List ℕ) → Type 0
IsMade old new r (Some bytes) = IsOutput old new (output_of r) (Some bytes)
IsMade old new (Decode r) None = (new.files ≡ old.files) × MayHaveCreated old new (Decode r)
IsMade old new (Follow r) None = (new.files ≡ old.files) × MayHaveCreated old new (Follow r)
IsMade old new r None = IsOutput old new (output_of r) None

-- What the inputs give was done, but for what is printed.
pub record Makes (old new : World) (r : Request) (outcome : Outcome) : Type 0 where
  pub values : List Value
  pub read : HaveValues old.files (inputs_of r) values
  pub gives : Gives r values outcome
  pub made : IsMade old new r outcome.output

-- The request was done: its output is there, and its lines were printed; the status.
pub record IsDone (old new : World) (r : Request) (status : ℕ) : Type 0 where
  pub outcome : Outcome
  pub makes : Makes old new r outcome
  pub printed : Appends old.printed new.printed outcome.text
  pub is_status : status ≡ outcome.status

-- ---- faults

-- The first input that can't be had, in their order; of a session that is shown `Refuses` tells. A
-- session whose datagrams are dropped is opened before the file of places is read, and read behind
-- it.
abbrev pub IsUnhad : World → Request → Fault → Type 0
IsUnhad world (Drop r) fault =
    IsUnopened world r.session.now fault
    ⊎ (Holds world.files r.session.now (λ bytes. ⊤)
    × IsFirstUnread world (inputs_of (Drop r)) fault)
IsUnhad world (Show r) fault = ⊥
IsUnhad world r fault = IsFirstUnread world (inputs_of r) fault

-- The output can't be created, as a file is there that is to stay, or creating it is refused: that
-- is told only if the inputs give its bytes. Or writing it is refused.
abbrev pub IsUnmade : World → World → Request → Fault → Type 0
IsUnmade old new r (Open name) =
    (output : Output) × (output_of r ≡ Some output) × (name.now ≡ output.name.now)
    × (MayFail old (Creating output.name.now)
    ⊎ IsToStay old.files output.name.now output.no_clobber)
    × GivesOutput old.files r × HasAsked old new output
IsUnmade old new r fault =
    (output : Output) × (output_of r ≡ Some output) × MayFail old (Writing output.name.now)
    × IsWriteFault r fault × HasAsked old new output

-- Why the request wasn't done, by what was printed before: an input can't be had; or the request is
-- refused; or its output isn't made; or there is no memory.
abbrev pub IsBecause : World → World → Request → List ℕ → Fault → Type 0
IsBecause old new r text Memory = ⊤
IsBecause old new r text fault =
    IsUnhad old r fault ⊎ Refuses old r text fault ⊎ IsUnmade old new r fault

-- what may be printed before a fault: of datagrams that are shown the lines of the first that the
-- file begins with, unless a summary is asked for; of those that are followed the lines of some,
-- and that they gave the object
abbrev pub BeginsText : Option Files → Request → List ℕ → Type 0
BeginsText files (Show r) text =
    (text ≡ []) ⊎ ((opened : Option (List ℕ)) × (left : Option (List ℕ)) × (readings : List Reading)
    × HasValue files (AStream r.session.now) (Opened opened) × AreReadAs opened left readings
    × (text ≡ told_before r.summary readings))
BeginsText files (Follow r) text =
    (text ≡ [])
    ⊎ Holds files r.session.now (λ bytes. IsHeardInPart r.identity (Some bytes) text)
BeginsText files r text = text ≡ []

-- The request wasn't done, and the files are as before.
pub record IsStopped (old new : World) (r : Request) (text : List ℕ) (fault : Fault) : Type 0 where
  pub because : IsBecause old new r text fault
  pub before : BeginsText old.files r text
  pub files : new.files ≡ old.files
  pub created : MayHaveCreated old new r

-- what stays untold once printing has failed: more of a session that is shown; of one that is
-- followed a fault, also that there is no memory, behind this text
abbrev pub LeavesUntold : World → World → Request → Type 0
LeavesUntold old new (Show r) = (new.files ≡ old.files) × (new.created ≡ old.created)
LeavesUntold old new (Follow r) =
    (text : List ℕ) × (fault : Fault) × IsStopped old new (Follow r) text fault
LeavesUntold old new r = ⊥

-- Printing has failed: all was done but what is printed, or the rest stays untold.
pub record IsUnprinted (old new : World) (r : Request) : Type 0 where
  pub failed : new.failed ≡ true
  pub done : ((outcome : Outcome) × Makes old new r outcome) ⊎ LeavesUntold old new r

-- The request wasn't done, and behind what was printed before, the fault was told.
pub record HasFault (old new : World) (r : Request) : Type 0 where
  pub fault : Fault
  pub text : List ℕ
  pub between : World
  pub printed : Appends old.printed between.printed text
  pub stopped : IsStopped old between r text fault
  pub told : TellsFault fault between new

abbrev pub IsRun : World → World → Request → ℕ → Type 0
IsRun old new r status =
    IsDone old new r status ⊎ ((status ≡ 1) × (IsUnprinted old new r ⊎ HasFault old new r))
