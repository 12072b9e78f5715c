-- What the parts of following a session do.
use Rattle.std.specs.Prelude.{◌≡◌, ℕ, Bool, true, false, List, Option, Some, length, ⊤}
use Rattle.std.specs.declared.alloc.AllocError.{AllocError}
use Rattle.std.specs.Prelude.{Result, Ok, Err}
use Rattle.std.specs.Io.KnownBytes.{IsAtEnd, Appends}
use Rattle.session.specs.Frames.{IsReadFault}
use Rattle.session.specs.declared.frame.FrameFault.TheVariants.{NoMemory as NoFrameMemory, Io}
use Rattle.reception.specs.declared.scope.Identity.{Identity}
use Rattle.reception.specs.Answer.{Object, IsAnswer}
use Rattle.streams.specs.declared.io.Write.{Ghosts}
use Rattle.decoder.specs.Answers.{answer_value}
use Rattle.decoder.specs.declared.answer.Answer.{Answer}
use Rattle.receiver.specs.Filed.{Stands, IsLack, has_output}
use Rattle.receiver.specs.Stands.{IsSoundIn}
use Rattle.receiver.specs.Receiving.{LeaveNoneShort}
use Rattle.receiver.specs.declared.receiver.Progress.{Progress}
use Rattle.receiver.specs.declared.receiver.Progress.TheVariants.{More, Complete}
use Rattle.request.specs.declared.requests.FollowRequest.{FollowRequest}
use Rattle.request.specs.declared.requests.Request.TheVariants.{Follow}
use Rattle.host.specs.World.{Reading, World, Holds, MayFail, Replaces}
use Rattle.commands.specs.Outcomes.{HasAsked, MayCreate}
use Rattle.commands.specs.Following.{IsHeard}
use Rattle.commands.specs.declared.fault.Fault.{Fault}
use Rattle.commands.specs.declared.fault.Fault.TheVariants.{Memory, Frame, Open}
use Rattle.commands.specs.declared.fault.Stop.{Stop}
use Rattle.commands.specs.declared.fault.Stop.TheVariants.{ByFault, Unprinted}
use Rattle.receive_commands.specs.declared.follow.Ending.{Ending}
use Rattle.receive_commands.specs.declared.follow.Ending.TheVariants.{Full, Lacks}
use Rattle.receive_commands.specs.declared.follow.Followed.{Followed}
use Rattle.commands.specs.declared.output.Unwritten.{Unwritten}
use Rattle.commands.specs.declared.output.Unwritten.TheVariants as unwritten

-- these lines were printed; or printing has failed, and nothing is told of them
abbrev pub AreSaid : World → World → List ℕ → Bool → Type 0
AreSaid old new lines true = Appends old.printed new.printed lines
AreSaid old new lines false = new.failed ≡ true

-- a fault, if it can be told
abbrev pub stopped_by : Fault → Bool → Stop
stopped_by fault true = ByFault fault
stopped_by fault false = Unprinted

-- ---- how far a session was followed

-- the output was asked for, as it may be; or none was
abbrev pub IsCreatedFor : FollowRequest → World → World → Bool → Type 0
IsCreatedFor r old new true =
    HasAsked old new r.output × MayCreate old.files (Follow r)
IsCreatedFor r old new false = new.created ≡ old.created

-- The receiver is the identity's, its output, if it has one, was asked for, and these lines were
-- printed. Where files are told, this is so of the session's bytes and the lines.
pub record IsFollowed {W : Type 0} {w : Ghosts W} (r : FollowRequest) (old new : World)
    (followed : Followed W w) (Heard : List ℕ → List ℕ → Type 0) : Type 0 where
  pub sound : IsSoundIn followed.receiver.receiving.store
  pub identity : followed.receiver.receiving.identity ≡ r.identity
  pub files : new.files ≡ old.files
  pub refused : new.refused ≡ old.refused
  pub created : IsCreatedFor r old new (has_output followed.receiver)
  pub lines : List ℕ
  pub said : AreSaid old new lines followed.said
  pub heard : Holds old.files r.session.now (λ bytes. Heard bytes lines)

-- the datagrams that were read are these, and the receiver stands for those that it took, which
-- leave some block short
abbrev pub IsShort : {W : Type 0} {w : Ghosts W} → FollowRequest → Option (List ℕ)
    → Followed W w → List ℕ → List ℕ → Type 0
IsShort r left followed bytes lines =
    (taken : List (List ℕ)) × Stands followed.receiver taken × (¬ LeaveNoneShort r.identity taken)
    × IsHeard r.identity (Some bytes) left followed.count taken lines

-- or none
abbrev pub IsFull : {W : Type 0} {w : Ghosts W} → FollowRequest → Followed W w → List ℕ → List ℕ
    → Type 0
IsFull r followed bytes lines =
    (left : Option (List ℕ)) × (taken : List (List ℕ)) × Stands followed.receiver taken
    × LeaveNoneShort r.identity taken
    × IsHeard r.identity (Some bytes) left followed.count taken lines

-- some were read
abbrev pub HasHeardSome : FollowRequest → Option (List ℕ) → List ℕ → List ℕ → Type 0
HasHeardSome r left bytes lines =
    (read : ℕ) × (taken : List (List ℕ)) × IsHeard r.identity (Some bytes) left read taken lines

-- the receiver has an output, which is to have the object
abbrev pub IsReceived : {W : Type 0} {w : Ghosts W} → FollowRequest → World → World → Followed W w
    → Type 0
IsReceived r old new followed =
    (has_output followed.receiver ≡ true) × IsFollowed r old new followed (IsFull r followed)

-- all were read, and the answer to those that were taken says what they lack
abbrev pub IsLacking : {W : Type 0} {w : Ghosts W} → FollowRequest → World → World → Followed W w
    → Answer → Type 0
IsLacking r old new followed answer = IsLack answer
    × IsFollowed r old new followed (λ bytes lines. (left : Option (List ℕ)) × (read : ℕ)
    × (taken : List (List ℕ)) × IsHeard r.identity (Some bytes) left read taken lines
    × IsAtEnd left × IsAnswer r.identity taken (answer_value answer))

-- why no more were: there is no memory, or no frame
abbrev pub IsUnread : {W : Type 0} {w : Ghosts W} → FollowRequest → World → World → Followed W w
    → Fault → Type 0
IsUnread r old new followed Memory =
    (left : Option (List ℕ)) × IsFollowed r old new followed (HasHeardSome r left)
IsUnread r old new followed (Frame NoFrameMemory) = ⊥
IsUnread r old new followed (Frame fault) =
    (fault ≡ Io → MayFail old (Reading r.session.now))
    × (left : Option (List ℕ)) × (rest : Option (List ℕ)) × (failed : Bool)
    × IsReadFault fault left rest failed × IsFollowed r old new followed (HasHeardSome r left)
IsUnread r old new followed fault = ⊥

-- following stopped at the output, which there is, or for one of these
abbrev pub IsUnheard : {W : Type 0} {w : Ghosts W} → FollowRequest → World → World → Followed W w
    → Unwritten → Type 0
IsUnheard r old new followed unwritten.Writing = (has_output followed.receiver ≡ true)
    × (left : Option (List ℕ)) × IsFollowed r old new followed (HasHeardSome r left)
IsUnheard r old new followed (unwritten.Fault fault) = IsUnread r old new followed fault

-- what comes of one datagram more
abbrev pub IsHearing : {W : Type 0} {w : Ghosts W} → FollowRequest → World → World
    → Option (List ℕ) → Followed W w → Result Progress Unwritten → Type 0
IsHearing r old new left followed (Ok More) =
    IsFollowed r old new followed (IsShort r left followed)
IsHearing r old new left followed (Ok Complete) = IsReceived r old new followed
IsHearing r old new left followed (Err why) = IsUnheard r old new followed why

-- how it ends
abbrev pub IsEnding : {W : Type 0} {w : Ghosts W} → FollowRequest → World → World → Followed W w
    → Result Ending Unwritten → Type 0
IsEnding r old new followed (Ok Full) = IsReceived r old new followed
IsEnding r old new followed (Ok (Lacks answer)) = IsLacking r old new followed answer
IsEnding r old new followed (Err why) = IsUnheard r old new followed why

-- what was heard stays so, with the output that the next datagram wants, or there is no memory
abbrev pub IsPrepared : {W : Type 0} {w : Ghosts W} → FollowRequest → World → World
    → Option (List ℕ) → Followed W w → Result Unit AllocError → Type 0
IsPrepared r old new left followed (Ok done) =
    IsFollowed r old new followed (IsShort r left followed)
IsPrepared r old new left followed (Err error) = IsUnread r old new followed Memory

-- ---- parts

-- why a line wasn't printed: there was no memory for it, and nothing was, or printing has failed
abbrev pub IsUnsaid : World → World → Stop → Type 0
IsUnsaid old new (ByFault Memory) = new.printed ≡ old.printed
IsUnsaid old new (ByFault fault) = ⊥
IsUnsaid old new Unprinted = new.failed ≡ true

-- that the output isn't created is told where these datagrams give an object
abbrev pub IsUnkeptOf : Identity → List (List ℕ) → Fault → Type 0
IsUnkeptOf who taken (Open name) = (object : List ℕ) × IsAnswer who taken (Object object)
IsUnkeptOf who taken fault = ⊤

-- the object that these datagrams give stands under the output's name; its length
abbrev pub IsWritten : FollowRequest → Identity → List (List ℕ) → World → World → ℕ → Type 0
IsWritten r who taken old new count =
    (object : List ℕ) × IsAnswer who taken (Object object)
    × Replaces old.files new.files r.output.name.now object × (count ≡ length object)
