-- Datagrams that are followed, one by one.
use Rattle.std.specs.Prelude.{◌≡◌, ◌⊎◌, ◌+◌, ◌-◌, ◌^◌, ℕ, List, [], ◌∷◌, ◌++◌, Option, length}
use Rattle.std.specs.Prelude.{codes, decimal}
use Rattle.std.specs.Io.KnownBytes.{Consumes, IsAtEnd}
use Rattle.session.specs.Frames.{frames, AreShort, HasRead}
use Rattle.reception.specs.declared.scope.Identity.{Identity}
use Rattle.reception.specs.Answer.{Answer, Object, IsAnswer}
use Rattle.block_recovery.specs.Faults.{fault_value}
use Rattle.receiver.specs.Begun.{IsCarrierOf}
use Rattle.receiver.specs.Receiving.{with_datagram, LeaveNoneShort, ComesEarly}
use Rattle.receiver.specs.declared.receiver.FeedFault.{FeedFault}
use Rattle.receiver.specs.declared.receiver.FeedFault.TheVariants.{Fault as NoObject, Full, Early}
use Rattle.commands.specs.Lines.{line_of, named, count_line, answer_text, refusal_words}

-- Why a datagram isn't taken behind those that were: the decoder's answer to them and it is a
-- fault; they are as many as can be counted; or it comes before the first carrier.
abbrev pub IsNotTaken : Identity → List (List ℕ) → List ℕ → FeedFault → Type 0
IsNotTaken who taken d (NoObject fault) = IsAnswer who (with_datagram taken d) (fault_value fault)
IsNotTaken who taken d Full = length taken ≡ 2 ^ 64 - 1
IsNotTaken who taken d Early = ComesEarly who taken d
IsNotTaken who taken d fault = ⊥

-- the line of a datagram that is left out, by its place
abbrev pub refusal_line : ℕ → FeedFault → List ℕ
refusal_line place fault =
    line_of (named (codes "refused") (decimal place) ++ 32 ∷ [] ++ refusal_words fault)

-- the datagram at a place is taken, as nothing is against it, or left out with a line that tells
-- what is
abbrev pub Comes : Identity → ℕ → List (List ℕ) → List ℕ → List (List ℕ) → List ℕ → Type 0
Comes who place before d after text =
    ((after ≡ with_datagram before d) × ((fault : FeedFault) → ¬ IsNotTaken who before d fault)
    × (text ≡ []))
    ⊎ ((after ≡ before) × (fault : FeedFault) × IsNotTaken who before d fault
    × (text ≡ refusal_line place fault))

-- datagrams come, the first at this place, each only while those that were taken leave a block
-- short; those that are taken then, and the lines
abbrev pub Come : Identity → ℕ → List (List ℕ) → List (List ℕ) → List (List ℕ) → List ℕ → Type 0
Come who place before [] after text = (after ≡ before) × (text ≡ [])
Come who place before (d ∷ ds) after text =
    (¬ LeaveNoneShort who before) × (middle : List (List ℕ)) × (front : List ℕ) × (rest : List ℕ)
    × Comes who place before d middle front × Come who (place + 1) middle ds after rest
    × (text ≡ front ++ rest)

-- the bytes begin with frames of datagrams the last of which is a carrier of the identity's
abbrev pub BringsCarrier : Identity → Option (List ℕ) → Type 0
BringsCarrier who opened =
    (left : Option (List ℕ)) × (datagrams : List (List ℕ)) × (last : List ℕ)
    × HasRead opened left (with_datagram datagrams last) × IsCarrierOf who last

-- So many datagrams were read, just their frames, and came; those that were taken, and the lines.
pub record IsHeard (who : Identity) (opened left : Option (List ℕ)) (read : ℕ)
    (taken : List (List ℕ)) (lines : List ℕ) : Type 0 where
  pub datagrams : List (List ℕ)
  pub consumed : Consumes opened left (frames datagrams)
  pub each : AreShort datagrams
  pub many : read ≡ length datagrams
  pub come : Come who 0 [] datagrams taken lines

-- the line that tells how many datagrams gave the object
abbrev pub complete_line : ℕ → List ℕ
complete_line read = count_line (codes "complete after") read (codes " datagrams")

-- the answer to those that were taken; where it is no object, all were read
abbrev pub ends_text : Answer → ℕ → List ℕ
ends_text (Object object) read = complete_line read ++ line_of (answer_text (Object object))
ends_text answer read = line_of (answer_text answer)

abbrev pub Ends : Answer → Option (List ℕ) → Type 0
Ends (Object object) left = Unit {0}
Ends answer left = IsAtEnd left

-- what may have been printed before a fault: the lines of some that were heard, and that they gave
-- the object
abbrev pub IsHeardInPart : Identity → Option (List ℕ) → List ℕ → Type 0
IsHeardInPart who opened text =
    (left : Option (List ℕ)) × (read : ℕ) × (taken : List (List ℕ)) × (lines : List ℕ)
    × IsHeard who opened left read taken lines
    × ((text ≡ lines) ⊎ (LeaveNoneShort who taken × (text ≡ lines ++ complete_line read)))
