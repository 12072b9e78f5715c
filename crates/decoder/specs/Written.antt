-- What writing an object block by block has made of the symbols that stand so.
use Rattle.std.specs.Prelude.{◌≡◌, ℕ, List, length, Option, Some, None}
use Rattle.std.specs.Io.KnownBytes.{Appends}
use Rattle.session.specs.Frames.{AppendsSome}
use Rattle.partition.specs.Fti.{Fti}
use Rattle.reception.specs.Symbols.{Symbol, FitsOnly}
use Rattle.reception.specs.Answer as value
use Rattle.decoder.specs.Answers.{answer_value}
use Rattle.decoder.specs.Answered.{Answers}
use Rattle.block_recovery.specs.Received.{IsIndex}
use Rattle.decoder.specs.Unsolvable.{AreSound}
use Rattle.decoder.specs.declared.answer.Answer.{Answer}

-- the answer to the symbols that stand so, where it is told; else they are those of an object
abbrev pub IsVerdict : Fti → (ℕ → ℕ → Option (List ℕ)) → Option Answer → Type 0
IsVerdict f at (Some answer) = Answers f at (answer_value answer)
IsVerdict f at None = AreSound f at × (object : List ℕ) × Answers f at (value.Object object)

-- their object was written, of the FTI's transfer length
pub record WritesObject (f : Fti) (at : ℕ → ℕ → Option (List ℕ))
    (before after : Option (List ℕ)) : Type 0 where
  pub object : List ℕ
  pub count : length object ≡ f.transfer_length
  pub answers : Answers f at (value.Object object)
  pub gained : Appends before after object

-- a beginning of their object was written, if they are of one
abbrev pub BeginsObject : Fti → (ℕ → ℕ → Option (List ℕ)) → Option (List ℕ) → Option (List ℕ)
    → Type 0
BeginsObject f at before after =
    (arrivals : List Symbol) (object : List ℕ) → IsIndex arrivals at → FitsOnly f arrivals object
    → AppendsSome before after object
