-- What is written of an object that is sent, and why it isn't.
use Rattle.std.specs.Prelude.{◌≡◌, ◌<◌, ℕ, Bool, List, [], ◌∷◌, length, Option, Some, None, ⊤}
use Rattle.std.specs.Io.KnownBytes.{Appends}
use Rattle.partition.specs.Fti.{Fti, IsValidFti}
use Rattle.session.specs.Frames.{frames}
use Rattle.encoder.specs.Sending.{most_symbol_bytes, CanBeSent, IsSessionOf, pairs}
use Rattle.encoder.specs.declared.sending.SendFault.TheVariants.{SymbolTooLong}
use Rattle.request.specs.declared.requests.Sending.{Sending}
use Rattle.commands.specs.ReadingInputs.{IsObjectBroken}
use Rattle.commands.specs.declared.fault.Fault.TheVariants.{File, Memory, Send}
use Rattle.commands.specs.declared.output.Unwritten.{Unwritten}
use Rattle.commands.specs.declared.output.Unwritten.TheVariants.{Writing, Fault}

-- the frames of a session of the object were written, of so many datagrams
pub record WritesSession (object : List ℕ) (f : Fti) (s : Sending) (count : ℕ)
    (old new : Option (List ℕ)) : Type 0 where
  pub valid : IsValidFti f
  pub can : CanBeSent object f
  pub datagrams : List (List ℕ)
  pub sent : IsSessionOf object f s.identity.tsi s.identity.toi s.fti_every s.order datagrams
  pub gained : Appends old new (frames datagrams)
  pub counted : count ≡ length (pairs s.order f)

-- what a file held before, where it is told that this was nothing
abbrev pub where_empty : Option (List ℕ) → Option (List ℕ)
where_empty None = None
where_empty (Some []) = Some []
where_empty (Some (x ∷ xs)) = None

-- writing has failed, or symbols are too long, or there is no memory
abbrev pub IsUnsent : Fti → Unwritten → Type 0
IsUnsent f Writing = ⊤
IsUnsent f (Fault Memory) = ⊤
IsUnsent f (Fault (Send SymbolTooLong)) = most_symbol_bytes < f.symbol_length
IsUnsent f unwritten = ⊥

-- writing has failed, or symbols are too long, or there is no memory, or the object that is read is
-- broken
abbrev pub IsUnsentFrom : Fti → Option (List ℕ) → Bool → List ℕ → Unwritten → Type 0
IsUnsentFrom f left sound name (Fault (File read)) = IsObjectBroken f left sound name (File read)
IsUnsentFrom f left sound name unwritten = IsUnsent f unwritten
