-- Of which ends and refusals there is a sentence.
use Rattle.std.specs.Prelude.{◌≡◌, ◌⊎◌, ◌↔◌, ◌<◌, ℕ, Bool, true, false, List, Result, Ok, ⊤}
use Rattle.std.specs.Prelude.{IsTrue, codes, nat_lt}
use Rattle.std.specs.Str.Iter.{HasSubslice}
use Rattle.clap.specs.declared.error.kind.ErrorKind.{ErrorKind}
use Rattle.clap.specs.declared.error.kind.ErrorKind.TheVariants.{ValueValidation}
use Rattle.clap.specs.declared.error.kind.ErrorKind.TheVariants.{UnknownArgument}
use Rattle.request.specs.declared.requests.Request.{Request}
use Rattle.request.specs.declared.requests.Request.TheVariants.{Check, Twin}
use Rattle.commands.specs.declared.done.Why.{Why}
use Rattle.commands.specs.declared.done.Why.TheVariants.{Plain, Yes, Unprotected, Empty, Missing}
use Rattle.commands.specs.declared.done.Why.TheVariants.{Contradicted}
use Rattle.commands.specs.declared.fault.Stop.{Stop}

-- a yes bears fewer losses than are asked for, or none, or it counts repeats; or there is no twin
abbrev pub TellsYes : Request → (repeats margin burst : ℕ) → Bool → Type 0
TellsYes (Check r) repeats margin burst said = IsTrue said
    ↔ ((margin < r.margin) ⊎ (burst < r.burst) ⊎ (margin ≡ 0) ⊎ (0 < repeats))
TellsYes (Twin r) repeats margin burst said = said ≡ true
TellsYes r repeats margin burst said = said ≡ false

-- there is a sentence on an end: none where its lines say all, and one where too little came
abbrev pub IsSaid : Request → Result Why Stop → Bool → Type 0
IsSaid r (Ok Plain) said = said ≡ false
IsSaid r (Ok (Yes repeats margin burst)) said = TellsYes r repeats margin burst said
IsSaid r (Ok Unprotected) said = said ≡ true
IsSaid r (Ok Empty) said = said ≡ true
IsSaid r (Ok (Missing block have need)) said = said ≡ true
IsSaid r (Ok (Contradicted contradictions)) said = said ≡ nat_lt 0 contradictions
IsSaid r why said = ⊤

-- the refusal's text has the tip to write the word as the name of a file
abbrev pub HasTip : List ℕ → Type 0
HasTip text = HasSubslice text (codes "\n  tip: to pass '")

-- A refusal of this kind, with this text, doesn't tell what to write: a parser refused a value,
-- which only those of numbers do with this kind; or a word is no option, and the text has that tip.
abbrev pub IsToMend : ErrorKind → List ℕ → Type 0
IsToMend kind text = (kind ≡ ValueValidation) ⊎ ((kind ≡ UnknownArgument) × HasTip text)
