-- The picture of a verdict.
use Rattle.std.specs.Prelude.{◌≡◌, ℕ, List, Option, Some, None, ⊤, string_bytes}
use Rattle.std.specs.Borrow.{Bor}
use Rattle.cert.specs.declared.verdict.Survey.{Survey}
use Rattle.cert.specs.declared.verdict.Verdict.{Verdict}
use Rattle.cert.specs.declared.verdict.Verdict.TheVariants.{Yes}
use Rattle.commands.specs.Commands.{IsPictureOf}
use Rattle.check_commands.specs.declared.drawing.Drawn.{Drawn}

-- there is a survey at a yes, where a picture is asked for
abbrev pub IsSurveyed : Option (Bor (List ℕ)) → Verdict → Option Survey → Type 0
IsSurveyed (Some name) (Yes report) None = ⊥
IsSurveyed picture verdict survey = ⊤

-- a picture was drawn of the report under its name, where one is asked for and the answer is yes
abbrev pub HasDrawn : Option (Bor (List ℕ)) → Verdict → Option Drawn → Type 0
HasDrawn (Some name) (Yes report) (Some drawn) =
    (drawn.name ≡ name) × IsPictureOf report (string_bytes drawn.text)
HasDrawn (Some name) (Yes report) None = ⊥
HasDrawn picture verdict drawn = drawn ≡ None
