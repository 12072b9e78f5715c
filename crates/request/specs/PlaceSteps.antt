-- A text's words that are read one by one.
use Rattle.std.specs.Prelude.{List, [], Option, Some, None}
use Rattle.std.specs.List.{slice_split}
use Rattle.clap.specs.Words.{Text}
use Rattle.request.specs.Places.{is_space}

-- the pieces between white space of what is left, if something is
abbrev pub pieces_left : Option Text → List Text
pieces_left None = []
pieces_left (Some text) = slice_split is_space text
