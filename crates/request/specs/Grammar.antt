-- The command line's grammar: the commands, with their arguments.
use Prim.Native.String.{String}
use Rattle.std.specs.Prelude.{◌≡◌, ◌∷◌, ◌++◌, [], List, None, Some, codes, true, false, map}
use Rattle.std.specs.Borrow.{Bor}
use Rattle.clap.specs.Words.{App, Text}
use Rattle.clap.specs.Simple.{new_shape}
use Rattle.request.specs.Arguments.{Argument, File, Number, Choice, Places, Files, Flag}
use Rattle.request.specs.Arguments.{FileOption, rule_for}

-- a command's name, with its arguments or their values
abbrev pub command : {X : Type 0} → String → X → Text × X
command name arguments = (codes name, arguments)

-- the name of a file
abbrev pub file : String → Argument
file name = File (codes name)

-- whose packets
abbrev pub identifiers : List Argument
identifiers = Number (codes "tsi") 0 4294967295 None ∷ Number (codes "toi") 0 4294967295 None ∷ []

-- the numbers of an FTI; no symbol of more bytes goes into a datagram
abbrev pub size_arguments : List Argument
size_arguments = Number (codes "symbol") 1 65475 None ∷ Number (codes "block") 1 255 None
    ∷ Number (codes "max") 1 255 None ∷ []

-- the fewest losses that a session is to bear
abbrev pub losses : List Argument
losses = Number (codes "margin") 0 4294967295 (Some (codes "0"))
    ∷ Number (codes "burst") 0 4294967295 (Some (codes "0")) ∷ []

-- without the sentences on standard error
abbrev pub quiet : Argument
quiet = Flag (codes "quiet") (Some 113)

-- a file that is there under the output's name stays
abbrev pub no_clobber : Argument
no_clobber = Flag (codes "no-clobber") (Some 110)

-- a command that writes a file
abbrev pub writing : String → List Argument → Text × List Argument
writing name arguments = command name (arguments ++ no_clobber ∷ quiet ∷ [])

-- the commands, each with its arguments in their order; `--order` takes one of the orders' names
abbrev pub commands : Bor (List (Bor Text)) → List (Text × List Argument)
commands orders =
    writing "encode" (file "OBJECT" ∷ file "OUT" ∷ identifiers ++ size_arguments
    ++ Number (codes "fti-every") 1 255 (Some (codes "1"))
    ∷ Choice (codes "order") orders (codes "blocks") ∷ [])
    ∷ writing "certify" (file "OBJECT" ∷ file "OUT" ∷ identifiers ++ size_arguments)
    ∷ writing "convert" (file "IN" ∷ file "OUT" ∷ identifiers)
    ∷ writing "check" (file "SESSION" ∷ file "OBJECT" ∷ file "CERT" ∷ identifiers
    ++ FileOption (codes "picture") ∷ Flag (codes "summary") None ∷ losses)
    ∷ writing "drop" (file "SESSION" ∷ file "OUT" ∷ Places (codes "PLACE")
    ∷ FileOption (codes "places") ∷ [])
    ∷ writing "salvage" (file "SESSION" ∷ file "OUT" ∷ [])
    ∷ writing "join" (file "OUT" ∷ Files (codes "SESSION") ∷ Flag (codes "turns") None ∷ [])
    ∷ writing "decode" (file "SESSION" ∷ file "OUT" ∷ identifiers)
    ∷ writing "follow" (file "SESSION" ∷ file "OUT" ∷ identifiers)
    ∷ writing "twin" (file "SESSION" ∷ file "OBJECT" ∷ file "CERT" ∷ file "OUT" ∷ identifiers)
    ∷ command "show" (file "SESSION" ∷ Flag (codes "summary") None ∷ quiet ∷ []) ∷ []

-- `alcrs`, with one of its commands, or with `--version`; alone it is refused with its help
abbrev pub grammar_of : Bor (List (Bor Text)) → App
grammar_of orders = record {
  top = record (new_shape (codes "alcrs")) {
    is_leaf = false;
    has_version = true;
    subcommand_required = true;
    arg_required_else_help = true;
  };
  subs = map (λ told. record (new_shape told.0) { rules = map rule_for told.1 }) (commands orders);
}

-- the orders' names
abbrev pub IsOrders : Bor (List (Bor Text)) → Type 0
IsOrders orders = map (λ name. name.now) orders.now ≡ codes "blocks" ∷ codes "rounds" ∷ []
