-- What the words of a command line ask for.
use Prim.Native.String.{String}
use Rattle.std.specs.Prelude.{◌≡◌, ◌<◌, ◌⊎◌, ◌∷◌, ◌++◌, [], ℕ, List, Option, Some, None, Result, Ok}
use Rattle.std.specs.Prelude.{Err, Contains, IsSome, codes, length, map, option_map, ⊤}
use Rattle.std.specs.Borrow.{Bor}
use Rattle.std.specs.List.{AllZip}
use Rattle.clap.specs.Words.{IsAmong, Row, Text, fault_of, first_of, kind_of, subcommand_of}
use Rattle.partition.specs.declared.order.Order.{Order}
use Rattle.partition.specs.declared.order.Order.TheVariants.{Blocks, Rounds}
use Rattle.reception.specs.declared.scope.Identity.{Identity}
use Rattle.request.specs.declared.requests.Sizes.{Sizes}
use Rattle.request.specs.declared.requests.CommandLine.{CommandLine}
use Rattle.request.specs.declared.requests.Output.{Output}
use Rattle.request.specs.declared.requests.Request.{Request}
use Rattle.request.specs.declared.requests.Request.TheVariants.{Check, Twin, Show, Encode, Certify}
use Rattle.request.specs.declared.requests.Request.TheVariants.{Convert, Decode, Follow, Drop}
use Rattle.request.specs.declared.requests.Request.TheVariants.{Salvage, Join}
use Rattle.request.specs.declared.usage.Usage.{Usage}
use Rattle.request.specs.declared.usage.Usage.TheVariants.{Help, Line, Places, NoMemory}
use Rattle.request.specs.declared.usage.PlacesRefusal.{PlacesRefusal}
use Rattle.request.specs.declared.usage.PlacesRefusal.TheVariants.{Missing, Word}
use Rattle.request.specs.Places.{IsFirstWrong}
use Rattle.request.specs.Arguments.{Argument, Value, AText, ANumber, AFlag, SomePlaces, SomeTexts}
use Rattle.request.specs.Arguments.{MaybeText, HasValue, given_texts}
use Rattle.request.specs.Grammar.{command, commands, grammar_of}
use Rattle.request.specs.Usages.{IsAskedFor, IsRefusal}

-- the name of a file
abbrev pub path : Bor Text → Value
path name = AText name.now

-- whose packets
abbrev pub whose : Identity → List Value
whose who = ANumber who.tsi ∷ ANumber who.toi ∷ []

-- the numbers of an FTI
abbrev pub size_values : Sizes → List Value
size_values sizes = ANumber sizes.symbol ∷ ANumber sizes.block ∷ ANumber sizes.max_n ∷ []

-- the word for an order
abbrev pub order_name : Order → Text
order_name Blocks = codes "blocks"
order_name Rounds = codes "rounds"

-- a command that writes a file, with the values of its arguments
abbrev pub writing : String → List Value → Output → Text × List Value
writing name values output = command name (values ++ AFlag output.no_clobber ∷ [])

-- the command that a request is, with the values of its own arguments in their order
abbrev pub command_of : Request → Text × List Value
command_of (Encode r) = writing "encode" (path r.object ∷ path r.output.name
    ∷ whose r.sending.identity ++ size_values r.sending.sizes ++ ANumber r.sending.fti_every
    ∷ AText (order_name r.sending.order) ∷ []) r.output
command_of (Certify r) = writing "certify"
    (path r.object ∷ path r.output.name ∷ whose r.identity ++ size_values r.sizes) r.output
command_of (Convert r) =
    writing "convert" (path r.certificate ∷ path r.output.name ∷ whose r.identity) r.output
command_of (Check r) =
    command "check" (path r.session ∷ path r.object ∷ path r.certificate ∷ whose r.identity
    ++ MaybeText (option_map (λ name. name.now) r.picture) ∷ AFlag r.summary
    ∷ ANumber r.margin ∷ ANumber r.burst ∷ AFlag r.no_clobber ∷ [])
command_of (Drop r) = writing "drop" (path r.session ∷ path r.output.name
    ∷ SomePlaces r.places.items ∷ MaybeText (option_map (λ name. name.now) r.places_file) ∷ [])
    r.output
command_of (Salvage r) = writing "salvage" (path r.session ∷ path r.output.name ∷ []) r.output
command_of (Join r) = writing "join" (path r.output.name
    ∷ SomeTexts (map (λ name. name.now) r.sessions.items) ∷ AFlag r.turns ∷ []) r.output
command_of (Decode r) =
    writing "decode" (path r.session ∷ path r.output.name ∷ whose r.identity) r.output
command_of (Follow r) =
    writing "follow" (path r.session ∷ path r.output.name ∷ whose r.identity) r.output
command_of (Twin r) = writing "twin" (path r.session ∷ path r.object ∷ path r.certificate
    ∷ path r.output.name ∷ whose r.identity) r.output
command_of (Show r) = command "show" (path r.session ∷ AFlag r.summary ∷ [])

-- the command of a line, with the values of its arguments in their order
abbrev pub asked_of : CommandLine → Text × List Value
asked_of line =
    ((command_of line.request).0, (command_of line.request).1 ++ AFlag line.quiet ∷ [])

-- what was read, a command's name and rows, has these values of the arguments in the table
abbrev pub IsRead : List (Text × List Argument) → Option (Text × List Row) → Text × List Value
    → Type 0
IsRead table read asked = (arguments : List Argument) × Contains table (asked.0, arguments)
    × ((rows : List Row) × (read ≡ Some (asked.0, rows)) × AllZip (HasValue rows) arguments asked.1)

-- a request to drop datagrams has a place, or a file of places
abbrev pub TellsPlaces : Request → Type 0
TellsPlaces (Drop r) = (0 < length r.places.items) ⊎ IsSome r.places_file
TellsPlaces r = ⊤

-- why there are no places to drop: none is given, nor a file of them; or this is the first of the
-- texts that are given that tells none
abbrev pub LackPlaces : List Row → PlacesRefusal → Type 0
LackPlaces rows Missing =
    (given_texts (codes "PLACE") rows ≡ []) × (first_of (codes "places") rows ≡ None)
LackPlaces rows (Word word) =
    (count : ℕ) × IsFirstWrong (given_texts (codes "PLACE") rows) count word.now

abbrev pub IsUnplaced : Option (Text × List Row) → PlacesRefusal → Type 0
IsUnplaced read refusal =
    (rows : List Row) × (read ≡ Some (codes "drop", rows)) × LackPlaces rows refusal

-- The answer to the words: a request where they have no fault and, of `drop`, tell places; else why
-- there is none; or no memory.
abbrev pub Answers : Bor (List (Bor Text)) → List Text → Result CommandLine Usage → Type 0
Answers orders words (Ok line) = (fault_of (grammar_of orders) words ≡ [])
    × IsRead (commands orders) (subcommand_of (grammar_of orders) words) (asked_of line)
    × TellsPlaces line.request
Answers orders words (Err (Places refusal)) = (fault_of (grammar_of orders) words ≡ [])
    × IsUnplaced (subcommand_of (grammar_of orders) words) refusal
Answers orders words (Err (Help told)) =
    IsAskedFor told × IsAmong (kind_of told) (fault_of (grammar_of orders) words)
Answers orders words (Err (Line told)) =
    IsRefusal told × IsAmong (kind_of told) (fault_of (grammar_of orders) words)
Answers orders words (Err NoMemory) = ⊤
