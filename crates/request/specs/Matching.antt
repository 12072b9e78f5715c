-- What is asked for by the rows that the grammar matched.
use Rattle.std.specs.Prelude.{◌≡◌, [], true, List, Option, Some, None, Result, Ok, Err, codes, find}
use Rattle.std.specs.Prelude.{Bool, ℕ, is_some, ⊤}
use Rattle.std.specs.Borrow.{Bor}
use Rattle.std.specs.List.{AllByRecursion, AllZip}
use Rattle.std.specs.Option.{option_map_or}
use Rattle.std.specs.Str.{bytes_eq}
use Rattle.clap.specs.Words.{Row, Text, first_of, found_of, rows_of}
use Rattle.clap.specs.declared.parser.matches.ArgMatches.{ArgMatches}
use Rattle.partition.specs.declared.order.Order.{Order}
use Rattle.request.specs.declared.requests.CommandLine.{CommandLine}
use Rattle.request.specs.declared.usage.Usage.{Usage}
use Rattle.request.specs.declared.usage.Usage.TheVariants.{NoMemory, Places as Unplaced}
use Rattle.request.specs.declared.usage.PlacesRefusal.TheVariants.{Word}
use Rattle.request.specs.Arguments.{Argument, AText, Choice, Places, HasValue, Value, flag_word}
use Rattle.request.specs.Grammar.{IsOrders, commands}
use Rattle.request.specs.Places.{IsFirstWrong}
use Rattle.request.specs.Requests.{asked_of, order_name, LackPlaces, IsUnplaced, TellsPlaces}

abbrev pub rows_in : ArgMatches → List Row
rows_in matches = rows_of (found_of matches)

-- a text was read, and it is a number
abbrev pub Reads : {N E : Type 0} → (Text → Result N E → Type 0) → Option Text → Type 0
Reads {N} {E} gives read = (text : Text) × (read ≡ Some text) × ((e : E) → gives text (Err e) → ⊥)

-- it is this number
abbrev pub Gives : {N E : Type 0} → (Text → Result N E → Type 0) → Option Text → N → Type 0
Gives gives read n = (text : Text) × (read ≡ Some text) × gives text (Ok n)

-- the rows have a value of the argument; whether texts tell places isn't known yet
abbrev pub IsGiven : List Row → Argument → Type 0
IsGiven rows (Places name) = ⊤
IsGiven rows argument = (value : Value) × HasValue rows argument value

abbrev pub AreGiven : List Row → List Argument → Type 0
AreGiven rows arguments = AllByRecursion (IsGiven rows) arguments

-- the row of the table for a command of this name
abbrev pub row_of : Bor (List (Bor Text)) → Text → Option (Text × List Argument)
row_of orders name = find (λ command. bytes_eq command.0 name) (commands orders)

abbrev pub arguments_of : Bor (List (Bor Text)) → Text → List Argument
arguments_of orders name = option_map_or (λ command. command.1) (row_of orders name) []

-- a command was read, and the rows have a value of each of its arguments
abbrev pub IsToldBy : Bor (List (Bor Text)) → Option (Text × List Row) → Type 0
IsToldBy orders None = ⊥
IsToldBy orders (Some command) =
    (is_some (row_of orders command.0) ≡ true) × AreGiven command.1 (arguments_of orders command.0)

-- a command was read, and the rows have a value of each of its arguments, wherever the orders'
-- names lie in memory
abbrev pub IsTold : Option (Text × List Row) → Type 0
IsTold read = (orders : Bor (List (Bor Text))) × IsOrders orders × IsToldBy orders read

-- the line is of this command, and has those values
abbrev pub IsAsked : Text → List Row → CommandLine → Type 0
IsAsked name rows line = ((asked_of line).0 ≡ name) × ((orders : Bor (List (Bor Text)))
    → IsOrders orders → AllZip (HasValue rows) (arguments_of orders name) (asked_of line).1)

-- why these texts don't all tell places
abbrev pub AreRefused : List Text → Usage → Type 0
AreRefused texts (Unplaced (Word word)) = (count : ℕ) × IsFirstWrong texts count word.now
AreRefused texts usage = usage ≡ NoMemory

-- why there is no request to drop datagrams
abbrev pub IsUndropped : List Row → Usage → Type 0
IsUndropped rows (Unplaced refusal) = LackPlaces rows refusal
IsUndropped rows usage = usage ≡ NoMemory

-- why there is none of a command of this name
abbrev pub IsUnasked : Text → List Row → Usage → Type 0
IsUnasked name rows (Unplaced refusal) = (name ≡ codes "drop") × LackPlaces rows refusal
IsUnasked name rows usage = usage ≡ NoMemory

-- the line that was read, or why there is none
abbrev pub IsMatch : Option (Text × List Row) → Result CommandLine Usage → Type 0
IsMatch None (Ok line) = ⊥
IsMatch (Some command) (Ok line) = IsAsked command.0 command.1 line × TellsPlaces line.request
IsMatch read (Err (Unplaced refusal)) = IsUnplaced read refusal
IsMatch read (Err usage) = usage ≡ NoMemory

abbrev pub order_argument : Bor (List (Bor Text)) → Argument
order_argument orders = Choice (codes "order") orders (codes "blocks")

-- one of the orders' names was read
abbrev pub IsOrderTold : List Row → Type 0
IsOrderTold rows = (orders : Bor (List (Bor Text))) × IsOrders orders
    × IsGiven rows (order_argument orders)

-- a flag was read: it was given, or it wasn't
abbrev pub IsFlagGiven : Text → List Row → Type 0
IsFlagGiven name rows = (given : Bool) × (first_of name rows ≡ Some (flag_word given))

-- it is this order's
abbrev pub IsOrder : List Row → Order → Type 0
IsOrder rows order = (orders : Bor (List (Bor Text))) → IsOrders orders
    → HasValue rows (order_argument orders) (AText (order_name order))
