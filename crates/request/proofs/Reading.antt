-- From what the grammar matched to the answer.
use Rattle.std.proofs.Common.{ap, suc, List, [], ◌∷◌, ◌≡◌, ◌∙◌, Bool, Bor, Option, Some, None, Result, Ok, Err, true, false, arith, codes, refl, sym, subst, inl, inr}
use Rattle.std.specs.Prelude.{Contains, find, is_some}
use Rattle.std.specs.Option.{option_map_or}
use Rattle.std.specs.Str.{bytes_eq}
use Rattle.std.proofs.lemmas.Slice.Eq.{bytes_eq-Decides}
use Rattle.clap.specs.Words.{App, FailsBy, HasKind, HasMatchesOf, Row, Text, fault_of, is_simple, is_simple_and_free, subcommand_of, subcommand_rows_of}
use Rattle.clap.specs.declared.parser.matches.ArgMatches.{ArgMatches}
use Rattle.clap.specs.declared.error.Error.{Error}
use Rattle.clap.specs.declared.error.kind.ErrorKind.TheVariants.{DisplayHelp, DisplayVersion, OutOfMemory}
use Rattle.clap.proofs.OnLiterals.{clap_on_literals}
use Rattle.request.specs.Arguments.{Argument}
use Rattle.request.specs.Grammar.{IsOrders, commands, grammar_of}
use Rattle.request.specs.Requests.{Answers, IsRead, TellsPlaces, asked_of}
use Rattle.request.specs.Matching.{IsMatch, IsTold, IsToldBy, arguments_of}
use Rattle.request.specs.UsageOf.{IsUsageOf}
use Rattle.request.specs.Usages.{IsAskedFor}
use Rattle.request.proofs.Existing.{asks}
use Rattle.request.specs.declared.requests.CommandLine.{CommandLine}
use Rattle.request.specs.declared.usage.Usage.{Usage}
use Rattle.request.specs.declared.usage.Usage.TheVariants.{Help, Line, Places, NoMemory}

abbrev lent : Text → Bor Text
lent text = record { ref_ptr = (0, 0); now = text }

abbrev pub some_orders : Bor (List (Bor Text))
some_orders = record { ref_ptr = (0, 0); now = lent (codes "blocks") ∷ lent (codes "rounds") ∷ [] }

pub are_orders : IsOrders some_orders
are_orders = refl

simple : (orders : Bor (List (Bor Text))) → is_simple (grammar_of orders) ≡ true
unfolding clap_on_literals
simple orders = refl

simple_and_free : (orders : Bor (List (Bor Text))) → is_simple_and_free (grammar_of orders) ≡ true
unfolding clap_on_literals
simple_and_free orders = refl

-- a command of the table is in it, with its arguments
listed : (name : Text) (table : List (Text × List Argument)) → is_some (find (λ command. bytes_eq command.0 name) table) ≡ true
    → Contains table (name, option_map_or (λ command. command.1) (find (λ command. bytes_eq command.0 name) table) [])
listed name [] known = cc
listed name (c ∷ table) known = go (bytes_eq c.0 name) refl (listed name table)
  where
    go : (t : Bool) → bytes_eq c.0 name ≡ t
        → (is_some (find (λ command. bytes_eq command.0 name) table) ≡ true → Contains table (name, option_map_or (λ command. command.1) (find (λ command. bytes_eq command.0 name) table) []))
        → Contains (c ∷ table) (name, option_map_or (λ command. command.1) (find (λ command. bytes_eq command.0 name) (c ∷ table)) [])
    go true e rest = rw e (0, omega arith, ap (λ n. (n, c.1)) ((bytes_eq-Decides c.0 name).0 e))
    go false e rest = rw e (let (k, lt, is) = rest (rw e at known) in (suc k, omega (arith, lt), is))

module _ (orders : Bor (List (Bor Text))) (are : IsOrders orders) where
  -- the request that was matched is read
  read_request : (read : Option (Text × List Row)) (line : CommandLine) → IsToldBy orders read → IsMatch read (Ok line) → IsRead (commands orders) read (asked_of line)
  read_request None line told match = absurd told
  read_request (Some command) line told match = (
    arguments_of orders command.0,
    subst (λ n. Contains (commands orders) (n, arguments_of orders command.0)) (sym match.0.0) (listed command.0 (commands orders) told.0),
    (command.1, ap (λ n. Some (n, command.1)) (sym match.0.0), match.0.1 orders are),
  )

places_told : (read : Option (Text × List Row)) (line : CommandLine) → IsMatch read (Ok line) → TellsPlaces line.request
places_told None line match = absurd match
places_told (Some command) line match = match.1

module _ (orders : Bor (List (Bor Text))) (are : IsOrders orders) (words : List Text) where
  module _ (m : ArgMatches) (parsed : Result ArgMatches Error) (app : App) (is : app ≡ grammar_of orders) (has : HasMatchesOf app words m)
      (fails : is_simple_and_free app ≡ true → FailsBy (fault_of app words) parsed) (ok : parsed ≡ Ok m) where
    none : fault_of (grammar_of orders) words ≡ []
    none = subst (λ p. FailsBy (fault_of (grammar_of orders) words) p) ok
        (subst (λ a. is_simple_and_free a ≡ true → FailsBy (fault_of a words) parsed) is fails (simple_and_free orders))

    same : subcommand_rows_of m ≡ subcommand_of (grammar_of orders) words
    same = (subst (λ a. HasMatchesOf a words m) is has (simple orders)).1

    told : IsToldBy orders (subcommand_rows_of m)
    told = subst (IsToldBy orders) (sym same) (asks orders words none)

    pub is_told : IsTold (subcommand_rows_of m)
    is_told = (orders, are, told)

    pub answers : (result : Result CommandLine Usage) → IsMatch (subcommand_rows_of m) result → Answers orders words result
    answers (Ok line) match =
        (none, subst (λ read. IsRead (commands orders) read (asked_of line)) same (read_request orders are (subcommand_rows_of m) line told match), places_told (subcommand_rows_of m) line match)
    answers (Err NoMemory) match = tt
    answers (Err (Places refusal)) match = (none, (match.0, sym same ∙ match.1, match.2))
    answers (Err (Help told)) match = cc
    answers (Err (Line told)) match = cc

  pub refused : (error : Error) (parsed : Result ArgMatches Error) (app : App) (usage : Usage)
      → app ≡ grammar_of orders → (is_simple_and_free app ≡ true → FailsBy (fault_of app words) parsed)
      → parsed ≡ Err error → IsUsageOf error usage → Answers orders words (Err usage)
  refused error parsed app usage is fails err of =
      let kind = subst (λ p. FailsBy (fault_of (grammar_of orders) words) p) err
      (subst (λ a. is_simple_and_free a ≡ true → FailsBy (fault_of a words) parsed) is fails (simple_and_free orders)) in
      go usage kind of
    where
      go : (u : Usage) → HasKind (fault_of (grammar_of orders) words) error → IsUsageOf error u → Answers orders words (Err u)
      go NoMemory kind of = tt
      go (Places refusal) kind of = absurd of
      go (Help told) (inl memory) of = absurd (no_memory of.1)
        where
          no_memory : IsAskedFor error → ⊥
          no_memory (inl help) = let bad : OutOfMemory ≡ DisplayHelp = sym memory ∙ help in cc
          no_memory (inr version) = let bad : OutOfMemory ≡ DisplayVersion = sym memory ∙ version in cc
      go (Help told) (inr among) of = rw of.0 (of.1, among)
      go (Line told) (inl memory) of = absurd (of.1.2 memory)
      go (Line told) (inr among) of = rw of.0 (of.1, among)
