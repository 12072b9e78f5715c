-- How a parser comes to have the grammar.
use Rattle.std.specs.Prelude.{◌≡◌, ◌++◌, ◌∷◌, [], List, false, map, option_map}
use Rattle.std.specs.Borrow.{Bor}
use Rattle.clap.specs.Words.{App, Rule, Shape, Text, app_of, shape_of, with_subcommand}
use Rattle.clap.specs.Simple.{new_shape}
use Rattle.clap.specs.declared.builder.command.Command.{Command}
use Rattle.clap.specs.declared.builder.command.Command.TheViews.{out-Command as fields_of}
use Rattle.request.specs.Arguments.{Argument, File, Number, Choice, Places, Files, Flag}
use Rattle.request.specs.Arguments.{FileOption, rule_for}
use Rattle.request.specs.Grammar.{IsOrders, grammar_of}
use Rattle.request.specs.declared.grammar.NumberOption.{NumberOption}
use Rattle.request.specs.declared.grammar.ChoiceOption.{ChoiceOption}
use Rattle.request.specs.declared.grammar.Argument.{Argument as Told}
use Rattle.request.specs.declared.grammar.Argument.TheVariants as told
use Rattle.request.specs.declared.grammar.Outline.{Outline}

-- the parser has this grammar
pub record HasGrammar (parser : Command) : Type 0 where
  pub orders : Bor (List (Bor Text))
  pub names : IsOrders orders
  pub app : app_of parser ≡ grammar_of orders

-- the command has this shape, and no argument of all commands
pub record IsShaped (shape : Shape) (parser : Command) : Type 0 where
  pub shaped : shape_of parser ≡ shape
  pub local : (fields_of parser).has_globals ≡ false

-- the command with these arguments last
pub record AddsRules (old : Command) (rules : List Rule) (new : Command) : Type 0 where
  pub shape : shape_of new ≡ record (shape_of old) { rules = (shape_of old).rules ++ rules }
  pub local : (fields_of new).has_globals ≡ (fields_of old).has_globals

-- the parser with commands of these shapes last
abbrev pub with_commands : App → List Shape → App
with_commands app [] = app
with_commands app (shape ∷ shapes) = with_commands (with_subcommand app shape) shapes

abbrev pub number_of : NumberOption → Argument
number_of option =
    Number option.name.now option.least option.most (option_map (λ text. text.now) option.default)

abbrev pub choice_of : ChoiceOption → Argument
choice_of option = Choice option.name.now option.words option.default.now

-- the argument of which the table tells
abbrev pub argument_of : Told → Argument
argument_of (told.File name help) = File name.now
argument_of (told.Number option) = number_of option
argument_of (told.Choice option) = choice_of option
argument_of (told.Places name help) = Places name.now
argument_of (told.Files name help) = Files name.now
argument_of (told.Flag name short help) = Flag name.now short
argument_of (told.FileOption name value_name help) = FileOption name.now

abbrev pub rule_told : Told → Rule
rule_told argument = rule_for (argument_of argument)

-- the command of which an outline tells
abbrev pub outline_shape : Outline → Shape
outline_shape outline =
    record (new_shape outline.name.now) { rules = map rule_told outline.arguments.now }

-- the parser with these commands last
pub record AddsCommands (old : Command) (outlines : List Outline) (new : Command) : Type 0 where
  pub app : app_of new ≡ with_commands (app_of old) (map outline_shape outlines)
