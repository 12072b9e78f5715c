-- A command with arguments added in turn.
use Rattle.std.proofs.Common.{zero, suc, ap, arith, codes, refl, sym, map, take, length, true, false, ℕ, List, [], ◌∷◌, ◌++◌, ◌≡◌, ◌<◌, ◌+◌, ◌∙◌}
use Rattle.std.specs.Borrow.{Bor}
use Rattle.std.specs.List.{slice_index_or}
use Rattle.std.proofs.lemmas.List.{append-nil, append_assoc}
use Rattle.clap.specs.Words.{AddsArg, App, Rule, Shape, Text, app_of, rule_of, shape_of, with_subcommand}
use Rattle.clap.specs.Simple.{new_shape}
use Rattle.clap.specs.declared.builder.arg.Arg.{Arg}
use Rattle.clap.specs.declared.builder.command.Command.{Command}
use Rattle.request.specs.Building.{AddsCommands, AddsRules, HasGrammar, IsShaped, outline_shape, with_commands}
use Rattle.request.specs.Grammar.{IsOrders, grammar_of}
use Rattle.request.specs.declared.grammar.Argument.{Argument}
use Rattle.request.specs.declared.grammar.Argument.TheVariants.{File, Number, Choice, Places, Files, Flag, FileOption}
use Rattle.request.specs.declared.grammar.Outline.{Outline}
use Rattle.clap.specs.declared.builder.command.Command.TheViews.{out-Command as fields_of}

one_more : {X Y : Type 0} (f : X → Y) (xs : List X) (i : ℕ) (d : X) → i < length xs
    → map f (take (suc i) xs) ≡ map f (take i xs) ++ f (slice_index_or xs i d) ∷ []
one_more f [] i d lt = absurd (omega arith)
one_more f (x ∷ xs) zero d lt = refl
one_more f (x ∷ xs) (suc i) d lt = ap (λ rs. f x ∷ rs) (one_more f xs i d (omega arith))

-- with no argument yet
pub no_rules : (c : Command) → AddsRules c [] c
no_rules c = record {
  shape = ap (λ rs. record (shape_of c) { rules = rs }) (sym (append-nil (shape_of c).rules));
  local = refl;
}

-- and one more, that of the next place
pub rule_added : {X : Type 0} (f : X → Rule) (xs : List X) (i : ℕ) (d : X) (old c new : Command) (a : Arg)
    → AddsRules old (map f (take i xs)) c → AddsArg c a new → a.global ≡ false
    → rule_of a ≡ f (slice_index_or xs i d) → i < length xs
    → AddsRules old (map f (take (i + 1) xs)) new
rule_added f xs i d old c new a so_far added local rule lt =
    let next : i + 1 ≡ suc i = omega arith in
    let rules = (shape_of old).rules in
    record {
      shape = ap (λ (app : App). app.top) (added.shape local)
          ∙ (ap (λ (s : Shape). record s { rules = s.rules ++ rule_of a ∷ [] }) so_far.shape
          ∙ (ap (λ rs. record (shape_of old) { rules = rs }) (append_assoc rules (map f (take i xs)) (rule_of a ∷ [])
          ∙ (ap (λ r. rules ++ (map f (take i xs) ++ r ∷ [])) rule
          ∙ (ap (λ rs. rules ++ rs) (sym (one_more f xs i d lt)) ∙ ap (λ n. rules ++ map f (take n xs)) (sym next))))));
      local = rw (added.globals, so_far.local, local) (grind arith);
    }

-- a new command with arguments
pub shaped : (name : Text) (new c : Command) (rules : List Rule) → shape_of new ≡ new_shape name → (fields_of new).has_globals ≡ false
    → AddsRules new rules c → IsShaped (record (new_shape name) { rules = rules }) c
shaped name new c rules is local added = record {
  shaped = added.shape ∙ ap (λ (s : Shape). record s { rules = s.rules ++ rules }) is;
  local = added.local ∙ local;
}

-- ---- a parser with commands added in turn

one_command : (app : App) (shapes : List Shape) (shape : Shape) → with_commands app (shapes ++ shape ∷ []) ≡ with_subcommand (with_commands app shapes) shape
one_command app [] shape = refl
one_command app (s ∷ shapes) shape = one_command (with_subcommand app s) shapes shape

-- with none yet
pub no_outlines : (c : Command) → AddsCommands c [] c
no_outlines c = record { app = refl }

-- and one more, that of the next place
pub command_added : (xs : List Outline) (i : ℕ) (d : Outline) (old parser sub new : Command)
    → AddsCommands old (take i xs) parser
    → ((fields_of sub).has_globals ≡ false → app_of new ≡ with_subcommand (app_of parser) (shape_of sub))
    → IsShaped (outline_shape (slice_index_or xs i d)) sub → i < length xs
    → AddsCommands old (take (i + 1) xs) new
command_added xs i d old parser sub new so_far added is lt =
    let next : i + 1 ≡ suc i = omega arith in
    let app = app_of old in
    let shapes = map outline_shape (take i xs) in
    record {
      app = added is.local
          ∙ (ap (λ a. with_subcommand a (shape_of sub)) so_far.app
          ∙ (ap (λ s. with_subcommand (with_commands app shapes) s) is.shaped
          ∙ (sym (one_command app shapes (outline_shape (slice_index_or xs i d)))
          ∙ (ap (λ ss. with_commands app ss) (sym (one_more outline_shape xs i d lt)) ∙ ap (λ n. with_commands app (map outline_shape (take n xs))) (sym next)))));
    }

-- ---- the table's commands

abbrev pub no_commands : App
no_commands = record { top = record (new_shape (codes "alcrs")) { subcommand_required = true; arg_required_else_help = true; has_version = true }; subs = [] }

abbrev no_words : Bor (List (Bor Text))
no_words = record { ref_ptr = (0, 0); now = [] }

abbrev words_among : List Argument → Bor (List (Bor Text))
words_among [] = no_words
words_among (Choice option ∷ arguments) = option.words
words_among (File name help ∷ arguments) = words_among arguments
words_among (Number option ∷ arguments) = words_among arguments
words_among (Places name help ∷ arguments) = words_among arguments
words_among (Files name help ∷ arguments) = words_among arguments
words_among (Flag name short help ∷ arguments) = words_among arguments
words_among (FileOption name value_name help ∷ arguments) = words_among arguments

-- the words of the first command's choice
abbrev pub words_of_choice : List Outline → Bor (List (Bor Text))
words_of_choice [] = no_words
words_of_choice (outline ∷ outlines) = words_among outline.arguments.now

-- the parser with the table's commands
pub has_grammar : {outlines : List Outline} → (old new : Command) → AddsCommands old outlines new → app_of old ≡ no_commands
    → with_commands no_commands (map outline_shape outlines) ≡ grammar_of (words_of_choice outlines) → IsOrders (words_of_choice outlines) → HasGrammar new
has_grammar {outlines} old new added top same are = record {
  orders = words_of_choice outlines;
  names = are;
  app = added.app ∙ (ap (λ app. with_commands app (map outline_shape outlines)) top ∙ same);
}
