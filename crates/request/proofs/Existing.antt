-- What a command's words give, where they have no fault: a value of each of its arguments.
use Rattle.std.proofs.Common.{ℕ, suc, Bool, true, false, List, [], ◌∷◌, ◌≡◌, ◌∙◌, ◌<◌, ◌⊎◌, ◌++◌, ◌&&◌, ◌||◌, not, Bor, Option, Some, None, length, map, codes, ap, refl, sym, subst, arith, inl, inr}
use Rattle.std.specs.Prelude.{⊤, Contains, find, option_map, unwrap_or, fold, is_some, if◌then◌else◌}
use Rattle.std.specs.List.{AllByRecursion, list_all, list_any}
use Rattle.std.specs.Option.{option_map_or}
use Rattle.std.specs.Str.{bytes_eq}
use Rattle.std.specs.Str.Parse.{digits_value, without_leading_plus}
use Rattle.std.proofs.lemmas.Slice.Eq.{bytes_eq-Decides}
use Rattle.clap.specs.Walk.{action_of, answers_to, finished, settled, Held, Names as Labels, Outcome, Waiting, Walk, done, waits, plain, refused, idle, option, positional, after_flag, after_step, arg_by_id, arg_by_index, arg_by_long, bundle, long_met, long_or_other, plain_word, short_or_plain, subcommand_met, subcommand_or_other, to_positional, walk, walk_from, walked, walked_from, word_met, Row, Rule, Text, nothing_held, rows_after}
use Rattle.clap.specs.Facts.{explicit_source, unwrap_or_range}
use Rattle.clap.specs.Faults.{check_fault, defaults_fault, settle_fault, entered_fault, fault_of, level_fault, other_fault, step_fault, turn_fault, walk_fault, word_fault}
use Rattle.clap.specs.Simple.{App, Shape, argument_words, built, built_leaf, entered, filled, filled_from, help_rule, help_shape, index_after, inherited, label_of, marked_built, names_of, new_shape, on_top, rows_at, subcommand_of, with_index, with_leaf_noted}
use Rattle.clap.specs.Words.{first_of}
use Rattle.clap.specs.Kinds.{or_else}
use Rattle.clap.specs.Lexer.{long_of, short_of}
use Rattle.clap.specs.Takes.{is_given, value_passes}
use Rattle.clap.specs.Values.{same_text}
use Rattle.clap.proofs.OnLiterals.{clap_on_literals}
use Rattle.clap.proofs.ValueTestLemmas.{accepts-Accepts}
use Rattle.clap.specs.declared.builder.action.ArgAction.{ArgAction}
use Rattle.clap.specs.declared.builder.action.ArgAction.TheVariants.{Set, Append, Help, HelpLong, HelpShort, SetTrue, SetFalse, Count, Version}
use Rattle.clap.specs.declared.builder.value_parser.ValueParser.TheVariants.{Bool as BoolParser, Names, Unsigned}
use Rattle.request.specs.Arguments.{Argument, File, Number, Choice, Places, Files, Flag, FileOption, AText, ANumber, AFlag, SomeTexts, MaybeText, IsNumber, rule_for}
use Rattle.request.specs.Grammar.{commands, grammar_of}
use Rattle.request.specs.Matching.{IsGiven, IsToldBy, row_of}
use Rattle.request.proofs.Walks.{Each, found_each, both_none, checks_pass, HasValue as Passes, IsOwn, IsRight, flag_value, option_value, given_row, right_level, text_value}

abbrev number : Text → ℕ
number text = digits_value 10 (without_leading_plus text)

-- a value that passes a parser of numbers is one
is_number : (a : Rule) (least most : ℕ) (text : Text) → a.parser ≡ Some (Unsigned least most) → value_passes a text ≡ true
    → IsNumber least most text (number text)
is_number a least most text parser passes =
    let is = accepts-Accepts a.ignore_case (Unsigned least most) text (rw parser at passes) in
    record { digits = is.0; value = refl; range = (is.2, is.3) }

-- a value that passes a parser of words is one of them
among : (names : List (Bor Text)) (value : Text) → list_any (λ name. same_text false name.now value) names ≡ true
    → Contains (map (λ name. name.now) names) value
among [] value is = cc
among (name ∷ names) value is = go (bytes_eq name.now value) refl (among names value)
  where
    go : (b : Bool) → bytes_eq name.now value ≡ b → (list_any (λ name. same_text false name.now value) names ≡ true → Contains (map (λ name. name.now) names) value)
        → Contains (map (λ name. name.now) (name ∷ names)) value
    go true e rest = (0, omega arith, (bytes_eq-Decides name.now value).0 e)
    go false e rest =
        let (k, lt, same) = rest (rw e at is) in
        (suc k, omega (arith, lt), same)

-- a value that passes a parser of flags is one of its two words
is_flag : (value : Text) → (bytes_eq value (codes "true") || bytes_eq value (codes "false")) ≡ true
    → (value ≡ codes "true") ⊎ (value ≡ codes "false")
is_flag value passes = first (bytes_eq value (codes "true")) refl
  where
    second : (b : Bool) → bytes_eq value (codes "false") ≡ b → bytes_eq value (codes "true") ≡ false → (value ≡ codes "true") ⊎ (value ≡ codes "false")
    second true e unlike = inr ((bytes_eq-Decides value (codes "false")).0 e)
    second false e unlike = let bad : false ≡ true = rw (unlike, e) at passes in cc

    first : (b : Bool) → bytes_eq value (codes "true") ≡ b → (value ≡ codes "true") ⊎ (value ≡ codes "false")
    first true e = inl ((bytes_eq-Decides value (codes "true")).0 e)
    first false e = second (bytes_eq value (codes "false")) refl e

-- ---- an argument of a command without a fault has a value

abbrev takes_one : Rule → Type 0
takes_one a = (unwrap_or_range a.range).start_inclusive ≡ 1

-- what the parser made of the argument
abbrev Fits : List Rule → Argument → Type 0
Fits rules (File name) = (a : Rule) × (arg_by_id rules name ≡ Some a) × (a.required ≡ true) × takes_one a
Fits rules (Number name least most None) = (a : Rule) × (arg_by_id rules name ≡ Some a) × (a.required ≡ true) × takes_one a
    × (a.parser ≡ Some (Unsigned least most))
Fits rules (Number name least most (Some default)) = (a : Rule) × (arg_by_id rules name ≡ Some a) × (a.defaults ≡ default ∷ []) × takes_one a
    × (a.parser ≡ Some (Unsigned least most))
Fits rules (Choice name words default) = (a : Rule) × (arg_by_id rules name ≡ Some a) × (a.defaults ≡ default ∷ []) × takes_one a
    × (a.parser ≡ Some (Names words)) × (a.ignore_case ≡ false)
Fits rules (Places name) = ⊤
Fits rules (Files name) = (a : Rule) × (arg_by_id rules name ≡ Some a) × (a.required ≡ true) × takes_one a
Fits rules (Flag name letter) = (a : Rule) × (arg_by_id rules name ≡ Some a) × (a.defaults ≡ codes "false" ∷ []) × (0 < length a.missing)
    × (a.parser ≡ Some BoolParser)
Fits rules (FileOption name) = ⊤

module _ (s : Shape) (words : List Text) (right : IsRight s words) where
  abbrev rows : List Row
  rows = rows_after s.rules [] words

  number_given : (a : Rule) (name : Text) (least most : ℕ) (default : Option Text) → a.parser ≡ Some (Unsigned least most) → Passes a name rows
      → IsGiven rows (Number name least most default)
  number_given a name least most default parser has =
      (ANumber (number has.value), (has.value, rw parser at has.one, is_number a least most has.value parser has.passes))

  word_given : (a : Rule) (name default : Text) (choices : Bor (List (Bor Text))) → a.parser ≡ Some (Names choices) → a.ignore_case ≡ false → Passes a name rows
      → IsGiven rows (Choice name choices default)
  word_given a name default choices parser exact has =
      (AText has.value, (has.first, among choices.now has.value (rw (parser, exact) at has.passes)))

  flag_given : (a : Rule) (name : Text) (letter : Option ℕ) → a.parser ≡ Some BoolParser → Passes a name rows → IsGiven rows (Flag name letter)
  flag_given a name letter parser has = elim (is_flag has.value (rw parser at has.passes)) [
    | inl e ↦ (AFlag true, has.first ∙ ap Some e)
    | inr e ↦ (AFlag false, has.first ∙ ap Some e)
  ]

  given : (argument : Argument) → Fits s.rules argument → IsGiven rows argument
  given (File name) (a, known, wanted, one) = let has = text_value s words a name right known wanted one in (AText has.value, has.first)
  given (Number name least most None) (a, known, wanted, one, parser) =
      number_given a name least most None parser (text_value s words a name right known wanted one)
  given (Number name least most (Some default)) (a, known, is, one, parser) =
      number_given a name least most (Some default) parser (option_value s words a name default [] right known is one)
  given (Choice name choices default) (a, known, is, one, parser, exact) =
      word_given a name default choices parser exact (option_value s words a name default [] right known is one)
  given (Places name) fits = tt
  given (Files name) (a, known, wanted, one) =
      let (r, found, passed) = given_row s words a name right known wanted in
      (SomeTexts r.values, (rw found refl, passed.some (inl (omega (arith, one)))))
  given (Flag name letter) (a, known, is, some, parser) = flag_given a name letter parser (flag_value s words a name (codes "false") [] right known is some)
  given (FileOption name) fits = (MaybeText (first_of name rows), refl)

  all_given : (arguments : List Argument) → AllByRecursion (Fits s.rules) arguments → AllByRecursion (IsGiven rows) arguments
  all_given [] fits = tt
  all_given (argument ∷ arguments) fits = (given argument fits.0, all_given arguments fits.1)

-- ---- names that differ

both_true : (a b : Bool) → (a && b) ≡ true → (a ≡ true) × (b ≡ true)
both_true true b e = (refl, e)
both_true false b e = let bad : false ≡ true = e in cc

is_false : (b : Bool) → not b ≡ true → b ≡ false
is_false true e = let bad : false ≡ true = e in cc
is_false false e = refl

any_false : (a b : Bool) → (a || b) ≡ false → (a ≡ false) × (b ≡ false)
any_false true b e = let bad : true ≡ false = e in cc
any_false false b e = (refl, e)

unlike : (a b : Text) → bytes_eq b a ≡ false → bytes_eq a b ≡ false
unlike a b e = go (bytes_eq a b) refl
  where
    go : (t : Bool) → bytes_eq a b ≡ t → bytes_eq a b ≡ false
    go true same = let bad : true ≡ false = sym ((bytes_eq-Decides b a).1 (sym ((bytes_eq-Decides a b).0 same))) ∙ e in cc
    go false same = same

module _ {X : Type 0} (name : X → Text) where
  abbrev differ : List X → Bool
  differ [] = true
  differ (x ∷ xs) = not (list_any (λ y. bytes_eq (name y) (name x)) xs) && differ xs

  abbrev IsFirst : List X → X → Type 0
  IsFirst xs x = find (λ y. bytes_eq (name y) (name x)) xs ≡ Some x

  firsts_after : (x : X) (xs ys : List X) → list_any (λ y. bytes_eq (name y) (name x)) ys ≡ false → Each (IsFirst xs) ys → Each (IsFirst (x ∷ xs)) ys
  firsts_after x xs [] none each = tt
  firsts_after x xs (y ∷ ys) none each =
      let parts = any_false (bytes_eq (name y) (name x)) (list_any (λ y. bytes_eq (name y) (name x)) ys) none in
      (rw (unlike (name x) (name y) parts.0) each.0, firsts_after x xs ys parts.1 each.1)

  -- where all names differ, each is found by its own
  firsts : (xs : List X) → differ xs ≡ true → Each (IsFirst xs) xs
  firsts [] distinct = tt
  firsts (x ∷ xs) distinct =
      let parts = both_true (not (list_any (λ y. bytes_eq (name y) (name x)) xs)) (differ xs) distinct in
      (rw ((bytes_eq-Decides (name x) (name x)).1 refl) refl, firsts_after x xs xs (is_false (list_any (λ y. bytes_eq (name y) (name x)) xs) parts.0) (firsts xs parts.1))

-- ---- the arguments of a command, as a parse has them

abbrev is_usual : ArgAction → Bool
is_usual Set = true
is_usual Append = true
is_usual Help = true
is_usual SetTrue = true
is_usual _ = false

usual : (action : ArgAction) → is_usual action ≡ true → (action ≡ Set) ⊎ ((action ≡ Append) ⊎ ((action ≡ Help) ⊎ (action ≡ SetTrue)))
usual Set is = inl refl
usual Append is = inr (inl refl)
usual Help is = inr (inr (inl refl))
usual SetTrue is = inr (inr (inr refl))
usual SetFalse is = let bad : false ≡ true = is in cc
usual Count is = let bad : false ≡ true = is in cc
usual HelpShort is = let bad : false ≡ true = is in cc
usual HelpLong is = let bad : false ≡ true = is in cc
usual Version is = let bad : false ≡ true = is in cc

abbrev are_own : List Rule → Bool
are_own rules = differ (λ a. a.id) rules && list_all (λ a. is_usual (action_of a)) rules

own : (rules : List Rule) → are_own rules ≡ true → Each (IsOwn rules) rules
own rules is =
    let parts = both_true (differ (λ a. a.id) rules) (list_all (λ a. is_usual (action_of a)) rules) is in
    go rules (firsts (λ a. a.id) rules parts.0) parts.1
  where
    go : (some : List Rule) → Each (IsFirst (λ a. a.id) rules) some → list_all (λ a. is_usual (action_of a)) some ≡ true → Each (IsOwn rules) some
    go [] each all = tt
    go (a ∷ some) each all =
        let parts = both_true (is_usual (action_of a)) (list_all (λ a. is_usual (action_of a)) some) all in
        (record { first = each.0; action = usual (action_of a) parts.0 }, go some each.1 parts.1)

fits : (c : List Rule) (i : ℕ) (argument : Argument) → IsOwn c (with_index i (filled (rule_for argument))) → Fits c argument
unfolding clap_on_literals
fits c i (File name) own = (_, own.first, refl, refl)
fits c i (Number name least most None) own = (_, own.first, refl, refl, refl)
fits c i (Number name least most (Some default)) own = (_, own.first, refl, refl, refl)
fits c i (Choice name words default) own = (_, own.first, refl, refl, refl, refl)
fits c i (Places name) own = tt
fits c i (Files name) own = (_, own.first, refl, refl)
fits c i (Flag name letter) own = (_, own.first, refl, omega arith, refl)
fits c i (FileOption name) own = tt

all_fit : (c : List Rule) (i : ℕ) (arguments : List Argument) (others : List Rule) → Each (IsOwn c) (filled_from i (map rule_for arguments ++ others))
    → AllByRecursion (Fits c) arguments
all_fit c i [] others each = tt
all_fit c i (argument ∷ arguments) others each =
    (fits c i argument each.0, all_fit c (index_after i (rule_for argument)) arguments others each.1)

-- ---- the commands

-- the commands' own arguments, and `--help`
abbrev parsed_rules : Text × List Argument → List Rule
parsed_rules command = filled_from 1 (map rule_for command.1 ++ help_rule ∷ [])

-- what a parse makes of the command line's own shape, and of a command's
abbrev top_shape : Bor (List (Bor Text)) → Shape
top_shape orders = (on_top with_leaf_noted (on_top marked_built (grammar_of orders))).top

abbrev parsed_shape : Bor (List (Bor Text)) → Text × List Argument → Shape
parsed_shape orders command =
    built_leaf (inherited (top_shape orders) (record (new_shape command.0) { rules = map rule_for command.1 }))

module _ (orders : Bor (List (Bor Text))) where
  abbrev IsFine : Shape → Type 0
  IsFine s = (words : List Text) → level_fault s [] nothing_held words false [] ≡ [] → IsToldBy orders (Some (s.name, rows_after s.rules [] words))

  fine : (command : Text × List Argument) → are_own (parsed_rules command) ≡ true → row_of orders command.0 ≡ Some command
      → IsFine (parsed_shape orders command)
  unfolding clap_on_literals
  fine command owned known words none =
      let s = parsed_shape orders command in
      let each : Each (IsOwn s.rules) s.rules = own (parsed_rules command) owned in
      let given = all_given s words (right_level s words each none) command.1 (all_fit s.rules 1 command.1 (help_rule ∷ []) each) in
      (ap is_some known, subst (λ row. AllByRecursion (IsGiven (rows_after s.rules [] words)) (option_map_or (λ c. c.1) row [])) (sym known) given)

  abbrev IsHelpOrFine : Shape → Type 0
  IsHelpOrFine s = (label_of s ≡ (codes "help", [])) ⊎ IsFine s

  all_fine : (table : List (Text × List Argument)) (last : List Shape) → list_all (λ command. are_own (parsed_rules command)) table ≡ true
      → Each (λ command. row_of orders command.0 ≡ Some command) table → Each IsHelpOrFine last
      → Each IsHelpOrFine (map (parsed_shape orders) table ++ last)
  all_fine [] last owned known each = each
  all_fine (command ∷ table) last owned known each =
      let parts = both_true (are_own (parsed_rules command)) (list_all (λ command. are_own (parsed_rules command)) table) owned in
      (inr (fine command parts.0 known.0), all_fine table last parts.1 known.1 each)

  each_fine : Each IsHelpOrFine (built (grammar_of orders)).subs
  unfolding clap_on_literals
  each_fine = all_fine (commands orders) (built_leaf help_shape ∷ []) refl (firsts (λ command. command.0) (commands orders) refl) (inl refl, tt)

-- A walk without a fault doesn't stop at `help`.
abbrev StopsAway : Option (Text × List Text) → Type 0
StopsAway None = ⊤
StopsAway (Some p) = bytes_eq p.0 (codes "help") ≡ false

module _ (s : Shape) (names : Labels) (helps : s.disable_help_subcommand ≡ false) where
  plain_step : (waiting : Waiting) (word : Text) (h : Held) (w : Walk) → StopsAway w.stopped
      → StopsAway (after_step s.rules word w (plain_word s.rules waiting word h).0 (plain_word s.rules waiting word h).1).stopped
  plain_step (option id) word h w goes = goes
  plain_step idle word h w goes = positional_step (arg_by_index s.rules w.position)
    where
      positional_step : (o : Option Rule) → StopsAway (to_positional s.rules o word w h).stopped
      positional_step None = goes
      positional_step (Some a) = tt
  plain_step positional word h w goes = positional_step (arg_by_index s.rules w.position)
    where
      positional_step : (o : Option Rule) → StopsAway (to_positional s.rules o word w h).stopped
      positional_step None = goes
      positional_step (Some a) = tt

  flag_step : (waiting : Waiting) (word : Text) (h : Held) (o : Outcome) (w : Walk) → StopsAway w.stopped
      → StopsAway (after_step s.rules word w (after_flag s.rules waiting word h o).0 (after_flag s.rules waiting word h o).1).stopped
  flag_step waiting word h done w goes = goes
  flag_step waiting word h (waits id) w goes = goes
  flag_step waiting word h plain w goes = plain_step waiting word h w goes
  flag_step waiting word h refused w goes = plain_step waiting word h w goes

  short_step : (waiting : Waiting) (word : Text) (flags : Option Text) (h : Held) (w : Walk) → StopsAway w.stopped
      → StopsAway (after_step s.rules word w (short_or_plain s.rules waiting word flags h).0 (short_or_plain s.rules waiting word flags h).1).stopped
  short_step waiting word None h w goes = plain_step waiting word h w goes
  short_step waiting word (Some flags) h w goes = flag_step waiting word (bundle s.rules flags h).0 (bundle s.rules flags h).1 w goes

  long_step : (waiting : Waiting) (word : Text) (long : Option (Text × Option Text)) (h : Held) (w : Walk) → StopsAway w.stopped
      → StopsAway (after_step s.rules word w (long_or_other s.rules waiting word long h).0 (long_or_other s.rules waiting word long h).1).stopped
  long_step waiting word None h w goes = short_step waiting word (short_of word) h w goes
  long_step waiting word (Some p) h w goes =
      flag_step waiting word (long_met s.rules (arg_by_long s.rules p.0) p.1 h).0 (long_met s.rules (arg_by_long s.rules p.0) p.1 h).1 w goes

  other_step : (name : Option Text) (waiting : Waiting) (word : Text) (h : Held) (w : Walk) → StopsAway w.stopped → other_fault s name word h ≡ []
      → StopsAway (after_step s.rules word w (subcommand_or_other s.rules name waiting w.position word h).0 (subcommand_or_other s.rules name waiting w.position word h).1).stopped
  other_step (Some name) waiting word h w goes none = go (bytes_eq name (codes "help")) refl
    where
      go : (b : Bool) → bytes_eq name (codes "help") ≡ b → bytes_eq name (codes "help") ≡ false
      go true e = let bad = rw (e, helps) at none in cc
      go false e = e
  other_step None waiting word h w goes none = go (bytes_eq word (45 ∷ 45 ∷ [])) refl
    where
      go : (b : Bool) → bytes_eq word (45 ∷ 45 ∷ []) ≡ b
          → StopsAway (after_step s.rules word w (subcommand_or_other s.rules None waiting w.position word h).0 (subcommand_or_other s.rules None waiting w.position word h).1).stopped
      go true e = rw e goes
      go false e = rw e (long_step waiting word (long_of word) h w goes)

  word_step : (trailing : Bool) (waiting : Waiting) (word : Text) (h : Held) (w : Walk) → StopsAway w.stopped → word_fault s names trailing waiting word h ≡ []
      → StopsAway (after_step s.rules word w (word_met s.rules names trailing waiting w.position word h).0 (word_met s.rules names trailing waiting w.position word h).1).stopped
  word_step true waiting word h w goes none = positional_step (arg_by_index s.rules w.position)
    where
      positional_step : (o : Option Rule) → StopsAway (to_positional s.rules o word w h).stopped
      positional_step None = goes
      positional_step (Some a) = tt
  word_step false waiting word h w goes none = other_step (subcommand_met names waiting word) waiting word h w goes none

  stops_turn : (w : Walk) (word : Text) → StopsAway w.stopped → turn_fault s names w word ≡ [] → StopsAway (walked s.rules names w word).stopped
  unfolding walked
  stops_turn w word goes none = go w.stopped goes none
    where
      go : (p : Option (Text × List Text)) → StopsAway p → (if is_some p then [] else or_else (word_fault s names w.is_trailing w.waiting word w.held)
          (step_fault s w.position (word_met s.rules names w.is_trailing w.waiting w.position word w.held).0 (word_met s.rules names w.is_trailing w.waiting w.position word w.held).1)) ≡ []
          → StopsAway (walked_from s.rules names p w word).stopped
      go (Some p) here none = here
      go None here none =
          let met = word_met s.rules names w.is_trailing w.waiting w.position word w.held in
          let parts = both_none (word_fault s names w.is_trailing w.waiting word w.held) (step_fault s w.position met.0 met.1) none in
          word_step w.is_trailing w.waiting word w.held w goes parts.0

  stops_walk : (words : List Text) (w : Walk) → StopsAway w.stopped → walk_fault s names w words ≡ [] → StopsAway (fold (walked s.rules names) w words).stopped
  unfolding walk_fault
  stops_walk [] w goes none = goes
  stops_walk (word ∷ words) w goes none =
      let parts = both_none (turn_fault s names w word) (walk_fault s names (walked s.rules names w word) words) none in
      stops_walk words (walked s.rules names w word) (stops_turn w word goes parts.0) parts.1

find_true : {X : Type 0} (p : X → Bool) (xs : List X) (x : X) → find p xs ≡ Some x → p x ≡ true
find_true p [] x found = cc
find_true p (y ∷ ys) x found = go (p y) refl (λ rest. find_true p ys x rest)
  where
    go : (b : Bool) → p y ≡ b → (find p ys ≡ Some x → p x ≡ true) → p x ≡ true
    go true e rest =
        let same : Some y ≡ Some x = rw e at found in
        subst (λ z. p z ≡ true) (ap (λ o. unwrap_or o y) same) e
    go false e rest = rest (rw e at found)

-- what is entered where a command has to be, and nothing is at fault
module _ (orders : Bor (List (Bor Text))) (a : App) (each : Each (IsHelpOrFine orders) a.subs) where
  asked_at : (p : Text × List Text) (o : Option Shape) → find (λ s. answers_to p.0 (label_of s)) a.subs ≡ o → bytes_eq p.0 (codes "help") ≡ false
      → option_map_or (λ s. level_fault s [] nothing_held p.1 false []) o [] ≡ [] → is_some (option_map (λ s. rows_at s p.1) o) ≡ true
      → IsToldBy orders (option_map (λ s. rows_at s p.1) o)
  asked_at p None e elsewhere none some = cc
  asked_at p (Some s) e elsewhere none some = go (found_each (IsHelpOrFine orders) (λ s. answers_to p.0 (label_of s)) a.subs s each e)
    where
      go : IsHelpOrFine orders s → IsToldBy orders (Some (rows_at s p.1))
      go (inl help) =
          let answers : answers_to p.0 (codes "help", []) ≡ true = subst (λ label. answers_to p.0 label ≡ true) help (find_true (λ s. answers_to p.0 (label_of s)) a.subs s e) in
          absurd (no (bytes_eq (codes "help") p.0) refl answers)
        where
          no : (b : Bool) → bytes_eq (codes "help") p.0 ≡ b → (b || false) ≡ true → ⊥
          no true is answers =
              let bad : false ≡ true = sym elsewhere ∙ (bytes_eq-Decides p.0 (codes "help")).1 (sym ((bytes_eq-Decides (codes "help") p.0).0 is)) in cc
          no false is answers = let bad : false ≡ true = answers in cc
      go (inr is_fine) = is_fine p.1 none

  asked_after : (stop : Option (Text × List Text)) → StopsAway stop → entered_fault a stop ≡ [] → is_some (entered a stop) ≡ true
      → IsToldBy orders (entered a stop)
  asked_after None elsewhere none some = cc
  asked_after (Some p) elsewhere none some = asked_at p (find (λ s. answers_to p.0 (label_of s)) a.subs) refl elsewhere none some

has_command : (b : Bool) → (not b && true) ≡ false → b ≡ true
has_command true e = refl
has_command false e = let bad : true ≡ false = e in cc

commanded : (s : Shape) (rows : List Row) (has : Bool) → s.subcommand_required ≡ true → check_fault s rows has ≡ [] → has ≡ true
commanded s rows has wanted none =
    let checks = checks_pass (not has && (s.arg_required_else_help && not (list_any (λ r. explicit_source r.source) rows))) (not has && s.subcommand_required)
    (not (s.subcommand_negates_reqs && has) && list_any (λ a. a.required && not (is_given a.id rows)) s.rules) none in
    has_command has (subst (λ b. (not has && b) ≡ false) wanted checks.0)

-- Every line without a fault has a command, and a value of each of its arguments.
pub asks : (orders : Bor (List (Bor Text))) (words : List Text) → fault_of (grammar_of orders) words ≡ []
    → IsToldBy orders (subcommand_of (grammar_of orders) words)
unfolding clap_on_literals
asks orders words none =
    let a = built (grammar_of orders) in
    let given = argument_words (grammar_of orders) words in
    let stop = (walk a.top.rules (names_of a) nothing_held given).stopped in
    let first = both_none (walk_fault a.top (names_of a) (walk_from nothing_held) given) _ none in
    let second = both_none (entered_fault a stop) _ first.1 in
    let third = both_none (settle_fault a.top.rules a.top.args_override_self (walk a.top.rules (names_of a) nothing_held given).held) _ second.1 in
    let fourth = both_none (defaults_fault (settled a.top.rules (walk a.top.rules (names_of a) nothing_held given).held).rows a.top.rules) _ third.1 in
    asked_after orders a (each_fine orders) stop (stops_walk a.top (names_of a) refl given (walk_from nothing_held) tt first.0) second.0
    (commanded a.top (finished a.top.rules (walk a.top.rules (names_of a) nothing_held given).held) (is_some (entered a stop)) refl fourth.1)
