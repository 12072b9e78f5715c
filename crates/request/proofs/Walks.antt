-- What a walk with no fault leaves in the rows.
use Rattle.std.proofs.Common.{zero, suc, ℕ, Bool, true, false, List, [], ◌∷◌, ◌++◌, ◌≡◌, ◌∙◌, ◌<◌, ◌&&◌, ◌||◌, not, Option, Some, None, length, ap, refl, sym, subst, arith, inl, inr, ◌⊎◌, length-append}
use Rattle.std.specs.List.{list_all, list_any}
use Rattle.std.specs.Prelude.{nat_lt, ⊤, unwrap_or, is_some, if◌then◌else◌, slice_get, encode_utf8, drop, fold, find}
use Rattle.std.specs.Str.{bytes_eq, chars}
use Rattle.clap.specs.declared.error.kind.ErrorKind.TheVariants as kind
use Rattle.clap.specs.Walk.{has_long, has_short, finished, first_of, nothing_held, one_of, rows_after, walk, walk_from, default_rows, has_row, is_empty, with_default, Held, Walk, Step, next, trailing, subcommand, value, after_step, arg_by_index, arg_by_long, bundle, is_pending, long_or_other, positional_held, short_or_plain, subcommand_met, subcommand_or_other, takes_several, to_positional, walked, walked_from, word_met, Outcome, Waiting, done, waits, plain, refused, idle, option, positional, after_flag, arg_by_short, attached_value, bundle_met, bundle_step, flag_met, long_met, option_met, option_word, plain_word, short_met, takes_values, Row, Rule, Text, action_of, arg_by_id, at_row, more_values, reading_by, reacted, settled, settled_rows, stronger, used, used_by_id, values_or_missing, with_values, without, most_values}
use Rattle.clap.specs.Lexer.{long_of, short_of}
use Rattle.clap.specs.Simple.{Shape}
use Rattle.clap.specs.Values.{read_as}
use Rattle.clap.specs.declared.builder.value_parser.Reading.{Reading}
use Rattle.clap.specs.Takes.{is_given, value_passes}
use Rattle.clap.specs.Facts.{explicit_source, unwrap_or_range}
use Rattle.clap.specs.Faults.{check_fault, level_fault, default_fault, defaults_fault, given_default_fault, bundle_fault, flag_word_fault, other_fault, positional_fault, step_fault, stray_fault, turn_fault, walk_fault, word_fault, bundle_step_fault, flags_fault, long_fault, option_fault, short_fault, action_fault, react_fault, set_fault, settle_fault, use_fault, values_fault}
use Rattle.clap.specs.Kinds.{Kinds, check_kinds, or_else, range_kinds, request_kinds}
use Rattle.clap.specs.declared.parser.matches.ValueSource.{ValueSource}
use Rattle.clap.specs.declared.parser.matches.ValueSource.TheVariants.{CommandLine, DefaultValue}
use Rattle.std.proofs.lemmas.Slice.Eq.{bytes_eq-Decides}
use Rattle.std.proofs.lemmas.Bool.{ne_eqb}
use Rattle.std.specs.Option.{option_map_or}
use Rattle.clap.specs.declared.builder.action.ArgAction.TheVariants.{Set, SetTrue, Append, Help}

-- an argument that has a value once it is used: it takes one, or has one that stands for none
abbrev pub IsValued : Rule → Type 0
IsValued a = (0 < (unwrap_or_range a.range).start_inclusive) ⊎ (0 < length a.missing)

-- what a use without a fault leaves of an argument
pub record IsPassed (a : Rule) (row : Row) : Type 0 where
  pub some : IsValued a → 0 < length row.values
  pub accepted : list_all (value_passes a) row.values ≡ true
  pub reading : row.reading ≡ reading_by a

abbrev pub Passes : List Rule → Row → Type 0
Passes c row = (a : Rule) → arg_by_id c row.id ≡ Some a → IsPassed a row

abbrev pub Good : List Rule → List Row → Type 0
Good c [] = ⊤
Good c (row ∷ rows) = Passes c row × Good c rows

pub both_none : (a b : Kinds) → or_else a b ≡ [] → (a ≡ []) × (b ≡ [])
both_none [] b e = (refl, e)
both_none (k ∷ ks) b e = let bad : k ∷ ks ≡ [] = e in cc

good_append : (c : List Rule) (xs ys : List Row) → Good c xs → Good c ys → Good c (xs ++ ys)
good_append c [] ys gx gy = gy
good_append c (x ∷ xs) ys gx gy = (gx.0, good_append c xs ys gx.1 gy)

-- changing the first row of an id
good_at : (c : List Rule) (id : Text) (change : Row → List Row) (missing rows : List Row) → Good c rows → Good c missing
    → ((row : Row) → bytes_eq row.id id ≡ true → Passes c row → Good c (change row)) → Good c (at_row id change missing rows)
good_at c id change missing [] good gm changes = gm
good_at c id change missing (row ∷ rows) good gm changes =
    go (bytes_eq row.id id) refl (good_at c id change missing rows good.1 gm changes)
  where
    go : (b : Bool) → bytes_eq row.id id ≡ b → Good c (at_row id change missing rows) → Good c (at_row id change missing (row ∷ rows))
    go true e rest = rw e (good_append c (change row) rows (changes row e good.0) good.1)
    go false e rest = rw e (good.0, rest)

good_without : (c : List Rule) (id : Text) (rows : List Row) → Good c rows → Good c (without id rows)
good_without c id rows good = good_at c id (λ _. []) [] rows good tt (λ row same passes. tt)

all_append : (p : Text → Bool) (xs ys : List Text) → list_all p xs ≡ true → list_all p ys ≡ true → list_all p (xs ++ ys) ≡ true
all_append p [] ys ax ay = ay
all_append p (x ∷ xs) ys ax ay = go (p x) refl (λ rest. all_append p xs ys rest ay)
  where
    go : (b : Bool) → p x ≡ b → (list_all p xs ≡ true → list_all p (xs ++ ys) ≡ true) → list_all p (x ∷ xs ++ ys) ≡ true
    go true e rest = rw e (rest (rw e at ax))
    go false e rest = let bad : false ≡ true = rw e at ax in cc

-- values that give no fault pass the argument's parser
all_pass : (a : Rule) (values : List Text) → values_fault a values ≡ [] → list_all (value_passes a) values ≡ true
all_pass a [] none = refl
all_pass a (v ∷ vs) none = go (value_passes a v) refl (λ rest. all_pass a vs rest)
  where
    go : (b : Bool) → value_passes a v ≡ b → (values_fault a vs ≡ [] → list_all (value_passes a) vs ≡ true) → list_all (value_passes a) (v ∷ vs) ≡ true
    go true e rest = rw e (rest (rw e at none))
    go false e rest = let bad = rw e at none in cc

some_values : (least most n : ℕ) → range_kinds least most n ≡ [] → 0 < least → 0 < n
some_values least most zero none lt =
    let yes : nat_lt 0 least ≡ true = (grind (arith, lt)) in
    let bad = rw yes at none in cc
some_values least most (suc n) none lt = omega arith

-- an argument of the command, the first of its id, which takes values, is a flag or asks for help
pub record IsOwn (c : List Rule) (a : Rule) : Type 0 where
  pub first : arg_by_id c a.id ≡ Some a
  pub action : (action_of a ≡ Set) ⊎ ((action_of a ≡ Append) ⊎ ((action_of a ≡ Help) ⊎ (action_of a ≡ SetTrue)))

good_values : (c : List Rule) (a : Rule) (values : List Text) (source : ValueSource) (rows : List Row) → IsOwn c a → Good c rows
    → (IsValued a → 0 < length values) → list_all (value_passes a) values ≡ true
    → Good c (with_values a.id (reading_by a) source values rows)
good_values c a values source rows own good some accepted =
    good_at c a.id (more_values source values) _ rows good ((λ b found. passed b (bytes_same found)), tt) (λ row same passes. ((λ b found. more row same (passes b found) found), tt))
  where
    bytes_same : {b : Rule} → arg_by_id c a.id ≡ Some b → a ≡ b
    bytes_same {b} found = ap (λ o. unwrap_or o a) (sym own.first ∙ found)

    passed : (b : Rule) → a ≡ b → IsPassed b (record { id = a.id; values = values; count = None; source = Some source; reading = reading_by a })
    passed b same = subst (λ r. IsPassed r (record { id = a.id; values = values; count = None; source = Some source; reading = reading_by a })) same (record { some = some; accepted = accepted; reading = refl })

    more : {b : Rule} (row : Row) → bytes_eq row.id a.id ≡ true → IsPassed b row → arg_by_id c row.id ≡ Some b
        → IsPassed b (record row { values = row.values ++ values; source = Some (stronger row.source source) })
    more {b} row same old found =
        let b_is : a ≡ b = bytes_same (subst (λ id. arg_by_id c id ≡ Some b) ((bytes_eq-Decides row.id a.id).0 same) found) in
        record {
          some = λ valued. (let old_some = old.some valued in simp length-append (omega (arith, old_some)));
          accepted = all_append (value_passes b) row.values values old.accepted (subst (λ r. list_all (value_passes r) values ≡ true) b_is accepted);
          reading = old.reading;
        }

or_missing : (a : Rule) (values : List Text) → 0 < length values → 0 < length (values_or_missing a values)
or_missing a [] lt = absurd (omega arith)
or_missing a (v ∷ vs) lt = lt

missing_or : (a : Rule) (values : List Text) → 0 < length a.missing → 0 < length (values_or_missing a values)
missing_or a [] lt = lt
missing_or a (v ∷ vs) lt = omega arith

-- a use that gives no fault
good_used : (c : List Rule) (again : Bool) (a : Rule) (values : List Text) (rows : List Row) → IsOwn c a → Good c rows
    → use_fault again a values rows ≡ [] → Good c (used a values rows)
good_used c again a values rows own good none =
    let parts = both_none (range_kinds (unwrap_or_range a.range).start_inclusive (most_values a) (length values)) (action_fault (action_of a) again a (values_or_missing a values) rows) none in
    let some : IsValued a → 0 < length (values_or_missing a values) = λ valued. elim valued [
      | inl lt ↦ or_missing a values (some_values (unwrap_or_range a.range).start_inclusive (most_values a) (length values) parts.0 lt)
      | inr lt ↦ missing_or a values lt
    ] in
    go own.action some parts.1
  where
    go : (action_of a ≡ Set) ⊎ ((action_of a ≡ Append) ⊎ ((action_of a ≡ Help) ⊎ (action_of a ≡ SetTrue))) → (IsValued a → 0 < length (values_or_missing a values))
        → action_fault (action_of a) again a (values_or_missing a values) rows ≡ [] → Good c (used a values rows)
    go (inl set) some none =
        let clear : set_fault again a (values_or_missing a values) rows ≡ [] = rw set at none in
        let pass = both_none _ _ clear in
        rw set (good_values c a (values_or_missing a values) CommandLine (without a.id rows) own (good_without c a.id rows good) some (all_pass a (values_or_missing a values) pass.1))
    go (inr (inl append)) some none =
        rw append (good_values c a (values_or_missing a values) CommandLine rows own good some (all_pass a (values_or_missing a values) (rw append at none)))
    go (inr (inr (inl help))) some none = let bad = rw help at none in cc
    go (inr (inr (inr flag))) some none =
        let clear : set_fault again a (values_or_missing a values) rows ≡ [] = rw flag at none in
        let pass = both_none _ _ clear in
        rw flag (good_values c a (values_or_missing a values) CommandLine (without a.id rows) own (good_without c a.id rows good) some (all_pass a (values_or_missing a values) pass.1))

-- ---- what is held

abbrev AllOwn : List Rule → Type 0
AllOwn c = (a : Rule) (id : Text) → arg_by_id c id ≡ Some a → IsOwn c a

good_settled : (c : List Rule) (again : Bool) (h : Held) → AllOwn c → Good c h.rows → settle_fault c again h ≡ [] → Good c (settled c h).rows
good_settled c again h own good none = go h.pending none
  where
    by_id : (o : Option Rule) (id : Text) (values : List Text) → arg_by_id c id ≡ o → option_map_or (λ a. use_fault again a values h.rows) o [] ≡ []
        → Good c (used_by_id o values h.rows)
    by_id None id values e none = good
    by_id (Some a) id values e none = good_used c again a values h.rows (own a id e) good none

    go : (p : Option (Text × List Text)) → option_map_or (λ p. option_map_or (λ a. use_fault again a p.1 h.rows) (arg_by_id c p.0) []) p [] ≡ [] → Good c (settled_rows c p h.rows)
    go None none = good
    go (Some p) none = by_id (arg_by_id c p.0) p.0 p.1 refl none

good_reacted : (c : List Rule) (again : Bool) (a : Rule) (values : List Text) (h : Held) → AllOwn c → IsOwn c a → Good c h.rows → react_fault c again a values h ≡ []
    → Good c (reacted c a values h).rows
good_reacted c again a values h own one good none =
    let parts = both_none (settle_fault c again h) (use_fault again a values (settled c h).rows) none in
    good_used c again a values (settled c h).rows one (good_settled c again h own good parts.0) parts.1

-- ---- a word

module _ (c : List Rule) (again : Bool) (own : AllOwn c) where
  good_option : (a : Rule) (v : Option Text) (h : Held) → IsOwn c a → Good c h.rows → option_fault c again a v h ≡ [] → Good c (option_met c a v h).0.rows
  good_option a (Some v) h one good none = good_reacted c again a (v ∷ []) h own one good none
  good_option a None h one good none = good_settled c again h own good none

  good_long : (found : Option Rule) (v : Option Text) (h : Held) → ((a : Rule) → found ≡ Some a → IsOwn c a) → Good c h.rows → long_fault c again found v h ≡ []
      → Good c (long_met c found v h).0.rows
  good_long None v h ones good none = cc
  good_long (Some a) v h ones good none = go (takes_values a) refl none
    where
      flag : (v : Option Text) → (if is_some v then kind.TooManyValues ∷ [] else react_fault c again a [] h) ≡ [] → Good c (flag_met c a v h).0.rows
      flag (Some v) none = cc
      flag None none = good_reacted c again a [] h own (ones a refl) good none

      go : (b : Bool) → takes_values a ≡ b → long_fault c again (Some a) v h ≡ [] → Good c (long_met c (Some a) v h).0.rows
      go true e none = rw e (good_option a v h (ones a refl) good (rw e at none))
      go false e none = rw e (flag v (rw e at none))

  abbrev GoodNext : (Held → Held × Outcome) → (Held → Kinds) → Type 0
  GoodNext after faults = (h : Held) → Good c h.rows → faults h ≡ [] → Good c (after h).0.rows

  good_short : (found : Option Rule) (rest : Text) (h : Held) (after : Held → Held × Outcome) (faults : Held → Kinds) → GoodNext after faults
      → ((a : Rule) → found ≡ Some a → IsOwn c a) → Good c h.rows → short_fault c again found rest h faults ≡ [] → Good c (short_met c found rest h after).0.rows
  good_short None rest h after faults goes ones good none = cc
  good_short (Some a) rest h after faults goes ones good none = go (takes_values a) refl none
    where
      go : (b : Bool) → takes_values a ≡ b → short_fault c again (Some a) rest h faults ≡ [] → Good c (short_met c (Some a) rest h after).0.rows
      go true e none = rw e (good_option a (attached_value rest) h (ones a refl) good (rw e at none))
      go false e none =
          let parts = both_none (react_fault c again a [] h) (faults (reacted c a [] h)) (rw e at none) in
          rw e (goes (reacted c a [] h) (good_reacted c again a [] h own (ones a refl) good parts.0) parts.1)

  good_bundle : (shorts : (a : Rule) (x : ℕ) → arg_by_short c x ≡ Some a → IsOwn c a) (k : ℕ) (flags : Text) (skip : ℕ) (so_far : Outcome) (h : Held) → Good c h.rows
      → flags_fault c again k flags skip h ≡ [] → Good c (bundle_met c k flags skip so_far h).0.rows
  unfolding bundle_met flags_fault
  good_bundle shorts zero flags skip so_far h good none = good
  good_bundle shorts (suc k) flags skip so_far h good none =
      go (slice_get (chars flags) 0) skip (λ fs n far. λ held g no. good_bundle shorts k fs n far held g no) none
    where
      go : (o : Option ℕ) (skip : ℕ) → ((fs : Text) (n : ℕ) (far : Outcome) → GoodNext (bundle_met c k fs n far) (flags_fault c again k fs n))
          → bundle_step_fault c again o flags skip h (flags_fault c again k) ≡ [] → Good c (bundle_step c o flags skip so_far h (bundle_met c k)).0.rows
      go None skip goes none = good
      go (Some x) zero goes none =
          let rest = drop (length (encode_utf8 x)) flags in
          good_short (arg_by_short c x) rest h (bundle_met c k rest 0 done) (flags_fault c again k rest 0) (goes rest 0 done) (λ a e. shorts a x e) good none
      go (Some x) (suc n) goes none = goes (drop (length (encode_utf8 x)) flags) n so_far h good none

  good_plain : (waiting : Waiting) (word : Text) (h : Held) → Good c h.rows → Good c (plain_word c waiting word h).0.rows
  good_plain (option id) word h good = go (arg_by_id c id)
    where
      go : (o : Option Rule) → Good c (option_word o id word h).0.rows
      go None = good
      go (Some a) = good
  good_plain idle word h good = good
  good_plain positional word h good = good

  good_after : (waiting : Waiting) (word : Text) (h : Held) (o : Outcome) → Good c h.rows → Good c (after_flag c waiting word h o).0.rows
  good_after waiting word h done good = good
  good_after waiting word h (waits id) good = good
  good_after waiting word h plain good = good_plain waiting word h good
  good_after waiting word h refused good = good_plain waiting word h good

no_command : (waiting : Waiting) (word : Text) → subcommand_met [] waiting word ≡ None
no_command idle word = refl
no_command (option id) word = refl
no_command positional word = refl

-- ---- the words of a command that has no commands of its own

module _ (s : Shape) (own : AllOwn s.rules) (longs : (a : Rule) (name : Text) → arg_by_long s.rules name ≡ Some a → IsOwn s.rules a)
    (shorts : (a : Rule) (x : ℕ) → arg_by_short s.rules x ≡ Some a → IsOwn s.rules a) where
  good_flags : (waiting : Waiting) (word : Text) (flags : Option Text) (h : Held) → Good s.rules h.rows
      → option_map_or (λ fs. bundle_fault s.rules s.args_override_self fs h) flags [] ≡ [] → Good s.rules (short_or_plain s.rules waiting word flags h).0.rows
  good_flags waiting word None h good none = good_plain s.rules s.args_override_self own waiting word h good
  good_flags waiting word (Some flags) h good none =
      good_after s.rules s.args_override_self own waiting word (bundle s.rules flags h).0 (bundle s.rules flags h).1
      (good_bundle s.rules s.args_override_self own shorts (length flags) flags h.skip plain (record h { skip = 0 }) good none)

  good_flag_word : (waiting : Waiting) (word : Text) (long : Option (Text × Option Text)) (h : Held) → Good s.rules h.rows
      → flag_word_fault s.rules s.args_override_self long word h ≡ [] → Good s.rules (long_or_other s.rules waiting word long h).0.rows
  good_flag_word waiting word None h good none = good_flags waiting word (short_of word) h good none
  good_flag_word waiting word (Some p) h good none =
      good_after s.rules s.args_override_self own waiting word (long_met s.rules (arg_by_long s.rules p.0) p.1 h).0 (long_met s.rules (arg_by_long s.rules p.0) p.1 h).1
      (good_long s.rules s.args_override_self own (arg_by_long s.rules p.0) p.1 h (λ a e. longs a p.0 e) good none)

  good_other : (waiting : Waiting) (position : ℕ) (word : Text) (h : Held) → Good s.rules h.rows → other_fault s None word h ≡ []
      → Good s.rules (subcommand_or_other s.rules None waiting position word h).0.rows
  good_other waiting position word h good none = go (bytes_eq word (45 ∷ 45 ∷ [])) refl
    where
      go : (b : Bool) → bytes_eq word (45 ∷ 45 ∷ []) ≡ b → Good s.rules (subcommand_or_other s.rules None waiting position word h).0.rows
      go true e = rw e good
      go false e = rw e (good_flag_word waiting word (long_of word) h good (rw e at none))

  good_word : (trailing : Bool) (waiting : Waiting) (position : ℕ) (word : Text) (h : Held) → Good s.rules h.rows → word_fault s [] trailing waiting word h ≡ []
      → Good s.rules (word_met s.rules [] trailing waiting position word h).0.rows
  good_word true waiting position word h good none = good
  good_word false waiting position word h good none =
      rw (no_command waiting word) (good_other waiting position word h good (rw (no_command waiting word) at none))

  good_step : (w : Walk) (word : Text) (h : Held) (step : Step) → Good s.rules h.rows → step_fault s w.position h step ≡ [] → Good s.rules (after_step s.rules word w h step).held.rows
  good_step w word h (next waiting) good none = good
  good_step w word h (trailing position) good none = good
  good_step w word h (subcommand name) good none = good
  good_step w word h value good none = go (arg_by_index s.rules w.position) none
    where
      stray : stray_fault s ≡ [] → ⊥
      stray none = leaf s.is_leaf none
        where
          leaf : (b : Bool) → (if b then kind.UnknownArgument ∷ [] else kind.UnknownArgument ∷ kind.InvalidSubcommand ∷ []) ≡ [] → ⊥
          leaf true none = cc
          leaf false none = cc

      go : (o : Option Rule) → option_map_or (λ a. positional_fault s.rules s.args_override_self a h) o (stray_fault s) ≡ [] → Good s.rules (to_positional s.rules o word w h).held.rows
      go None none = absurd (stray none)
      go (Some a) none = held (is_pending a h.pending && takes_several a) refl
        where
          held : (b : Bool) → (is_pending a h.pending && takes_several a) ≡ b → Good s.rules (positional_held s.rules a word h).rows
          held true e = rw e good
          held false e = rw e (good_settled s.rules s.args_override_self h own good (rw e at none))

  good_turn : (w : Walk) (word : Text) → Good s.rules w.held.rows → turn_fault s [] w word ≡ [] → Good s.rules (walked s.rules [] w word).held.rows
  unfolding walked
  good_turn w word good none = go w.stopped none
    where
      go : (p : Option (Text × List Text)) → (if is_some p then [] else or_else (word_fault s [] w.is_trailing w.waiting word w.held)
          (step_fault s w.position (word_met s.rules [] w.is_trailing w.waiting w.position word w.held).0 (word_met s.rules [] w.is_trailing w.waiting w.position word w.held).1)) ≡ []
          → Good s.rules (walked_from s.rules [] p w word).held.rows
      go (Some p) none = good
      go None none =
          let met = word_met s.rules [] w.is_trailing w.waiting w.position word w.held in
          let parts = both_none (word_fault s [] w.is_trailing w.waiting word w.held) (step_fault s w.position met.0 met.1) none in
          good_step w word met.0 met.1 (good_word w.is_trailing w.waiting w.position word w.held good parts.0) parts.1

  good_walk : (words : List Text) (w : Walk) → Good s.rules w.held.rows → walk_fault s [] w words ≡ [] → Good s.rules (fold (walked s.rules []) w words).held.rows
  unfolding walk_fault
  good_walk [] w good none = good
  good_walk (word ∷ words) w good none =
      let parts = both_none (turn_fault s [] w word) (walk_fault s [] (walked s.rules [] w word) words) none in
      good_walk words (walked s.rules [] w word) (good_turn w word good parts.0) parts.1

-- ---- after the words

module _ {X : Type 0} (P : X → Type 0) where
  abbrev pub Each : List X → Type 0
  Each [] = ⊤
  Each (x ∷ xs) = P x × Each xs

  pub found_each : (p : X → Bool) (xs : List X) (x : X) → Each xs → find p xs ≡ Some x → P x
  found_each p [] x each found = cc
  found_each p (y ∷ ys) x each found = go (p y) refl (λ rest. found_each p ys x each.1 rest)
    where
      go : (b : Bool) → p y ≡ b → (find p ys ≡ Some x → P x) → P x
      go true e rest =
          let same : Some y ≡ Some x = rw e at found in
          subst P (ap (λ o. unwrap_or o y) same) each.0
      go false e rest = rest (rw e at found)

good_default : (c : List Rule) (rows : List Row) (a : Rule) → IsOwn c a → Good c rows → default_fault rows a ≡ [] → Good c (with_default rows a)
good_default c rows a own good none = go (has_row a.id rows) refl
  where
    given : (values : List Text) → list_all (value_passes a) values ≡ true → Good c (default_rows a.id (reading_by a) values rows)
    given [] pass = good
    given (v ∷ vs) pass = good_values c a (v ∷ vs) DefaultValue rows own good (λ lt. omega arith) pass

    passes : (values : List Text) → (if is_empty values then [] else given_default_fault a values) ≡ [] → list_all (value_passes a) values ≡ true
    passes [] none = refl
    passes (v ∷ vs) none =
        let some : is_empty (v ∷ vs) ≡ false = ne_eqb _ _ (λ e. omega arith) in
        all_pass a (v ∷ vs) (both_none (request_kinds (action_of a)) (values_fault a (v ∷ vs)) (rw some at none)).1

    go : (b : Bool) → has_row a.id rows ≡ b → Good c (with_default rows a)
    go true e = rw e good
    go false e = rw e (given a.defaults (passes a.defaults (rw e at none)))

good_defaults : (c : List Rule) (rules : List Rule) (rows : List Row) → Each (IsOwn c) rules → Good c rows → defaults_fault rows rules ≡ []
    → Good c (fold with_default rows rules)
unfolding defaults_fault
good_defaults c [] rows own good none = good
good_defaults c (a ∷ rest) rows own good none =
    let parts = both_none (default_fault rows a) (defaults_fault (with_default rows a) rest) none in
    good_defaults c rest (with_default rows a) own.1 (good_default c rows a own.0 good parts.0) parts.1

-- all that a command's words leave, where they have no fault
pub record IsRight (s : Shape) (words : List Text) : Type 0 where
  pub good : Good s.rules (rows_after s.rules [] words)
  pub checked : check_fault s (rows_after s.rules [] words) false ≡ []

pub right_level : (s : Shape) (words : List Text) → Each (IsOwn s.rules) s.rules → level_fault s [] nothing_held words false [] ≡ [] → IsRight s words
right_level s words each none =
    let end = (walk s.rules [] nothing_held words).held in
    let again = s.args_override_self in
    let own = λ (a : Rule) (id : Text) (found : arg_by_id s.rules id ≡ Some a). found_each (IsOwn s.rules) (λ a. bytes_eq a.id id) s.rules a each found in
    let longs = λ (a : Rule) (name : Text) (found : arg_by_long s.rules name ≡ Some a). found_each (IsOwn s.rules) (λ a. not (is_some a.index) && has_long a name) s.rules a each found in
    let shorts = λ (a : Rule) (x : ℕ) (found : arg_by_short s.rules x ≡ Some a). found_each (IsOwn s.rules) (λ a. not (is_some a.index) && has_short a x) s.rules a each found in
    let first = both_none (walk_fault s [] (walk_from nothing_held) words) _ none in
    let second = both_none (settle_fault s.rules again end) _ first.1 in
    let third = both_none (defaults_fault (settled s.rules end).rows s.rules) (check_fault s (finished s.rules end) false) second.1 in
    let walked_good = good_walk s own longs shorts words (walk_from nothing_held) tt first.0 in
    record {
      good = good_defaults s.rules s.rules (settled s.rules end).rows each (good_settled s.rules again end own walked_good second.0) third.0;
      checked = third.1;
    }

-- ---- the value of an argument that has to be given

pub found_good : (c : List Rule) (id : Text) (rows : List Row) (r : Row) → Good c rows → find (λ r. bytes_eq r.id id) rows ≡ Some r → (r.id ≡ id) × Passes c r
found_good c id [] r good found = cc
found_good c id (row ∷ rows) r good found = go (bytes_eq row.id id) refl (λ rest. found_good c id rows r good.1 rest)
  where
    go : (b : Bool) → bytes_eq row.id id ≡ b → (find (λ r. bytes_eq r.id id) rows ≡ Some r → (r.id ≡ id) × Passes c r) → (r.id ≡ id) × Passes c r
    go true e rest =
        let same : Some row ≡ Some r = rw e at found in
        let is : row ≡ r = ap (λ o. unwrap_or o row) same in
        (subst (λ x. x.id ≡ id) is ((bytes_eq-Decides row.id id).0 e), subst (Passes c) is good.0)
    go false e rest = rest (rw e at found)

-- the first value, and that it passes
pub record HasValue (a : Rule) (id : Text) (rows : List Row) : Type 0 where
  pub value : Text
  pub first : first_of id rows ≡ Some value
  pub one : one_of id rows ≡ Some (read_as (reading_by a) value)
  pub passes : value_passes a value ≡ true

first_value_of : (a : Rule) (id : Text) (rows : List Row) (r : Row) → find (λ r. bytes_eq r.id id) rows ≡ Some r → IsPassed a r → IsValued a
    → HasValue a id rows
first_value_of a id rows r found passed valued = go r.values refl (passed.some valued) passed.accepted
  where
    go : (vs : List Text) → r.values ≡ vs → 0 < length vs → list_all (value_passes a) vs ≡ true → HasValue a id rows
    go [] is lt all = absurd (omega arith)
    go (v ∷ vs) is lt all = record {
      value = v;
      first = rw found (rw is refl);
      one = rw found (rw (is, passed.reading) refl);
      passes = first_passes (value_passes a v) refl;
    }
      where
        first_passes : (b : Bool) → value_passes a v ≡ b → value_passes a v ≡ true
        first_passes true e = e
        first_passes false e = let bad : false ≡ true = rw e at all in cc

given_value : (c : List Rule) (a : Rule) (id : Text) (rows : List Row) → Good c rows → arg_by_id c id ≡ Some a → is_given id rows ≡ true
    → IsValued a → HasValue a id rows
given_value c a id rows good known given lt = go (find (λ r. bytes_eq r.id id) rows) refl given
  where
    go : (o : Option Row) → find (λ r. bytes_eq r.id id) rows ≡ o → option_map_or (λ r. explicit_source r.source) o false ≡ true → HasValue a id rows
    go None e given = cc
    go (Some r) e given =
        let ok = found_good c id rows r good e in
        first_value_of a id rows r e (ok.1 a (subst (λ i. arg_by_id c i ≡ Some a) (sym ok.0) known)) lt

any_false : (a b : Bool) → (a || b) ≡ false → (a ≡ false) × (b ≡ false)
any_false true b e = let bad : true ≡ false = e in cc
any_false false b e = (refl, e)

-- an argument that has to be given is
pub required_given : (rules : List Rule) (rows : List Row) (id : Text) (a : Rule) → list_any (λ a. a.required && not (is_given a.id rows)) rules ≡ false
    → arg_by_id rules id ≡ Some a → a.required ≡ true → is_given id rows ≡ true
required_given [] rows id a none found wanted = cc
required_given (x ∷ rest) rows id a none found wanted =
    go (bytes_eq x.id id) refl (λ later. required_given rest rows id a (any_false (x.required && not (is_given x.id rows)) (list_any (λ a. a.required && not (is_given a.id rows)) rest) none).1 later wanted)
  where
    go : (b : Bool) → bytes_eq x.id id ≡ b → (arg_by_id rest id ≡ Some a → is_given id rows ≡ true) → is_given id rows ≡ true
    go true e later =
        let same : Some x ≡ Some a = rw e at found in
        let is : x ≡ a = ap (λ o. unwrap_or o x) same in
        let given = (any_false (x.required && not (is_given x.id rows)) (list_any (λ a. a.required && not (is_given a.id rows)) rest) none).0 in
        yes (is_given id rows) refl (subst (λ i. (x.required && not (is_given i rows)) ≡ false) ((bytes_eq-Decides x.id id).0 e) given) (ap (λ (r : Rule). r.required) is ∙ wanted)
      where
        yes : (b : Bool) → is_given id rows ≡ b → (x.required && not (is_given id rows)) ≡ false → x.required ≡ true → is_given id rows ≡ true
        yes true e given wanted = e
        yes false e given wanted = let bad : true ≡ false = rw (wanted, e) at given in cc
    go false e later = later (rw e at found)

pub checks_pass : (help command argument : Bool) → check_kinds help command argument ≡ [] → (command ≡ false) × (argument ≡ false)
checks_pass true command argument none = cc
checks_pass false true argument none = cc
checks_pass false false true none = cc
checks_pass false false false none = (refl, refl)

-- ---- an argument with a default has a row

has_at : (id other : Text) (how : Reading) (source : ValueSource) (values : List Text) (rows : List Row) → has_row id rows ≡ true → has_row id (with_values other how source values rows) ≡ true
has_at id other how source values [] has = cc
has_at id other how source values (row ∷ rows) has = go (bytes_eq row.id other) refl (λ rest. has_at id other how source values rows rest)
  where
    go : (b : Bool) → bytes_eq row.id other ≡ b → (has_row id rows ≡ true → has_row id (with_values other how source values rows) ≡ true)
        → has_row id (with_values other how source values (row ∷ rows)) ≡ true
    go true e rest = rw e has
    go false e rest = rw e (first (bytes_eq row.id id) refl)
      where
        first : (b : Bool) → bytes_eq row.id id ≡ b → (bytes_eq row.id id || has_row id (with_values other how source values rows)) ≡ true
        first true f = rw f refl
        first false f = rw f (rest (rw f at has))

has_added : (id : Text) (how : Reading) (source : ValueSource) (values : List Text) (rows : List Row) → has_row id (with_values id how source values rows) ≡ true
has_added id how source values [] = rw ((bytes_eq-Decides id id).1 refl) refl
has_added id how source values (row ∷ rows) = go (bytes_eq row.id id) refl (has_added id how source values rows)
  where
    go : (b : Bool) → bytes_eq row.id id ≡ b → has_row id (with_values id how source values rows) ≡ true → has_row id (with_values id how source values (row ∷ rows)) ≡ true
    go true e rest = rw (e, e) refl
    go false e rest = rw (e, e) rest

has_kept : (id : Text) (a : Rule) (rows : List Row) → has_row id rows ≡ true → has_row id (with_default rows a) ≡ true
has_kept id a rows has = go (has_row a.id rows) refl a.defaults
  where
    go : (b : Bool) → has_row a.id rows ≡ b → (values : List Text) → has_row id (if has_row a.id rows then rows else default_rows a.id (reading_by a) values rows) ≡ true
    go true e values = rw e has
    go false e [] = rw e has
    go false e (v ∷ vs) = rw e (has_at id a.id (reading_by a) DefaultValue (v ∷ vs) rows has)

has_default : (a : Rule) (v : Text) (vs : List Text) (rows : List Row) → a.defaults ≡ v ∷ vs → has_row a.id (with_default rows a) ≡ true
has_default a v vs rows is = go (has_row a.id rows) refl
  where
    go : (b : Bool) → has_row a.id rows ≡ b → has_row a.id (with_default rows a) ≡ true
    go true e = rw (e, e) refl
    go false e = rw (e, is) (has_added a.id (reading_by a) DefaultValue (v ∷ vs) rows)

kept_by_all : (rules : List Rule) (id : Text) (rows : List Row) → has_row id rows ≡ true → has_row id (fold with_default rows rules) ≡ true
kept_by_all [] id rows has = has
kept_by_all (a ∷ rules) id rows has = kept_by_all rules id (with_default rows a) (has_kept id a rows has)

default_given : (rules : List Rule) (id : Text) (a : Rule) (v : Text) (vs : List Text) (rows : List Row) → arg_by_id rules id ≡ Some a → a.defaults ≡ v ∷ vs
    → has_row id (fold with_default rows rules) ≡ true
default_given [] id a v vs rows found is = cc
default_given (x ∷ rest) id a v vs rows found is = go (bytes_eq x.id id) refl (λ later. default_given rest id a v vs (with_default rows x) later is)
  where
    go : (b : Bool) → bytes_eq x.id id ≡ b → (arg_by_id rest id ≡ Some a → has_row id (fold with_default (with_default rows x) rest) ≡ true)
        → has_row id (fold with_default (with_default rows x) rest) ≡ true
    go true e later =
        let same : Some x ≡ Some a = rw e at found in
        let defaults : x.defaults ≡ v ∷ vs = ap (λ (r : Rule). r.defaults) (ap (λ o. unwrap_or o x) same) ∙ is in
        kept_by_all rest id (with_default rows x) (subst (λ i. has_row i (with_default rows x) ≡ true) ((bytes_eq-Decides x.id id).0 e) (has_default x v vs rows defaults))
    go false e later = later (rw e at found)

pub row_found : (id : Text) (rows : List Row) → has_row id rows ≡ true → (r : Row) × (find (λ r. bytes_eq r.id id) rows ≡ Some r)
row_found id [] has = cc
row_found id (row ∷ rows) has = go (bytes_eq row.id id) refl (λ rest. row_found id rows rest)
  where
    go : (b : Bool) → bytes_eq row.id id ≡ b → (has_row id rows ≡ true → (r : Row) × (find (λ r. bytes_eq r.id id) rows ≡ Some r)) → (r : Row) × (find (λ r. bytes_eq r.id id) (row ∷ rows) ≡ Some r)
    go true e rest = (row, rw e refl)
    go false e rest = let later = rest (rw e at has) in (later.0, rw e later.1)

default_value : (c : List Rule) (a : Rule) (id : Text) (rows : List Row) → Good c rows → arg_by_id c id ≡ Some a → has_row id rows ≡ true
    → IsValued a → HasValue a id rows
default_value c a id rows good known has lt =
    let row = row_found id rows has in
    let ok = found_good c id rows row.0 good row.1 in
    first_value_of a id rows row.0 row.1 (ok.1 a (subst (λ i. arg_by_id c i ≡ Some a) (sym ok.0) known)) lt

-- ---- values of a command whose words have no fault

pub text_value : (s : Shape) (words : List Text) (a : Rule) (id : Text) → IsRight s words → arg_by_id s.rules id ≡ Some a → a.required ≡ true
    → (unwrap_or_range a.range).start_inclusive ≡ 1 → HasValue a id (rows_after s.rules [] words)
text_value s words a id right known wanted one =
    given_value s.rules a id (rows_after s.rules [] words) right.good known
    (required_given s.rules (rows_after s.rules [] words) id a (lacking s.subcommand_negates_reqs (checks_pass _ _ _ right.checked).1) known wanted) (inl (omega (arith, one)))
  where
    lacking : (b : Bool) → (not (b && false) && list_any (λ a. a.required && not (is_given a.id (rows_after s.rules [] words))) s.rules) ≡ false
        → list_any (λ a. a.required && not (is_given a.id (rows_after s.rules [] words))) s.rules ≡ false
    lacking true e = e
    lacking false e = e

-- the row of an argument that has to be given
pub given_row : (s : Shape) (words : List Text) (a : Rule) (id : Text) → IsRight s words → arg_by_id s.rules id ≡ Some a → a.required ≡ true
    → (r : Row) × (find (λ r. bytes_eq r.id id) (rows_after s.rules [] words) ≡ Some r) × IsPassed a r
given_row s words a id right known wanted =
    go (find (λ r. bytes_eq r.id id) (rows_after s.rules [] words)) refl
    (required_given s.rules (rows_after s.rules [] words) id a (lacking s.subcommand_negates_reqs (checks_pass _ _ _ right.checked).1) known wanted)
  where
    lacking : (b : Bool) → (not (b && false) && list_any (λ a. a.required && not (is_given a.id (rows_after s.rules [] words))) s.rules) ≡ false
        → list_any (λ a. a.required && not (is_given a.id (rows_after s.rules [] words))) s.rules ≡ false
    lacking true e = e
    lacking false e = e

    go : (o : Option Row) → find (λ r. bytes_eq r.id id) (rows_after s.rules [] words) ≡ o → option_map_or (λ r. explicit_source r.source) o false ≡ true
        → (r : Row) × (find (λ r. bytes_eq r.id id) (rows_after s.rules [] words) ≡ Some r) × IsPassed a r
    go None e given = cc
    go (Some r) e given =
        let ok = found_good s.rules id (rows_after s.rules [] words) r right.good e in
        (r, e, ok.1 a (subst (λ i. arg_by_id s.rules i ≡ Some a) (sym ok.0) known))

pub option_value : (s : Shape) (words : List Text) (a : Rule) (id v : Text) (vs : List Text) → IsRight s words → arg_by_id s.rules id ≡ Some a → a.defaults ≡ v ∷ vs
    → (unwrap_or_range a.range).start_inclusive ≡ 1 → HasValue a id (rows_after s.rules [] words)
option_value s words a id v vs right known default one =
    default_value s.rules a id (rows_after s.rules [] words) right.good known
    (default_given s.rules id a v vs (settled s.rules (walk s.rules [] nothing_held words).held).rows known default) (inl (omega (arith, one)))

-- the value of a flag, given or not
pub flag_value : (s : Shape) (words : List Text) (a : Rule) (id v : Text) (vs : List Text) → IsRight s words → arg_by_id s.rules id ≡ Some a → a.defaults ≡ v ∷ vs
    → 0 < length a.missing → HasValue a id (rows_after s.rules [] words)
flag_value s words a id v vs right known default some =
    default_value s.rules a id (rows_after s.rules [] words) right.good known
    (default_given s.rules id a v vs (settled s.rules (walk s.rules [] nothing_held words).held).rows known default) (inr some)
