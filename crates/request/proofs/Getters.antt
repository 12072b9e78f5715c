-- What the getters of matches give, by rows.
use Rattle.std.proofs.Common.{Bool, Global, List, ◌≡◌, ◌∙◌, Option, Some, None, Result, option_map, codes, true, false, ap, refl, sym, subst}
use Rattle.std.specs.Borrow.{Bor}
use Rattle.std.specs.Option.{IsSome, is_some, unwrap_or}
use Rattle.clap.specs.Words.{Row, Text, first_of, first_value, one_of, one_text, found_of, rows_of, subcommand_name_of, subcommand_rows_of}
use Rattle.clap.specs.Matches.{ReadsOne}
use Rattle.std.specs.Str.{bytes_eq}
use Rattle.std.proofs.lemmas.Slice.Eq.{bytes_eq-Decides}
use Rattle.std.specs.Prelude.{Box}
use Rattle.std.specs.Box.{box_value}
use Rattle.clap.specs.declared.parser.matches.ArgMatches.{ArgMatches}
use Rattle.clap.specs.declared.parser.matches.ArgMatches.TheViews.{out-ArgMatches, out-SubCommand}
use Rattle.clap.specs.declared.parser.matches.SubCommand.{SubCommand}
use Rattle.clap.specs.declared.parser.matches.Found.{Found}
use Rattle.clap.proofs.WalkLemmas.{first_value-rows, one_text-rows}
use Rattle.request.specs.Matching.{Gives, IsTold, Reads, rows_in}

-- ---- texts

pub text_found : (f : Found) (name : Text) (value : Option (Bor Text)) → option_map (λ s. s.now) value ≡ first_value f name
    → is_some (first_of name (rows_of f)) ≡ true → IsSome value
text_found f name None is some = let bad : false ≡ true = ap is_some (is ∙ first_value-rows f name) ∙ some in cc
text_found f name (Some text) is some = refl

pub text_is : (f : Found) (name : Text) (value : Option (Bor Text)) (text : Bor Text) → option_map (λ s. s.now) value ≡ first_value f name
    → value ≡ Some text → first_of name (rows_of f) ≡ Some text.now
text_is f name value text is some = sym (first_value-rows f name) ∙ (sym is ∙ ap (option_map (λ (s : Bor Text). s.now)) some)

-- ---- numbers

module _ {N E : Type 0} (gives : Text → Result N E → Type 0) (f : Found) (name : Text) (value : Option N)
    (one : (t : Text) → one_text f name ≡ Some t → ReadsOne gives t value) where
  pub number_found : Reads gives (one_of name (rows_of f)) → IsSome value
  number_found reads = go value (one reads.0 (one_text-rows f name ∙ reads.1))
    where
      go : (v : Option N) → ReadsOne gives reads.0 v → IsSome v
      go None wrong = absurd (reads.2 wrong.0 wrong.1)
      go (Some n) right = refl

  pub number_is : (n : N) → Reads gives (one_of name (rows_of f)) → value ≡ Some n → Gives gives (one_of name (rows_of f)) n
  number_is n reads some = (reads.0, reads.1, subst (ReadsOne gives reads.0) some (one reads.0 (one_text-rows f name ∙ reads.1)))

-- ---- the command

-- a name that is none of these is no command's
pub other_name : (name : Text) (rows : List Row) → IsTold (Some (name, rows)) → (name ≡ codes "encode" → ⊥) → (name ≡ codes "certify" → ⊥) → (name ≡ codes "convert" → ⊥) → (name ≡ codes "check" → ⊥) → (name ≡ codes "drop" → ⊥) → (name ≡ codes "salvage" → ⊥) → (name ≡ codes "join" → ⊥) → (name ≡ codes "decode" → ⊥) → (name ≡ codes "follow" → ⊥) → (name ≡ codes "twin" → ⊥) → (name ≡ codes "show" → ⊥) → ⊥
other_name name rows (orders, are, (known, given)) not_encode not_certify not_convert not_check not_drop not_salvage not_join not_decode not_follow not_twin not_show =
    let bad : false ≡ true = rw (unlike (codes "encode") name not_encode, unlike (codes "certify") name not_certify, unlike (codes "convert") name not_convert, unlike (codes "check") name not_check, unlike (codes "drop") name not_drop, unlike (codes "salvage") name not_salvage, unlike (codes "join") name not_join, unlike (codes "decode") name not_decode, unlike (codes "follow") name not_follow, unlike (codes "twin") name not_twin, unlike (codes "show") name not_show) at known in cc
  where
    unlike : (word name : Text) → (name ≡ word → ⊥) → bytes_eq word name ≡ false
    unlike word name other = go (bytes_eq word name) refl
      where
        go : (b : Bool) → bytes_eq word name ≡ b → bytes_eq word name ≡ false
        go true e = absurd (other (sym ((bytes_eq-Decides word name).0 e)))
        go false e = e

-- the subcommand's name and matches are those of its rows
pub is_subcommand : (m : ArgMatches) (found : Option (Bor Text × Bor ArgMatches)) (pair : Bor Text × Bor ArgMatches)
    → option_map (λ p. p.0.now) found ≡ subcommand_name_of m
    → option_map (λ p. rows_of (found_of p.1.now)) found ≡ option_map (λ p. p.1) (subcommand_rows_of m)
    → found ≡ Some pair → subcommand_rows_of m ≡ Some (pair.0.now, rows_in pair.1.now)
is_subcommand m found pair named rows is = go (out-ArgMatches m).subcommand (rw is at named) (rw is at rows)
  where
    rows_at : Box SubCommand Global → Text × List Row
    rows_at b = ((out-SubCommand (box_value b)).name.now, rows_of (found_of (out-SubCommand (box_value b)).matches))

    go : (o : Option (Box SubCommand Global)) → Some pair.0.now ≡ option_map (λ b. (rows_at b).0) o
        → Some (rows_in pair.1.now) ≡ option_map (λ p. p.1) (option_map rows_at o) → option_map rows_at o ≡ Some (pair.0.now, rows_in pair.1.now)
    go None name_is rows_are = let bad : Some pair.0.now ≡ None = name_is in cc
    go (Some b) name_is rows_are =
        let same_name : pair.0.now ≡ (rows_at b).0 = ap (λ o. unwrap_or o pair.0.now) name_is in
        let same_rows : rows_in pair.1.now ≡ (rows_at b).1 = ap (λ o. unwrap_or o (rows_in pair.1.now)) rows_are in
        λ i. Some (sym same_name i, sym same_rows i)
