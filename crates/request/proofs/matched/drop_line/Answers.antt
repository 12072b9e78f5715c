use Rattle.std.proofs.Common.{◌≡◌, ◌∙◌, length, rules, true}
use Rattle.std.specs.Prelude.{is_none}
use Rattle.request.proofs.Texts.{none_told, none_named}
use Rattle.request.proofs.matched.drop_line.Goals as goal

pub returns-then-is_none-clause-fault : goal.returns-then-is_none-clause-fault
returns-then-is_none-clause-fault c =
    let none : length c.in_ok-places.places.items ≡ 0 = search rules in
    let unnamed : is_none c.given_text-places_file.result ≡ true = search rules in (
      none_told _ c.in_ok-places.places.items c.in_ok-places.ensures.ok none,
      c.given_text-places_file.ensures ∙ none_named c.given_text-places_file.result unnamed,
    )
