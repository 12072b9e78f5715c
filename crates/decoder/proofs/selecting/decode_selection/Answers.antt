use Rattle.std.proofs.Common.{◌≡◌, ◌∙◌, ℕ, List, map, ap, subst}
use Rattle.std.specs.Borrow.{Bor}
use Rattle.lists.specs.Selection.{chosen}
use Rattle.reception.specs.Answer.{IsAnswer}
use Rattle.decoder.specs.Answers.{answer_value}
use Rattle.decoder.proofs.Promising.{promised}
use Rattle.decoder.proofs.selecting.decode_selection.Goals as goal

pub returns-in-Ok-decode-clause-promised : goal.returns-in-Ok-decode-clause-promised
returns-in-Ok-decode-clause-promised c =
    let e : map (λ (d : Bor (List ℕ)). d.now) c.deref.result.now ≡ chosen c.args.session.now c.args.places.now =
    ap (map (λ (d : Bor (List ℕ)). d.now)) c.deref.ensures.value ∙ c.in-Ok.ensures ∙ c.in_ok-chosen.ensures.kept in
    promised c.args.identity c.args.session.now c.args.places.now (answer_value c.in-Ok-decode.answer)
    (subst (λ (ds : List (List ℕ)). IsAnswer c.args.identity ds (answer_value c.in-Ok-decode.answer)) e c.in-Ok-decode.ensures)
