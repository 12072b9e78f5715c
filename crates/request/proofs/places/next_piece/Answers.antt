use Rattle.std.proofs.Common.{◌∷◌, ◌∙◌, ◌+◌, ◌-◌, List, ℕ, ap, length, length-drop, take, drop, arith, sym}
use Rattle.std.specs.List.{slice_split}
use Rattle.std.proofs.lemmas.List.{take_all}
use Rattle.request.specs.Places.{is_space}
use Rattle.request.proofs.PlaceWords.{pieces}
use Rattle.request.proofs.places.next_piece.Goals as goal

pub returns-in-Some-clause-pieces : goal.returns-in-Some-clause-pieces
returns-in-Some-clause-pieces c =
    let text = c.args.text.now in
    let behind = drop (c.in-Some.at + 1) text in
    let is = rw c.in-Some.is at (pieces text c.first_space.result c.first_space.ensures) in
    let many = length-drop (c.in-Some.at + 1) text in
    let whole = take_all (length text - (c.in-Some.at + 1)) behind (omega (arith, many)) in
    is.1 ∙ ap (λ (rest : List ℕ). take c.in-Some.at text ∷ slice_split is_space rest) (sym whole)

pub returns-in-None-clause-pieces : goal.returns-in-None-clause-pieces
returns-in-None-clause-pieces c = rw c.in-None.is at (pieces c.args.text.now c.first_space.result c.first_space.ensures)
