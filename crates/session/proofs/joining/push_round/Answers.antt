use Rattle.std.proofs.Common.{◌≡◌, ◌<◌, ◌≤◌, ◌++◌, ◌∷◌, [], List, ℕ, length, take, get_or, sym, ap, ◌∙◌, arith, append_assoc}
use Rattle.std.proofs.lemmas.List.{get_or_read}
use Rattle.session.specs.Joined.{round}
use Rattle.session.proofs.Joins.{round_with, round_without}
use Rattle.session.proofs.joining.push_round.Goals as goal
use Rattle.session.proofs.joining.push_round.Goals.{then-place-len+in_ok-put, else-place-len}

pub loop-session-preserved : goal.loop-session-preserved
loop-session-preserved c =
    let i = c.loop-session.session-index in
    let lists : List (List (List ℕ)) = c.args.sessions.now in
    let here : i < length lists = omega arith in
    let same : c.session-item.result ≡ get_or lists i [] = get_or_read lists i c.session-item.result here c.session-item.is [] in
    let before : List (List ℕ) = round (take i lists) c.args.place in
    elim c.if-place-len.branch [
      | then-place-len+in_ok-put w ↦
          (let raw : c.args.place < length c.session-item.result = (let t = w.if-place-len.true in let e = c.len.ensures.value in omega (arith, t, e)) in
          let within : c.args.place < length (get_or lists i []) = rw same at raw in
          let read = rw same at w.get.ensures in
          w.joined-is ∙ w.in_ok-put.ensures.ok
          ∙ ap (λ (ds : List (List ℕ)). ds ++ w.get.result.now ∷ []) c.loop-session.invariant
          ∙ append_assoc c.args.joined.now before (w.get.result.now ∷ [])
          ∙ ap (λ (d : List ℕ). c.args.joined.now ++ (before ++ d ∷ [])) read
          ∙ sym (ap (λ (ds : List (List ℕ)). c.args.joined.now ++ ds) (round_with lists i c.args.place [] here within)))
      | else-place-len w ↦
          (let raw : length c.session-item.result ≤ c.args.place = (let t = w.if-place-len.false in let e = c.len.ensures.value in omega (arith, t, e)) in
          let past : length (get_or lists i []) ≤ c.args.place = rw same at raw in
          w.joined-is ∙ c.loop-session.invariant
          ∙ sym (ap (λ (ds : List (List ℕ)). c.args.joined.now ++ ds) (round_without lists i c.args.place here past)))
    ]
