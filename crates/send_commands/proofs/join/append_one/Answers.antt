use Rattle.std.proofs.Common.{◌∙◌, ◌++◌, ◌∷◌, [], map, ap}
use Rattle.send_commands.proofs.Joins.{ok_appended, err_unappended}
use Rattle.send_commands.proofs.join.append_one.Goals as goal

pub returns-clause-appended : goal.returns-clause-appended
returns-clause-appended g c =
    ok_appended c.join_all.result (g.R.Read.remaining c.args.reader) (map g.R.Read.remaining c.as_mut_slice.result.now) (map g.R.Read.remaining c.join_all.new.readers) _ _
    (ap (map g.R.Read.remaining) (c.as_mut_slice.ensures.value ∙ c.in-Ok.ensures.items ∙ ap (λ xs. xs ++ c.args.reader ∷ []) c.new-readers.ensures.items)) c.join_all.ensures.joined

pub returns-clause-fault : goal.returns-clause-fault
returns-clause-fault g c =
    err_unappended c.join_all.result (g.R.Read.remaining c.args.reader) (map g.R.Read.remaining c.as_mut_slice.result.now) _ _ _
    (ap (map g.R.Read.remaining) (c.as_mut_slice.ensures.value ∙ c.in-Ok.ensures.items ∙ ap (λ xs. xs ++ c.args.reader ∷ []) c.new-readers.ensures.items)) c.join_all.ensures.fault
