use Rattle.std.proofs.Common.{ℕ, List}
use Rattle.session.specs.Frames.{IsFramed, AreDatagrams}
use Rattle.reception.specs.Answer as value
use Rattle.reception.specs.Answer.{IsAnswer}
use Rattle.reception.specs.Walks.{readings_of}
use Rattle.file_decoder.proofs.FromFile.{told_if, if_told, readings, fault_indexed}
use Rattle.file_decoder.proofs.indexed_file.index_file.Goals as goal

pub returns-in-Ok-None-clause-indexed : goal.returns-in-Ok-None-clause-indexed
returns-in-Ok-None-clause-indexed g c =
    let content = g.F.ReadAt.content c.args.file.now in
    let reliable = g.F.ReadAt.reliable c.args.file.now in
    let who = c.args.identity in (
      tt,
      told_if content (λ (x : List ℕ). (ds : List (List ℕ)) × IsFramed ds x × IsAnswer c.args.identity ds value.Empty) (λ x told.
          let whole = rw (c.in-Ok-None.is, c.in-Ok-None.field-0-is) at c.in_ok-fti.ensures.whole in
          let w = if_told content (λ (y : List ℕ). (ds : List (List ℕ)) × IsFramed ds y × AreDatagrams ds) x told whole in (
            w.0,
            w.1,
            record {
              readings = readings_of w.0;
              read = readings w.0 w.2;
              answers = rw (c.in-Ok-None.is, c.in-Ok-None.field-0-is) at (c.in_ok-fti.ensures.carrier x w.0 told w.1);
            },
          )),
    )

pub returns-in-Err-clause-indexed : goal.returns-in-Err-clause-indexed
returns-in-Err-clause-indexed g c =
    let content = g.F.ReadAt.content c.args.file.now in
    fault_indexed c.args.identity content c.in-Err.fault (rw c.in-Err.is at c.in_ok-fti.ensures.whole) (λ x ds told framed. rw c.in-Err.is at (c.in_ok-fti.ensures.carrier x ds told framed))

pub count_places-requires-clause-told : goal.count_places-requires-clause-told
count_places-requires-clause-told g c = λ x told.
    let content = g.F.ReadAt.content c.args.file.now in
    let reliable = g.F.ReadAt.reliable c.args.file.now in
    let who = c.args.identity in
    let w = if_told content (λ (y : List ℕ). (ds : List (List ℕ)) × IsFramed ds y × AreDatagrams ds) x told c.in_ok-symbols.ensures.whole in
    let known = rw (c.in-Ok-Some.is, c.in-Ok-Some.field-0-is) at (c.in_ok-fti.ensures.carrier x w.0 told w.1) in
    (w.0, w.1, record { read = readings w.0 w.2; received = rw c.in-Ok.is at (c.in_ok-symbols.ensures.received x w.0 told w.1 known); placed = rw c.in-Ok.is at (c.in_ok-symbols.ensures.placed x told) })

pub returns-in-Err-2-clause-indexed : goal.returns-in-Err-2-clause-indexed
returns-in-Err-2-clause-indexed g c =
    let content = g.F.ReadAt.content c.args.file.now in
    fault_indexed c.args.identity content c.in-Err-2.fault c.in_ok-symbols.ensures.whole (λ x ds told framed.
    let known = rw (c.in-Ok-Some.is, c.in-Ok-Some.field-0-is) at (c.in_ok-fti.ensures.carrier x ds told framed) in
    rw c.in-Err-2.is at (c.in_ok-symbols.ensures.fault x ds told framed known))
