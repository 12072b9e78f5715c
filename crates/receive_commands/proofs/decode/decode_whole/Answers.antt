use Rattle.std.proofs.Common.{[], inl, refl, ◌∙◌, ℕ, Ok, Err, inr, sym, ap, subst}
use Rattle.request.specs.declared.requests.Request.TheVariants.{Decode}
use Rattle.decoder.specs.Answers.{answer_value}
use Rattle.std.specs.Prelude.{Option, IfOk, IfSome, IsNone}
use Rattle.host.specs.World.{Files, IsFree}
use Rattle.decoder.specs.Objects.{IsNoObject}
use Rattle.receive_commands.proofs.Decoded.{none_decoded, session_held, because_changed, because_not_again, delivered, given_up, may_write, object_given, placed_of, refuted}
use Rattle.commands.proofs.Stopping.{stopped, by_unread, passed_on, uncommitted}
use Rattle.reception.specs.declared.scope.Identity.{Identity}
use Rattle.reception.specs.Answer.{IsAnswer}
use Rattle.decoder.specs.Objects.{IsWrittenOf}
use Rattle.file_decoder.specs.PlacesOf.{ArePlacedOf}
use Rattle.commands.specs.Doing.{text_of}
use Rattle.commands.specs.Wholes.{content_of, reliable_of}
use Rattle.commands.specs.declared.fault.Fault.TheVariants.{Memory}
use Rattle.commands.proofs.Holding.{committed}
use Rattle.receive_commands.proofs.decode.decode_whole.Goals as goal

pub returns-in-Ok-Err-clause-ok : goal.returns-in-Ok-Err-clause-ok
returns-in-Ok-Err-clause-ok g c =
    let w = g.H.Host.world c.args.host.now in
    let content = content_of g.H.Input.ReadAt.content c.args.input.now in
    let is = rw c.in-Ok-Err.field-0-is at c.in-Ok-Err.ensures.indexed in
    let r = c.args.request.now in
    let held = session_held w.files r.session.now content r.identity (answer_value c.in-Ok-Err.answer) c.requires.bytes is.1 in
    none_decoded w w r content held refl c.in-Ok-Err.answer is.1 is.0 refl (inl refl) c.in_ok-told_of-in-Ok-Err.field-0 c.in_ok-told_of-in-Ok-Err.ensures

pub returns-in-Err-clause-fault : goal.returns-in-Err-clause-fault
returns-in-Err-clause-fault g c =
    let w = g.H.Host.world c.args.host.now in
    let r = c.args.request.now in
    stopped w (Decode r) c.file_fault.result
    (by_unread w w (Decode r) [] c.file_fault.result
    (inl (c.file_fault.ensures w (content_of g.H.Input.ReadAt.content c.args.input.now) (reliable_of g.H.Input.ReadAt.reliable c.args.input.now) c.requires c.in-Err.ensures.fault)))

pub returns-in_err-see_whole-in-Ok-Err-clause-fault : goal.returns-in_err-see_whole-in-Ok-Err-clause-fault
returns-in_err-see_whole-in-Ok-Err-clause-fault g c =
    let w = g.H.Host.world c.args.host.now in
    let r = c.args.request.now in
    let fault = c.in_err-see_whole-in-Ok-Err.field-0.0 in
    passed_on c.from_residual.result fault _ c.from_residual.ensures.1
    (stopped w (Decode r) fault (because_changed w w r _ c.requires.fails fault c.in_err-see_whole-in-Ok-Err.ensures))

pub returns-in_err-told_of-in-Ok-Some-clause-fault : goal.returns-in_err-told_of-in-Ok-Some-clause-fault
returns-in_err-told_of-in-Ok-Some-clause-fault g c =
    let indexed = rw c.in-Ok-Ok.field-0-is at c.in-Ok-Ok.ensures.indexed in
    let old = g.H.Host.world c.args.host.now in
    let mid = g.H.Host.world c.create_file.new.self in
    let r = c.args.request.now in
    let s = c.in-Ok-Ok.symbols in
    let content = content_of g.H.Input.ReadAt.content c.args.input.now in
    let given = c.requires in
    let placed = placed_of r.identity content s indexed in
    let may = may_write old.files r content s given.bytes placed in
    let new = g.H.Host.world c.give_up.new.self in
    passed_on c.from_residual-in_err-told_of-in-Ok-Some.result Memory _ c.from_residual-in_err-told_of-in-Ok-Some.ensures.1
    (given_up old mid new r may c.create_file.ensures.files c.create_file.ensures.silent c.in_ok-file.ensures.created c.give_up.ensures.files c.give_up.ensures.silent)

pub returns-in-Ok-Some-clause-ok : goal.returns-in-Ok-Some-clause-ok
returns-in-Ok-Some-clause-ok g c =
    let indexed = rw c.in-Ok-Ok.field-0-is at c.in-Ok-Ok.ensures.indexed in
    let old = g.H.Host.world c.args.host.now in
    let mid = g.H.Host.world c.create_file.new.self in
    let r = c.args.request.now in
    let s = c.in-Ok-Ok.symbols in
    let content = content_of g.H.Input.ReadAt.content c.args.input.now in
    let given = c.requires in
    let placed = placed_of r.identity content s indexed in
    let may = may_write old.files r content s given.bytes placed in
    let new = g.H.Host.world c.give_up.new.self in
    let answer = c.in-Ok-Some.answer in
    let is = refuted r.identity content s answer placed (λ ds x told.
    subst (λ (who : Identity). ArePlacedOf who ds x s → IsAnswer who ds (answer_value c.in-Ok-Some.answer)) indexed.0
    (λ are. rw c.in-Ok-Some.field-0-is at
    (subst (λ w. IfOk w (λ o. IfSome o (λ a. IsAnswer s.indexed.identity ds (answer_value a)))) (sym c.in-Ok-Some.ensures.ok) (c.write_object-written.ensures.answer ds x told are)))) in
    none_decoded old new r content (session_held old.files r.session.now content r.identity (answer_value answer) given.bytes is)
    (c.give_up.ensures.silent.printed ∙ c.create_file.ensures.silent.printed) answer is (rw c.in-Ok-Some.field-0-is at (subst (λ w. IfOk w (λ o. IfSome o IsNoObject)) (sym c.in-Ok-Some.ensures.ok) c.write_object-written.ensures.none))
    (c.give_up.ensures.files.files ∙ c.create_file.ensures.files) (inr ((r.output, refl, c.give_up.ensures.files.created ∙ c.in_ok-file.ensures.created), may))
    c.in_ok-told_of-in-Ok-Some.field-0 c.in_ok-told_of-in-Ok-Some.ensures

pub returns-in-Ok-None-clause-ok : goal.returns-in-Ok-None-clause-ok
returns-in-Ok-None-clause-ok g c =
    let indexed = rw c.in-Ok-Ok.field-0-is at c.in-Ok-Ok.ensures.indexed in
    let old = g.H.Host.world c.args.host.now in
    let mid = g.H.Host.world c.create_file.new.self in
    let r = c.args.request.now in
    let s = c.in-Ok-Ok.symbols in
    let content = content_of g.H.Input.ReadAt.content c.args.input.now in
    let given = c.requires in
    let placed = placed_of r.identity content s indexed in
    let may = may_write old.files r content s given.bytes placed in
    let new = g.H.Host.world c.commit.new.host in
    let blank = g.H.Output.Write.contents c.in_ok-file.file in
    let contents = g.H.Output.Write.contents c.write_object-written.new.writer in
    let length = c.in_ok-length-in-Ok-None.length in
    delivered old new mid.files r content s blank contents length given.bytes
    (c.commit.ensures.silent.printed ∙ c.create_file.ensures.silent.printed) placed
    (λ ds x told. subst (λ (who : Identity). ArePlacedOf who ds x s → IsWrittenOf who ds blank contents length) indexed.0
    (λ are. committed (Ok c.transfer_length.result) length (IsWrittenOf s.indexed.identity ds blank contents) c.in_ok-length-in-Ok-None.ensures.count
    (subst (λ (n : ℕ). IsWrittenOf s.indexed.identity ds blank contents n) (sym c.transfer_length.ensures)
    ((rw c.in-Ok-None.field-0-is at
    (subst (λ w. IfOk w (λ o. IsNone o → IsWrittenOf s.indexed.identity ds blank contents s.indexed.fti.transfer_length)) (sym c.in-Ok-None.ensures.ok) (c.write_object-written.ensures.written ds x told are))) refl))))
    c.in_ok-file.ensures.blank c.create_file.ensures.files c.in_ok-length-in-Ok-None.ensures.kept
    (c.commit.ensures.created ∙ c.in_ok-file.ensures.created)
    (subst (λ (f : Option Files). IsFree f r.output.name.now r.output.no_clobber) c.create_file.ensures.files c.in_ok-length-in-Ok-None.ensures.free) c.counted.result (ap text_of (sym c.counted.ensures.told)) (sym c.counted.ensures.status)

pub returns-clause-fault : goal.returns-clause-fault
returns-clause-fault g c =
    let indexed = rw c.in-Ok-Ok.field-0-is at c.in-Ok-Ok.ensures.indexed in
    let old = g.H.Host.world c.args.host.now in
    let mid = g.H.Host.world c.create_file.new.self in
    let r = c.args.request.now in
    let s = c.in-Ok-Ok.symbols in
    let content = content_of g.H.Input.ReadAt.content c.args.input.now in
    let given = c.requires in
    let placed = placed_of r.identity content s indexed in
    let may = may_write old.files r content s given.bytes placed in
    let new = g.H.Host.world c.commit-in-Err-if_unchanged.new.host in
    let unwritten = c.in-Err-if_unchanged.unwritten in
    uncommitted old mid (Decode r) r.output refl c.create_file.ensures.files c.create_file.ensures.silent c.in_ok-file.ensures.created
    new c.commit-in-Err-if_unchanged.ensures.silent c.commit-in-Err-if_unchanged.ensures.created may c.in-Err-commit.ensures.files
    _ (λ may more. (r.output, refl, may, refl, more)) (Err unwritten) c.in-Err-commit.fault (λ n is. absurd (cc))
    (because_not_again old new r _ c.requires.fails c.write_object-written.result (c.write_object-written.ensures.fault old given) unwritten c.in-Err-if_unchanged.ensures.fault)
    c.in-Err-commit.ensures.fault

pub returns-in_err-length-in-Ok-None-clause-fault : goal.returns-in_err-length-in-Ok-None-clause-fault
returns-in_err-length-in-Ok-None-clause-fault g c =
    let indexed = rw c.in-Ok-Ok.field-0-is at c.in-Ok-Ok.ensures.indexed in
    let old = g.H.Host.world c.args.host.now in
    let mid = g.H.Host.world c.create_file.new.self in
    let r = c.args.request.now in
    let s = c.in-Ok-Ok.symbols in
    let content = content_of g.H.Input.ReadAt.content c.args.input.now in
    let given = c.requires in
    let placed = placed_of r.identity content s indexed in
    let may = may_write old.files r content s given.bytes placed in
    let new = g.H.Host.world c.commit.new.host in
    let blank = g.H.Output.Write.contents c.in_ok-file.file in
    let contents = g.H.Output.Write.contents c.write_object-written.new.writer in
    let length = c.transfer_length.result in
    let fault = c.in_err-length-in-Ok-None.field-0.0 in
    passed_on c.from_residual-in_err-length-in-Ok-None.result fault _ c.from_residual-in_err-length-in-Ok-None.ensures.1
    (uncommitted old mid (Decode r) r.output refl c.create_file.ensures.files c.create_file.ensures.silent c.in_ok-file.ensures.created
    new c.commit.ensures.silent c.commit.ensures.created may c.in_err-length-in-Ok-None.ensures.files _ (λ may more. (r.output, refl, may, refl, more)) (Ok length) fault
    (λ n is. object_given old.files r content s blank contents length given.bytes placed
    (λ ds x told. subst (λ (who : Identity). ArePlacedOf who ds x s → IsWrittenOf who ds blank contents length) indexed.0
    (λ are. subst (λ (n : ℕ). IsWrittenOf s.indexed.identity ds blank contents n) (sym c.transfer_length.ensures)
    ((rw c.in-Ok-None.field-0-is at
    (subst (λ w. IfOk w (λ o. IsNone o → IsWrittenOf s.indexed.identity ds blank contents s.indexed.fti.transfer_length)) (sym c.in-Ok-None.ensures.ok) (c.write_object-written.ensures.written ds x told are))) refl))))
    (λ f is. absurd (cc)) c.in_err-length-in-Ok-None.ensures.fault)
