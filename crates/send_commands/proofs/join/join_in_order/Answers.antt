use Rattle.std.proofs.Common.{◌∷◌, Option, IfOk, refl, sym, ap, codes, subst}
use Rattle.host.specs.World.{Files}
use Rattle.session.specs.declared.frame.FrameFault.TheVariants.{Io}
use Rattle.request.specs.declared.requests.Request.TheVariants.{Join}
use Rattle.commands.specs.declared.fault.Fault.TheVariants.{Frame}
use Rattle.commands.specs.Inputs.{ASession}
use Rattle.commands.specs.Doing.{text_of}
use Rattle.send_commands.specs.Opening.{AreAppended, sessions}
use Rattle.commands.proofs.Holding.{committed, is_there}
use Rattle.commands.proofs.Stopping.{all_made, gives_output, passed_on, uncommitted}
use Rattle.send_commands.proofs.Given.{line}
use Rattle.send_commands.proofs.Joins.{because_unappended, err_still, joined_in_order, first_of_all}
use Rattle.send_commands.proofs.join.join_in_order.Goals as goal

pub returns-in_err-count-clause-fault : goal.returns-in_err-count-clause-fault
returns-in_err-count-clause-fault g c =
    let old = g.H.Host.world c.args.host.now in
    let new = g.H.Host.world c.commit.new.host in
    let r = c.args.request.now in
    let inputs = ASession c.args.first.now ∷ sessions c.args.others.now in
    let all = ap sessions c.requires.sessions in
    let blank = g.H.Output.Write.contents c.in_ok-file.file in
    let contents = g.H.Output.Write.contents c.append_each-joined.new.writer in
    let fault = c.in_err-count.field-0.0 in
    passed_on c.from_residual-in_err-count.result fault _ c.from_residual-in_err-count.ensures.1
    (uncommitted old (g.H.Host.world c.create_file.new.self) (Join r) r.output refl c.create_file.ensures.files c.create_file.ensures.silent c.in_ok-file.ensures.created
    new c.commit.ensures.silent c.commit.ensures.created
    (first_of_all old.files r c.args.first c.args.others.now (g.H.Input.Read.remaining c.in_ok-input.input) c.requires.sessions c.in_ok-input.ensures.input.bytes) c.in_err-count.ensures.files
    (Frame Io) (λ may more. (r.output, refl, may, refl, more)) c.append_each-joined.result fault
    (λ n is. gives_output old.files (Join r) (line (codes "joined") (codes " datagrams") n) 0 blank contents
    (joined_in_order old.files r inputs blank contents n all c.requires.order
    (committed c.append_each-joined.result n (AreAppended old.files inputs blank contents) is
    (subst (λ (f : Option Files). IfOk c.append_each-joined.result (AreAppended f inputs blank contents)) c.create_file.ensures.files c.append_each-joined.ensures.appended))))
    (because_unappended old new r inputs all c.append_each-joined.result
    (err_still old (g.H.Host.world c.create_file.new.self) c.create_file.ensures.files c.create_file.ensures.silent (c.args.first ∷ c.args.others.now) c.append_each-joined.result c.append_each-joined.ensures.fault))
    c.in_err-count.ensures.fault)

pub returns-clause-ok : goal.returns-clause-ok
returns-clause-ok g c =
    let old = g.H.Host.world c.args.host.now in
    let r = c.args.request.now in
    let count = c.in_ok-count.count in
    let inputs = ASession c.args.first.now ∷ sessions c.args.others.now in
    let blank = g.H.Output.Write.contents c.in_ok-file.file in
    let contents = g.H.Output.Write.contents c.append_each-joined.new.writer in
    all_made old (g.H.Host.world c.create_file.new.self) (Join r) r.output refl c.create_file.ensures.files c.create_file.ensures.silent c.in_ok-file.ensures.created
    (g.H.Host.world c.commit.new.host) c.commit.ensures.silent c.commit.ensures.created (line (codes "joined") (codes " datagrams") count) 0 blank contents c.in_ok-file.ensures.blank
    (joined_in_order old.files r inputs blank contents count (ap sessions c.requires.sessions) c.requires.order
    (committed c.append_each-joined.result count (AreAppended old.files inputs blank contents) c.in_ok-count.ensures.count
    (subst (λ (f : Option Files). IfOk c.append_each-joined.result (AreAppended f inputs blank contents)) c.create_file.ensures.files c.append_each-joined.ensures.appended)))
    c.in_ok-count.ensures.kept c.in_ok-count.ensures.free _ (ap text_of (sym c.counted.ensures.told)) (sym c.counted.ensures.status)
