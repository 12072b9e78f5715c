use Rattle.std.proofs.Common.{map, refl, sym, ap, codes, subst}
use Rattle.session.specs.Joining.{IsJoined}
use Rattle.session.specs.declared.frame.FrameFault.TheVariants.{Io}
use Rattle.request.specs.declared.requests.Request.TheVariants.{Join}
use Rattle.commands.specs.declared.fault.Fault.TheVariants.{Frame}
use Rattle.commands.specs.Doing.{text_of}
use Rattle.send_commands.specs.Opening.{AreOpened}
use Rattle.commands.proofs.Holding.{committed}
use Rattle.commands.proofs.Stopping.{all_made, gives_output, passed_on, uncommitted}
use Rattle.send_commands.proofs.Given.{line}
use Rattle.send_commands.proofs.Joins.{because_unjoined_next, first_there, joined_unless}
use Rattle.send_commands.proofs.join.join_at_once.Goals as goal

pub returns-in_err-count-clause-fault : goal.returns-in_err-count-clause-fault
returns-in_err-count-clause-fault g c =
    let old = g.H.Host.world c.args.host.now in
    let new = g.H.Host.world c.commit.new.host in
    let r = c.args.request.now in
    let unopened = c.in_ok-inputs.field-0.unopened in
    let opened = map g.H.Input.Read.remaining c.as_mut_slice.result.now in
    let left = map g.H.Input.Read.remaining c.join_all-joined.new.readers in
    let are = subst (λ inputs. AreOpened old r.sessions.items (map g.H.Input.Read.remaining inputs) unopened) (sym c.as_mut_slice.ensures.value)
    (rw c.as_slice.ensures.value at c.in_ok-inputs.ensures.opened) in
    let blank = g.H.Output.Write.contents c.in_ok-file.file in
    let contents = g.H.Output.Write.contents c.join_all-joined.new.writer in
    let fault = c.in_err-count.field-0.0 in
    passed_on c.from_residual-in_err-count.result fault _ c.from_residual-in_err-count.ensures.1
    (uncommitted old (g.H.Host.world c.create_file.new.self) (Join r) r.output refl c.create_file.ensures.files c.create_file.ensures.silent c.in_ok-file.ensures.created
    new c.commit.ensures.silent c.commit.ensures.created (first_there old r.sessions.items opened unopened are) c.in_err-count.ensures.files
    (Frame Io) (λ may more. (r.output, refl, may, refl, more)) c.unless_unopened-joined.result fault
    (λ n is. gives_output old.files (Join r) (line (codes "joined") (codes " datagrams") n) 0 blank contents
    (joined_unless old r opened left unopened blank contents n are c.join_all-joined.result c.join_all-joined.ensures.joined
    (committed c.unless_unopened-joined.result n _ is c.unless_unopened-joined.ensures.ok)))
    (because_unjoined_next old new r opened unopened are r.turns _ _ left blank contents _ c.join_all-joined.result c.join_all-joined.ensures.fault c.join_all-joined.ensures.joined
    c.unless_unopened-joined.result c.unless_unopened-joined.ensures.fault)
    c.in_err-count.ensures.fault)

pub returns-clause-ok : goal.returns-clause-ok
returns-clause-ok g c =
    let old = g.H.Host.world c.args.host.now in
    let r = c.args.request.now in
    let count = c.in_ok-count.count in
    let unopened = c.in_ok-inputs.field-0.unopened in
    let opened = map g.H.Input.Read.remaining c.as_mut_slice.result.now in
    let left = map g.H.Input.Read.remaining c.join_all-joined.new.readers in
    let are = subst (λ inputs. AreOpened old r.sessions.items (map g.H.Input.Read.remaining inputs) unopened) (sym c.as_mut_slice.ensures.value)
    (rw c.as_slice.ensures.value at c.in_ok-inputs.ensures.opened) in
    let blank = g.H.Output.Write.contents c.in_ok-file.file in
    let contents = g.H.Output.Write.contents c.join_all-joined.new.writer in
    all_made old (g.H.Host.world c.create_file.new.self) (Join r) r.output refl c.create_file.ensures.files c.create_file.ensures.silent c.in_ok-file.ensures.created
    (g.H.Host.world c.commit.new.host) c.commit.ensures.silent c.commit.ensures.created (line (codes "joined") (codes " datagrams") count) 0 blank contents c.in_ok-file.ensures.blank
    (joined_unless old r opened left unopened blank contents count are c.join_all-joined.result c.join_all-joined.ensures.joined
    (committed c.unless_unopened-joined.result count _ c.in_ok-count.ensures.count c.unless_unopened-joined.ensures.ok))
    c.in_ok-count.ensures.kept c.in_ok-count.ensures.free _ (ap text_of (sym c.counted.ensures.told)) (sym c.counted.ensures.status)
