use Rattle.std.proofs.Common.{refl, codes}
use Rattle.session.specs.declared.frame.FrameFault.TheVariants.{Io}
use Rattle.request.specs.declared.requests.Request.TheVariants.{Salvage}
use Rattle.commands.specs.declared.fault.Fault.TheVariants.{Frame}
use Rattle.send_commands.specs.Salvaging.{HasSalvaged}
use Rattle.send_commands.proofs.Given.{line}
use Rattle.send_commands.proofs.Salvaged.{because_uncopied, salvaged}
use Rattle.commands.proofs.Stopping.{all_made, gives_output, passed_on, uncommitted}
use Rattle.send_commands.proofs.salvage.salvage.Goals as goal
use Rattle.commands.proofs.Holding.{committed, is_there}

pub returns-in_err-count-clause-fault : goal.returns-in_err-count-clause-fault
returns-in_err-count-clause-fault g c =
    let old = g.H.Host.world c.args.host.now in
    let new = g.H.Host.world c.commit.new.host in
    let r = c.args.request.now in
    let status = c.copy_front-status.result.status in
    let opened = g.H.Input.Read.remaining c.in_ok-input.input in
    let input = c.in_ok-input.ensures.input in
    let blank = g.H.Output.Write.contents c.in_ok-file.file in
    let contents = g.H.Output.Write.contents c.copy_front-status.new.writer in
    let fault = c.in_err-count.field-0.0 in
    passed_on c.from_residual-in_err-count.result fault _ c.from_residual-in_err-count.ensures.1
    (uncommitted old (g.H.Host.world c.create_file.new.self) (Salvage r) r.output refl
    c.create_file.ensures.files c.create_file.ensures.silent c.in_ok-file.ensures.created new c.commit.ensures.silent c.commit.ensures.created
    (is_there old.files r.session.now opened input.bytes, tt) c.in_err-count.ensures.files
    (Frame Io) (λ may more. (r.output, refl, may, refl, more)) c.copy_front-status.result.written fault
    (λ n is. gives_output old.files (Salvage r) (line (codes "kept") (codes " datagrams") n) status blank contents
    (salvaged old.files r opened blank contents status n input.bytes
    (committed c.copy_front-status.result.written n (HasSalvaged opened blank contents status) is c.copy_front-status.ensures.salvaged)))
    (because_uncopied old new r opened (g.H.Input.Read.sound c.in_ok-input.input) _ input
    c.copy_front-status.result.written c.copy_front-status.ensures.fault)
    c.in_err-count.ensures.fault)

pub returns-clause-ok : goal.returns-clause-ok
returns-clause-ok g c =
    let old = g.H.Host.world c.args.host.now in
    let r = c.args.request.now in
    let count = c.in_ok-count.count in
    let status = c.copy_front-status.result.status in
    let opened = g.H.Input.Read.remaining c.in_ok-input.input in
    let blank = g.H.Output.Write.contents c.in_ok-file.file in
    let contents = g.H.Output.Write.contents c.copy_front-status.new.writer in
    all_made old (g.H.Host.world c.create_file.new.self) (Salvage r) r.output refl c.create_file.ensures.files c.create_file.ensures.silent c.in_ok-file.ensures.created
    (g.H.Host.world c.commit.new.host) c.commit.ensures.silent c.commit.ensures.created (line (codes "kept") (codes " datagrams") count) status blank contents c.in_ok-file.ensures.blank
    (salvaged old.files r opened blank contents status count c.in_ok-input.ensures.input.bytes
    (committed c.copy_front-status.result.written count (HasSalvaged opened blank contents status) c.in_ok-count.ensures.count c.copy_front-status.ensures.salvaged))
    c.in_ok-count.ensures.kept c.in_ok-count.ensures.free _ refl refl
