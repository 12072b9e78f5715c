use Rattle.std.proofs.Common.{refl, sym, ap, codes}
use Rattle.session.specs.Thinning.{IsThinned}
use Rattle.session.specs.declared.frame.FrameFault.TheVariants.{Io}
use Rattle.request.specs.declared.requests.Request.TheVariants.{Drop}
use Rattle.commands.specs.declared.fault.Fault.TheVariants.{Frame}
use Rattle.commands.specs.Doing.{text_of}
use Rattle.send_commands.proofs.Dropped.{because_unthinned, dropped, may_create, unplaced}
use Rattle.send_commands.proofs.Given.{line}
use Rattle.commands.proofs.Stopping.{all_made, gives_output, passed_on, uncommitted}
use Rattle.send_commands.proofs.drop.drop_places.Goals as goal
use Rattle.commands.proofs.Holding.{committed}

pub returns-in_err-ranges-clause-fault : goal.returns-in_err-ranges-clause-fault
returns-in_err-ranges-clause-fault g c =
    let fault = c.in_err-ranges.field-0.0 in
    passed_on c.from_residual-in_err-ranges.result fault _ c.from_residual-in_err-ranges.ensures.1
    (unplaced (g.H.Host.world c.args.host.now) c.args.request.now (g.H.Input.Read.remaining c.in_ok-input.input) c.in_ok-input.ensures.input.bytes fault c.in_err-ranges.ensures.fault)

pub returns-in_err-count-clause-fault : goal.returns-in_err-count-clause-fault
returns-in_err-count-clause-fault g c =
    let old = g.H.Host.world c.args.host.now in
    let new = g.H.Host.world c.commit.new.host in
    let r = c.args.request.now in
    let opened = g.H.Input.Read.remaining c.in_ok-input.input in
    let left = g.H.Input.Read.remaining c.thin_out-thinned.new.reader in
    let held = c.in_ok-input.ensures.input.bytes in
    let all = c.in_ok-ranges.ranges.items in
    let are = c.in_ok-ranges.ensures.ok in
    let blank = g.H.Output.Write.contents c.in_ok-file.file in
    let contents = g.H.Output.Write.contents c.thin_out-thinned.new.writer in
    let fault = c.in_err-count.field-0.0 in
    passed_on c.from_residual-in_err-count.result fault _ c.from_residual-in_err-count.ensures.1
    (uncommitted old (g.H.Host.world c.create_file.new.self) (Drop r) r.output refl c.create_file.ensures.files c.create_file.ensures.silent c.in_ok-file.ensures.created
    new c.commit.ensures.silent c.commit.ensures.created (may_create old r opened held all are) c.in_err-count.ensures.files
    (Frame Io) (λ may more. (r.output, refl, may, refl, more)) c.thin_out-thinned.result fault
    (λ n is. gives_output old.files (Drop r) (line (codes "kept") (codes " datagrams") n) 0 blank contents
    (dropped old.files r all opened left blank contents n are held
    (committed c.thin_out-thinned.result n (IsThinned all opened left blank contents) is (rw c.as_slice.ensures.value at c.thin_out-thinned.ensures.thinned))))
    (because_unthinned old r opened held all are new _ _ _ _ _ c.thin_out-thinned.result (rw c.as_slice.ensures.value at c.thin_out-thinned.ensures.fault))
    c.in_err-count.ensures.fault)

pub returns-clause-ok : goal.returns-clause-ok
returns-clause-ok g c =
    let old = g.H.Host.world c.args.host.now in
    let r = c.args.request.now in
    let count = c.in_ok-count.count in
    let opened = g.H.Input.Read.remaining c.in_ok-input.input in
    let left = g.H.Input.Read.remaining c.thin_out-thinned.new.reader in
    let all = c.in_ok-ranges.ranges.items in
    let blank = g.H.Output.Write.contents c.in_ok-file.file in
    let contents = g.H.Output.Write.contents c.thin_out-thinned.new.writer in
    all_made old (g.H.Host.world c.create_file.new.self) (Drop r) r.output refl c.create_file.ensures.files c.create_file.ensures.silent c.in_ok-file.ensures.created
    (g.H.Host.world c.commit.new.host) c.commit.ensures.silent c.commit.ensures.created (line (codes "kept") (codes " datagrams") count) 0 blank contents c.in_ok-file.ensures.blank
    (dropped old.files r all opened left blank contents count c.in_ok-ranges.ensures.ok c.in_ok-input.ensures.input.bytes
    (committed c.thin_out-thinned.result count (IsThinned all opened left blank contents) c.in_ok-count.ensures.count (rw c.as_slice.ensures.value at c.thin_out-thinned.ensures.thinned)))
    c.in_ok-count.ensures.kept c.in_ok-count.ensures.free _ (ap text_of (sym c.counted.ensures.told)) (sym c.counted.ensures.status)
