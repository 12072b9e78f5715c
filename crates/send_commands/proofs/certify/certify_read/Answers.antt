use Rattle.std.proofs.Common.{refl, sym, ap, codes}
use Rattle.encoder.specs.ObjectRead.{ReadsObject}
use Rattle.request.specs.declared.requests.Request.TheVariants.{Certify}
use Rattle.certificate.specs.declared.certificate.CertFault.TheVariants.{Io}
use Rattle.commands.specs.declared.fault.Fault.TheVariants.{Certificate as NoCertificate}
use Rattle.commands.specs.Doing.{text_of}
use Rattle.send_commands.specs.Certifying.{WritesCertificate}
use Rattle.commands.proofs.Holding.{committed, is_there}
use Rattle.commands.proofs.Stopping.{all_made, gives_output, passed_on, uncommitted}
use Rattle.send_commands.proofs.Given.{line, certified_read}
use Rattle.send_commands.proofs.Unsent.{because_uncertified}
use Rattle.send_commands.proofs.certify.certify_read.Goals as goal

pub returns-in_err-count-clause-fault : goal.returns-in_err-count-clause-fault
returns-in_err-count-clause-fault g c =
    let old = g.H.Host.world c.args.host.now in
    let r = c.args.request.now in
    let left = g.R.Read.remaining c.args.input.now in
    let blank = g.H.Output.Write.contents c.in_ok-file.file in
    let contents = g.H.Output.Write.contents c.write_read-written.new.writer in
    let fault = c.in_err-count.field-0.0 in
    passed_on c.from_residual-in_err-count.result fault _ c.from_residual-in_err-count.ensures.1
    (uncommitted old (g.H.Host.world c.create_file.new.self) (Certify r) r.output refl c.create_file.ensures.files c.create_file.ensures.silent c.in_ok-file.ensures.created
    (g.H.Host.world c.commit.new.host) c.commit.ensures.silent c.commit.ensures.created (is_there old.files r.object.now left c.requires.opened.bytes, tt) c.in_err-count.ensures.files
    (NoCertificate Io) (λ may more. (r.output, refl, may, refl, more)) c.write_read-written.result fault
    (λ n is. gives_output old.files (Certify r) (line (codes "certified") (codes " blocks") n) 0 blank contents
    (certified_read old.files blank contents n r c.args.fti.now left c.requires.opened.bytes c.requires.sizes
    (committed c.write_read-written.result n (λ n. ReadsObject c.args.fti.now left (λ object. WritesCertificate object c.args.fti.now r.identity n blank contents)) is c.write_read-written.ensures.written)))
    (because_uncertified old (g.H.Host.world c.commit.new.host) r c.args.fti.now left (g.R.Read.sound c.args.input.now) c.requires.opened c.requires.length
    c.write_read-written.result c.write_read-written.ensures.fault)
    c.in_err-count.ensures.fault)

pub returns-clause-ok : goal.returns-clause-ok
returns-clause-ok g c =
    let old = g.H.Host.world c.args.host.now in
    let r = c.args.request.now in
    let count = c.in_ok-count.count in
    let left = g.R.Read.remaining c.args.input.now in
    let blank = g.H.Output.Write.contents c.in_ok-file.file in
    let contents = g.H.Output.Write.contents c.write_read-written.new.writer in
    all_made old (g.H.Host.world c.create_file.new.self) (Certify r) r.output refl c.create_file.ensures.files c.create_file.ensures.silent c.in_ok-file.ensures.created
    (g.H.Host.world c.commit.new.host) c.commit.ensures.silent c.commit.ensures.created (line (codes "certified") (codes " blocks") count) 0 blank contents c.in_ok-file.ensures.blank
    (certified_read old.files blank contents count r c.args.fti.now left c.requires.opened.bytes c.requires.sizes
    (committed c.write_read-written.result count (λ n. ReadsObject c.args.fti.now left (λ object. WritesCertificate object c.args.fti.now r.identity n blank contents))
    c.in_ok-count.ensures.count c.write_read-written.ensures.written))
    c.in_ok-count.ensures.kept c.in_ok-count.ensures.free _ (ap text_of (sym c.counted.ensures.told)) (sym c.counted.ensures.status)
