use Rattle.std.proofs.Common.{refl, sym, ap, codes}
use Rattle.request.specs.declared.requests.Request.TheVariants.{Convert}
use Rattle.send_commands.specs.Converted.{Converts}
use Rattle.commands.specs.Doing.{text_of}
use Rattle.certificate.specs.declared.certificate.CertFault.TheVariants.{Io}
use Rattle.commands.specs.declared.fault.Fault.TheVariants.{Certificate as NoCertificate}
use Rattle.send_commands.proofs.Conversions.{because_unconverted}
use Rattle.send_commands.proofs.Given.{line, converted}
use Rattle.commands.proofs.Stopping.{all_made, gives_output, passed_on, uncommitted}
use Rattle.send_commands.proofs.convert.convert.Goals as goal
use Rattle.commands.proofs.Holding.{committed, is_there}

pub returns-in_err-count-clause-fault : goal.returns-in_err-count-clause-fault
returns-in_err-count-clause-fault g c =
    let old = g.H.Host.world c.args.host.now in
    let new = g.H.Host.world c.commit.new.host in
    let r = c.args.request.now in
    let left = g.H.Input.Read.remaining c.in_ok-input.input in
    let input = c.in_ok-input.ensures.input in
    let blank = g.H.Output.Write.contents c.in_ok-file.file in
    let contents = g.H.Output.Write.contents c.convert_file-converted.new.writer in
    let fault = c.in_err-count.field-0.0 in
    passed_on c.from_residual-in_err-count.result fault _ c.from_residual-in_err-count.ensures.1
    (uncommitted old (g.H.Host.world c.create_file.new.self) (Convert r) r.output refl c.create_file.ensures.files c.create_file.ensures.silent c.in_ok-file.ensures.created
    new c.commit.ensures.silent c.commit.ensures.created (is_there old.files r.certificate.now left input.bytes, tt) c.in_err-count.ensures.files
    (NoCertificate Io) (λ may more. (r.output, refl, may, refl, more)) c.convert_file-converted.result fault
    (λ n is. gives_output old.files (Convert r) (line (codes "converted") (codes " blocks") n) 0 blank contents
    (converted old.files blank contents n r left input.bytes (committed c.convert_file-converted.result n (Converts r.identity left blank contents) is c.convert_file-converted.ensures.converted)))
    (because_unconverted old new r left (g.H.Input.Read.sound c.in_ok-input.input) input c.convert_file-converted.result c.convert_file-converted.ensures.fault)
    c.in_err-count.ensures.fault)

pub returns-clause-ok : goal.returns-clause-ok
returns-clause-ok g c =
    let old = g.H.Host.world c.args.host.now in
    let r = c.args.request.now in
    let count = c.in_ok-count.count in
    let left = g.H.Input.Read.remaining c.in_ok-input.input in
    let blank = g.H.Output.Write.contents c.in_ok-file.file in
    let contents = g.H.Output.Write.contents c.convert_file-converted.new.writer in
    all_made old (g.H.Host.world c.create_file.new.self) (Convert r) r.output refl c.create_file.ensures.files c.create_file.ensures.silent c.in_ok-file.ensures.created
    (g.H.Host.world c.commit.new.host) c.commit.ensures.silent c.commit.ensures.created (line (codes "converted") (codes " blocks") count) 0 blank contents c.in_ok-file.ensures.blank
    (converted old.files blank contents count r left c.in_ok-input.ensures.input.bytes
    (committed c.convert_file-converted.result count (Converts r.identity left blank contents) c.in_ok-count.ensures.count c.convert_file-converted.ensures.converted))
    c.in_ok-count.ensures.kept c.in_ok-count.ensures.free _ (ap text_of (sym c.counted.ensures.told)) (sym c.counted.ensures.status)
