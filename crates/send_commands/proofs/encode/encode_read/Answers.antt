use Rattle.std.proofs.Common.{refl, sym, codes}
use Rattle.encoder.specs.ObjectRead.{ReadsObject}
use Rattle.request.specs.declared.requests.Request.TheVariants.{Encode}
use Rattle.encoder.specs.declared.sending.SendFault.TheVariants.{Io}
use Rattle.commands.specs.declared.fault.Fault.TheVariants.{Send}
use Rattle.send_commands.specs.Sending.{WritesSession, where_empty}
use Rattle.commands.proofs.Holding.{committed, is_there}
use Rattle.commands.proofs.Stopping.{all_made, gives_output, passed_on, uncommitted}
use Rattle.send_commands.proofs.Given.{line, encoded_read}
use Rattle.send_commands.proofs.Making.{blank_where_empty}
use Rattle.send_commands.proofs.Unsent.{because_unsent_from}
use Rattle.send_commands.proofs.encode.encode_read.Goals as goal

pub returns-in_err-count-clause-fault : goal.returns-in_err-count-clause-fault
returns-in_err-count-clause-fault g c =
    let old = g.H.Host.world c.args.host.now in
    let r = c.args.request.now in
    let left = g.R.Read.remaining c.args.input.now in
    let blank = where_empty (g.H.Output.Write.contents c.in_ok-file.file) in
    let contents = g.H.Output.Write.contents c.send_read-sent.new.writer in
    let fault = c.in_err-count.field-0.0 in
    passed_on c.from_residual-in_err-count.result fault _ c.from_residual-in_err-count.ensures.1
    (uncommitted old (g.H.Host.world c.create_file.new.self) (Encode r) r.output refl c.create_file.ensures.files c.create_file.ensures.silent c.in_ok-file.ensures.created
    (g.H.Host.world c.commit.new.host) c.commit.ensures.silent c.commit.ensures.created (is_there old.files r.object.now left c.requires.opened.bytes, tt) c.in_err-count.ensures.files
    (Send Io) (λ may more. (r.output, refl, may, refl, more)) c.send_read-sent.result fault
    (λ n is. gives_output old.files (Encode r) (line (codes "encoded") (codes " datagrams") n) 0 blank contents
    (encoded_read old.files blank contents n r c.args.fti.now left c.requires.opened.bytes c.requires.sizes
    (committed c.send_read-sent.result n (λ n. ReadsObject c.args.fti.now left (λ object. WritesSession object c.args.fti.now r.sending n blank contents)) is c.send_read-sent.ensures.sent)))
    (because_unsent_from old (g.H.Host.world c.commit.new.host) r c.args.fti.now left (g.R.Read.sound c.args.input.now) c.requires.opened c.requires.length c.requires.sizes
    c.send_read-sent.result c.send_read-sent.ensures.fault)
    c.in_err-count.ensures.fault)

pub returns-clause-ok : goal.returns-clause-ok
returns-clause-ok g c =
    let old = g.H.Host.world c.args.host.now in
    let r = c.args.request.now in
    let count = c.in_ok-count.count in
    let left = g.R.Read.remaining c.args.input.now in
    let blank = where_empty (g.H.Output.Write.contents c.in_ok-file.file) in
    let contents = g.H.Output.Write.contents c.send_read-sent.new.writer in
    all_made old (g.H.Host.world c.create_file.new.self) (Encode r) r.output refl c.create_file.ensures.files c.create_file.ensures.silent c.in_ok-file.ensures.created
    (g.H.Host.world c.commit.new.host) c.commit.ensures.silent c.commit.ensures.created (line (codes "encoded") (codes " datagrams") count) 0 blank contents
    (blank_where_empty old.files (g.H.Output.Write.contents c.in_ok-file.file) c.in_ok-file.ensures.blank)
    (encoded_read old.files blank contents count r c.args.fti.now left c.requires.opened.bytes c.requires.sizes
    (committed c.send_read-sent.result count (λ n. ReadsObject c.args.fti.now left (λ object. WritesSession object c.args.fti.now r.sending n blank contents))
    c.in_ok-count.ensures.count c.send_read-sent.ensures.sent))
    c.in_ok-count.ensures.kept c.in_ok-count.ensures.free _ (sym c.sent_of.ensures.told) (sym c.sent_of.ensures.status)
