use Rattle.std.proofs.Common.{◌∙◌, Option, refl, ap, subst}
use Rattle.std.specs.Io.KnownBytes.{Appends}
use Rattle.cert.specs.TwinBytes.{twin_bytes}
use Rattle.request.specs.declared.requests.Request.TheVariants.{Twin}
use Rattle.commands.specs.declared.done.Told.TheVariants.{Lines}
use Rattle.host.specs.World.{Files, IsFree}
use Rattle.commands.proofs.Stopping.{passed_on, uncommitted}
use Rattle.check_commands.proofs.TwinnedFiles.{may_make, same_ok, short_made, unwritten_again}
use Rattle.commands.specs.Wholes.{content_of}
use Rattle.check_commands.proofs.twin.write_short.Goals as goal
use Rattle.commands.proofs.Holding.{committed}

pub returns-in_err-commit-clause-fault : goal.returns-in_err-commit-clause-fault
returns-in_err-commit-clause-fault g c =
    let old = g.H.Host.world c.args.host.now in
    let mid = g.H.Host.world c.create_file.new.self in
    let new = g.H.Host.world c.commit.new.host in
    let r = c.args.request.now in
    let may = may_make r c.args.short.now old.files c.requires.found in
    let fault = c.in_err-commit.field-0.0 in
    passed_on c.from_residual-in_err-commit.result fault _ c.from_residual-in_err-commit.ensures.1
    (uncommitted old mid (Twin r) r.output refl c.create_file.ensures.files c.create_file.ensures.silent c.in_ok-file.ensures.created
    new c.commit.ensures.silent c.commit.ensures.created may c.in_err-commit.ensures.files _ (λ may more. (r.output, refl, may, refl, more))
    c.if_unchanged-written.result fault (λ n is. may)
    (unwritten_again r c.args.short.now old new c.requires.found _ _ c.requires.object c.write_other-written.result c.write_other-written.ensures.fault
    c.if_unchanged-written.result c.if_unchanged-written.ensures.fault)
    c.in_err-commit.ensures.fault)

pub returns-clause-ok : goal.returns-clause-ok
returns-clause-ok g c =
    let r = c.args.request.now in
    let short = c.args.short.now in
    let blank = g.H.Output.Write.contents c.in_ok-file.file in
    let contents = g.H.Output.Write.contents c.write_other-written.new.writer in
    short_made r short (g.H.Host.world c.args.host.now) (g.H.Host.world c.create_file.new.self) (g.H.Host.world c.commit.new.host) c.requires.found
    (content_of g.H.Input.ReadAt.content c.args.object.now) blank contents c.requires.object.bytes
    (λ o told long.
    committed c.write_other-written.result c.in_ok-commit.field-0 (λ n. Appends blank contents (twin_bytes short.fti short.block short.arrived_esis.items o))
    (same_ok c.write_other-written.result c.if_unchanged-written.result c.if_unchanged-written.ensures.ok c.in_ok-commit.field-0 c.in_ok-commit.ensures.count)
    (c.write_other-written.ensures.written o told long))
    c.write_other-written.ensures.some c.in_ok-file.ensures.blank c.create_file.ensures.files c.in_ok-commit.ensures.kept
    (c.commit.ensures.created ∙ c.in_ok-file.ensures.created)
    (subst (λ (f : Option Files). IsFree f r.output.name.now r.output.no_clobber) c.create_file.ensures.files c.in_ok-commit.ensures.free) (c.commit.ensures.silent.printed ∙ c.create_file.ensures.silent.printed)
    _ (ap Lines c.in_ok-twin_line.ensures) refl
