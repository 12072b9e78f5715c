use Rattle.std.proofs.Common.{ℕ, List, Option, ap, option_map, subst}
use Rattle.host.specs.World.{Replaces}
use Rattle.request.specs.declared.requests.Output.{Output}
use Rattle.request.specs.declared.requests.Request.TheVariants.{Check}
use Rattle.check_commands.specs.Checks.{TellsRequest}
use Rattle.check_commands.specs.declared.drawing.Drawn.{Drawn}
use Rattle.commands.proofs.Stopping.{passed_on, unkept}
use Rattle.check_commands.proofs.Pictured.{named, may_draw, output_named, pictured, unpictured}
use Rattle.check_commands.proofs.check.check.Goals as goal

pub returns-in_err-write_output-in-Some-clause-fault : goal.returns-in_err-write_output-in-Some-clause-fault
returns-in_err-write_output-in-Some-clause-fault g c =
    let w = g.H.Host.world c.args.host.now in
    let new = g.H.Host.world c.write_output.new.host in
    let r = c.args.request.now in
    let done = c.in_ok-done.field-0.done in
    let drawn = c.in-Some.drawn in
    let tells = subst (λ (p : Option Drawn). TellsRequest w.files r (record { done = done; picture = p })) c.in-Some.is c.in_ok-done.ensures.ok in
    let is = named w new r done drawn tells in
    let fault = c.in_err-write_output-in-Some.field-0.0 in
    passed_on c.from_residual-in_err-write_output-in-Some.result fault _ c.from_residual-in_err-write_output-in-Some.ensures.1
    (unkept w new (Check r) (output_named r.no_clobber drawn.name) is c.in_err-write_output-in-Some.ensures.files c.write_output.ensures.silent
    (may_draw w new r done drawn tells) (may_draw w new r done drawn tells) _ fault (λ may more. (output_named r.no_clobber drawn.name, is, may, ap (option_map (λ (o : Output). o.name.now)) is, more)) c.in_err-write_output-in-Some.ensures.fault)

pub returns-in_ok-write_output-in-Some-clause-ok : goal.returns-in_ok-write_output-in-Some-clause-ok
returns-in_ok-write_output-in-Some-clause-ok g c =
    let w = g.H.Host.world c.args.host.now in
    let r = c.args.request.now in
    let done = c.in_ok-done.field-0.done in
    let tells = subst (λ (p : Option Drawn). TellsRequest w.files r (record { done = done; picture = p })) c.in-Some.is c.in_ok-done.ensures.ok in
    let new = g.H.Host.world c.write_output.new.host in
    let made = subst (λ (bytes : List ℕ). Replaces w.files new.files c.in-Some.drawn.name.now bytes) c.as_bytes.ensures.value c.in_ok-write_output-in-Some.ensures.made in
    pictured w new r done c.in-Some.drawn tells made
    c.in_ok-write_output-in-Some.ensures.created c.in_ok-write_output-in-Some.ensures.free c.write_output.ensures.silent.printed

pub returns-in-None-clause-ok : goal.returns-in-None-clause-ok
returns-in-None-clause-ok g c =
    let w = g.H.Host.world c.args.host.now in
    let r = c.args.request.now in
    let done = c.in_ok-done.field-0.done in
    unpictured w r done (subst (λ (p : Option Drawn). TellsRequest w.files r (record { done = done; picture = p })) c.in-None.is c.in_ok-done.ensures.ok)
