use Rattle.std.proofs.Common.{refl}
use Rattle.receive_commands.proofs.Followed.{prepared, unprepared}
use Rattle.receive_commands.proofs.follow.prepare.Goals as goal

pub returns-in-Err-clause-prepared : goal.returns-in-Err-clause-prepared
returns-in-Err-clause-prepared g c = λ old before after is one short.
    unprepared c.args.request.now old (g.H.Host.world c.args.host.now) before after c.args.datagram.now c.args.followed is one short
    (c.if-not-wants_output.ensures.carrier refl) (c.if-not-wants_output.ensures.output refl) (g.H.Host.world c.create_file.new.self) c.create_file.ensures.files c.create_file.ensures.silent
    c.in-Err.ensures.none

pub returns-clause-prepared : goal.returns-clause-prepared
returns-clause-prepared g c = λ old before after is one short.
    prepared c.args.request.now old (g.H.Host.world c.args.host.now) before after c.args.datagram.now c.args.followed is one short
    (c.if-not-wants_output.ensures.carrier refl) (c.if-not-wants_output.ensures.output refl) (g.H.Host.world c.create_file.new.self) c.create_file.ensures.files c.create_file.ensures.silent
    (g.H.Output.Write.contents c.in-Ok.output) c.in-Ok.ensures.blank c.in-Ok.ensures.created
    c.with_output.result c.with_output.ensures.receiving c.with_output.ensures.output c.with_output.ensures.stands
