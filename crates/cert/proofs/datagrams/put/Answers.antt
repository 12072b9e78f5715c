use Rattle.std.proofs.Common.{List, sym, subst}
use Rattle.std.proofs.lemmas.Result.{on_ok_weaker}
use Rattle.losses.specs.Groups.{Group, groups_of}
use Rattle.alc.specs.Views.{packet_of}
use Rattle.reception.specs.Reception.{symbol_of}
use Rattle.cert.specs.Scan.{IsPut}
use Rattle.cert.proofs.Bridge.{put_is}
use Rattle.cert.proofs.datagrams.put.Goals as goal

pub returns : goal.returns
returns c =
    let symbol = symbol_of (packet_of c.args.packet.now) in
    on_ok_weaker c.push.result
    (λ e. subst (λ (groups : List Group). IsPut (groups_of c.args.groups.now) c.args.place symbol groups) (sym e) (put_is (groups_of c.args.groups.now) c.args.place symbol c.requires))
    c.push.ensures.pushed
