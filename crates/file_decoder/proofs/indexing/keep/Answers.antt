use Rattle.std.proofs.Common.{◌∙◌, sym, ap, refl}
use Rattle.std.specs.Prelude.{not}
use Rattle.std.proofs.lemmas.Result.{IfOk-weaker}
use Rattle.alc.specs.Views.{packet_of}
use Rattle.reception.specs.Reception.{symbol_of}
use Rattle.file_decoder.specs.InFile.{held_in}
use Rattle.block_recovery.specs.Received.{came_at}
use Rattle.block_recovery.proofs.Index.{clash_none, clash_some, pointwise_same}
use Rattle.file_decoder.proofs.Indexed.{more_placed, listed_placed}
use Rattle.file_decoder.proofs.indexing.keep.Goals as goal

pub returns-in-Some-clause-clash : goal.returns-in-Some-clause-clash
returns-in-Some-clause-clash g c = λ x told placed.
    let was = rw c.in-Some.is at c.in_ok-earlier.ensures.earlier in
    let before = held_in x c.in-Some.earlier in
    IfOk-weaker c.is_symbol.result _ _
    (λ same e earlier index.
    sym (clash_some (symbol_of (packet_of c.args.packet.now)) earlier (came_at (held_in x) c.args.symbols.now) before index (was.0 (held_in x)))
    ∙ ap not (pointwise_same before c.args.packet.now.symbol.now ∙ sym e))
    (c.is_symbol.ensures.same x told (listed_placed x c.args.scope.now c.args.symbols.now placed c.args.packet.now.sbn c.args.packet.now.esi c.in-Some.earlier was.1))

pub returns-in-None-clause-clash : goal.returns-in-None-clause-clash
returns-in-None-clause-clash g c = λ x told placed earlier index.
    let free = rw c.in-None.is at c.in_ok-earlier.ensures.free in
    sym (clash_none (symbol_of (packet_of c.args.packet.now)) earlier (came_at (held_in x) c.args.symbols.now) index (free refl (held_in x)))

pub returns-in-None-clause-placed : goal.returns-in-None-clause-placed
returns-in-None-clause-placed g c = λ x placed here.
    let more = rw c.in-None.is at c.in_ok-earlier.ensures.more in
    more_placed x c.args.scope.now c.args.symbols.now c.put.new.self c.args.packet.now.sbn (record { esi = c.args.packet.now.esi; symbol = c.args.place }) placed here
    (more refl) c.in_ok-earlier.ensures.others
