use Rattle.std.proofs.Common.{◌∙◌, ap, sym, refl}
use Rattle.std.specs.Prelude.{not}
use Rattle.alc.specs.Views.{packet_of}
use Rattle.reception.specs.Reception.{symbol_of}
use Rattle.block_recovery.specs.Received.{bytes_at}
use Rattle.block_recovery.proofs.Index.{clash_none, clash_some}
use Rattle.block_recovery.proofs.received.keep.Goals as goal

pub returns-in-Some-clause-clash : goal.returns-in-Some-clause-clash
returns-in-Some-clause-clash c = λ earlier index.
    let was = rw c.in-Some.is at c.in_ok-earlier.ensures.earlier in
    sym (clash_some (symbol_of (packet_of c.args.packet.now)) earlier (bytes_at c.args.symbols.now) c.in-Some.earlier.now index (was.0 (λ s. s.now))) ∙ ap not (sym c.eq.ensures)

pub returns-in-None-clause-clash : goal.returns-in-None-clause-clash
returns-in-None-clause-clash c = λ earlier index.
    let free = rw c.in-None.is at c.in_ok-earlier.ensures.free in
    sym (clash_none (symbol_of (packet_of c.args.packet.now)) earlier (bytes_at c.args.symbols.now) index (free refl (λ s. s.now)))
