use Rattle.std.specs.Prelude.{is_some, not}
use Rattle.std.proofs.Common.{◌∙◌, ap, sym}
use Rattle.block_recovery.proofs.Arrived.{some_arrived, some_length}
use Rattle.block_recovery.proofs.symbols.Symbols.has_some.Goals as goal

pub returns-in-Some-clause-some : goal.returns-in-Some-clause-some
returns-in-Some-clause-some g c = λ some held.
    let came = c.in-Some.arrivals.now in
    let there = some_arrived held came (some_length came (ap not (sym c.is_empty.ensures) ∙ some)) in
    (there.0, ap is_some (sym (c.in-Some.ensures.some held there.0)) ∙ there.1)
