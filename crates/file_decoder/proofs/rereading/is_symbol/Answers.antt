use Rattle.std.proofs.Common.{◌∙◌, ℕ, List, ap}
use Rattle.std.specs.Str.{bytes_eq}
use Rattle.block_recovery.proofs.Index.{pointwise_same}
use Rattle.file_decoder.specs.InFile.{symbol_in}
use Rattle.file_decoder.proofs.rereading.is_symbol.Goals as goal

pub returns-in-Some-clause-same : goal.returns-in-Some-clause-same
returns-in-Some-clause-same g c = λ x told is.
    let symbol = c.in-Some.ensures.symbol ∙ ap symbol_in (c.deref.ensures.value ∙ c.in_ok-datagram.ensures.bytes x told is.inside) in
    c.eq.ensures ∙ pointwise_same c.in-Some.symbol.now c.args.packet.now.symbol.now
    ∙ ap (λ (bytes : List ℕ). bytes_eq bytes c.args.packet.now.symbol.now) symbol
