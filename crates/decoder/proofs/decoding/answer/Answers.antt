use Rattle.block_recovery.specs.Received.{bytes_at}
use Rattle.decoder.proofs.Answering.{are_within, in_range}
use Rattle.decoder.proofs.decoding.answer.Goals as goal

pub invariant_of-coded : goal.invariant_of-coded
invariant_of-coded c =
    let f = c.args.received.now.fti in
    let at = bytes_at c.args.received.now.symbols in
    record { code = ∣ c.in_ok-codes.ensures ∣₁; range = in_range f at (are_within f at c.requires.stand); stand = λ _. ∣ c.requires.stand ∣₁; bytes = λ _. c.requires.bytes }

pub decode_all-requires-clause-within : goal.decode_all-requires-clause-within
decode_all-requires-clause-within c = are_within c.args.received.now.fti (bytes_at c.args.received.now.symbols) c.requires.stand
