use Rattle.std.proofs.Common.{◌≡◌, ◌-◌, ◌∙◌, ap, List, ℕ, length, take, drop, get_or}
use Rattle.std.proofs.lemmas.List.{take_rest}
use Rattle.byteorder.specs.Endian.{big_from}
use Rattle.alc.proofs.Parsing.{fields_are}
use Rattle.alc.proofs.reading.packet_with_fti.Goals as goal

pub returns : goal.returns
returns c =
    let d : List ℕ = c.args.datagram.now in
    let payload : take (length d - c.args.header.end) (drop c.args.header.end d) ≡ drop c.args.header.end d = take_rest d c.args.header.end in
    fields_are d c.args.header c.args.fti _ _ _ _ _ c.requires.lies c.requires.size
    (c.read_uint.ensures ∙ ap (big_from 0 (c.args.header.toi - c.args.header.tsi)) (take_rest d c.args.header.tsi))
    (c.read_uint128.ensures ∙ ap (big_from 0 (c.args.header.extensions - c.args.header.toi)) (take_rest d c.args.header.toi))
    (c.read_u24.ensures ∙ ap (big_from 0 3) payload)
    (ap (λ (x : List ℕ). get_or x 3 0) payload)
    (take_rest (take (length d - c.args.header.end) (drop c.args.header.end d)) 4 ∙ ap (drop 4) payload)
