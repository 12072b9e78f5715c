use Rattle.std.proofs.Common.{◌∙◌, sym, ap, arith, List, ℕ, Ok, Some, None}
use Rattle.std.proofs.lemmas.Result.{err_from_is_err_and}
use Rattle.partition.specs.Fti.{Fti}
use Rattle.partition.specs.FtiFault.{fti_fault}
use Rattle.alc.specs.Packet.{Packet}
use Rattle.alc.proofs.Parsing.{read_walked, read_invalid, read_short, read_whole, ext_is}
use Rattle.alc.proofs.reading.parse.Goals as goal

pub returns-in_err-content : goal.returns-in_err-content
returns-in_err-content c =
    let p = err_from_is_err_and c.from_residual-in_err-content.result c.from_residual-in_err-content.ensures.1 in
    let lies = c.in_ok-header.ensures.found in
    rw (p.1, p.2) (read_walked c.args.datagram.now _ _ lies.passed (ext_is c.args.datagram.now c.in_ok-header.header lies) c.in_err-content.ensures.fault)

pub returns-then-datagram-header : goal.returns-then-datagram-header
returns-then-datagram-header c =
    let lies = c.in_ok-header.ensures.found in
    let d : List ℕ = c.args.datagram.now in
    read_short d _ None lies.passed (ext_is d c.in_ok-header.header lies) (rw c.in_default.is at c.in_ok-content.ensures.found)
    (λ payload. absurd (omega (arith, lies.end, c.if-datagram-header.true, payload.payload_id, payload.symbol)))

pub returns-in_default : goal.returns-in_default
returns-in_default c =
    let lies = c.in_ok-header.ensures.found in
    let d : List ℕ = c.args.datagram.now in
    read_whole d _ None lies.passed (ext_is d c.in_ok-header.header lies) (rw c.in_default.is at c.in_ok-content.ensures.found)
    (record { payload_id = omega (arith, lies.end, c.if-datagram-header.false); symbol = omega (arith, lies.end, c.if-datagram-header.false) })
    ∙ ap (λ (p : Packet). Ok p) (sym c.packet_with_fti.ensures)

pub returns-in_err-fti : goal.returns-in_err-fti
returns-in_err-fti c =
    let p = err_from_is_err_and c.from_residual-in_err-fti.result c.from_residual-in_err-fti.ensures.1 in
    let lies = c.in_ok-header.ensures.found in
    rw (p.1, p.2)
    (read_invalid c.args.datagram.now _ c.in-Some.content.now _ lies.passed (ext_is c.args.datagram.now c.in_ok-header.header lies) (rw c.in-Some.is at c.in_ok-content.ensures.found) c.in_err-fti.ensures.fault)

pub returns-then-datagram-header-2 : goal.returns-then-datagram-header-2
returns-then-datagram-header-2 c =
    let lies = c.in_ok-header.ensures.found in
    let d : List ℕ = c.args.datagram.now in
    let f : Fti = c.in_ok-fti.fti in
    read_short d _ (Some f) lies.passed (ext_is d c.in_ok-header.header lies)
    (c.in-Some.content.now, rw c.in-Some.is at c.in_ok-content.ensures.found, sym c.in_ok-fti.ensures.numbers, ap fti_fault c.in_ok-fti.ensures.numbers ∙ c.in_ok-fti.ensures.no_fault)
    (λ payload. absurd (c.if-datagram-header-2.true (omega (arith, lies.end, c.from.ensures, c.symbol_length.ensures.value, payload.payload_id, payload.symbol))))

pub returns : goal.returns
returns c =
    let lies = c.in_ok-header.ensures.found in
    let d : List ℕ = c.args.datagram.now in
    let f : Fti = c.in_ok-fti.fti in
    read_whole d _ (Some f) lies.passed (ext_is d c.in_ok-header.header lies)
    (c.in-Some.content.now, rw c.in-Some.is at c.in_ok-content.ensures.found, sym c.in_ok-fti.ensures.numbers, ap fti_fault c.in_ok-fti.ensures.numbers ∙ c.in_ok-fti.ensures.no_fault)
    (record { payload_id = omega (arith, lies.end, c.if-datagram-header-2.false); symbol = omega (arith, lies.end, c.from.ensures, c.symbol_length.ensures.value, c.if-datagram-header-2.false) })
    ∙ ap (λ (p : Packet). Ok p) (sym c.packet_with_fti-2.ensures)
