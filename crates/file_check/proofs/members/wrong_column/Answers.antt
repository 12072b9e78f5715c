use Rattle.std.proofs.Common.{rules, Bool, true, false, not, ◌≡◌, ◌∙◌, ◌+◌, ◌*◌, ◌<◌, ℕ, List, Ok, Err, length, take, drop, sym, ap, arith, length-take-le, length-drop}
use Rattle.std.specs.Prelude.{◌-◌}
use Rattle.std.proofs.Math.Bool.{beq}
use Rattle.alc.specs.Packet.{Packet}
use Rattle.alc.specs.Views.{packet_of}
use Rattle.partition.specs.Fti.{Fti, encoding_count}
use Rattle.reception.specs.Reception.{InRange, NoPacket, Other, OtherFti, Range, SymbolLength, is_carrier, look}
use Rattle.reception.specs.Step.{looked}
use Rattle.alc.specs.Computed.{read_of}
use Rattle.certified_symbols.specs.CertifiedSymbol.{IsCertifiedSymbol}
use Rattle.file_check.proofs.Carriers.{carrier_read}
use Rattle.file_check.proofs.Rereading.{whole, seen, is_known, row_is, row_inside, said_by_row}
use Rattle.file_check.proofs.members.wrong_column.Goals as goal

pub returns-in-Ok-Other-clause-lost : goal.returns-in-Ok-Other-clause-lost
returns-in-Ok-Other-clause-lost g c = λ x told inside packet was. (
    let f = c.requires.known.0 in
    let few : c.args.extent.length < 65536 = search rules in
    let size : length c.fill.new.buf ≡ c.args.extent.length = c.fill.auto.buf ∙ length-take-le c.from.result c.args.datagram.now (omega (arith, few, c.from.ensures, c.requires.room)) ∙ c.from.ensures in
    let d = whole x c.args.extent c.in_ok-fill.field-0 c.fill.new.buf size (omega (arith, c.if-branch-bytes.false)) (rw told at c.in_ok-fill.ensures.bytes) in
    let is : look c.args.scope.now (read_of c.fill.new.buf) ≡ Ok Other =
    seen c.args.scope.now c.fill.new.buf c.look.new.self c.look.result (is_known c.args.scope.now.fti f c.requires.known.1) c.look.ensures ∙ ap looked c.in-Ok-Other.is ∙ ap (λ l. looked (Ok l)) c.in-Ok-Other.field-0-is in
    let there : look c.args.scope.now (read_of c.fill.new.buf) ≡ Ok (InRange packet.packet) = ap (λ (l : List ℕ). look c.args.scope.now (read_of l)) d ∙ packet.look in
    absurd (cc))

pub returns-in-Ok-OtherFti-clause-lost : goal.returns-in-Ok-OtherFti-clause-lost
returns-in-Ok-OtherFti-clause-lost g c = λ x told inside packet was. (
    let f = c.requires.known.0 in
    let few : c.args.extent.length < 65536 = search rules in
    let size : length c.fill.new.buf ≡ c.args.extent.length = c.fill.auto.buf ∙ length-take-le c.from.result c.args.datagram.now (omega (arith, few, c.from.ensures, c.requires.room)) ∙ c.from.ensures in
    let d = whole x c.args.extent c.in_ok-fill.field-0 c.fill.new.buf size (omega (arith, c.if-branch-bytes.false)) (rw told at c.in_ok-fill.ensures.bytes) in
    let is : look c.args.scope.now (read_of c.fill.new.buf) ≡ Err OtherFti =
    seen c.args.scope.now c.fill.new.buf c.look.new.self c.look.result (is_known c.args.scope.now.fti f c.requires.known.1) c.look.ensures ∙ ap looked c.in-Ok-OtherFti.is ∙ ap (λ l. looked (Ok l)) c.in-Ok-OtherFti.field-0-is in
    let there : look c.args.scope.now (read_of c.fill.new.buf) ≡ Ok (InRange packet.packet) = ap (λ (l : List ℕ). look c.args.scope.now (read_of l)) d ∙ packet.look in
    absurd (cc))

pub returns-in-Ok-SymbolLength-clause-lost : goal.returns-in-Ok-SymbolLength-clause-lost
returns-in-Ok-SymbolLength-clause-lost g c = λ x told inside packet was. (
    let f = c.requires.known.0 in
    let few : c.args.extent.length < 65536 = search rules in
    let size : length c.fill.new.buf ≡ c.args.extent.length = c.fill.auto.buf ∙ length-take-le c.from.result c.args.datagram.now (omega (arith, few, c.from.ensures, c.requires.room)) ∙ c.from.ensures in
    let d = whole x c.args.extent c.in_ok-fill.field-0 c.fill.new.buf size (omega (arith, c.if-branch-bytes.false)) (rw told at c.in_ok-fill.ensures.bytes) in
    let is : look c.args.scope.now (read_of c.fill.new.buf) ≡ Err SymbolLength =
    seen c.args.scope.now c.fill.new.buf c.look.new.self c.look.result (is_known c.args.scope.now.fti f c.requires.known.1) c.look.ensures ∙ ap looked c.in-Ok-SymbolLength.is ∙ ap (λ l. looked (Ok l)) c.in-Ok-SymbolLength.field-0-is in
    let there : look c.args.scope.now (read_of c.fill.new.buf) ≡ Ok (InRange packet.packet) = ap (λ (l : List ℕ). look c.args.scope.now (read_of l)) d ∙ packet.look in
    absurd (cc))

pub returns-in-Ok-Range-clause-lost : goal.returns-in-Ok-Range-clause-lost
returns-in-Ok-Range-clause-lost g c = λ x told inside packet was. (
    let f = c.requires.known.0 in
    let few : c.args.extent.length < 65536 = search rules in
    let size : length c.fill.new.buf ≡ c.args.extent.length = c.fill.auto.buf ∙ length-take-le c.from.result c.args.datagram.now (omega (arith, few, c.from.ensures, c.requires.room)) ∙ c.from.ensures in
    let d = whole x c.args.extent c.in_ok-fill.field-0 c.fill.new.buf size (omega (arith, c.if-branch-bytes.false)) (rw told at c.in_ok-fill.ensures.bytes) in
    let is : look c.args.scope.now (read_of c.fill.new.buf) ≡ Err Range =
    seen c.args.scope.now c.fill.new.buf c.look.new.self c.look.result (is_known c.args.scope.now.fti f c.requires.known.1) c.look.ensures ∙ ap looked c.in-Ok-Range.is ∙ ap (λ l. looked (Ok l)) c.in-Ok-Range.field-0-is in
    let there : look c.args.scope.now (read_of c.fill.new.buf) ≡ Ok (InRange packet.packet) = ap (λ (l : List ℕ). look c.args.scope.now (read_of l)) d ∙ packet.look in
    absurd (cc))

pub returns-in-Err-clause-lost : goal.returns-in-Err-clause-lost
returns-in-Err-clause-lost g c = λ x told inside packet was. (
    let f = c.requires.known.0 in
    let few : c.args.extent.length < 65536 = search rules in
    let size : length c.fill.new.buf ≡ c.args.extent.length = c.fill.auto.buf ∙ length-take-le c.from.result c.args.datagram.now (omega (arith, few, c.from.ensures, c.requires.room)) ∙ c.from.ensures in
    let d = whole x c.args.extent c.in_ok-fill.field-0 c.fill.new.buf size (omega (arith, c.if-branch-bytes.false)) (rw told at c.in_ok-fill.ensures.bytes) in
    let is : look c.args.scope.now (read_of c.fill.new.buf) ≡ Err (NoPacket c.in-Err.field-0) =
    seen c.args.scope.now c.fill.new.buf c.look.new.self c.look.result (is_known c.args.scope.now.fti f c.requires.known.1) c.look.ensures ∙ ap looked c.in-Err.is in
    let there : look c.args.scope.now (read_of c.fill.new.buf) ≡ Ok (InRange packet.packet) = ap (λ (l : List ℕ). look c.args.scope.now (read_of l)) d ∙ packet.look in
    absurd (cc))

pub returns-then-packet-made-clause-lost : goal.returns-then-packet-made-clause-lost
returns-then-packet-made-clause-lost g c = λ x told inside packet was. (
    let f = c.requires.known.0 in
    let few : c.args.extent.length < 65536 = search rules in
    let size : length c.fill.new.buf ≡ c.args.extent.length = c.fill.auto.buf ∙ length-take-le c.from.result c.args.datagram.now (omega (arith, few, c.from.ensures, c.requires.room)) ∙ c.from.ensures in
    let d = whole x c.args.extent c.in_ok-fill.field-0 c.fill.new.buf size (omega (arith, c.if-branch-bytes.false)) (rw told at c.in_ok-fill.ensures.bytes) in
    let is : look c.args.scope.now (read_of c.fill.new.buf) ≡ Ok (InRange (packet_of c.in-Ok-InRange.packet)) =
    seen c.args.scope.now c.fill.new.buf c.look.new.self c.look.result (is_known c.args.scope.now.fti f c.requires.known.1) c.look.ensures ∙ ap looked c.in-Ok-InRange.is ∙ ap (λ l. looked (Ok l)) c.in-Ok-InRange.field-0-is in
    let there : look c.args.scope.now (read_of c.fill.new.buf) ≡ Ok (InRange packet.packet) = ap (λ (l : List ℕ). look c.args.scope.now (read_of l)) d ∙ packet.look in
    let same : packet_of c.in-Ok-InRange.packet ≡ packet.packet = cc in
    absurd (c.if-packet-made.true (ap (λ (p : Packet). p.block) same ∙ packet.block)))

pub returns-then-packet-esi-clause-lost : goal.returns-then-packet-esi-clause-lost
returns-then-packet-esi-clause-lost g c = λ x told inside packet was. (
    let f = c.requires.known.0 in
    let few : c.args.extent.length < 65536 = search rules in
    let size : length c.fill.new.buf ≡ c.args.extent.length = c.fill.auto.buf ∙ length-take-le c.from.result c.args.datagram.now (omega (arith, few, c.from.ensures, c.requires.room)) ∙ c.from.ensures in
    let d = whole x c.args.extent c.in_ok-fill.field-0 c.fill.new.buf size (omega (arith, c.if-branch-bytes.false)) (rw told at c.in_ok-fill.ensures.bytes) in
    let is : look c.args.scope.now (read_of c.fill.new.buf) ≡ Ok (InRange (packet_of c.in-Ok-InRange.packet)) =
    seen c.args.scope.now c.fill.new.buf c.look.new.self c.look.result (is_known c.args.scope.now.fti f c.requires.known.1) c.look.ensures ∙ ap looked c.in-Ok-InRange.is ∙ ap (λ l. looked (Ok l)) c.in-Ok-InRange.field-0-is in
    let there : look c.args.scope.now (read_of c.fill.new.buf) ≡ Ok (InRange packet.packet) = ap (λ (l : List ℕ). look c.args.scope.now (read_of l)) d ∙ packet.look in
    let same : packet_of c.in-Ok-InRange.packet ≡ packet.packet = cc in
    absurd (c.if-packet-esi.true (ap (λ (p : Packet). p.esi) same ∙ packet.esi)))

differ : (a b : Bool) → ◌≡◌ {A = Bool} a b → not (beq a b) ≡ true → ⊥
differ true true e h = absurd (cc)
differ false false e h = absurd (cc)
differ true false e h = absurd (cc)
differ false true e h = absurd (cc)

pub returns-then-is_some-carrier-clause-lost : goal.returns-then-is_some-carrier-clause-lost
returns-then-is_some-carrier-clause-lost g c = λ x told inside packet was. (
    let few : c.args.extent.length < 65536 = search rules in
    let size : length c.fill.new.buf ≡ c.args.extent.length = c.fill.auto.buf ∙ length-take-le c.from.result c.args.datagram.now (omega (arith, few, c.from.ensures, c.requires.room)) ∙ c.from.ensures in
    let d = whole x c.args.extent c.in_ok-fill.field-0 c.fill.new.buf size (omega (arith, c.if-branch-bytes.false)) (rw told at c.in_ok-fill.ensures.bytes) in
    let mine = carrier_read c.args.scope.now c.fill.new.buf c.look.new.self c.in-Ok-InRange.packet (rw (c.in-Ok-InRange.is, c.in-Ok-InRange.field-0-is) at c.look.ensures) in
    let same : c.is_some.result ≡ c.args.carrier = c.is_some.ensures ∙ sym mine ∙ ap (λ (l : List ℕ). is_carrier c.args.scope.now.identity (read_of l)) d ∙ sym was in
    absurd (differ c.is_some.result c.args.carrier same c.if-is_some-carrier.true))

pub overflow_mul-from : goal.overflow_mul-from
overflow_mul-from g c =
    let f = c.requires.known.0 in
    let w = row_inside c.args.scope.now c.fill.new.buf c.look.new.self c.in-Ok-InRange.packet f c.requires.known.1 (rw (c.in-Ok-InRange.is, c.in-Ok-InRange.field-0-is) at c.look.ensures) in
    let fits : length c.args.made.symbols.now < 18446744073709551616 = search rules in
    let room = c.requires.known.3 in
    let ends = rw (c.if-packet-made.false, c.if-packet-esi.false) at w.1 in
    rw (c.from-3.ensures, w.0) (omega (arith, ends, room, fits))

pub overflow_add-from : goal.overflow_add-from
overflow_add-from g c =
    let f = c.requires.known.0 in
    let w = row_inside c.args.scope.now c.fill.new.buf c.look.new.self c.in-Ok-InRange.packet f c.requires.known.1 (rw (c.in-Ok-InRange.is, c.in-Ok-InRange.field-0-is) at c.look.ensures) in
    let fits : length c.args.made.symbols.now < 18446744073709551616 = search rules in
    let room = c.requires.known.3 in
    let ends = rw (c.if-packet-made.false, c.if-packet-esi.false) at w.1 in
    rw (c.from-3.ensures, w.0) (omega (arith, ends, room, fits))

pub slice_bounds-first_difference-end : goal.slice_bounds-first_difference-end
slice_bounds-first_difference-end g c =
    let f = c.requires.known.0 in
    let w = row_inside c.args.scope.now c.fill.new.buf c.look.new.self c.in-Ok-InRange.packet f c.requires.known.1 (rw (c.in-Ok-InRange.is, c.in-Ok-InRange.field-0-is) at c.look.ensures) in
    let room = c.requires.known.3 in
    let ends = rw (c.if-packet-made.false, c.if-packet-esi.false) at w.1 in
    rw (c.from-3.ensures, w.0) (omega (arith, ends, room))

pub returns-clause-says : goal.returns-clause-says
returns-clause-says g c = λ x z p told valid known are inside there. (
    let few : c.args.extent.length < 65536 = search rules in
    let size : length c.fill.new.buf ≡ c.args.extent.length = c.fill.auto.buf ∙ length-take-le c.from.result c.args.datagram.now (omega (arith, few, c.from.ensures, c.requires.room)) ∙ c.from.ensures in
    let d = whole x c.args.extent c.in_ok-fill.field-0 c.fill.new.buf size (omega (arith, c.if-branch-bytes.false)) (rw told at c.in_ok-fill.ensures.bytes) in
    let q = c.in-Ok-InRange.packet in
    let at = rw (c.in-Ok-InRange.is, c.in-Ok-InRange.field-0-is) at c.look.ensures in
    let is : look c.args.scope.now (read_of c.fill.new.buf) ≡ Ok (InRange (packet_of q)) =
    seen c.args.scope.now c.fill.new.buf c.look.new.self c.look.result (is_known c.args.scope.now.fti z.fti known) c.look.ensures ∙ ap looked c.in-Ok-InRange.is ∙ ap (λ l. looked (Ok l)) c.in-Ok-InRange.field-0-is in
    let found : look c.args.scope.now (read_of c.fill.new.buf) ≡ Ok (InRange p) = ap (λ (l : List ℕ). look c.args.scope.now (read_of l)) d ∙ there in
    let same : p ≡ packet_of q = cc in
    let w = row_inside c.args.scope.now c.fill.new.buf c.look.new.self q z.fti known at in
    let width = length q.symbol.now in
    let esi : c.from-3.result ≡ q.esi = c.from-3.ensures ∙ sym c.if-packet-esi.false in
    let row : IsCertifiedSymbol z q.sbn q.esi (take width (drop (q.esi * width) c.args.made.symbols.now)) =
    row_is z q.sbn q.esi (encoding_count z.fti q.sbn) width c.args.made.symbols.now (rw c.if-packet-made.false are) w.0 w.2 in
    let f_is : c.requires.known.0 ≡ z.fti = cc in
    let room : length c.args.made.symbols.now ≡ encoding_count z.fti c.args.made.block * z.fti.symbol_length =
    c.requires.known.3 ∙ ap (λ (f : Fti). encoding_count f c.args.made.block * f.symbol_length) f_is in
    let ends = rw c.if-packet-made.false at w.1 in
    let at_row : q.esi * width ≡ q.esi * z.fti.symbol_length = ap (λ (n : ℕ). q.esi * n) w.0 in
    let cut : c.from-3.result * width + width - c.from-3.result * width ≡ width = omega arith in
    let left : length (drop (q.esi * width) c.args.made.symbols.now) ≡ length c.args.made.symbols.now - q.esi * width = length-drop (q.esi * width) c.args.made.symbols.now in
    let long : length (take width (drop (q.esi * width) c.args.made.symbols.now)) ≡ z.fti.symbol_length =
    length-take-le width (drop (q.esi * width) c.args.made.symbols.now) (omega (arith, left, room, ends, at_row, w.0)) ∙ w.0 in
    rw same (said_by_row z (packet_of q) _ (rw (cut, esi) long) (rw (cut, esi) row) c.first_difference.result c.first_difference.ensures.none c.first_difference.ensures.some))
