use Rattle.std.proofs.Common.{◌≡◌, ◌∙◌, Bool, true, false, not, ap}
use Rattle.std.specs.Prelude.{is_some}
use Rattle.std.proofs.Math.Bool.{beq}
use Rattle.alc.specs.declared.reading.Packet.{Packet}
use Rattle.reception.specs.declared.scope.Look.TheVariants as look_at
use Rattle.file_decoder.proofs.ReadAgain.{found_again, symbol_is, symbol_size}
use Rattle.file_decoder.proofs.rereading.symbol_of.Goals as goal
use Rattle.file_decoder.proofs.rereading.symbol_of.Goals.{then-packet-b-via-then-packet-b, then-packet-b-via-else-packet-b+then-packet-esi}

pub returns-in_default-clause-none : goal.returns-in_default-clause-none
returns-in_default-clause-none c = λ _ is.
    let again = found_again c.args.datagram.now c.args.scope.now c.look.new.self c.look.result c.look.ensures c.requires.0 c.requires.1 c.args.b c.args.esi c.args.carrier is in
    c.in_default.not-Ok _ again.1

pub returns-in_default-look-clause-none : goal.returns-in_default-look-clause-none
returns-in_default-look-clause-none c = λ _ is.
    let again = found_again c.args.datagram.now c.args.scope.now c.look.new.self c.look.result c.look.ensures c.requires.0 c.requires.1 c.args.b c.args.esi c.args.carrier is in
    let r = again.1 in
    let i = c.in-Ok.is in
    let e : c.in-Ok.look ≡ look_at.InRange again.0 = cc in
    c.in_default-look.not-InRange again.0 e

pub returns-then-packet-b-clause-none : goal.returns-then-packet-b-clause-none
returns-then-packet-b-clause-none c = λ _ is.
    let again = found_again c.args.datagram.now c.args.scope.now c.look.new.self c.look.result c.look.ensures c.requires.0 c.requires.1 c.args.b c.args.esi c.args.carrier is in
    let r = again.1 in
    let i = c.in-Ok.is in
    let k = c.in-InRange.is in
    let same : c.in-InRange.packet ≡ again.0 = cc in
    elim c.then-packet-b.branch [
      | then-packet-b-via-then-packet-b w ↦ w.if-packet-b.true (ap (λ (p : Packet). p.sbn) same ∙ again.2)
      | then-packet-b-via-else-packet-b+then-packet-esi w ↦ w.if-packet-esi.true (ap (λ (p : Packet). p.esi) same ∙ again.3)
    ]

differ : (a b : Bool) → ◌≡◌ {A = Bool} a b → not (beq a b) ≡ true → ⊥
differ true true e h = absurd (cc)
differ false false e h = absurd (cc)
differ true false e h = absurd (cc)
differ false true e h = absurd (cc)

pub returns-then-is_some-carrier-clause-none : goal.returns-then-is_some-carrier-clause-none
returns-then-is_some-carrier-clause-none c = λ _ is.
    let again = found_again c.args.datagram.now c.args.scope.now c.look.new.self c.look.result c.look.ensures c.requires.0 c.requires.1 c.args.b c.args.esi c.args.carrier is in
    let r = again.1 in
    let i = c.in-Ok.is in
    let k = c.in-InRange.is in
    let same : c.in-InRange.packet ≡ again.0 = cc in
    differ c.is_some.result c.args.carrier (c.is_some.ensures ∙ ap (λ (p : Packet). is_some p.fti) same ∙ again.4) c.if-is_some-carrier.true

pub returns-clause-symbol : goal.returns-clause-symbol
returns-clause-symbol c = symbol_is c.args.datagram.now c.args.scope.now c.look.new.self c.in-InRange.packet (rw (c.in-Ok.is, c.in-InRange.is) at c.look.ensures)

pub returns-clause-size : goal.returns-clause-size
returns-clause-size c = λ f e. symbol_size c.args.datagram.now c.args.scope.now c.look.new.self c.in-InRange.packet (rw (c.in-Ok.is, c.in-InRange.is) at c.look.ensures) f e
