use Rattle.std.proofs.Common.{arith, ◌++◌, ◌∷◌, []}
use Rattle.std.proofs.lemmas.Grind.{elements}
use Rattle.std.specs.Prelude.{codes, decimal}
use Rattle.commands.specs.Lines.{named}
use Rattle.commands.specs.Words.{packet_words}
use Rattle.commands.proofs.Gains.{gain, gains_more}
use Rattle.check_commands.proofs.check.put_reason.Goals as goal

pub returns-in_ok-named-in-NotObject-2 : goal.returns-in_ok-named-in-NotObject-2
returns-in_ok-named-in-NotObject-2 c =
    let first = named (codes "N2 NotObject block") (decimal c.in-NotObject.block) in
    let second = named (codes " column") (decimal c.in-NotObject.column) in
    rw c.in-NotObject.is
    (gains_more c.named-in-NotObject-2.result _ _ _ (first ++ second) (named (codes " symbol") (decimal c.in-NotObject.symbol))
    (gain _ _ _ first second c.in_ok-named-in-NotObject.ensures c.in_ok-named-in-NotObject-2.ensures) c.named-in-NotObject-2.ensures)

pub returns-in-OtherFti : goal.returns-in-OtherFti
returns-in-OtherFti c = rw c.in-OtherFti.is c.named-in-OtherFti.ensures

pub returns-in-Range : goal.returns-in-Range
returns-in-Range c = rw c.in-Range.is c.named-in-Range.ensures

pub returns-in_ok-named-in-Symbol : goal.returns-in_ok-named-in-Symbol
returns-in_ok-named-in-Symbol c =
    rw c.in-Symbol.is
    (gains_more c.named-in-Symbol-2.result _ _ _ (named (codes "N8 Symbol place") (decimal c.in-Symbol.place)) (named (codes " column") (decimal c.in-Symbol.column))
    c.in_ok-named-in-Symbol.ensures c.named-in-Symbol-2.ensures)

pub returns-in-Thin : goal.returns-in-Thin
returns-in-Thin c = rw c.in-Thin.is c.short_block.ensures

pub returns-in_ok-text-in-Packet : goal.returns-in_ok-text-in-Packet
returns-in_ok-text-in-Packet c =
    let first = named (codes "N4 Packet place") (decimal c.in-Packet.place) in
    rw c.in-Packet.is
    (gains_more c.put_packet_fault.result _ _ _ (first ++ 32 ∷ []) (packet_words c.in-Packet.fault)
    (gain _ _ _ first (32 ∷ []) c.in_ok-named-in-Packet.ensures c.in_ok-text-in-Packet.ensures.ok) c.put_packet_fault.ensures)

pub returns-in-SymbolLength : goal.returns-in-SymbolLength
returns-in-SymbolLength c = grind (arith, elements) steps 2000000

pub returns-in-NoCarrier : goal.returns-in-NoCarrier
returns-in-NoCarrier c = grind (arith, elements) steps 2000000
