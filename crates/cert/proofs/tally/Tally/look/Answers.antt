use Rattle.std.proofs.Common.{Ok, refl}
use Rattle.reception.specs.Reception.{OtherFti, SymbolLength, Range}
use Rattle.reception.specs.declared.scope.Look.TheVariants as look_at
use Rattle.cert.proofs.Knowing.{refused_known}
use Rattle.cert.proofs.tally.Tally.look.Goals as goal

pub returns-in-Ok-OtherFti : goal.returns-in-Ok-OtherFti
returns-in-Ok-OtherFti c =
    refused_known c.args.datagram.now c.args.self.now.scope c.look.new.self c.args.self.now.count (Ok look_at.OtherFti) OtherFti c.args.self.now.known
    (rw (c.in-Ok-OtherFti.is, c.in-Ok-OtherFti.field-0-is) at c.look.ensures) refl

pub returns-in-Ok-SymbolLength : goal.returns-in-Ok-SymbolLength
returns-in-Ok-SymbolLength c =
    refused_known c.args.datagram.now c.args.self.now.scope c.look.new.self c.args.self.now.count (Ok look_at.SymbolLength) SymbolLength c.args.self.now.known
    (rw (c.in-Ok-SymbolLength.is, c.in-Ok-SymbolLength.field-0-is) at c.look.ensures) refl

pub returns-in-Ok-Range : goal.returns-in-Ok-Range
returns-in-Ok-Range c =
    refused_known c.args.datagram.now c.args.self.now.scope c.look.new.self c.args.self.now.count (Ok look_at.Range) Range c.args.self.now.known
    (rw (c.in-Ok-Range.is, c.in-Ok-Range.field-0-is) at c.look.ensures) refl
