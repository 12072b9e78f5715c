-- Why no session was written of an object that comes from a reader, or only a beginning.
use Rattle.std.specs.Prelude.{◌≡◌, ℕ, ◌<◌, ◌≤◌, List, true, Option}
use Rattle.partition.specs.Fti.{Fti}
use Rattle.streams.specs.Changes.{ReaderChange, WriterChange}
use Rattle.partition.specs.declared.order.Order.TheVariants.{Blocks}
use Rattle.encoder.specs.declared.sending_from.SendFromFault.{SendFromFault}
use Rattle.encoder.specs.declared.sending_from.SendFromFault.TheVariants.{Object, SymbolTooLong}
use Rattle.encoder.specs.declared.sending_from.SendFromFault.TheVariants.{Write, NoMemory}
use Rattle.encoder.specs.Sending.{items, AreSent, SendsSome, most_symbol_bytes}
use Rattle.encoder.specs.ObjectRead.{ReadsSome, IsObjectFault}

-- symbols go into datagrams, and what was written begins the session that each object has which
-- begins with what was read
pub record BeginsSession (f : Fti) (tsi toi every : ℕ)
    (left old new : Option (List ℕ)) : Type 0 where
  pub short : f.symbol_length ≤ most_symbol_bytes
  pub begins : ReadsSome f left
      (λ object. SendsSome (AreSent object f tsi toi every) (items Blocks f) old new)

-- by what became of the reader and of the writer
abbrev pub IsSendFromFault : SendFromFault → Fti → ℕ → ℕ → ℕ → ReaderChange → WriterChange → Type 0
IsSendFromFault (Object e) f tsi toi every r w =
    IsObjectFault e f r.before r.sound r.failed
    × BeginsSession f tsi toi every r.before w.before w.after
IsSendFromFault SymbolTooLong f tsi toi every r w =
    (most_symbol_bytes < f.symbol_length) × (w.after ≡ w.before)
IsSendFromFault Write f tsi toi every r w =
    BeginsSession f tsi toi every r.before w.before w.after × (w.failed ≡ true)
IsSendFromFault NoMemory f tsi toi every r w =
    (f.symbol_length ≤ most_symbol_bytes) × (w.after ≡ w.before)
