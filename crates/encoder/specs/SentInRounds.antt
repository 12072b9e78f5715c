-- What is written of an object that is sent in rounds by groups of blocks.
use Rattle.std.specs.Prelude.{◌≡◌, ◌<◌, ◌≤◌, true, List, ℕ, [], Option}
use Rattle.std.specs.Option.{option_map}
use Rattle.partition.specs.Fti.{Fti}
use Rattle.streams.specs.Changes.{ReaderChange, WriterChange}
use Rattle.encoder.specs.declared.sending_from.SendFromFault.{SendFromFault}
use Rattle.encoder.specs.declared.sending_from.SendFromFault.TheVariants.{Object, SymbolTooLong}
use Rattle.encoder.specs.declared.sending_from.SendFromFault.TheVariants.{Write, NoMemory}
use Rattle.encoder.specs.ObjectRead.{IsObjectFault}
use Rattle.encoder.specs.Sending.{most_symbol_bytes}

-- what was written before is gone
abbrev pub emptied : Option (List ℕ) → Option (List ℕ)
emptied contents = option_map (λ xs. []) contents

-- Why no session was written, by what became of the reader and of the writer. What stands in the
-- writer then is no beginning of the session, unless it is what stood there before.
abbrev pub IsRoundsFromFault : SendFromFault → Fti → ReaderChange → WriterChange → Type 0
IsRoundsFromFault (Object e) f r w =
    (f.symbol_length ≤ most_symbol_bytes) × IsObjectFault e f r.before r.sound r.failed
IsRoundsFromFault SymbolTooLong f r w =
    (most_symbol_bytes < f.symbol_length) × (w.after ≡ w.before)
IsRoundsFromFault Write f r w = (f.symbol_length ≤ most_symbol_bytes) × (w.failed ≡ true)
IsRoundsFromFault NoMemory f r w = (f.symbol_length ≤ most_symbol_bytes) × (w.after ≡ w.before)
