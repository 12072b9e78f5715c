use Rattle.std.proofs.Common.{refl}
use Rattle.alc.specs.Computed.{read_of}
use Rattle.alc.proofs.Again.{reads, one_reading}
use Rattle.alc.proofs.reading.one_reading.Goals as goal

pub returns : goal.returns
returns c = record { some = λ d bytes. (read_of d, reads d bytes (read_of d) refl); only = one_reading }
