-- The readings of datagrams.
use Rattle.std.specs.Prelude.{ℕ, List, map}
use Rattle.alc.specs.Reading.{Reading}
use Rattle.alc.specs.Computed.{read_of}

-- one for each datagram, computed
abbrev pub readings_of : List (List ℕ) → List Reading
readings_of datagrams = map read_of datagrams
