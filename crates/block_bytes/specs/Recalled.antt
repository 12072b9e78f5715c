-- What is kept of what was read of an output.
use Rattle.std.specs.Prelude.{ℕ, List, Option}
use Rattle.streams.specs.Offsets.{StandsAt}
use Rattle.block_bytes.specs.declared.recent.Recent.{Recent}

-- its bytes stand there
abbrev pub StandsStill : Option (List ℕ) → Recent → Type 0
StandsStill contents recent = StandsAt contents recent.offset recent.bytes.items
