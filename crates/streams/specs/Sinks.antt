-- A writer in memory.
use Rattle.std.specs.Prelude.{ℕ, ◌-◌, nat_le, length, vec_capacity, if◌then◌else◌}
use Rattle.streams.specs.declared.memory.Sink.{Sink}

-- How many bytes it is sure to take: what is left of its room, where it hasn't failed and there is
-- memory for all of it.
abbrev pub sure_room : Sink → ℕ
sure_room sink =
    if sink.failed then 0
    else if nat_le sink.room (vec_capacity sink.bytes) then sink.room - length sink.bytes.items
    else 0
