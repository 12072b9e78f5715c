-- Whose packets C asks for.
use Rattle.std.specs.Prelude.{ℕ, ◌+◌, ◌*◌, ◌^◌}
use Rattle.reception.specs.declared.scope.Identity.{Identity}

-- the identity of a TSI and of the two halves of a TOI
abbrev pub identity_of : ℕ → ℕ → ℕ → Identity
identity_of tsi high low = record { tsi = tsi; toi = high * 2 ^ 64 + low }
