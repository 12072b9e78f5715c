-- Why nothing was made.
use Rattle.std.specs.Prelude.{◌≡◌, ◌<◌, ℕ, List, ⊤}
use Rattle.reception.specs.declared.scope.Identity.{Identity}
use Rattle.certificate.specs.Certificate.{IsIdentity}
use Rattle.encoder.specs.Sending.{most_symbol_bytes}
use Rattle.alcrs_c.specs.Making.{IsNoFti}
use Rattle.alcrs_c.specs.declared.making.Unmade.{Unmade}
use Rattle.alcrs_c.specs.declared.making.Unmade.TheVariants.{Fti, TooLong, OutOfRange, NoMemory}

-- no session: no datagram would carry the FTI, or the numbers are no FTI, or no datagram holds the
-- encoding symbol
abbrev pub IsUnsent : List ℕ → ℕ × ℕ × ℕ → ℕ → Unmade → Type 0
IsUnsent object numbers every OutOfRange = every ≡ 0
IsUnsent object numbers every (Fti e) = IsNoFti object numbers e
IsUnsent object numbers every TooLong = most_symbol_bytes < numbers.0
IsUnsent object numbers every NoMemory = ⊤

-- no certificate: there is no such identity, or the numbers are no FTI
abbrev pub IsUncertified : List ℕ → ℕ × ℕ × ℕ → Identity → Unmade → Type 0
IsUncertified object numbers who OutOfRange = ¬ IsIdentity who
IsUncertified object numbers who (Fti e) = IsNoFti object numbers e
IsUncertified object numbers who TooLong = ⊥
IsUncertified object numbers who NoMemory = ⊤
