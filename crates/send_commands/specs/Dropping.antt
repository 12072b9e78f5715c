-- The places that are to be dropped.
use Rattle.std.specs.Prelude.{◌≡◌, ◌⊎◌, ◌++◌, ℕ, List, Option, Some, None}
use Rattle.std.specs.Borrow.{Bor}
use Rattle.session.specs.declared.range.PlaceRange.{PlaceRange}
use Rattle.host.specs.World.{Files, World}
use Rattle.commands.specs.Inputs.{APlaces, Places, HasValue, IsFirstUnread}
use Rattle.commands.specs.Commands.{place_inputs}
use Rattle.commands.specs.declared.fault.Fault.{Fault}
use Rattle.commands.specs.declared.fault.Fault.TheVariants.{Memory}

-- these are the given ones, and behind them those of the file, where one is named
abbrev pub AreAll : Option Files → Option (Bor (List ℕ)) → List PlaceRange → List PlaceRange
    → Type 0
AreAll files None given all = all ≡ given
AreAll files (Some name) given all = (more : List PlaceRange)
    × HasValue files (APlaces name.now) (Places more) × (all ≡ given ++ more)

-- why they aren't there
abbrev pub IsUnplaced : World → Option (Bor (List ℕ)) → Fault → Type 0
IsUnplaced world file fault = (fault ≡ Memory) ⊎ IsFirstUnread world (place_inputs file) fault
