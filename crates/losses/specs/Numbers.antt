-- Numbers of packets: source block number and encoding symbol ID.
use Rattle.std.specs.Prelude.{ℕ, Bool, ◌&&◌, ◌==◌, List, filter}
use Rattle.std.specs.List.{list_any}
use Rattle.lists.specs.Below.{below}
use Rattle.losses.specs.Number.{Number}

-- whether these are the numbers of symbol j of block b
abbrev pub is_number : ℕ → ℕ → Number → Bool
is_number b j p = p.block == b && p.esi == j

-- whether symbol j of block b is there
abbrev pub has : ℕ → List Number → ℕ → Bool
has b ps j = list_any (is_number b j) ps

-- the different ESIs of block b, rising
abbrev pub present : ℕ → List Number → List ℕ
present b ps = filter (has b ps) (below 256)
