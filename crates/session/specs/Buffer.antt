-- Datagrams one behind the other in one buffer.
use Rattle.std.specs.Prelude.{◌≡◌, ℕ, ◌≤◌, ◌-◌, List, [], ◌∷◌, take, drop}

-- the pieces of bytes that end at these places, the first from a place on
abbrev pub pieces : ℕ → List ℕ → List ℕ → List (List ℕ)
pieces from [] bytes = []
pieces from (e ∷ ends) bytes = take (e - from) (drop from bytes) ∷ pieces e ends bytes

-- no end stands before the one before it, and the last is at the bytes' end
abbrev pub AreEnds : ℕ → List ℕ → ℕ → Type 0
AreEnds from [] size = from ≡ size
AreEnds from (e ∷ ends) size = (from ≤ e) × AreEnds e ends size
