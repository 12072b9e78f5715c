-- Symbols that came of a block, and where they stand.
use Rattle.std.specs.Prelude.{◌==◌, ◌&&◌, ℕ, Bool, false, if◌then◌else◌, List, [], ◌∷◌}
use Rattle.std.specs.Prelude.{slice_index_or, Option, Some, None}
use Rattle.block_recovery.specs.declared.arrivals.Arrival.{Arrival}

-- with one symbol more of a block
abbrev pub with_esi : (ℕ → Option (List ℕ)) → ℕ → List ℕ → ℕ → Option (List ℕ)
with_esi at j y i = if j == i then Some y else at i

-- with these symbols more, one after the other, by the bytes that each holds
abbrev pub with_arrived : {S : Type 0} → (S → List ℕ) → (ℕ → Option (List ℕ)) → List (Arrival S) → ℕ
    → Option (List ℕ)
with_arrived held at [] = at
with_arrived held at (a ∷ arrivals) = with_arrived held (with_esi at a.esi (held a.symbol)) arrivals

-- the bytes of the symbol that came at an ESI, if one did
abbrev pub arrived_at : {S : Type 0} → (S → List ℕ) → List (Arrival S) → ℕ → Option (List ℕ)
arrived_at held arrivals = with_arrived held (λ j. None) arrivals

-- whether the symbol at an ESI was seen
abbrev pub seen_at : List Bool → ℕ → Bool
seen_at seen j = slice_index_or seen j false

-- with one symbol more
abbrev pub with_symbol : (ℕ → ℕ → Option (List ℕ)) → ℕ → ℕ → List ℕ → ℕ → ℕ → Option (List ℕ)
with_symbol at b j y a i = if b == a && j == i then Some y else at a i
