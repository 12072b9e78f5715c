-- The counts of all identities, by TSI and TOI.
use Rattle.std.specs.Prelude.{◌≡◌, ℕ, ◌<◌, ◌≤◌, cond, List, [], length, Option, Some, None}
use Rattle.std.specs.BTreeMap.{BTreeMap, get}
use Rattle.std.specs.Ordering.{is_eq}
use Rattle.alc.specs.Packet.{Packet}
use Rattle.inventory.specs.Tally.{pair_cmp, IsTally}
use Rattle.inventory.specs.declared.tally.Tally.{Tally}

-- there are counts where packets came
abbrev pub IsTallyAt : List (ℕ × Packet) → Option Tally → Type 0
IsTallyAt xs None = xs ≡ []
IsTallyAt xs (Some tally) = (0 < length xs) × IsTally xs tally

-- none counts more datagrams than were read
abbrev pub AreFew : BTreeMap (ℕ × ℕ) Tally → ℕ → Type 0
AreFew tallies read =
    (key : ℕ × ℕ) (tally : Tally) → get pair_cmp tallies key ≡ Some tally → tally.datagrams ≤ read

-- one key has this value now, and the others what they had
abbrev pub Changes : BTreeMap (ℕ × ℕ) Tally → BTreeMap (ℕ × ℕ) Tally → ℕ × ℕ → Option Tally
    → Type 0
Changes old new key value =
    (q : ℕ × ℕ) → get pair_cmp new q ≡ cond (is_eq (pair_cmp key q)) value (get pair_cmp old q)
