-- The cheapest symbols of a block, one more than it can spare.
use Rattle.std.specs.Prelude.{◌≡◌, ℕ, suc, ◌+◌, List, length}
use Rattle.losses.specs.Number.{Number}
use Rattle.losses.specs.Numbers.{present}
use Rattle.losses.proofs.Block.{cheap}

-- The symbols of block b up to (t, last) in the order of (copy count, ESI) are one more than the
-- block can spare.
pub record IsCut (b k : ℕ) (ps : List Number) (t last : ℕ) : Type 0 where
  pub count : length (cheap b t last ps) + k ≡ suc (length (present b ps))
