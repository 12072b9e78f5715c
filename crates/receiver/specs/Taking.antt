-- Which block is short, by what is kept.
use Rattle.std.specs.Prelude.{◌≡◌, ℕ, ◌<◌, true, List, length, filter, Option, is_some}
use Rattle.lists.specs.Below.{below}
use Rattle.partition.specs.Fti.{Fti, block_count, source_count, encoding_count}
use Rattle.receiver.specs.Holds.{has_solved}
use Rattle.decoder.specs.declared.answer.Short.{Short}
use Rattle.receiver.specs.declared.store.Store.{Store}

-- so many symbols stand at the block's ESIs, fewer than it needs
pub record IsShortBlock (f : Fti) (b : ℕ) (at : ℕ → Option (List ℕ)) (s : Short) : Type 0 where
  pub block : s.block ≡ b
  pub have : s.have ≡ length (filter (λ j. is_some (at j)) (below (encoding_count f b)))
  pub need : s.need ≡ source_count f b
  pub few : s.have < s.need

-- each block is solved
abbrev pub AllSolved : Store → Type 0
AllSolved store = (b : ℕ) → b < block_count store.fti → has_solved store b ≡ true
