-- Where the bytes of blocks are.
use Rattle.std.specs.Prelude.{ℕ, Bool, true, false, List, [], Option, Some, option_map}
use Rattle.partition.specs.Fti.{Fti}
use Rattle.streams.specs.declared.io.Write.{Ghosts}
use Rattle.block_bytes.specs.Held.{held_of}
use Rattle.block_bytes.specs.InFile.{kept_at}
use Rattle.block_bytes.specs.declared.blocks.Blocks.{Blocks}
use Rattle.block_bytes.specs.declared.blocks.Blocks.TheVariants.{Waiting, Beside, File}

-- whether there is an output
abbrev pub has_place : {W : Type 0} {w : Ghosts W} → Blocks W w → Bool
has_place Waiting = false
has_place (Beside beside) = true
has_place (File file) = true

-- whether the output that blocks are in has failed
abbrev pub place_failed : {W : Type 0} {w : Ghosts W} → Blocks W w → Bool
place_failed Waiting = false
place_failed (Beside beside) = false
place_failed {w = w} (File file) = w.failed file.output

-- The bytes of each block, where they are told: those in an output are where the output's are, and
-- so are those in memory beside one. Where there is none, nothing is kept.
abbrev pub told_in : {W : Type 0} {w : Ghosts W} → Blocks W w → Fti → Option (ℕ → List ℕ)
told_in Waiting f = Some (λ b. [])
told_in {w = w} (Beside beside) f =
    option_map (λ x. held_of beside.held) (w.contents beside.output)
told_in {w = w} (File file) f = kept_at (w.contents file.output) f
