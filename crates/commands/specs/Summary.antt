-- The few lines of a yes that are printed where a summary is asked for.
use Rattle.std.specs.Prelude.{◌≡◌, ℕ, ◌-◌, ◌<◌, ◌≤◌, List, ◌++◌, length, slice_index_or}
use Rattle.std.specs.Prelude.{Option, Some, None, codes, decimal}
use Rattle.cert.specs.declared.verdict.Report.{Report}
use Rattle.commands.specs.Lines.{line_of, named, block_text}

-- how many symbols a block needs, and how many it has
abbrev pub counts_of : List (ℕ × ℕ) → ℕ → ℕ × ℕ
counts_of blocks block = slice_index_or blocks block (0, 0)

-- how many more it has than it needs
abbrev pub spare_in : List (ℕ × ℕ) → ℕ → ℕ
spare_in blocks block = (counts_of blocks block).1 - (counts_of blocks block).0

-- the block with the fewest symbols to spare, the first of such blocks
pub record IsWeakest (blocks : List (ℕ × ℕ)) (block : ℕ) : Type 0 where
  pub within : block < length blocks
  pub least : (b : ℕ) → b < length blocks → spare_in blocks block ≤ spare_in blocks b
  pub first : (b : ℕ) → b < block → spare_in blocks block < spare_in blocks b

-- what is short: a block, or the carriers
abbrev pub short_words : Option ℕ → List ℕ
short_words (Some block) = named (codes " block") (decimal block)
short_words None = codes " carriers"

-- the burst, the first place from which no more may be missed, and what is short where one more is
abbrev pub burst_text : Report → List ℕ
burst_text report =
    named (codes "burst") (decimal report.burst)
    ++ named (codes " place") (decimal report.burst_place) ++ short_words report.burst_block

abbrev pub summary_text : Report → ℕ → List ℕ
summary_text report weakest =
    line_of (codes "yes")
    ++ line_of (block_text (codes "weakest block") weakest (counts_of report.blocks.items weakest))
    ++ line_of (named (codes "carriers") (decimal report.carriers))
    ++ line_of (named (codes "repeats") (decimal report.repeats))
    ++ line_of (named (codes "margin") (decimal report.margin))
    ++ line_of (codes "kill" ++ short_words report.kill_block)
    ++ line_of (burst_text report)

-- the text is the summary of the report, with its weakest block
pub record IsSummary (report : Report) (text : List ℕ) : Type 0 where
  pub weakest : ℕ
  pub weak : IsWeakest report.blocks.items weakest
  pub lines : text ≡ summary_text report weakest
