-- What the report of a yes says.
use Rattle.std.specs.Prelude.{◌≡◌, ℕ, ◌+◌, ◌-◌, List, length, map, count_by}
use Rattle.std.specs.List.{sum_by}
use Rattle.lists.specs.Below.{below}
use Rattle.losses.specs.Losses.{Blocks, IsMargin, IsKill, IsBurst}
use Rattle.losses.specs.Runs.{IsFirstBurst}
use Rattle.partition.specs.Fti.{Fti, block_count, source_count}
use Rattle.alc.specs.Reading.{Reading}
use Rattle.cert.specs.declared.verdict.Report.{Report}
use Rattle.cert.specs.declared.verdict.Verdict.{Verdict}
use Rattle.cert.specs.declared.verdict.Verdict.TheVariants.{Yes, No}
use Rattle.reception.specs.declared.scope.Identity.{Identity}
use Rattle.reception.specs.Symbols.{has_arrived, arrived_count}
use Rattle.reception.specs.Reception.{ReadAll, counted, symbols, is_carrier}

-- the blocks of an FTI, which of their symbols the identity's packets among a list of readings
-- hold, and which readings are carriers of the identity
abbrev pub blocks_of : Identity → Fti → Blocks Reading
blocks_of who f = record {
  count = block_count f;
  need = source_count f;
  has_symbol = λ rs b j. has_arrived (symbols (counted who rs)) b j;
  is_carrier = is_carrier who;
}

-- For each block its source symbols, and how many different ESIs of it came; how many carriers; how
-- many symbols came beside the different ones; what may be lost; and what a loss of more leaves
-- short. A loss is of datagrams, whosever packets they are, and its places are those of all of
-- them.
pub record IsReport (who : Identity) (datagrams : List (List ℕ)) (f : Fti)
    (report : Report) : Type 0 where
  pub readings : List Reading
  pub read : ReadAll datagrams readings
  pub blocks : report.blocks.items
      ≡ map (λ b. (source_count f b, arrived_count (symbols (counted who readings)) b))
      (below (block_count f))
  pub carriers : report.carriers ≡ count_by (is_carrier who) readings
  pub repeats : report.repeats ≡ length (symbols (counted who readings))
      - sum_by (λ counts. counts.1) report.blocks.items
  pub margin : IsMargin (blocks_of who f) readings report.margin
  pub kill : IsKill (blocks_of who f) readings (report.margin + 1) report.kill.items
      report.kill_block
  pub burst : IsBurst (blocks_of who f) readings report.burst
  pub first_burst : IsFirstBurst (blocks_of who f) readings report.burst report.burst_place
      report.burst_block

-- a fact of the report, at yes
abbrev pub OnYes : Verdict → (Report → Type 0) → Type 0
OnYes (Yes report) P = P report
OnYes (No reason) P = Unit {0}
