-- What a summary that is being made stands for.
use Rattle.std.specs.Prelude.{◌≡◌, ℕ, List, length}
use Rattle.std.specs.BTreeMap.{get}
use Rattle.alc.specs.Reading.{Reading}
use Rattle.reception.specs.declared.scope.Identity.{Identity}
use Rattle.inventory.specs.Packets.{packets_of, faults_in}
use Rattle.inventory.specs.Tally.{pair_cmp}
use Rattle.inventory.specs.Tallies.{IsTallyAt}
use Rattle.inventory.specs.declared.collecting.Summary.{Summary}

abbrev pub named_by : ℕ × ℕ → Identity
named_by key = record { tsi = key.0; toi = key.1 }

-- these readings were counted
pub record Tells (rs : List Reading) (summary : Summary) : Type 0 where
  pub read : summary.read ≡ length rs
  pub tallies : (key : ℕ × ℕ)
      → IsTallyAt (packets_of (named_by key) rs) (get pair_cmp summary.tallies key)
  pub faults : summary.faults.items ≡ faults_in rs
