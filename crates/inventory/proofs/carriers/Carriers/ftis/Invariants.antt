use Rattle.std.proofs.Common.{◌≡◌, ◌++◌, List, map}
use Rattle.std.specs.List.{AllByRecursion}
use Rattle.partition.specs.Fti.{Fti}
use Rattle.inventory.specs.Parts.{IsFtiCount, ftis_of}
use Rattle.inventory.specs.Tally.{AreCounted, fti_of}
use Rattle.inventory.proofs.carriers.Carriers.ftis.Given as goal

abbrev pub invariant-loop-key : goal.invariant-loop-key
invariant-loop-key l = record {
  each : (ftis : List Fti) → AreCounted ftis l.self → AllByRecursion (IsFtiCount ftis) l.ftis.items;
  named : (ftis : List Fti) → AreCounted ftis l.self → ftis_of l.ftis.items ++ map (λ e. fti_of e.0) l._key-iterator ≡ map (λ e. fti_of e.0) l.self.counts.entries;
}
