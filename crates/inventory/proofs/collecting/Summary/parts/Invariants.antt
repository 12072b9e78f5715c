use Rattle.std.proofs.Common.{◌≡◌, ◌++◌, List, map}
use Rattle.std.specs.List.{AllByRecursion}
use Rattle.alc.specs.Reading.{Reading}
use Rattle.inventory.specs.Parts.{IsPart, identities}
use Rattle.inventory.specs.Tells.{Tells, named_by}
use Rattle.inventory.proofs.collecting.Summary.parts.Given as goal

abbrev pub invariant-loop-key : goal.invariant-loop-key
invariant-loop-key l = record {
  each : (readings : List Reading) → Tells readings l.self → AllByRecursion (IsPart readings) l.parts.items;
  named : identities l.parts.items ++ map (λ e. named_by e.0) l.key-iterator ≡ map (λ e. named_by e.0) l.self.tallies.entries;
}
