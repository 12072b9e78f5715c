use Rattle.std.proofs.Common.{◌≡◌, ℕ, ◌+◌, ◌-◌, ◌<◌, ◌≤◌, ◌⊎◌}
use Rattle.losses.proofs.Windows.{IsFound}
use Rattle.losses.specs.Starts.{IsWindow}
use Rattle.losses.specs.Windows.{IsShortWindow, place_at}
use Rattle.losses.proofs.window.least_gap.Given as goal

abbrev pub invariant-loop-start : goal.invariant-loop-start
invariant-loop-start l = record {
  at : l.window.start ≡ l.start;
  window : IsWindow l.members l.need l.window;
  least : (x y : ℕ) → x < l.start → IsShortWindow l.members l.need x y → place_at l.members x + l.least.length ≤ place_at l.members (y - 1);
  found : (l.start ≡ 0) ⊎ IsFound l.members l.need l.least.place l.least.length;
}
