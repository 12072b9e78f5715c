use Rattle.std.proofs.Common.{◌≡◌, ℕ, ◌<◌, ◌+◌, ◌*◌, get_or}
use Rattle.gf256.specs.Slices.{lane}
use Rattle.evaluation.specs.Transform.{place_of}
use Rattle.evaluation.proofs.values.store.Given as goal

abbrev pub invariant-loop-j : goal.invariant-loop-j
invariant-loop-j l = record {
  within : (j t : ℕ) → j < l.j → t < l.used → get_or l.symbols (j * l.width + (l.at + t)) 0 ≡ lane l.tile (place_of (l.first + j * l.step)) t;
  before : (j c : ℕ) → c < l.at → get_or l.symbols (j * l.width + c) 0 ≡ get_or l.fn.symbols (j * l.width + c) 0;
}
