use Rattle.std.proofs.Common.{◌<◌, ℕ}
use Rattle.transpose.specs.Squares.{IsMoved}
use Rattle.transpose.proofs.turning.turn_bytes.Given as goal

abbrev pub invariant-loop-i : goal.invariant-loop-i
invariant-loop-i l = record {
  rows : (i c : ℕ) → i < l.i → c < l.columns.width → IsMoved l.columns.bytes.now l.columns.count l.columns.width l.rows i c;
}

abbrev pub invariant-loop-c : goal.invariant-loop-c
invariant-loop-c l = record {
  rows : (i c : ℕ) → i < l.i → c < l.columns.width → IsMoved l.columns.bytes.now l.columns.count l.columns.width l.rows i c;
  row : (c : ℕ) → c < l.c → IsMoved l.columns.bytes.now l.columns.count l.columns.width l.rows l.i c;
}
