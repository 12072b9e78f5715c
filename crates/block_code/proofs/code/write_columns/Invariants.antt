use Rattle.std.proofs.Common.{◌≡◌, ◌<◌, ◌+◌, ◌*◌, ℕ, get_or}
use Rattle.elim.specs.Grid.{entry}
use Rattle.block_code.proofs.code.write_columns.Given as goal

abbrev pub invariant-loop-j : goal.invariant-loop-j
invariant-loop-j l = record {
  entries : (i j : ℕ) → i < l.matrix.rows → j < l.j → get_or l.columns (j * l.matrix.rows + i) 0 ≡ entry 0 l.matrix i j;
}

abbrev pub invariant-loop-i : goal.invariant-loop-i
invariant-loop-i l = record {
  entries : (i j : ℕ) → i < l.matrix.rows → j < l.j → get_or l.columns (j * l.matrix.rows + i) 0 ≡ entry 0 l.matrix i j;
  column : (i : ℕ) → i < l.i → get_or l.columns (l.j * l.matrix.rows + i) 0 ≡ entry 0 l.matrix i l.j;
}
