use lib.Pointwise.{bytes_decides}
use Rattle.std.proofs.Common.{◌≡◌, ◌-◌, ℕ, zero, suc, List, length, take, drop, get_or, inl, inr, sym, ap, ◌∙◌, arith}
use Rattle.std.proofs.lemmas.List.{get_or-take, get_or_past}
use Rattle.std.proofs.lemmas.Grind.{get_or_after_one}
use Rattle.std.proofs.lemmas.Bool.{cases_lt}
use Rattle.block_recovery.proofs.rows.is_zero.Goals as goal

-- where each number is the one before it, all are the first one
all_zero : (xs : List ℕ) → take (length xs - 1) (drop 1 xs) ≡ take (length xs - 1) xs → get_or xs 0 0 ≡ 0 → (c : ℕ) → get_or xs c 0 ≡ 0
all_zero xs same first zero = first
all_zero xs same first (suc c) = elim (cases_lt (suc c) (length xs)) [
  | inl lt ↦
      ap (λ n. get_or xs n 0) (omega arith)
      ∙ sym (get_or_after_one xs c 0)
      ∙ sym (get_or-take (length xs - 1) (drop 1 xs) c 0 (omega (arith, lt)))
      ∙ ap (λ (l : List ℕ). get_or l c 0) same
      ∙ get_or-take (length xs - 1) xs c 0 (omega (arith, lt))
      ∙ all_zero xs same first c
  | inr le ↦ get_or_past xs (suc c) 0 le
]

pub returns-then-eq-clause-zero : goal.returns-then-eq-clause-zero
returns-then-eq-clause-zero c = λ _. all_zero c.args.bytes.now ((bytes_decides _ _).0 (sym c.if-eq.ensures)) c.if-bytes-eq0.true
