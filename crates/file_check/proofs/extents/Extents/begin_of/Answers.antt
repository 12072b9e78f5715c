use Rattle.std.proofs.Common.{◌≡◌, ◌∙◌, ℕ, suc, sym, ap, arith}
use Rattle.file_check.specs.Standing.{begin_from}
use Rattle.file_check.proofs.Standing.{begin_behind}
use Rattle.file_check.proofs.extents.Extents.begin_of.Goals as goal

pub returns-in-Some : goal.returns-in-Some
returns-in-Some c =
    let ends = c.args.self.now.ends.items in
    let at : suc c.in-Some.before ≡ c.args.place = omega (arith, c.in-Some.ensures) in
    rw c.as_slice.ensures.value (sym (begin_behind 0 ends c.in-Some.before (omega (arith, c.requires, at))) ∙ ap (λ (n : ℕ). begin_from 0 c.args.self.now.ends.items n) at)
