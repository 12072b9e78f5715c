use Rattle.std.proofs.Common.{sym, subst, ℕ}
use Rattle.std.specs.Prelude.{Option}
use Rattle.chart.specs.Texts.{Puts}
use Rattle.chart.proofs.Putting.{then_puts}
use Rattle.picture.specs.Sheets.{harm_text}
use Rattle.picture.proofs.bursts.put_harm.Goals as goal

pub returns-in-Some : goal.returns-in-Some
returns-in-Some c =
    subst (λ (o : Option ℕ). Puts c.args.canvas.now c.put-in-Some.new.self (harm_text o)) (sym c.in-Some.is)
    (then_puts _ _ _ _ _ c.put.ensures (then_puts _ _ _ _ _ c.thousands.ensures c.put-in-Some.ensures))

pub returns-in-None : goal.returns-in-None
returns-in-None c =
    subst (λ (o : Option ℕ). Puts c.args.canvas.now c.put-in-None.new.self (harm_text o)) (sym c.in-None.is)
    c.put-in-None.ensures
