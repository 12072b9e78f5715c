use Rattle.chart.proofs.Putting.{then_puts}
use Rattle.chart.proofs.canvas.Canvas.lone_bar.Goals as goal

pub returns : goal.returns
returns c =
    let bar = then_puts _ _ _ _ _ c.begin_bars.ensures c.bar.ensures in
    then_puts _ _ _ _ _ bar c.end_bars.ensures
