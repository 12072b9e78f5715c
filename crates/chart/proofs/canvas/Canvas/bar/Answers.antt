use Rattle.chart.proofs.Putting.{then_puts}
use Rattle.chart.proofs.canvas.Canvas.bar.Goals as goal

pub returns : goal.returns
returns c =
    let x = then_puts _ _ _ _ _ c.put.ensures c.number.ensures in
    let space = then_puts _ _ _ _ _ x c.put-2.ensures in
    let y = then_puts _ _ _ _ _ space c.number-2.ensures in
    let right = then_puts _ _ _ _ _ y c.put-3.ensures in
    let width = then_puts _ _ _ _ _ right c.number-3.ensures in
    let down = then_puts _ _ _ _ _ width c.put-4.ensures in
    let height = then_puts _ _ _ _ _ down c.number-4.ensures in
    let left = then_puts _ _ _ _ _ height c.put-5.ensures in
    let back = then_puts _ _ _ _ _ left c.number-5.ensures in
    then_puts _ _ _ _ _ back c.put-6.ensures
