use Rattle.chart.proofs.Putting.{then_puts}
use Rattle.picture.proofs.sheet.put_sheet.Goals as goal

pub returns : goal.returns
returns c =
    let title = then_puts _ _ _ _ _ c.put_head.ensures c.put.ensures in
    let margin = then_puts _ _ _ _ _ title c.put_verdict.ensures in
    let description = then_puts _ _ _ _ _ margin c.put-2.ensures in
    let numbers = then_puts _ _ _ _ _ description c.put-3.ensures in
    let behind = then_puts _ _ _ _ _ numbers c.put-4.ensures in
    let kill = then_puts _ _ _ _ _ behind c.put_kill.ensures in
    let panels = then_puts _ _ _ _ _ kill c.put-5.ensures in
    then_puts _ _ _ _ _ panels c.put-6.ensures
