use Rattle.std.proofs.Common.{◌∙◌, refl}
use Rattle.receive_commands.proofs.Totalled.{none_counted, one_more_counted}
use Rattle.receive_commands.proofs.totals.read_all.Goals as goal

pub loop-summary-init : goal.loop-summary-init
loop-summary-init g c = record {
  counted = none_counted (g.R.Read.remaining c.args.frames.now) c.new-summary.result c.new-summary.ensures;
  stays = refl;
}

pub loop-summary-preserved : goal.loop-summary-preserved
loop-summary-preserved g c = record {
  counted =
      one_more_counted (g.R.Read.remaining c.args.frames.now) (g.R.Read.remaining c.loop-summary.frames) (g.R.Read.remaining c.next_datagram.new.frames) c.loop-summary.summary c.add.new.self
      c.in-Some.datagram.items c.loop-summary.invariant.counted (rw c.in-Some.is at c.in_ok-datagram.ensures.some) (rw c.in-Some.is at c.in_ok-datagram.ensures.short)
      (rw c.as_slice.ensures.value at c.in_ok-add.ensures);
  stays = c.next_datagram.ensures.stays ∙ c.loop-summary.invariant.stays;
}
