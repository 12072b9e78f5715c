use Rattle.std.proofs.Common.{◌≡◌, ◌∙◌, ◌+◌, ◌++◌, ◌∷◌, [], arith, refl}
use Rattle.commands.proofs.Numbered.{status_bad, status_same}
use Rattle.receive_commands.proofs.Showed.{none_shown, one_more_shown, one_longer, keeps, keeps_all}
use Rattle.receive_commands.proofs.show.print_datagrams.Goals as goal
use Rattle.receive_commands.proofs.show.print_datagrams.Goals.{then-branch-eq1, else-branch-eq1}

pub loop-datagram-init : goal.loop-datagram-init
loop-datagram-init g c =
    let w = g.H.Host.world c.args.host.now in
    record {
      shown = ([], none_shown (g.R.Read.remaining c.args.frames.now) w, refl, refl);
      stays = refl;
      files = keeps_all w;
      small = omega arith;
    }

pub loop-datagram-preserved : goal.loop-datagram-preserved
loop-datagram-preserved g c =
    let (rs, before, at, status) = c.loop-datagram.invariant.shown in
    let (r, reads, one, printed) = c.in_ok-print_datagram.ensures.ok in
    let step = c.in-Some-checked_add.ensures in
    let next : c.in-Some-checked_add.next ≡ c.loop-datagram.place + 1 = omega (arith, step) in
    let old = g.H.Host.world c.args.host.now in
    let mid = g.H.Host.world c.loop-datagram.host in
    let new = g.H.Host.world c.print_datagram.new.host in
    let shown = one_more_shown (g.R.Read.remaining c.args.frames.now) (g.R.Read.remaining c.loop-datagram.frames) (g.R.Read.remaining c.next_datagram.new.frames) rs old mid new
    c.loop-datagram.place c.in-Some.datagram.items r before at (rw c.in-Some.is at c.in_ok-datagram.ensures.some) (rw c.in-Some.is at c.in_ok-datagram.ensures.short)
    (rw c.as_slice.ensures.value at reads) printed in
    let longer = one_longer rs r c.loop-datagram.place c.in-Some-checked_add.next at next in
    let stays = c.next_datagram.ensures.stays ∙ c.loop-datagram.invariant.stays in
    let files = keeps old mid new c.loop-datagram.invariant.files c.print_datagram.ensures.files in
    let small = c.loop-datagram.invariant.small in
    elim c.if-branch-eq1.branch [
      | then-branch-eq1 w ↦
          rw w.status-is
          record {
            shown = (rs ++ r ∷ [], shown, longer, status_bad rs r c.in_ok-print_datagram.field-0 one w.if-branch-eq1.true);
            stays = stays;
            files = files;
            small = omega arith;
          }
      | else-branch-eq1 w ↦
          rw w.status-is
          record {
            shown = (rs ++ r ∷ [], shown, longer, status_same rs r c.loop-datagram.status c.in_ok-print_datagram.field-0 status one w.if-branch-eq1.false);
            stays = stays;
            files = files;
            small = small;
          }
    ]
