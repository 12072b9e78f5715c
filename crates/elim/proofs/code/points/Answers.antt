use Rattle.elim.proofs.CodePoints.{points_more, points_none}
use Rattle.elim.proofs.code.points.Goals as goal

pub loop-j-init : goal.loop-j-init
loop-j-init c = rw c.in_ok-points.ensures.items points_none

pub loop-j-preserved : goal.loop-j-preserved
loop-j-preserved c = rw c.in_ok-push.ensures.items (points_more c.loop-j.j c.loop-j.points.items c.point.result c.point.ensures.value c.loop-j.invariant)
