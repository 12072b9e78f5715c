use Rattle.std.proofs.Common.{[]}
use Rattle.vectors.proofs.hostile_tests.feeding_fault_behind.Goals as goal

-- it stands for the session's first datagram
pub feed-requires-2 : goal.feed-requires-2
feed-requires-2 c = (_, c.in-Ok.ensures.accepted [] c.new-receiver.ensures.stands)
