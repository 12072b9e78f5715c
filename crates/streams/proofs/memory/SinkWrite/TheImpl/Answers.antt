use Rattle.std.proofs.Common.{arith}
use Rattle.std.proofs.lemmas.Result.{IfOk-weaker}
use Rattle.streams.proofs.memory.SinkWrite.TheImpl.Goals as goal

pub write-tells : goal.write-tells
write-tells c = record {
  bound = IfOk-weaker c.result _ _ (λ n e. omega (arith, e)) c.ensures.count;
  some = c.ensures.some;
  bytes = c.ensures.bytes;
  fails = c.ensures.fails;
  works = c.ensures.works;
  full = c.ensures.full;
  fills = c.ensures.fills;
}
