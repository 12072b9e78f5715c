use Rattle.std.proofs.Common.{arith, refl}
use Rattle.std.proofs.lemmas.Result.{IfOk-weaker}
use Rattle.streams.proofs.Results.{no_error, at_ok}
use Rattle.streams.proofs.memory.PiecesRead.TheImpl.Goals as goal

pub read-tells : goal.read-tells
read-tells g c = record {
  bound = IfOk-weaker c.result _ _ (λ n e. omega (arith, e)) c.ensures.count;
  bytes = c.ensures.bytes;
  falls = c.ensures.falls;
  fails = no_error c.result _ c.ensures.ok;
  works = at_ok c.result _ (refl, refl);
  unsound = no_error c.result _ c.ensures.ok;
  stays = refl;
}
