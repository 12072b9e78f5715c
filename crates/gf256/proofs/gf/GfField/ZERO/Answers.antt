use Rattle.std.proofs.Common.{rules}
use Rattle.gf256.proofs.gf.GfField.ZERO.Goals as goal

pub returns : goal.returns
returns c = search rules
