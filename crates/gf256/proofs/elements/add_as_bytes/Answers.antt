use Rattle.std.proofs.Common.{rules}
use Rattle.gf256.proofs.elements.add_as_bytes.Goals as goal

pub returns : goal.returns
returns c = search rules
