use Rattle.std.proofs.Common.{rules}
use Rattle.alc.proofs.extensions.size_in_front.Goals as goal

pub returns-in-len2-up : goal.returns-in-len2-up
returns-in-len2-up c = search rules
