use Rattle.std.proofs.Common.{get_or}
use Rattle.gf256.specs.Powers.{two_is_power}
use Rattle.gf256.specs.declared.tables.TheConstants.{LOG}
use Rattle.gf256.proofs.Alpha.{alpha_is_root}
use Rattle.gf256.proofs.TableEntries.{log_small, alpha_to_log}
use Rattle.gf256.proofs.gf.Gf.alpha.Goals as goal

pub returns-clause-value : goal.returns-clause-value
returns-clause-value c = two_is_power

pub returns-clause-root : goal.returns-clause-root
returns-clause-root c = alpha_is_root

-- the logarithm is the exponent
pub returns-clause-powers : goal.returns-clause-powers
returns-clause-powers c = λ a some byte. (get_or LOG a 0, log_small a byte, alpha_to_log a some byte)
