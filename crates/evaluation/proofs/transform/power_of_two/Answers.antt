use Rattle.std.proofs.Common.{◌*◌, ◌^◌, ◌%◌, refl}
use Rattle.gf256.specs.Computing.{same_under}
use Rattle.evaluation.proofs.transform.power_of_two.Goals as goal

pub returns : goal.returns
returns c = same_under 8 (λ e. (1 * 2 ^ e) % 2 ^ 64) (λ e. 2 ^ e) refl c.args.exponent c.requires
