use Rattle.std.proofs.Common.{rules}
use Rattle.poly.proofs.polynomial.Poly.coefficients.Goals as goal

pub returns : goal.returns
returns g c = search rules
