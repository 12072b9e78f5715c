use Rattle.cert.proofs.Columns.{tells_first_wrong}
use Rattle.cert.proofs.laws.first_column.Goals as goal

pub returns : goal.returns
returns c = λ z earlier s. tells_first_wrong z s earlier
