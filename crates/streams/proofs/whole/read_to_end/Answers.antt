use Rattle.std.proofs.Common.{rules}
use Rattle.streams.proofs.whole.read_to_end.Goals as goal

pub returns-in_default-extend_from_slice-clause-io :
    goal.returns-in_default-extend_from_slice-clause-io
returns-in_default-extend_from_slice-clause-io g c = search rules

pub returns-in_default-extend_from_slice-clause-unsound :
    goal.returns-in_default-extend_from_slice-clause-unsound
returns-in_default-extend_from_slice-clause-unsound g c = search rules
