use Rattle.std.proofs.Common.{rules}
use Rattle.decoder.proofs.decoding.short_answer.Goals as goal

pub returns-in-Some-clause-answers : goal.returns-in-Some-clause-answers
returns-in-Some-clause-answers g c = search rules
