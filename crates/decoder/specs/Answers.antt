-- The answers of `decode`, as values.
use Rattle.reception.specs.Answer as value
use Rattle.block_recovery.specs.Faults.{fault_value}
use Rattle.decoder.specs.declared.answer.Answer.{Answer}
use Rattle.decoder.specs.declared.answer.Answer.TheVariants.{Empty, Fault, Missing, Object}

abbrev pub answer_value : Answer → value.Answer
answer_value Empty = value.Empty
answer_value (Fault e) = fault_value e
answer_value (Missing b have need) = value.Missing b have need
answer_value (Object object) = value.Object object.items

-- it is no fault
abbrev pub IsNoFault : Answer → Type 0
IsNoFault (Fault e) = ⊥
IsNoFault answer = Unit {0}
