-- Why datagrams aren't received.
use Rattle.std.specs.Prelude.{ℕ, List}
use Rattle.reception.specs.declared.scope.Identity.{Identity}
use Rattle.reception.specs.Answer.{AnswerTo, reception_of}
use Rattle.reception.specs.Walks.{readings_of}
use Rattle.block_recovery.specs.declared.fault.DecodeFault.{DecodeFault}
use Rattle.block_recovery.specs.Faults.{fault_value}

-- it is the first fault at a place that the datagrams have
abbrev pub IsRefusal : Identity → List (List ℕ) → DecodeFault → Type 0
IsRefusal who datagrams fault =
    AnswerTo (reception_of who (readings_of datagrams)) (fault_value fault)
