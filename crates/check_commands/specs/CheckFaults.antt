-- A fault of a check, as it is told.
use Rattle.std.specs.Prelude.{ℕ, List}
use Rattle.std.specs.Borrow.{Bor}
use Rattle.cert.specs.declared.fault.CheckFault.{CheckFault}
use Rattle.cert.specs.declared.fault.CheckFault.TheVariants.{Frame as NoFrame, Session}
use Rattle.cert.specs.declared.fault.CheckFault.TheVariants.{Object, NoMemory}
use Rattle.cert.specs.declared.fault.CheckFault.TheVariants.{Certificate as NoCertificate}
use Rattle.commands.specs.declared.fault.Fault.{Fault}
use Rattle.commands.specs.declared.fault.Fault.TheVariants.{File, Memory, Frame, Certificate}

-- by the names of the session and of the object
abbrev pub fault_of : Bor (List ℕ) → Bor (List ℕ) → CheckFault → Fault
fault_of session object (NoFrame fault) = Frame fault
fault_of session object Session = File session
fault_of session object Object = File object
fault_of session object (NoCertificate fault) = Certificate fault
fault_of session object NoMemory = Memory
