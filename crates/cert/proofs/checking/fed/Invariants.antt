use Rattle.std.proofs.Common.{take}
use Rattle.cert.specs.Fed.{IsFed}
use Rattle.cert.proofs.checking.fed.Given as goal

abbrev pub invariant-loop-place : goal.invariant-loop-place
invariant-loop-place l = record { fed : IsFed l.checker l.fn.identity l.object l.certificate (take l.place l.session) }
