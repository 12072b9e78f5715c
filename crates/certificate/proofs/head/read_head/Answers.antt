use Rattle.std.proofs.Common.{◌≡◌, take, length, arith, length-take-le}
use Rattle.certificate.specs.CertificateReading.{IsTold, IsHeadFault}
use Rattle.certificate.proofs.Consuming.{if_err, head_fault}
use Rattle.certificate.proofs.Texts.{length_known}
use Rattle.certificate.proofs.head.read_head.Goals as goal

pub returns-clause-fault : goal.returns-clause-fault
returns-clause-fault g c =
    let front = take c.in-Ok.got c.fill_head.new.bytes in
    let which = length_known (take c.in-Ok.got c.fill_head.new.bytes) in
    let long : length (take c.in-Ok.got c.fill_head.new.bytes) ≡ c.in-Ok.got =
    length-take-le c.in-Ok.got c.fill_head.new.bytes (omega (arith, which, c.in-Ok.ensures.most, c.in-Ok.ensures.len)) in
    if_err IsTold (IsHeadFault front) _ c.told_head.result
    (λ e told fault. head_fault e _ _ _ front c.in-Ok.ensures.bytes (λ short. c.in-Ok.ensures.end (omega (arith, short, long))) told fault)
    c.told_head.ensures.told c.told_head.ensures.fault
