use Rattle.std.specs.Prelude.{codes}
use Rattle.commands.specs.Words.{fti_words}
use Rattle.commands.proofs.Gains.{gains_more}
use Rattle.commands.proofs.wording.put_packet_fault.Goals as goal

pub returns-in_ok-text-in-FtiValue : goal.returns-in_ok-text-in-FtiValue
returns-in_ok-text-in-FtiValue c =
    rw c.in-FtiValue.is
    (gains_more c.put_fti_fault.result _ _ _ (codes "P11 FtiValue ") (fti_words c.in-FtiValue.fault) c.in_ok-text-in-FtiValue.ensures.ok c.put_fti_fault.ensures)

pub returns-in-PayloadLength : goal.returns-in-PayloadLength
returns-in-PayloadLength c = rw c.in-PayloadLength.is c.text-in-PayloadLength.ensures.ok
