use Rattle.std.specs.Prelude.{codes, decimal}
use Rattle.commands.proofs.Gains.{gains_more}
use Rattle.commands.proofs.wording.put_frame_fault.Goals as goal

pub returns-in_ok-text-in-NoSuchPlace : goal.returns-in_ok-text-in-NoSuchPlace
returns-in_ok-text-in-NoSuchPlace c =
    rw c.in-NoSuchPlace.is
    (gains_more c.number.result _ _ _ (codes "S6 NoSuchPlace ") (decimal c.in-NoSuchPlace.place) c.in_ok-text-in-NoSuchPlace.ensures.ok c.number.ensures.ok)
