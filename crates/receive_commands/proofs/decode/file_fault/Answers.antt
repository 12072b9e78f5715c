use Rattle.receive_commands.proofs.Decoded.{changed, frame_unread}
use Rattle.receive_commands.proofs.decode.file_fault.Goals as goal

pub returns-in-Frame : goal.returns-in-Frame
returns-in-Frame c = λ world content reliable given h. frame_unread world c.args.session content reliable given c.in-Frame.fault (rw c.in-Frame.is at h)

pub returns-in-Changed : goal.returns-in-Changed
returns-in-Changed c = λ world content reliable given h. changed world c.args.session content reliable given (rw c.in-Changed.is at h)
