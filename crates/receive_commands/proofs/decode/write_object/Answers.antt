use Rattle.std.proofs.Common.{sym, subst}
use Rattle.file_decoder.specs.IndexedIn.{IsFileFault}
use Rattle.file_decoder.specs.declared.indexed_file.FileFault.{FileFault}
use Rattle.receive_commands.proofs.Decoded.{again_fault}
use Rattle.receive_commands.proofs.decode.write_object.Goals as goal

pub returns-in-Err-clause-fault : goal.returns-in-Err-clause-fault
returns-in-Err-clause-fault g c = λ world given.
    c.file_fault.ensures world (g.F.ReadAt.content c.args.input.now) (g.F.ReadAt.reliable c.args.input.now) given c.in-Err.ensures.fault

pub returns-in-Err-Unread-clause-fault : goal.returns-in-Err-Unread-clause-fault
returns-in-Err-Unread-clause-fault g c = λ world given.
    let content = g.F.ReadAt.content c.args.input.now in
    let reliable = g.F.ReadAt.reliable c.args.input.now in
    let why = again_fault content reliable c.in-Err-Unread.unread (rw c.in-Err-Unread.field-0-is at c.in-Err-Unread.ensures.unread) in
    c.file_fault-in-Err-Unread.ensures world content reliable given
    (subst (λ (e : FileFault). IsFileFault (g.F.ReadAt.content c.args.input.now) (g.F.ReadAt.reliable c.args.input.now) e) (sym c.from.ensures) why)
