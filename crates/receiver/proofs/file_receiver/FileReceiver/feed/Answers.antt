use Rattle.std.proofs.Common.{◌≢◌, Option, ℕ, List, ap, sym, subst}
use Rattle.std.specs.Prelude.{OnOk, IfErr}
use Rattle.partition.specs.Fti.{Fti}
use Rattle.block_bytes.specs.Held.{held_of}
use Rattle.block_bytes.specs.Places.{has_place}
use Rattle.receiver.specs.Receiving.{with_datagram}
use Rattle.receiver.specs.declared.receiver.FeedFault.TheVariants.{Failed}
use Rattle.receiver.specs.Stands.{StandsWith}
use Rattle.receiver.proofs.Filed.{by_none, by_held, by_file, output_told, told_beside}
use Rattle.receiver.proofs.file_receiver.FileReceiver.feed.Goals as goal

pub returns-in-Waiting-clause-memory : goal.returns-in-Waiting-clause-memory
returns-in-Waiting-clause-memory g c = λ ds stands is.
    c.feed.ensures.memory ds (by_none c.args.self.now ds stands c.in-Waiting.is c.new-none.result c.new-none.ensures) is

-- ---- in memory

pub returns-in-Beside-clause-accepted : goal.returns-in-Beside-clause-accepted
returns-in-Beside-clause-accepted g c = λ ds stands.
    let beside = c.in-Beside.beside in
    subst (λ (told : Fti → Option (ℕ → List ℕ)). OnOk c.feed-in-Beside.result (StandsWith c.feed-in-Beside.new.self told (with_datagram ds c.args.datagram.now)))
    (told_beside (g.W.Write.contents beside.output) (held_of c.feed-in-Beside.new.bytes) (output_told c.args.self.now ds stands beside c.in-Beside.is))
    (c.feed-in-Beside.ensures.accepted ds (by_held c.args.self.now ds stands beside c.in-Beside.is))

pub returns-in-Beside-clause-refused : goal.returns-in-Beside-clause-refused
returns-in-Beside-clause-refused g c = λ ds stands.
    let beside = c.in-Beside.beside in
    subst (λ (told : Fti → Option (ℕ → List ℕ)). IfErr c.feed-in-Beside.result (λ fault. fault ≢ Failed → StandsWith c.feed-in-Beside.new.self told ds))
    (told_beside (g.W.Write.contents beside.output) (held_of c.feed-in-Beside.new.bytes) (output_told c.args.self.now ds stands beside c.in-Beside.is))
    (c.feed-in-Beside.ensures.refused ds (by_held c.args.self.now ds stands beside c.in-Beside.is))

pub returns-in-Beside-clause-memory : goal.returns-in-Beside-clause-memory
returns-in-Beside-clause-memory g c = λ ds stands is. c.feed-in-Beside.ensures.memory ds (by_held c.args.self.now ds stands c.in-Beside.beside c.in-Beside.is) is

pub returns-in-Beside-clause-full : goal.returns-in-Beside-clause-full
returns-in-Beside-clause-full g c = λ ds stands. c.feed-in-Beside.ensures.full ds (by_held c.args.self.now ds stands c.in-Beside.beside c.in-Beside.is)

pub returns-in-Beside-clause-early : goal.returns-in-Beside-clause-early
returns-in-Beside-clause-early g c = λ ds stands. c.feed-in-Beside.ensures.early ds (by_held c.args.self.now ds stands c.in-Beside.beside c.in-Beside.is)

-- ---- in the output

pub returns-in-File-clause-accepted : goal.returns-in-File-clause-accepted
returns-in-File-clause-accepted g c = λ ds stands. c.feed-in-File.ensures.accepted ds (by_file c.args.self.now ds stands c.in-File.blocks c.in-File.is)

pub returns-in-File-clause-refused : goal.returns-in-File-clause-refused
returns-in-File-clause-refused g c = λ ds stands. c.feed-in-File.ensures.refused ds (by_file c.args.self.now ds stands c.in-File.blocks c.in-File.is)

pub returns-in-File-clause-progress : goal.returns-in-File-clause-progress
returns-in-File-clause-progress g c = λ ds stands. c.feed-in-File.ensures.progress ds (by_file c.args.self.now ds stands c.in-File.blocks c.in-File.is)

pub returns-in-File-clause-fault : goal.returns-in-File-clause-fault
returns-in-File-clause-fault g c = λ ds stands. c.feed-in-File.ensures.fault ds (by_file c.args.self.now ds stands c.in-File.blocks c.in-File.is)

pub returns-in-File-clause-memory : goal.returns-in-File-clause-memory
returns-in-File-clause-memory g c = λ ds stands is. c.feed-in-File.ensures.memory ds (by_file c.args.self.now ds stands c.in-File.blocks c.in-File.is) is

pub returns-in-File-clause-sound_answer : goal.returns-in-File-clause-sound_answer
returns-in-File-clause-sound_answer g c = λ ds stands. c.feed-in-File.ensures.sound_answer ds (by_file c.args.self.now ds stands c.in-File.blocks c.in-File.is)

pub returns-in-File-clause-full : goal.returns-in-File-clause-full
returns-in-File-clause-full g c = λ ds stands. c.feed-in-File.ensures.full ds (by_file c.args.self.now ds stands c.in-File.blocks c.in-File.is)

pub returns-in-File-clause-early : goal.returns-in-File-clause-early
returns-in-File-clause-early g c = λ ds stands. c.feed-in-File.ensures.early ds (by_file c.args.self.now ds stands c.in-File.blocks c.in-File.is)

pub returns-in-File-clause-fails : goal.returns-in-File-clause-fails
returns-in-File-clause-fails g c = λ ds stands is. c.feed-in-File.ensures.fails ds (by_file c.args.self.now ds stands c.in-File.blocks c.in-File.is) is

-- ---- nowhere yet

pub returns-in-Waiting-clause-progress : goal.returns-in-Waiting-clause-progress
returns-in-Waiting-clause-progress g c = λ ds stands. c.feed.ensures.progress ds (by_none c.args.self.now ds stands c.in-Waiting.is c.new-none.result c.new-none.ensures)

pub returns-in-Waiting-clause-fault : goal.returns-in-Waiting-clause-fault
returns-in-Waiting-clause-fault g c = λ ds stands. c.feed.ensures.fault ds (by_none c.args.self.now ds stands c.in-Waiting.is c.new-none.result c.new-none.ensures)

pub returns-in-Waiting-clause-sound_answer : goal.returns-in-Waiting-clause-sound_answer
returns-in-Waiting-clause-sound_answer g c = λ ds stands. c.feed.ensures.sound_answer ds (by_none c.args.self.now ds stands c.in-Waiting.is c.new-none.result c.new-none.ensures)

pub returns-in-Waiting-clause-full : goal.returns-in-Waiting-clause-full
returns-in-Waiting-clause-full g c = λ ds stands. c.feed.ensures.full ds (by_none c.args.self.now ds stands c.in-Waiting.is c.new-none.result c.new-none.ensures)

pub returns-in-Waiting-clause-early : goal.returns-in-Waiting-clause-early
returns-in-Waiting-clause-early g c = λ ds stands. c.feed.ensures.early ds (by_none c.args.self.now ds stands c.in-Waiting.is c.new-none.result c.new-none.ensures)

-- ---- the same in memory

pub returns-in-Beside-clause-progress : goal.returns-in-Beside-clause-progress
returns-in-Beside-clause-progress g c = λ ds stands. c.feed-in-Beside.ensures.progress ds (by_held c.args.self.now ds stands c.in-Beside.beside c.in-Beside.is)

pub returns-in-Beside-clause-fault : goal.returns-in-Beside-clause-fault
returns-in-Beside-clause-fault g c = λ ds stands. c.feed-in-Beside.ensures.fault ds (by_held c.args.self.now ds stands c.in-Beside.beside c.in-Beside.is)

pub returns-in-Beside-clause-sound_answer : goal.returns-in-Beside-clause-sound_answer
returns-in-Beside-clause-sound_answer g c = λ ds stands. c.feed-in-Beside.ensures.sound_answer ds (by_held c.args.self.now ds stands c.in-Beside.beside c.in-Beside.is)

pub returns-in-Beside-clause-fails : goal.returns-in-Beside-clause-fails
returns-in-Beside-clause-fails g c = λ ds stands is. c.feed-in-Beside.ensures.fails ds (by_held c.args.self.now ds stands c.in-Beside.beside c.in-Beside.is) is

pub returns-in-Beside-clause-output : goal.returns-in-Beside-clause-output
returns-in-Beside-clause-output g c = sym (ap has_place c.in-Beside.is)

pub returns-in-File-clause-output : goal.returns-in-File-clause-output
returns-in-File-clause-output g c = sym (ap has_place c.in-File.is)
