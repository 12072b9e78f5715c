use Rattle.std.proofs.Common.{sym}
use Rattle.reception.specs.Answer as value
use Rattle.decoder.specs.Answers.{answer_value}
use Rattle.file_decoder.proofs.Placed.{indexed_bytes, indexed_stand, placed_answer, placed_begun, placed_enough, placed_none_unsound, placed_of, placed_range}
use Rattle.file_decoder.proofs.indexed_file.FileSymbols.write_checked.Goals as goal

pub invariant_of-coded : goal.invariant_of-coded
invariant_of-coded g c =
    let content = g.F.ReadAt.content c.args.file.now in
    let s = c.args.self.now in
    let of = placed_of content s c.requires in
    record {
      code = ∣ c.requires.0.codes ∣₁;
      range = placed_range content s c.requires.0;
      stand = λ told. ∣ indexed_stand content s.indexed of told ∣₁;
      bytes = indexed_bytes content s.indexed of;
    }

pub write_blocks-requires : goal.write_blocks-requires
write_blocks-requires g c = record { enough = placed_enough (g.F.ReadAt.content c.args.file.now) c.args.self.now c.requires.0 }

pub returns-in-Ok-true-clause-written : goal.returns-in-Ok-true-clause-written
returns-in-Ok-true-clause-written g c = λ ds x told are _.
    let o = c.in-Ok-true.ensures.whole (x, told, are.indexed.placed) c.in-Ok-true.field-0-test in
    (o.object, placed_answer (g.F.ReadAt.content c.args.file.now) c.args.self.now ds x told are (value.Object o.object) o.answers, o.gained, sym o.count)

pub returns-in-Ok-clause-answer : goal.returns-in-Ok-clause-answer
returns-in-Ok-clause-answer g c = λ ds x told are.
    placed_answer (g.F.ReadAt.content c.args.file.now) c.args.self.now ds x told are (answer_value c.in-Ok.answer)
    (c.in-Ok.ensures.told (x, told, are.indexed.placed))

pub returns-in-Err-clause-front : goal.returns-in-Err-clause-front
returns-in-Err-clause-front g c = λ ds x object told are answer.
    placed_begun (g.F.ReadAt.content c.args.file.now) c.args.self.now ds x told are _ _ (c.in-Err.ensures.front (x, told, are.indexed.placed)) object answer

pub returns-in-Err-unsound_answer-clause-front : goal.returns-in-Err-unsound_answer-clause-front
returns-in-Err-unsound_answer-clause-front g c = λ ds x object told are answer.
    absurd (placed_none_unsound (g.F.ReadAt.content c.args.file.now) c.args.self.now ds x told are c.is_valid.ensures
    (c.in-Ok-false.ensures.other (x, told, are.indexed.placed) c.in-Ok-false.field-0-test) object answer)
