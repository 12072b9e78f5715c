use Rattle.file_decoder.proofs.Placed.{indexed_bytes, indexed_stand, placed_enough, placed_object, placed_of, placed_range, placed_refuted}
use Rattle.file_decoder.proofs.indexed_file.FileSymbols.refutation.Goals as goal

pub invariant_of-coded : goal.invariant_of-coded
invariant_of-coded g c =
    let content = g.F.ReadAt.content c.args.file.now in
    let s = c.args.self.now in
    let of = placed_of content s c.requires in
    record {
      code = ∣ c.requires.0.codes ∣₁;
      range = placed_range content s c.requires.0;
      stand = λ told. ∣ indexed_stand content s.indexed of told ∣₁;
      bytes = indexed_bytes content s.indexed of;
    }

pub first_of_no_object-requires : goal.first_of_no_object-requires
first_of_no_object-requires g c = placed_enough (g.F.ReadAt.content c.args.file.now) c.args.self.now c.requires.0

pub returns-clause-answer : goal.returns-clause-answer
returns-clause-answer g c = λ ds x told are.
    placed_refuted (g.F.ReadAt.content c.args.file.now) c.args.self.now ds x told are c.in_ok-first_of_no_object.field-0
    (c.in_ok-first_of_no_object.ensures.told (x, told, are.indexed.placed))

pub returns-clause-object : goal.returns-clause-object
returns-clause-object g c = λ ds x told are.
    placed_object (g.F.ReadAt.content c.args.file.now) c.args.self.now ds x told are c.in_ok-first_of_no_object.field-0
    (c.in_ok-first_of_no_object.ensures.told (x, told, are.indexed.placed))
