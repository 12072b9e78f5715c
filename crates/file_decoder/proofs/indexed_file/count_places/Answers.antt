use Rattle.std.specs.Option.{unwrap_or}
use Rattle.std.proofs.Common.{◌≡◌, ℕ, List, [], Some, refl, subst}
use Rattle.std.proofs.lemmas.Result.{err_from_is_err_and}
use Rattle.session.specs.Frames.{IsFramed}
use Rattle.reception.specs.declared.scope.Identity.{Identity}
use Rattle.reception.specs.Answer.{IsAnswer}
use Rattle.reception.specs.Reception.{asked, counted, symbols, with_fti}
use Rattle.reception.specs.Walks.{readings_of}
use Rattle.reception.specs.Answer.{clash}
use Rattle.reception.proofs.Within.{within}
use Rattle.decoder.specs.Answers.{answer_value}
use Rattle.file_decoder.specs.declared.indexed_file.FileSymbols.{FileSymbols}
use Rattle.decoder.specs.Answered.{Answers}
use Rattle.file_decoder.specs.PlacesOf.{AreIndexedOf, ArePlacedIn, ArePlacedOf}
use Rattle.file_decoder.specs.InFile.{held_in, AllStandIn}
use Rattle.block_recovery.specs.Received.{came_at}
use Rattle.file_decoder.proofs.FromFile.{told_is, told_if, enough_same, some_any, file_fault_of}
use Rattle.decoder.proofs.OfDatagrams.{answer_of}
use Rattle.file_decoder.proofs.Placed.{indexed_bytes, indexed_stand, placed_framed}
use Rattle.decoder.proofs.Unsound.{full_of_enough}
use Rattle.file_decoder.proofs.indexed_file.count_places.Goals as goal

pub invariant_of-coded : goal.invariant_of-coded
invariant_of-coded g c =
    let content = g.F.ReadAt.content c.args.file.now in
    let s = c.args.indexed in
    let of : (x : List ℕ) → content ≡ Some x → (who : Identity) × (ds : List (List ℕ)) × AreIndexedOf who ds x s = λ x told. (let w = c.requires.told x told in (s.identity, w.0, w.2)) in
    record {
      code = ∣ c.in_ok-codes.ensures ∣₁;
      range = c.requires.range (held_in (unwrap_or content []));
      stand = λ told. ∣ indexed_stand content s of told ∣₁;
      bytes = indexed_bytes content s of;
    }

pub returns-in_err-answer-clause-fault : goal.returns-in_err-answer-clause-fault
returns-in_err-answer-clause-fault g c =
    let content = g.F.ReadAt.content c.args.file.now in
    let s = c.args.indexed.symbols in
    let f = c.args.indexed.fti in
    let who = c.args.indexed.identity in
    let p = err_from_is_err_and c.from_residual-in_err-answer.result c.from_residual-in_err-answer.ensures.1 in
    rw (p.1, p.2)
    (file_fault_of content (g.F.ReadAt.reliable c.args.file.now) (AllStandIn (g.F.ReadAt.content c.args.file.now) (with_fti c.args.indexed.identity c.args.indexed.fti) c.args.indexed.symbols) c.in_err-answer.field-0.0
    c.in_err-answer.ensures.fault (λ x told. (x, told, (c.requires.told x told).2.placed)))

pub returns-in-Some-clause-indexed : goal.returns-in-Some-clause-indexed
returns-in-Some-clause-indexed g c =
    let content = g.F.ReadAt.content c.args.file.now in
    let s = c.args.indexed.symbols in
    let f = c.args.indexed.fti in
    let who = c.args.indexed.identity in (
      rw c.in-Some.is at c.in_ok-answer.ensures.none,
      told_if content (λ (x : List ℕ). (ds : List (List ℕ)) × IsFramed ds x × IsAnswer c.args.indexed.identity ds (answer_value c.in-Some.answer)) (λ x told.
          let w = c.requires.told x told in
          let v = rw c.in-Some.is at (c.in_ok-answer.ensures.told (x, told, w.2.placed)) in
          let answers =
          subst (λ (y : List ℕ). Answers c.args.indexed.fti (came_at (held_in y) c.args.indexed.symbols) (answer_value c.in-Some.answer)) (told_is content x told) v in
          (w.0, w.1, answer_of who w.0 f (came_at (held_in x) s) w.2.read w.2.received (answer_value c.in-Some.answer) answers)),
    )

pub returns-in-None-clause-indexed : goal.returns-in-None-clause-indexed
returns-in-None-clause-indexed g c =
    let content = g.F.ReadAt.content c.args.file.now in
    let s = c.args.indexed.symbols in
    let f = c.args.indexed.fti in
    let who = c.args.indexed.identity in
    let enough = (rw c.in-None.is at c.in_ok-answer.ensures.enough) refl in
    let found : FileSymbols = record { indexed = c.args.indexed; codes = c.in_ok-codes.codes } in
    let placed : ArePlacedIn content found = (
      record {
        codes = c.in_ok-codes.ensures;
        range = c.requires.range;
        enough = λ held b hb. enough_same f b _ _ (λ j lj. some_any (held_in (unwrap_or content [])) held s b j) (enough b hb);
      },
      told_if content (λ (x : List ℕ). (ds : List (List ℕ)) × ArePlacedOf c.args.indexed.identity ds x found) (λ x told.
          let w = c.requires.told x told in (
            w.0,
            record {
              framed = w.1;
              indexed = w.2;
              full = λ b hb. full_of_enough f c.is_valid.ensures (symbols (counted who (readings_of w.0))) (came_at (held_in x) s) w.2.received.index (within clash (asked who) (readings_of w.0) f w.2.received.clean) b hb (enough_same f b _ _ (λ j lj. some_any (held_in (unwrap_or content [])) (held_in x) s b j) (enough b hb));
            },
          )),
    ) in
    (refl, placed, placed_framed content found placed)
