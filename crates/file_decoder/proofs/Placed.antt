-- What places in a file tell of the symbols there, of which it isn't known whether they are of an object.
use Rattle.std.specs.Prelude.{IfSome, IsNone}
use Rattle.std.specs.Option.{unwrap_or}
use Rattle.std.proofs.Common.{◌≡◌, ℕ, List, [], Option, Some, None, sym, subst}
use Rattle.partition.specs.Fti.{Fti, IsValidFti}
use Rattle.session.specs.Frames.{IsFramed, AppendsSome}
use Rattle.alc.specs.Reading.{Reading}
use Rattle.reception.specs.declared.scope.Identity.{Identity}
use Rattle.reception.specs.Answer as value
use Rattle.reception.specs.Answer.{IsAnswer, AnswerTo, clash, reception_of}
use Rattle.reception.specs.Reception.{asked, counted, symbols, with_fti}
use Rattle.reception.specs.Symbols.{FullSolvable}
use Rattle.reception.specs.Walks.{readings_of}
use Rattle.reception.proofs.OneAnswer.{same_readings}
use Rattle.reception.proofs.Within.{within}
use Rattle.decoder.specs.Answers.{answer_value}
use Rattle.decoder.specs.Answered.{Answers, NoneIsShort, Stand}
use Rattle.file_decoder.specs.InFile.{held_in, file_at, AllStandIn}
use Rattle.file_decoder.specs.IndexedIn.{AreFull}
use Rattle.file_decoder.specs.PlacesOf.{AreEnoughPlaces, AreIndexedOf, ArePlacedIn, ArePlacedOf}
use Rattle.block_recovery.specs.Received.{came_at}
use Rattle.block_recovery.specs.Decoded.{AreInRange}
use Rattle.decoder.specs.Unsolvable.{HaveBytes, SomeUnsound}
use Rattle.decoder.specs.Written.{IsVerdict, BeginsObject}
use Rattle.decoder.specs.declared.answer.Answer.{Answer}
use Rattle.file_decoder.specs.declared.indexed_file.FileSymbols.{FileSymbols}
use Rattle.file_decoder.specs.declared.file_source.Indexed.{Indexed}
use Rattle.decoder.proofs.Answering.{stand_of}
use Rattle.decoder.proofs.BytesOfSymbols.{have_bytes}
use Rattle.file_decoder.proofs.FromFile.{told_if, told_is}
use Rattle.decoder.proofs.OfDatagrams.{answer_of, begun_of}
use Rattle.decoder.proofs.Unsound.{none_unsound}

-- where the places in a file are those of some of its datagrams, where its bytes are told
module _ (content : Option (List ℕ)) (s : Indexed) (of : (x : List ℕ) → content ≡ Some x → (who : Identity) × (ds : List (List ℕ)) × AreIndexedOf who ds x s) where
  pub indexed_stand : AllStandIn content (with_fti s.identity s.fti) s.symbols → Stand s.fti (file_at content s.symbols)
  indexed_stand told =
      let w = of told.0 told.1 in
      subst (λ (y : List ℕ). Stand s.fti (came_at (held_in y) s.symbols)) (sym (told_is content told.0 told.1))
      (stand_of w.0 w.1 s.fti (came_at (held_in told.0) s.symbols) w.2.received)

  pub indexed_bytes : AllStandIn content (with_fti s.identity s.fti) s.symbols → HaveBytes (file_at content s.symbols)
  indexed_bytes told =
      let w = of told.0 told.1 in
      subst (λ (y : List ℕ). HaveBytes (came_at (held_in y) s.symbols)) (sym (told_is content told.0 told.1))
      (have_bytes w.0 w.1 (came_at (held_in told.0) s.symbols) w.2.read w.2.received.index)

module _ (content : Option (List ℕ)) (s : FileSymbols) where
  pub placed_range : AreEnoughPlaces s → AreInRange s.indexed.fti (file_at content s.indexed.symbols)
  placed_range places = places.range (held_in (unwrap_or content []))

  pub placed_enough : AreEnoughPlaces s → NoneIsShort s.indexed.fti (file_at content s.indexed.symbols)
  placed_enough places = places.enough (held_in (unwrap_or content []))

  pub placed_of : ArePlacedIn content s → (x : List ℕ) → content ≡ Some x → (who : Identity) × (ds : List (List ℕ)) × AreIndexedOf who ds x s.indexed
  placed_of placed x told = let w = rw told at placed.1 in (s.indexed.identity, w.0, w.1.indexed)

  pub placed_framed : ArePlacedIn content s → IfSome content (λ x. (datagrams : List (List ℕ)) × IsFramed datagrams x × ArePlacedOf s.indexed.identity datagrams x s
      × AreFull s.indexed.identity datagrams s.indexed.fti)
  placed_framed placed = told_if content (λ (x : List ℕ). (datagrams : List (List ℕ)) × IsFramed datagrams x × ArePlacedOf s.indexed.identity datagrams x s × AreFull s.indexed.identity datagrams s.indexed.fti) (λ x told.
      let w = rw told at placed.1 in (w.0, w.1.framed, w.1, (readings_of w.0, w.1.indexed.read, w.1.indexed.received.clean, w.1.full)))

module _ (content : Option (List ℕ)) (s : FileSymbols) (ds : List (List ℕ)) (x : List ℕ) (told : content ≡ Some x) (are : ArePlacedOf s.indexed.identity ds x s) where
  pub placed_answer : (answer : value.Answer) → Answers s.indexed.fti (file_at content s.indexed.symbols) answer → IsAnswer s.indexed.identity ds answer
  placed_answer answer answers =
      answer_of s.indexed.identity ds s.indexed.fti (came_at (held_in x) s.indexed.symbols) are.indexed.read are.indexed.received answer
      (subst (λ (y : List ℕ). Answers s.indexed.fti (came_at (held_in y) s.indexed.symbols) answer) (told_is content x told) answers)

  -- what was written at an error begins the object that the datagrams give
  pub placed_begun : (before after : Option (List ℕ)) → BeginsObject s.indexed.fti (file_at content s.indexed.symbols) before after → (object : List ℕ)
      → IsAnswer s.indexed.identity ds (value.Object object) → AppendsSome before after object
  placed_begun before after begins object answer =
      begun_of s.indexed.identity ds s.indexed.fti (came_at (held_in x) s.indexed.symbols) are.indexed.read are.indexed.received before after
      (subst (λ (y : List ℕ). BeginsObject s.indexed.fti (came_at (held_in y) s.indexed.symbols) before after) (told_is content x told) begins) object answer

  -- where the datagrams give an object, no block's symbols are of none
  pub placed_none_unsound : IsValidFti s.indexed.fti → SomeUnsound s.indexed.fti (file_at content s.indexed.symbols) → (object : List ℕ) → IsAnswer s.indexed.identity ds (value.Object object) → ⊥
  placed_none_unsound valid unsound object answer =
      let received = are.indexed.received in
      let e = same_readings ds answer.readings (readings_of ds) answer.read are.indexed.read in
      let w = subst (λ (rs : List Reading). AnswerTo (reception_of s.indexed.identity rs) (value.Object object)) e answer.answers in
      let theirs = w.1.some in
      let ours = received.clean.some in
      let same : w.0 ≡ s.indexed.fti = cc in
      let stand : Stand s.indexed.fti (came_at (held_in x) s.indexed.symbols) =
      record {
        arrivals = symbols (counted s.indexed.identity (readings_of ds));
        index = received.index;
        within = within clash (asked s.indexed.identity) (readings_of ds) s.indexed.fti received.clean;
      } in
      none_unsound s.indexed.fti valid (came_at (held_in x) s.indexed.symbols) stand
      (subst (λ (y : List ℕ). SomeUnsound s.indexed.fti (came_at (held_in y) s.indexed.symbols)) (told_is content x told) unsound)
      (subst (λ (f : Fti). FullSolvable f (reception_of s.indexed.identity (readings_of ds)).symbols) same w.2)

  pub placed_refuted : (o : Option Answer) → IsVerdict s.indexed.fti (file_at content s.indexed.symbols) o → IfSome o (λ a. IsAnswer s.indexed.identity ds (answer_value a))
  placed_refuted None h = tt
  placed_refuted (Some a) h = placed_answer (answer_value a) h

  pub placed_object : (o : Option Answer) → IsVerdict s.indexed.fti (file_at content s.indexed.symbols) o → IsNone o
      → (object : List ℕ) × IsAnswer s.indexed.identity ds (value.Object object)
  placed_object None h none = (h.1, placed_answer (value.Object h.1) h.2)
  placed_object (Some a) h none = absurd (cc)
