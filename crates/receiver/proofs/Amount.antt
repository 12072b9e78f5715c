-- How many symbols are kept of a block.
use Rattle.std.specs.Prelude.{is_some, filter}
use Rattle.std.specs.Option.{option_map_or}
use Rattle.std.proofs.Common.{◌≡◌, ◌∙◌, ℕ, min, List, Option, Some, None, length, sym, ap, subst, arith}
use Rattle.lists.specs.Below.{below}
use Rattle.partition.specs.Fti.{Fti, IsValidFti, source_count, encoding_count}
use Rattle.partition.proofs.Laws.{encoding_most}
use Rattle.alc.specs.Reading.{Reading}
use Rattle.reception.specs.Reception.{ReadAll}
use Rattle.reception.specs.Symbols.{arrived_count}
use Rattle.reception.specs.Walks.{readings_of}
use Rattle.reception.specs.Answer.{reception_of}
use Rattle.reception.proofs.OneAnswer.{same_readings}
use Rattle.receiver.specs.Holds.{Holds}
use Rattle.receiver.specs.Receiving.{stored_count}
use Rattle.receiver.specs.Stands.{StandsWith}
use Rattle.receiver.specs.declared.receiving.Receiving.{Receiving}
use Rattle.receiver.specs.declared.store.Store.{Store}
use Rattle.block_recovery.proofs.Counts.{held_is}
use Rattle.receiver.proofs.Taken.{no_fti, keeps, all_within}

module _ (r : Receiving) (told : Fti → Option (ℕ → List ℕ)) (ds : List (List ℕ)) (rs : List Reading) (stands : StandsWith r told ds) (read : ReadAll ds rs) (block n : ℕ) where
  -- the readings are those that are computed
  by_readings : n ≡ stored_count (reception_of r.identity (readings_of ds)) block → n ≡ stored_count (reception_of r.identity rs) block
  by_readings = subst (λ (ss : List Reading). n ≡ stored_count (reception_of r.identity ss) block) (same_readings ds (readings_of ds) rs stands.read read)

  -- none where there is no store
  pub none_stored : r.store ≡ None → n ≡ 0 → n ≡ stored_count (reception_of r.identity rs) block
  none_stored none is =
      let arrivals = (reception_of r.identity (readings_of ds)).symbols in
      by_readings (is ∙ ap (λ (o : Option Fti). option_map_or (λ f. min (source_count f block) (arrived_count arrivals block)) o 0) (sym (no_fti r told ds stands none)))

  -- as many as stand in the store, and no more than the block has source symbols
  pub stored_is : (store : Store) → r.store ≡ Some store → IsValidFti store.fti
      → ((bytes : ℕ → List ℕ) (at : ℕ → ℕ → Option (List ℕ)) → Holds store bytes at → n ≡ min (source_count store.fti block) (length (filter (λ j. is_some (at block j)) (below (encoding_count store.fti block)))))
      → n ≡ stored_count (reception_of r.identity rs) block
  stored_is store is valid held =
      let k = keeps r told ds stands store is in
      let arrivals = (reception_of r.identity (readings_of ds)).symbols in
      by_readings
      (held k.1.holds.0 k.1.at k.1.holds.2
      ∙ ap (min (source_count store.fti block)) (sym (held_is store.fti arrivals k.1.at block k.1.index (all_within r told ds stands store is) (omega (arith, encoding_most store.fti valid block, valid.max_below))))
      ∙ ap (λ (o : Option Fti). option_map_or (λ f. min (source_count f block) (arrived_count arrivals block)) o 0) (sym k.0))
