use Rattle.std.specs.Prelude.{slice_index}
use Rattle.std.proofs.Common.{◌≡◌, ◌∙◌, ◌<◌, ◌++◌, ℕ, List, length, take, drop, sym, ap, subst, arith, inl, inr}
use Rattle.std.proofs.lemmas.Bool.{cases_eq}
use Rattle.std.proofs.lemmas.List.{with_items_is}
use Rattle.partition.specs.Fti.{source_count, source_place}
use Rattle.certificate.specs.CoefficientRows.{text_place}
use Rattle.certificate.proofs.TextPlaces.{is_text, place_before}
use Rattle.certificate.proofs.column_text.rows_of.Goals as goal

pub loop-b-preserved : goal.loop-b-preserved
loop-b-preserved c =
    let f = c.args.fti.now in
    let b = c.loop-b.b in
    let items : take c.loop-b.rows.len (c.turn_block.new.rows ++ drop (length c.turn_block.new.rows) c.loop-b.rows.items) ≡ c.turn_block.new.rows =
    with_items_is c.loop-b.rows c.turn_block.new.rows (omega (arith, c.turn_block.ensures.len, c.deref_mut.ensures.len)) in
    record {
      len = ap length items ∙ c.turn_block.ensures.len ∙ ap length c.deref_mut.ensures.value ∙ c.loop-b.invariant.len;
      turned = λ a i y la li ly.
          ap (λ (l : List ℕ). slice_index l (source_place f a i y)) items
          ∙ elim (cases_eq a b) [
            | inl e ↦
                (subst (λ (n : ℕ). slice_index c.turn_block.new.rows (source_place f n i y) ≡ slice_index c.args.text.now (text_place f n y i)) (sym e)
                (c.turn_block.ensures.turned i y (subst (λ (n : ℕ). i < source_count f n) e li) ly))
            | inr ne ↦
                (c.turn_block.ensures.before (source_place f a i y) (place_before f c.block_count-b-end.ensures.valid a b i y (omega (arith, la, ne)) li ly)
                ∙ ap (λ (l : List ℕ). slice_index l (source_place f a i y)) c.deref_mut.ensures.value
                ∙ c.loop-b.invariant.turned a i y (omega (arith, la, ne)) li ly)
          ];
    }

pub returns-clause-text : goal.returns-clause-text
returns-clause-text c =
    is_text c.args.fti.now c.block_count-b-end.ensures.valid c.args.text.now c.loop-b.rows.items c.requires
    (λ a i y la li ly. c.loop-b.invariant.turned a i y (omega (arith, la, c.loop-b-test.false, c.block_count-b-end.ensures.value)) li ly)
