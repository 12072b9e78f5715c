use Rattle.std.proofs.Common.{◌≡◌, ◌∙◌, length, rules, sym, vec_len}
use Rattle.std.specs.Prelude.{option_map}
use Rattle.request.proofs.PlaceWords.{none_read, all_read, read_more, read_nothing, read_wrong, not_empty, is_empty}
use Rattle.request.proofs.places.place_ranges.Goals as goal

pub loop-left-init : goal.loop-left-init
loop-left-init c = rw c.new-ranges.ensures.items (none_read c.args.text.now)

pub returns-in_default-bytes_range-clause-fault : goal.returns-in_default-bytes_range-clause-fault
returns-in_default-bytes_range-clause-fault c =
    let word = c.next_piece.result.0.now in
    let many : length c.loop-left.ranges.items ≡ vec_len c.loop-left.ranges = search rules in (
      word,
      read_wrong c.args.text.now c.in-Some.text.now word (option_map (λ rest. rest.now) c.next_piece.result.1) c.loop-left.ranges.items c.len.result (rw c.in-Some.is at c.loop-left.invariant) c.next_piece.ensures.pieces
          (not_empty (length word) (sym c.is_empty.ensures ∙ c.if-not-is_empty.true)) c.in_default-bytes_range.ensures.none (many ∙ sym c.len.ensures),
    )

pub loop-left-preserved-in-Ok : goal.loop-left-preserved-in-Ok
loop-left-preserved-in-Ok c =
    let word = c.next_piece.result.0.now in
    rw c.in-Ok.ensures.items
    (read_more c.args.text.now c.in-Some.text.now word (option_map (λ rest. rest.now) c.next_piece.result.1) c.loop-left.ranges.items c.in-Some-bytes_range.range (rw c.in-Some.is at c.loop-left.invariant) c.next_piece.ensures.pieces
    (not_empty (length word) (sym c.is_empty.ensures ∙ c.if-not-is_empty.true)) c.in-Some-bytes_range.ensures.some)

pub loop-left-preserved : goal.loop-left-preserved
loop-left-preserved c =
    let word = c.next_piece.result.0.now in
    read_nothing c.args.text.now c.in-Some.text.now word (option_map (λ rest. rest.now) c.next_piece.result.1) c.loop-left.ranges.items (rw c.in-Some.is at c.loop-left.invariant) c.next_piece.ensures.pieces
    (is_empty (length word) (sym c.is_empty.ensures ∙ c.if-not-is_empty.false))

pub returns-clause-ok : goal.returns-clause-ok
returns-clause-ok c = all_read c.args.text.now c.loop-left.ranges.items (rw c.in_default.is at c.loop-left.invariant)
