use Rattle.std.specs.Prelude.{Some, None, option_map, slice_index, is_some, ◌||◌, ◌==◌}
use Rattle.std.proofs.Common.{◌≡◌, ◌+◌, ◌-◌, ◌<◌, ◌∙◌, ℕ, List, length, sym, ap, arith}
use Rattle.std.specs.Borrow.{Bor}
use Rattle.std.proofs.lemmas.List.{length-drop, get_or-drop}
use Rattle.std.proofs.lemmas.Grind.{elements}
use Rattle.partition.specs.Fti.{source_count}
use Rattle.partition.proofs.Laws.{counts, source_encoding}
use Rattle.block_recovery.specs.Blocks.{bytes_of_esi, byte_of}
use Rattle.block_recovery.specs.Differences.{weight, weighted_sum}
use Rattle.block_recovery.specs.Erasures.{AreThose}
use Rattle.block_recovery.proofs.Padded.{last_not_padded, others_not_padded}
use Rattle.block_recovery.proofs.padding.may_be_padded.Goals as goal

pub symbol_at-requires : goal.symbol_at-requires
symbol_at-requires c =
    let least = source_encoding c.args.fti.now c.symbol_length.ensures.valid c.args.b in
    omega (arith, least, c.requires.count, c.k-last.ensures.value, c.k-last.ensures.some)

pub esis_with-requires : goal.esis_with-requires
esis_with-requires c =
    let few = counts c.args.fti.now c.symbol_length.ensures.valid c.args.b c.requires.number in
    omega (arith, few.2, c.requires.count)

pub weighted_from-requires-clause-few : goal.weighted_from-requires-clause-few
weighted_from-requires-clause-few c =
    let few = counts c.args.fti.now c.symbol_length.ensures.valid c.args.b c.requires.number in
    omega (arith, few.2, c.requires.count)

pub returns-in-Some : goal.returns-in-Some
returns-in-Some c = λ no.
    let f = c.args.fti.now in
    let last : c.k-last.result - 1 ≡ source_count c.args.fti.now c.args.b - 1 = ap (λ (n : ℕ). n - 1) c.k-last.ensures.value in
    let o = c.is_zero.ensures.other no in
    let from : ℕ = c.last_used-from.result in
    let symbol : List ℕ = c.in-Some.symbol.now in
    let came : bytes_of_esi c.args.arrivals.now (source_count c.args.fti.now c.args.b - 1) ≡ Some c.in-Some.symbol.now =
    ap (bytes_of_esi c.args.arrivals.now) (sym last) ∙ sym c.symbol_at.ensures ∙ ap (option_map (λ (s : Bor (List ℕ)). s.now)) c.in-Some.is in
    let len = c.requires.symbols (source_count f c.args.b - 1) symbol came in
    let inside : c.last_used-from.result + o.0 < c.args.fti.now.symbol_length = omega (arith, o.1, ap length c.from_column.ensures, length-drop from symbol, len) in
    last_not_padded f c.args.b (bytes_of_esi c.args.arrivals.now) (omega (arith, c.k-last.ensures.value, c.k-last.ensures.some)) (from + o.0) inside
    (c.last_used-from.ensures.padding (from + o.0) (omega arith) inside) symbol came
    (λ z. o.2 (ap (λ (l : List ℕ). slice_index l o.0) c.from_column.ensures ∙ get_or-drop from symbol o.0 0 ∙ z))

pub returns : goal.returns
returns c = λ no.
    let f = c.args.fti.now in
    let valid = c.symbol_length.ensures.valid in
    let last : c.k-last.result - 1 ≡ source_count c.args.fti.now c.args.b - 1 = ap (λ (n : ℕ). n - 1) c.k-last.ensures.value in
    let few = counts f valid c.args.b c.requires.number in
    let o = c.is_zero-2.ensures.other no in
    let from : ℕ = c.last_used-from.result in
    let at = bytes_of_esi c.args.arrivals.now in
    let esis : List ℕ = c.in_ok-esis.esis.items in
    let none : bytes_of_esi c.args.arrivals.now (source_count c.args.fti.now c.args.b - 1) ≡ None =
    ap (bytes_of_esi c.args.arrivals.now) (sym last) ∙ sym c.symbol_at.ensures ∙ ap (option_map (λ (s : Bor (List ℕ)). s.now)) c.in_default.is in
    let inside : c.last_used-from.result + o.0 < c.args.fti.now.symbol_length =
    omega (arith, o.1, ap length c.deref-2.ensures.value, c.in_ok-sum.ensures.len, c.from-size.ensures, c.symbol_length.ensures.value) in
    let those : AreThose (λ j. is_some (bytes_of_esi c.args.arrivals.now j) || j == source_count c.args.fti.now c.args.b - 1) 0 (length c.args.arrivals.now) c.in_ok-esis.esis.items =
    (rw last at c.in_ok-esis.ensures) in
    others_not_padded f c.args.b at few.0 (from + o.0) inside (c.last_used-from.ensures.padding (from + o.0) (omega arith) inside)
    (length c.args.arrivals.now) esis those c.requires.count (let least = source_encoding f valid c.args.b in omega (arith, least, c.requires.count)) (omega (arith, few.2, c.requires.count)) c.requires.enough none
    (λ z. o.2 (ap (λ (l : List ℕ). slice_index l o.0) c.deref-2.ensures.value ∙ c.in_ok-sum.ensures.sums o.0 (omega (arith, o.1, ap length c.deref-2.ensures.value, c.in_ok-sum.ensures.len))
    ∙ ap (λ (l : List ℕ). weighted_sum (weight l) (λ j. byte_of (at j) (from + o.0)) l) c.deref.ensures.value ∙ z))

pub weighted_from-requires-clause-esis : goal.weighted_from-requires-clause-esis
weighted_from-requires-clause-esis c = grind (arith, elements) steps 2000000
