use Rattle.std.proofs.Common.{◌<◌, ◌≤◌, ◌+◌, ◌-◌, ◌*◌, ◌∙◌, ℕ, zero, suc, arith}
use Rattle.partition.specs.Fti.{start_of, source_count}
use Rattle.partition.proofs.Laws.{in_object, some_source}
use Rattle.block_code.proofs.RowAdding.{products}
use Rattle.block_recovery.proofs.padding.last_used.Goals as goal

-- as many times as there is something
at_most_times : (n e : ℕ) → 0 < e → n ≤ n * e
at_most_times n zero some = absurd (omega (arith, some))
at_most_times n (suc e) some = grind arith

pub overflow_add-last : goal.overflow_add-last
overflow_add-last c =
    let f = c.args.fti.now in
    let valid = c.symbol_length.ensures.valid in
    let some = some_source f valid c.args.b in
    let w = in_object f valid c.args.b (source_count f c.args.b - 1) c.requires (omega (arith, some)) in
    let e = at_most_times (start_of f c.args.b + (source_count f c.args.b - 1)) f.symbol_length valid.some_symbol in
    omega (arith, e, w, c.start.ensures.value, c.k.ensures.value, c.k.ensures.byte, valid.length_below)

pub overflow_mul-left : goal.overflow_mul-left
overflow_mul-left c =
    let f = c.args.fti.now in
    let valid = c.symbol_length.ensures.valid in
    let some = some_source f valid c.args.b in
    let e = products (c.start.result + c.k.result - 1) c.from-size.result (start_of f c.args.b + (source_count f c.args.b - 1)) f.symbol_length
    (omega (arith, c.start.ensures.value, c.k.ensures.value, some)) (c.from-size.ensures ∙ c.symbol_length.ensures.value) in
    let w = in_object f valid c.args.b (source_count f c.args.b - 1) c.requires (omega (arith, some)) in
    omega (arith, e, w, valid.length_below)

pub overflow_sub-left : goal.overflow_sub-left
overflow_sub-left c =
    let f = c.args.fti.now in
    let valid = c.symbol_length.ensures.valid in
    let some = some_source f valid c.args.b in
    let e = products (c.start.result + c.k.result - 1) c.from-size.result (start_of f c.args.b + (source_count f c.args.b - 1)) f.symbol_length
    (omega (arith, c.start.ensures.value, c.k.ensures.value, some)) (c.from-size.ensures ∙ c.symbol_length.ensures.value) in
    let w = in_object f valid c.args.b (source_count f c.args.b - 1) c.requires (omega (arith, some)) in
    omega (arith, e, w, c.transfer_length.ensures.value)

pub returns-clause-padding : goal.returns-clause-padding
returns-clause-padding c = λ y past inside.
    let f = c.args.fti.now in
    let valid = c.symbol_length.ensures.valid in
    let some = some_source f valid c.args.b in
    let e = products (c.start.result + c.k.result - 1) c.from-size.result (start_of f c.args.b + (source_count f c.args.b - 1)) f.symbol_length
    (omega (arith, c.start.ensures.value, c.k.ensures.value, some)) (c.from-size.ensures ∙ c.symbol_length.ensures.value) in
    omega (arith, e, past, inside, c.min.ensures, c.from-size.ensures, c.symbol_length.ensures.value, c.transfer_length.ensures.value)
