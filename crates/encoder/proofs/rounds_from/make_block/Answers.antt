use Rattle.std.proofs.Common.{◌≡◌, ◌<◌, ◌≤◌, ◌+◌, ◌-◌, ◌*◌, ◌∙◌, ℕ, List, length, take, drop, ap, sym, subst, arith, length-drop, length-take-le}
use Rattle.std.proofs.Math.Nat.{mul-le-mul_right}
use Rattle.partition.specs.Fti.{encoding_count}
use Rattle.reception.specs.Symbols.{Agrees}
use Rattle.certificate.proofs.GreatestBlock.{rows_of_block}
use Rattle.block_code.specs.CodesOf.{IsCodeOf}
use Rattle.block_code.proofs.Sizes.{picked_has}
use Rattle.block_code.proofs.RowAdding.{products}
use Rattle.encoder.specs.Rows.{row_at}
use Rattle.encoder.proofs.InPasses.{first_most}
use Rattle.encoder.proofs.RoundRows.{row_here}
use Rattle.encoder.proofs.rounds_from.make_block.Goals as goal

pub slice_bounds-bytes-end : goal.slice_bounds-bytes-end
slice_bounds-bytes-end g c =
    omega (arith, c.block_bytes.ensures.value, rows_of_block c.args.t.now.fti c.symbol_length.ensures.valid c.args.block, c.requires.sources)

pub slice_bounds-bytes-end-2 : goal.slice_bounds-bytes-end-2
slice_bounds-bytes-end-2 g c =
    let room : c.block_bytes.result ≤ length c.args.sources.now = omega (arith, c.block_bytes.ensures.value, rows_of_block c.args.t.now.fti c.symbol_length.ensures.valid c.args.block, c.requires.sources) in
    sym (length-take-le c.block_bytes.result c.args.sources.now room)

pub slice_bounds-rows-end : goal.slice_bounds-rows-end
slice_bounds-rows-end g c =
    let f = c.args.t.now.fti in
    let fewer : c.n-count.result ≤ c.n.result = omega (arith, c.n-count.ensures.value, c.n.ensures.value, first_most f c.symbol_length.ensures.valid c.args.block) in
    let most : c.n-count.result * c.from-size.result ≤ c.n.result * c.from-size.result = mul-le-mul_right c.from-size.result fewer in
    let one = products c.n.result c.from-size.result (encoding_count f 0) f.symbol_length c.n.ensures.value (c.from-size.ensures ∙ c.symbol_length.ensures.value) in
    let all = ap (λ (n : ℕ). (c.args.i + 1) * n) one in
    omega (arith, most, all, c.requires.room)

pub returns-clause-read : goal.returns-clause-read
returns-clause-read g c =
    let f = c.args.t.now.fti in
    let valid = c.symbol_length.ensures.valid in
    let room : c.block_bytes.result ≤ length c.args.sources.now = omega (arith, c.block_bytes.ensures.value, rows_of_block f valid c.args.block, c.requires.sources) in
    let size = c.from-size.ensures ∙ c.symbol_length.ensures.value in
    let one = products c.n.result c.from-size.result (encoding_count f 0) f.symbol_length c.n.ensures.value size in
    let at : c.args.i * (c.n.result * c.from-size.result) ≡ c.args.i * encoding_count f 0 * f.symbol_length =
    ap (λ (n : ℕ). c.args.i * n) one ∙ (let same : c.args.i * (encoding_count f 0 * f.symbol_length) ≡ c.args.i * encoding_count f 0 * f.symbol_length = omega arith in same) in
    let whole : c.n-count.result * c.from-size.result ≡ c.n-count.result * f.symbol_length = ap (λ (v : ℕ). c.n-count.result * v) size in
    let long : length c.encoding_symbols.new.out ≡ c.n-count.result * f.symbol_length = omega (arith, whole, c.encoding_symbols.ensures.len) in
    let all = ap (λ (n : ℕ). (c.args.i + 1) * n) one in
    let inside : c.args.i * (c.n.result * c.from-size.result) ≤ length c.args.symbols.now = omega (arith, all, c.requires.room) in
    record {
      block = c.read_block.new.bytes;
      count = c.in_ok-read_block.ensures.len ∙ length-take-le c.block_bytes.result c.args.sources.now room ∙ c.block_bytes.ensures.value;
      bytes = c.in_ok-read_block.ensures.bytes;
      consumed = c.in_ok-read_block.ensures.read;
      holds = λ object bytes are j lj.
          let within : j < c.n-count.result = omega (arith, lj, c.n-count.ensures.value) in
          let zero_more : 0 + j ≡ j = omega arith in
          let row = row_here f.symbol_length c.n-count.result c.args.symbols.now c.encoding_symbols.new.out _ (c.args.i * (c.n.result * c.from-size.result)) (c.args.i * encoding_count f 0) j inside at long within in
          let agrees = subst (λ (v : ℕ). Agrees f object (record { block = c.args.block; esi = v; bytes = row_at f.symbol_length c.encoding_symbols.new.out j })) zero_more
          (c.encoding_symbols.ensures.symbols object bytes are j within) in
          subst (λ (y : List ℕ). Agrees f object (record { block = c.args.block; esi = j; bytes = y })) (sym row) agrees;
    }

pub encoding_symbols-requires-clause-block : goal.encoding_symbols-requires-clause-block
encoding_symbols-requires-clause-block g c = c.requires.block

pub encoding_symbols-requires-clause-within : goal.encoding_symbols-requires-clause-within
encoding_symbols-requires-clause-within g c = omega (arith, c.n-count.ensures.value)

pub encoding_symbols-requires-clause-code : goal.encoding_symbols-requires-clause-code
encoding_symbols-requires-clause-code g c =
    picked_has (IsCodeOf c.args.t.now.fti) _ c.args.t.now.codes c.requires.codes c.args.block c.k.result _ c.requires.block c.k.ensures.value c.of-code.ensures

pub encoding_symbols-requires-clause-room : goal.encoding_symbols-requires-clause-room
encoding_symbols-requires-clause-room g c =
    let f = c.args.t.now.fti in
    let size = c.from-size.ensures ∙ c.symbol_length.ensures.value in
    let from : ℕ = c.args.i * (c.n.result * c.from-size.result) in
    let many : ℕ = c.n-count.result * c.from-size.result in
    let fewer : c.n-count.result ≤ c.n.result = omega (arith, c.n-count.ensures.value, c.n.ensures.value, first_most f c.symbol_length.ensures.valid c.args.block) in
    let most : many ≤ c.n.result * c.from-size.result = mul-le-mul_right c.from-size.result fewer in
    let all = ap (λ (n : ℕ). (c.args.i + 1) * n) (products c.n.result c.from-size.result (encoding_count f 0) f.symbol_length c.n.ensures.value size) in
    let one : from + many - from ≡ many = omega arith in
    let room : many ≤ length (drop from c.args.symbols.now) = omega (arith, length-drop from c.args.symbols.now, most, all, c.requires.room) in
    ap (λ (n : ℕ). length (take n (drop from c.args.symbols.now))) one ∙ length-take-le many (drop from c.args.symbols.now) room
    ∙ ap (λ (v : ℕ). c.n-count.result * v) size
