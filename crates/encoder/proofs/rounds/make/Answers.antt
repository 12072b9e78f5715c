use Rattle.std.proofs.Common.{◌≡◌, ◌<◌, ◌≤◌, ◌+◌, ◌-◌, ◌*◌, ◌∙◌, ℕ, List, length, take, drop, refl, sym, ap, subst, arith, mul-le-mul_right, length-drop, length-take-le}
use Rattle.gf256.proofs.RowPlaces.{row_ends, put_below}
use Rattle.partition.specs.Fti.{block_count}
use Rattle.reception.specs.Symbols.{Agrees}
use Rattle.block_code.specs.CodesOf.{IsCodeOf}
use Rattle.block_code.proofs.Sizes.{picked_has}
use Rattle.block_code.proofs.SourceRows.{bytes_fit}
use Rattle.encoder.proofs.RoundRows.{row_here, made_more}
use Rattle.encoder.proofs.rounds.make.Goals.{then-batch-n, else-batch-n}
use Rattle.encoder.proofs.rounds.make.Goals as goal

pub loop-block-preserved : goal.loop-block-preserved
loop-block-preserved c =
    let f = c.args.t.now.fti in
    let object : List ℕ = c.args.object.now in
    let first : ℕ = c.args.batch.first in
    let count : ℕ = c.args.batch.count in
    let b : ℕ = c.loop-block.block in
    let old : List ℕ = c.loop-block.symbols in
    let inside : b < block_count f = rw c.block_count-block-end.ensures.value at c.loop-block-test.true in
    let size = c.from-size.ensures ∙ c.symbol_length.ensures.value in
    let ends = row_ends b (block_count f) (count * f.symbol_length) inside in
    elim c.if-batch-n.branch [
      | then-batch-n w ↦
          let y : List ℕ = w.encoding_symbols.new.out in
          let many : ℕ = w.min-count.result in
          let from : ℕ = b * (count * c.from-size.result) in
          let at : from ≡ b * (count * f.symbol_length) = ap (λ (v : ℕ). b * (count * v)) size in
          let row : from ≡ b * count * f.symbol_length = omega (arith, at) in
          let fits : from ≤ length old = omega (arith, at, ends, c.requires.room, c.loop-block.auto.symbols) in
          let whole : many * c.from-size.result ≡ many * f.symbol_length = ap (λ (v : ℕ). many * v) size in
          let long : length y ≡ many * f.symbol_length = omega (arith, whole, w.encoding_symbols.ensures.len) in
          rw w.symbols-is (made_more object f first count b old _
          (ap (λ (l : List ℕ). length l) (sym w.symbols-is) ∙ c.if-batch-n.auto.symbols)
          (λ p lp. put_below old y _ from p fits (omega (arith, at, lp)))
          c.loop-block.invariant
          (λ r lr lj.
          let within : r < many = omega (arith, lr, lj, c.n-n.ensures.value) in
          subst (λ (l : List ℕ). Agrees f object (record { block = b; esi = first + r; bytes = l }))
          (sym (row_here f.symbol_length many old y _ from (b * count) r fits row long within))
          (w.encoding_symbols.ensures.symbols object (bytes_fit object c.type_inv.object) w.block_of-sources.ensures r within)))
      | else-batch-n w ↦
          rw w.symbols-is (made_more object f first count b old old refl (λ p lp. refl) c.loop-block.invariant
          (λ r lr lj. absurd (omega (arith, lj, w.if-batch-n.false, c.n-n.ensures.value))))
    ]

pub encoding_symbols-requires-clause-block : goal.encoding_symbols-requires-clause-block
encoding_symbols-requires-clause-block c = rw c.block_count-block-end.ensures.value at c.loop-block-test.true

pub encoding_symbols-requires-clause-within : goal.encoding_symbols-requires-clause-within
encoding_symbols-requires-clause-within c =
    let most : c.min-count.result ≤ c.n-n.result - c.args.batch.first = omega (arith, c.min-count.ensures) in
    omega (arith, most, c.if-batch-n.true, c.n-n.ensures.value)

pub encoding_symbols-requires-clause-room : goal.encoding_symbols-requires-clause-room
encoding_symbols-requires-clause-room c =
    let f = c.args.t.now.fti in
    let b : ℕ = c.loop-block.block in
    let count : ℕ = c.args.batch.count in
    let inside : b < block_count f = rw c.block_count-block-end.ensures.value at c.loop-block-test.true in
    let size = c.from-size.ensures ∙ c.symbol_length.ensures.value in
    let from : ℕ = b * (count * c.from-size.result) in
    let many : ℕ = c.min-count.result * c.from-size.result in
    let few : c.min-count.result ≤ count = omega (arith, c.min-count.ensures) in
    let fewer = mul-le-mul_right c.from-size.result few in
    let same : count * c.from-size.result ≡ count * f.symbol_length = ap (λ (v : ℕ). count * v) size in
    let at : from ≡ b * (count * f.symbol_length) = ap (λ (v : ℕ). b * v) same in
    let ends = row_ends b (block_count f) (count * f.symbol_length) inside in
    let one : from + many - from ≡ many = omega arith in
    let room : many ≤ length (drop from c.loop-block.symbols) =
    omega (arith, length-drop from c.loop-block.symbols, at, same, ends, fewer, c.requires.room, c.loop-block.auto.symbols) in
    ap (λ (n : ℕ). length (take n (drop from c.loop-block.symbols))) one ∙ length-take-le many (drop from c.loop-block.symbols) room
    ∙ ap (λ (v : ℕ). c.min-count.result * v) size

pub encoding_symbols-requires-clause-code : goal.encoding_symbols-requires-clause-code
encoding_symbols-requires-clause-code c =
    let f = c.args.t.now.fti in
    let inside : c.loop-block.block < block_count f = rw c.block_count-block-end.ensures.value at c.loop-block-test.true in
    picked_has (IsCodeOf f) _ c.args.t.now.codes c.requires.codes c.loop-block.block c.k.result _ inside c.k.ensures.value c.of-code.ensures
