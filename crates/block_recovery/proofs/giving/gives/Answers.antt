use Rattle.std.proofs.Common.{◌≡◌, ◌<◌, ◌≤◌, ◌+◌, ◌*◌, ◌∙◌, ℕ, List, length, ap, sym, arith, inl, inr}
use Rattle.std.specs.Prelude.{slice_index}
use Rattle.std.proofs.lemmas.Bool.{cases_Bool}
use Rattle.std.proofs.lemmas.Grind.{same_number_lists}
use Rattle.elim.specs.Grid.{entry}
use Rattle.gf256.specs.Arithmetic.{sum_of}
use Rattle.block_code.specs.CodesOf.{IsCodeOf}
use Rattle.block_code.specs.Codes.{code_for}
use Rattle.block_code.proofs.RowAdding.{products}
use Rattle.block_code.proofs.Sizes.{picked_has}
use Rattle.partition.specs.Fti.{source_count}
use Rattle.block_recovery.specs.Blocks.{given}
use Rattle.block_recovery.specs.Decoded.{row_byte}
use Rattle.block_recovery.specs.Rows.{byte_in}
use Rattle.block_recovery.proofs.Erased.{row_same, sum_itself, sum_none_same}
use Rattle.block_recovery.proofs.GivenSymbols.{gives_given, gives_source, given_is, source_is}
use Rattle.block_recovery.proofs.giving.gives.Goals as goal
use lib.Pointwise.{bytes_decides}

pub returns-then-place-rows : goal.returns-then-place-rows
returns-then-place-rows c =
    let f = c.args.fti.now in
    let b : ℕ = c.args.b in
    let esi : ℕ = c.args.esi in
    let items = c.args.rows.now.bytes.items in
    let y : List ℕ = c.args.symbol.now in
    let g = (code_for (source_count c.args.fti.now c.args.b) c.args.codes.now.large c.args.codes.now.small).matrix in
    let made : (i x : ℕ) → byte_in c.args.rows.now i x ≡ row_byte c.args.rows.now.bytes.items c.args.fti.now.symbol_length x i =
    λ i x. ap (λ (s : ℕ). slice_index c.args.rows.now.bytes.items (i * s + x)) c.requires.sizes.bytes_are in
    let small : (x i : ℕ) → row_byte c.args.rows.now.bytes.items c.args.fti.now.symbol_length x i < 256 = λ x i. (let e = made i x in let byte = c.are_bytes.ensures i x in omega (arith, e, byte)) in
    let code = c.requires.codes c.args.b c.requires.number in
    let lj : c.args.esi < source_count c.args.fti.now c.args.b = omega (arith, c.if-place-rows.true, c.from-place.ensures, c.requires.sizes.rows_are) in
    let here : (x : ℕ) → x < c.args.fti.now.symbol_length → slice_index c.row.result.now x ≡ row_byte c.args.rows.now.bytes.items c.args.fti.now.symbol_length x c.args.esi =
    λ x lx. c.row.ensures.bytes x (omega (arith, lx, c.requires.sizes.bytes_are)) ∙ ap (λ (i : ℕ). byte_in c.args.rows.now i x) c.from-place.ensures ∙ made c.args.esi x in (
      λ yes x lx.
          let same = (bytes_decides c.row.result.now c.args.symbol.now).0 (sym c.eq.ensures ∙ yes) in
          gives_source f b g code items x esi (small x) lj (slice_index y x) (sym (here x lx) ∙ ap (λ (l : List ℕ). slice_index l x) same),
      λ gives.
          c.eq.ensures ∙ (bytes_decides c.row.result.now c.args.symbol.now).1
          (same_number_lists c.row.result.now y (c.row.ensures.len ∙ c.requires.sizes.bytes_are ∙ sym c.requires.len)
          (λ x lx.
          let inside : x < c.args.fti.now.symbol_length = omega (arith, lx, c.row.ensures.len, c.requires.sizes.bytes_are) in
          here x inside ∙ source_is f b items x esi (slice_index y x) lj (gives x inside))),
    )

pub returns : goal.returns
returns c =
    let f = c.args.fti.now in
    let b : ℕ = c.args.b in
    let esi : ℕ = c.args.esi in
    let items = c.args.rows.now.bytes.items in
    let y : List ℕ = c.args.symbol.now in
    let g = c.of-code.result.now.matrix in
    let left = c.in_ok-left.left in
    let made : (i x : ℕ) → byte_in c.args.rows.now i x ≡ row_byte c.args.rows.now.bytes.items c.args.fti.now.symbol_length x i =
    λ i x. ap (λ (s : ℕ). slice_index c.args.rows.now.bytes.items (i * s + x)) c.requires.sizes.bytes_are in
    let small : (x i : ℕ) → row_byte c.args.rows.now.bytes.items c.args.fti.now.symbol_length x i < 256 = λ x i. (let e = made i x in let byte = c.are_bytes.ensures i x in omega (arith, e, byte)) in
    let code = picked_has (IsCodeOf c.args.fti.now) c.args.fti.now c.args.codes.now c.requires.codes c.args.b c.k.result c.of-code.result.now c.requires.number c.k.ensures.value c.of-code.ensures in
    let lj : c.args.esi < c.of-code.result.now.matrix.cols = omega (arith, c.requires.esi, code.cols) in
    let few : source_count c.args.fti.now c.args.b ≤ 255 = omega (arith, c.k.ensures.value, c.k.ensures.byte) in
    let same : (x : ℕ) → given c.of-code.result.now.matrix (λ i. row_byte c.args.rows.now.bytes.items c.args.fti.now.symbol_length x i) c.args.esi ≡ given c.of-code.result.now.matrix (λ i. byte_in c.args.rows.now i x) c.args.esi =
    λ x. row_same (λ i. row_byte items f.symbol_length x i) (λ i. byte_in c.args.rows.now i x) (entry 0 g) g.rows esi (λ i li. sym (made i x)) in
    let sums : (x : ℕ) → x < c.args.fti.now.symbol_length → slice_index c.in_ok-left.left.bytes.items (0 * c.in_ok-left.left.size + x) ≡ sum_of (slice_index c.args.symbol.now x) (given c.of-code.result.now.matrix (λ i. row_byte c.args.rows.now.bytes.items c.args.fti.now.symbol_length x i) c.args.esi) =
    λ x lx. c.in_ok-left.ensures.sums x (omega (arith, lx, c.requires.sizes.bytes_are)) ∙ ap (sum_of (slice_index c.args.symbol.now x)) (sym (same x)) in (
      λ yes x lx.
          let zero = ap (λ (l : List ℕ). slice_index l (0 * left.size + x)) (sym c.deref.ensures.value) ∙ c.is_zero.ensures.zero yes (0 * left.size + x) in
          gives_given f b g code items x esi (small x) lj (slice_index y x)
          (sum_none_same (slice_index y x) (given g (λ i. row_byte items f.symbol_length x i) esi) (sym (sums x lx) ∙ zero)),
      λ gives. elim (cases_Bool c.is_zero.result) [
        | inl zero ↦ zero
        | inr other ↦
            (let o = c.is_zero.ensures.other other in
            let inside : o.0 < c.args.fti.now.symbol_length =
            omega (arith, o.1, ap length c.deref.ensures.value, left.whole, products left.count left.size 1 f.symbol_length c.in_ok-left.ensures.sizes.rows_are (c.in_ok-left.ensures.sizes.bytes_are ∙ c.requires.sizes.bytes_are)) in
            let start : 0 * c.in_ok-left.left.size + o.0 ≡ o.0 = omega arith in
            absurd (o.2 (ap (λ (l : List ℕ). slice_index l o.0) c.deref.ensures.value ∙ ap (slice_index left.bytes.items) (sym start) ∙ sums o.0 inside
            ∙ ap (sum_of (slice_index y o.0)) (given_is f b g code items o.0 esi few lj (slice_index y o.0) (gives o.0 inside)) ∙ sum_itself (slice_index y o.0))))
      ],
    )
