use Rattle.std.proofs.Common.{rules, ◌≡◌, ◌∙◌, ◌*◌, ◌+◌, ◌≤◌, ◌<◌, ℕ, length, ap, sym, subst, arith}
use Rattle.gf256.proofs.RowPlaces.{row_ends}
use Rattle.partition.specs.Fti.{Fti, IsValidFti, encoding_count, source_count}
use Rattle.certificate.specs.BlockSymbols.{AreSymbols}
use Rattle.file_check.specs.Blocks.{AreSourceOf}
use Rattle.file_check.proofs.Given.{AreCompared, none_compared, same_row, other_row, row_long, same_below, other_at, gives_block, first_in_block}
use Rattle.file_check.proofs.blocks.first_not_given.Goals.{in-Some+then-column-right, in-Some+else-column-right, in_default}
use Rattle.file_check.proofs.blocks.first_not_given.Goals as goal

pub loop-i-init : goal.loop-i-init
loop-i-init c = none_compared c.args.symbols.now c.args.source.now c.from-width.result

pub loop-i-preserved : goal.loop-i-preserved
loop-i-preserved c =
    let symbols = c.args.symbols.now in
    let source = c.args.source.now in
    let width = c.from-width.result in
    let i = c.loop-i.i in
    let right = c.loop-i.right in
    let h = c.loop-i.invariant in
    let k = source_count c.args.fti.now c.args.block in
    let width_is = c.from-width.ensures ∙ c.symbol_length.ensures.value in
    let li : i < k = omega (arith, c.loop-i-test.true, c.k-i-end.ensures.value) in
    let ends = row_ends i k width li in
    let size : k * width ≡ k * c.args.fti.now.symbol_length = ap (λ (w : ℕ). k * w) width_is in
    let room : i * width + width ≤ length symbols = omega (arith, ends, size, c.requires.symbols) in
    let long = row_long symbols source width i symbols room in
    elim c.match-first_difference.branch [
      | in-Some+then-column-right w ↦
          let column = w.in-Some.column in
          let first = w.in-Some.ensures.some in
          let inside : column < width = omega (arith, w.if-column-right.true, h.most) in
          rw (w.right-is, w.symbol-is) (other_row symbols source width i right c.loop-i.symbol h column w.if-column-right.true
          (other_at symbols source width i column inside first)
          (same_below symbols source width i column (omega (arith, inside)) first.same_before))
      | in-Some+else-column-right w ↦
          let column = w.in-Some.column in
          let first = w.in-Some.ensures.some in
          let inside : column < width = omega (arith, first.place, long) in
          let same = same_below symbols source width i column (omega (arith, inside)) first.same_before in
          rw (w.right-is, w.symbol-is) (same_row symbols source width i right c.loop-i.symbol h
          (λ y ly. same y (omega (arith, ly, w.if-column-right.false))))
      | in_default w ↦
          let same = same_below symbols source width i width (omega arith) (rw long at (c.first_difference.ensures.none (search rules))) in
          rw (w.right-is, w.symbol-is) (same_row symbols source width i right c.loop-i.symbol h
          (λ y ly. same y (omega (arith, ly, h.most))))
    ]

pub returns-then-right-width-clause-some : goal.returns-then-right-width-clause-some
returns-then-right-width-clause-some c = λ o z same of_object are. (
    let b = c.args.block in
    let symbols = c.args.symbols.now in
    let source = c.args.source.now in
    let width_is : c.from-width.result ≡ z.fti.symbol_length = c.from-width.ensures ∙ c.symbol_length.ensures.value ∙ ap (λ (f : Fti). f.symbol_length) (sym same) in
    let h = subst (λ w. AreCompared symbols source w c.loop-i.i c.loop-i.right c.loop-i.symbol) width_is c.loop-i.invariant in
    let k_is : c.k-i-end.result ≡ source_count z.fti b = c.k-i-end.ensures.value ∙ ap (λ (f : Fti). source_count f b) (sym same) in
    first_in_block o z b (subst IsValidFti (sym same) c.symbol_length.ensures.valid) symbols source
    (subst (λ f. AreSymbols z b 0 (encoding_count f b) symbols) (sym same) are)
    (subst (λ f. AreSourceOf f o b source) (sym same) of_object) c.loop-i.i c.loop-i.right c.loop-i.symbol h
    (omega (arith, k_is, c.loop-i-test.false)) (omega (arith, k_is, c.loop-i.auto.i-end)) (omega (arith, width_is, c.if-right-width.true)))

pub returns-else-right-width-clause-none : goal.returns-else-right-width-clause-none
returns-else-right-width-clause-none c = λ o z same of_object are none. (
    let b = c.args.block in
    let symbols = c.args.symbols.now in
    let source = c.args.source.now in
    let width_is : c.from-width.result ≡ z.fti.symbol_length = c.from-width.ensures ∙ c.symbol_length.ensures.value ∙ ap (λ (f : Fti). f.symbol_length) (sym same) in
    let h = subst (λ w. AreCompared symbols source w c.loop-i.i c.loop-i.right c.loop-i.symbol) width_is c.loop-i.invariant in
    let k_is : c.k-i-end.result ≡ source_count z.fti b = c.k-i-end.ensures.value ∙ ap (λ (f : Fti). source_count f b) (sym same) in
    gives_block o z b (subst IsValidFti (sym same) c.symbol_length.ensures.valid) symbols source
    (subst (λ f. AreSymbols z b 0 (encoding_count f b) symbols) (sym same) are)
    (subst (λ f. AreSourceOf f o b source) (sym same) of_object) c.loop-i.i c.loop-i.right c.loop-i.symbol h
    (omega (arith, k_is, c.loop-i-test.false)) (omega (arith, width_is, c.if-right-width.false)))
