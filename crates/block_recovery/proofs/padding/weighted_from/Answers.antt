use Rattle.std.specs.Prelude.{slice_index, Option, Some, option_map}
use Rattle.std.proofs.Common.{◌≡◌, ◌<◌, ◌+◌, ◌-◌, ◌∙◌, ℕ, List, [], ◌∷◌, ◌++◌, length, get_or, take, drop, refl, sym, ap, arith}
use Rattle.std.specs.Borrow.{Bor}
use Rattle.std.specs.Simd.Lanes.{zip2}
use Rattle.std.proofs.lemmas.List.{take_more, length-drop, get_or-drop, with_items_is}
use Rattle.std.proofs.lemmas.Simd.{get_or-zip2, length-zip2}
use Rattle.std.proofs.lemmas.Grind.{common_steps}
use Rattle.std.specs.Int.Bits.{xor_zero_r}
use Rattle.gf256.specs.ProductLaws.{product_zero}
use Rattle.gf256.specs.Arithmetic.{sum_of, product}
use Rattle.block_recovery.specs.Blocks.{bytes_of_esi, byte_of}
use Rattle.block_recovery.specs.Differences.{weight, weighted_sum}
use Rattle.block_recovery.proofs.Differences.{weighted_more}
use Rattle.block_recovery.proofs.padding.weighted_from.Goals as goal
use Rattle.block_recovery.proofs.padding.weighted_from.Goals.{in-Some, in_default}

-- the sum with one symbol more
added : (w v : ℕ → ℕ) (esis : List ℕ) (place next : ℕ) → place < length esis → next ≡ get_or esis place 0 → (old new x : ℕ)
    → old ≡ weighted_sum w v (take place esis) → new ≡ sum_of old (product (w next) x) → x ≡ v next → new ≡ weighted_sum w v (take (place + 1) esis)
added w v esis place next inside is old new x before adds value =
    adds ∙ ap (λ (y : ℕ). sum_of y (product (w next) x)) before ∙ ap (λ (y : ℕ). sum_of (weighted_sum w v (take place esis)) (product (w next) y)) value
    ∙ sym (weighted_more w v (take place esis) next) ∙ ap (λ (y : ℕ). weighted_sum w v (take place esis ++ y ∷ [])) is ∙ ap (weighted_sum w v) (sym (take_more esis place 0 inside))

pub loop-esi-preserved : goal.loop-esi-preserved
loop-esi-preserved c =
    let esis = c.args.esis.now in
    let place = c.loop-esi.esi-index in
    let next = get_or c.args.esis.now c.loop-esi.esi-index 0 in
    let from : ℕ = c.args.from in
    let at = bytes_of_esi c.args.arrivals.now in
    let value = λ (y j : ℕ). byte_of (bytes_of_esi c.args.arrivals.now j) (c.args.from + y) in
    let here : bytes_of_esi c.args.arrivals.now (get_or c.args.esis.now c.loop-esi.esi-index 0) ≡ option_map (λ s. s.now) c.symbol_at.result =
    ap (bytes_of_esi c.args.arrivals.now) (sym c.from.ensures) ∙ sym c.symbol_at.ensures in
    elim c.match-symbol_at.branch [
      | in-Some w ↦
          (let s : List ℕ = w.in-Some.symbol.now in
          let came : bytes_of_esi c.args.arrivals.now (get_or c.args.esis.now c.loop-esi.esi-index 0) ≡ Some w.in-Some.symbol.now = here ∙ ap (option_map (λ (s : Bor (List ℕ)). s.now)) w.in-Some.is in
          let len : length w.in-Some.symbol.now ≡ c.args.size = c.requires.symbols next s came in
          let f = λ (x y : ℕ). sum_of x (product w.weight.result y) in
          let made : w.add_scaled.new.dst ≡ zip2 (λ x y. sum_of x (product w.weight.result y)) c.loop-esi.sum.items (drop c.args.from w.in-Some.symbol.now) =
          w.add_scaled.ensures ∙ ap (λ (l : List ℕ). zip2 (λ x y. sum_of x (product w.weight.result y)) l w.from_column.result.now) w.deref_mut.ensures.value
          ∙ ap (zip2 (λ x y. sum_of x (product w.weight.result y)) c.loop-esi.sum.items) w.from_column.ensures in
          let part : length (drop c.args.from w.in-Some.symbol.now) ≡ c.args.size - c.args.from = omega (arith, len, length-drop from s) in
          let long : length w.add_scaled.new.dst ≡ length c.loop-esi.sum.items = ap length made ∙ length-zip2 f c.loop-esi.sum.items (drop from s) (c.loop-esi.invariant.len ∙ sym part) in
          let items : c.match-symbol_at.sum.items ≡ zip2 (λ x y. sum_of x (product w.weight.result y)) c.loop-esi.sum.items (drop c.args.from w.in-Some.symbol.now) =
          ap (λ v. v.items) w.sum-is ∙ with_items_is c.loop-esi.sum w.add_scaled.new.dst (omega (arith, long)) ∙ made in
          record {
            len = ap length items ∙ sym (ap length made) ∙ long ∙ c.loop-esi.invariant.len;
            sums = λ y ly.
                added (weight esis) (value y) esis place next c.loop-esi-test.true refl (slice_index c.loop-esi.sum.items y) (slice_index c.match-symbol_at.sum.items y) (slice_index s (from + y))
                (c.loop-esi.invariant.sums y ly)
                (ap (λ (l : List ℕ). slice_index l y) items
                ∙ get_or-zip2 f c.loop-esi.sum.items (drop from s) y 0 0 0 (omega (arith, ly, c.loop-esi.invariant.len)) (omega (arith, ly, part))
                ∙ ap (λ (x : ℕ). f (slice_index c.loop-esi.sum.items y) x) (get_or-drop from s y 0)
                ∙ ap (λ (x : ℕ). sum_of (slice_index c.loop-esi.sum.items y) (product x (slice_index s (from + y)))) w.weight.ensures)
                (sym (ap (λ (o : Option (List ℕ)). byte_of o (from + y)) came));
          })
      | in_default w ↦ record {
        len = rw w.sum-is c.loop-esi.invariant.len;
        sums = λ y ly.
            added (weight esis) (value y) esis place next c.loop-esi-test.true refl (slice_index c.loop-esi.sum.items y) (slice_index c.match-symbol_at.sum.items y) 0
            (c.loop-esi.invariant.sums y ly)
            (rw w.sum-is (sym (ap (sum_of (slice_index c.loop-esi.sum.items y)) (product_zero (weight esis next)) ∙ xor_zero_r _)))
            (sym (ap (λ (o : Option (List ℕ)). byte_of o (from + y)) (here ∙ ap (option_map (λ (s : Bor (List ℕ)). s.now)) w.in_default.is)));
      }
    ]

pub loop-esi-init : goal.loop-esi-init
loop-esi-init c = grind (arith, common_steps) steps 2000000

pub add_scaled-requires : goal.add_scaled-requires
add_scaled-requires c = grind (arith, common_steps) steps 2000000

pub returns-clause-sums : goal.returns-clause-sums
returns-clause-sums c = grind (arith, common_steps) steps 2000000
