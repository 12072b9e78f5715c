use Rattle.std.proofs.Common.{◌≡◌, ◌+◌, ◌*◌, ◌<◌, ◌≤◌, ◌∙◌, ℕ, List, Some, length, take, drop, ap, sym, refl, subst, arith, rules}
use Rattle.std.specs.Prelude.{slice_index, is_some, filter}
use Rattle.std.proofs.lemmas.List.{length-drop}
use Rattle.lists.specs.Below.{below}
use Rattle.lists.specs.Bytes.{AreBytes}
use Rattle.gf256.specs.Arithmetic.{sum_of}
use Rattle.block_code.specs.CodesOf.{IsCodeOf}
use Rattle.block_code.proofs.RowAdding.{products}
use Rattle.block_code.proofs.Sizes.{picked_has}
use Rattle.block_recovery.specs.Blocks.{bytes_of_esi, byte_of, given, AreOnly}
use Rattle.block_recovery.specs.Decoded.{row_byte}
use Rattle.block_recovery.specs.Rows.{byte_in}
use Rattle.block_recovery.proofs.BlockRows.{stands_within, unexplained, rows_from, padding_zero}
use Rattle.block_recovery.proofs.Erased.{sum_none_same, sum_itself}
use Rattle.block_recovery.proofs.Erasing.{erased_as, enough_repair, few_repair, erasures_of, none_byte, some_bytes}
use Rattle.block_recovery.proofs.Meetings.{are_only, none_meets}
use Rattle.block_recovery.proofs.RowPlaces.{row_and_column}
use Rattle.block_recovery.proofs.Those.{few_pass}
use Rattle.block_recovery.proofs.blocks.block_rows.Goals as goal

pub symbols_at-requires-clause-within : goal.symbols_at-requires-clause-within
symbols_at-requires-clause-within c = λ m lm.
    let f = c.args.fti.now in
    let g = c.of-code.result.now.matrix in
    let at = bytes_of_esi c.args.arrivals.now in
    let code = picked_has (IsCodeOf c.args.fti.now) c.args.fti.now c.args.codes.now c.requires.codes c.args.b c.k-k.result c.of-code.result.now c.requires.number c.k-k.ensures.value c.of-code.ensures in
    let k_is : c.k-k.result ≡ c.of-code.result.now.matrix.rows = c.k-k.ensures.value ∙ sym code.rows in
    let enough : c.of-code.result.now.matrix.rows ≤ length (filter (λ j. is_some (bytes_of_esi c.args.arrivals.now j)) (below c.of-code.result.now.matrix.cols)) =
    subst (λ (n : ℕ). c.of-code.result.now.matrix.rows ≤ length (filter (λ j. is_some (bytes_of_esi c.args.arrivals.now j)) (below n))) (sym code.cols) (omega (arith, code.rows, c.requires.enough)) in
    let lt : m < c.k-k.result = omega (arith, lm, ap length c.deref.ensures.value, c.in_ok-source_esis.ensures.len) in
    let e : slice_index c.deref.result.now m ≡ m = ap (λ (l : List ℕ). slice_index l m) c.deref.ensures.value ∙ c.in_ok-source_esis.ensures.all m lt in
    omega (arith, e, lt, k_is, enough, few_pass (λ j. is_some (bytes_of_esi c.args.arrivals.now j)) c.of-code.result.now.matrix.cols)

pub split_at-requires : goal.split_at-requires
split_at-requires c =
    let f = c.args.fti.now in
    let g = c.of-code.result.now.matrix in
    let at = bytes_of_esi c.args.arrivals.now in
    let code = picked_has (IsCodeOf c.args.fti.now) c.args.fti.now c.args.codes.now c.requires.codes c.args.b c.k-k.result c.of-code.result.now c.requires.number c.k-k.ensures.value c.of-code.ensures in
    let k_is : c.k-k.result ≡ c.of-code.result.now.matrix.rows = c.k-k.ensures.value ∙ sym code.rows in
    let enough : c.of-code.result.now.matrix.rows ≤ length (filter (λ j. is_some (bytes_of_esi c.args.arrivals.now j)) (below c.of-code.result.now.matrix.cols)) =
    subst (λ (n : ℕ). c.of-code.result.now.matrix.rows ≤ length (filter (λ j. is_some (bytes_of_esi c.args.arrivals.now j)) (below n))) (sym code.cols) (omega (arith, code.rows, c.requires.enough)) in
    let erased = erased_as at c.k-k.result g.rows (length c.args.arrivals.now) g.cols _ c.in_ok-erasure.erasure.missing.items _ c.deref-2.result.now c.in_ok-erasure.ensures k_is (c.requires.count ∙ sym code.cols) refl c.deref-2.ensures.value in
    let le = enough_repair at g.rows g.cols _ _ erased enough in
    omega (arith, le, c.len.ensures)

pub solve-requires-clause-erasures : goal.solve-requires-clause-erasures
solve-requires-clause-erasures c =
    let f = c.args.fti.now in
    let g = c.of-code.result.now.matrix in
    let at = bytes_of_esi c.args.arrivals.now in
    let code = picked_has (IsCodeOf c.args.fti.now) c.args.fti.now c.args.codes.now c.requires.codes c.args.b c.k-k.result c.of-code.result.now c.requires.number c.k-k.ensures.value c.of-code.ensures in
    let k_is : c.k-k.result ≡ c.of-code.result.now.matrix.rows = c.k-k.ensures.value ∙ sym code.rows in
    let enough : c.of-code.result.now.matrix.rows ≤ length (filter (λ j. is_some (bytes_of_esi c.args.arrivals.now j)) (below c.of-code.result.now.matrix.cols)) =
    subst (λ (n : ℕ). c.of-code.result.now.matrix.rows ≤ length (filter (λ j. is_some (bytes_of_esi c.args.arrivals.now j)) (below n))) (sym code.cols) (omega (arith, code.rows, c.requires.enough)) in
    let erased = erased_as at c.k-k.result g.rows (length c.args.arrivals.now) g.cols _ c.deref-3.result.now _ c.deref-2.result.now c.in_ok-erasure.ensures k_is (c.requires.count ∙ sym code.cols) c.deref-3.ensures.value c.deref-2.ensures.value in
    let le = enough_repair at g.rows g.cols _ _ erased enough in
    let n : c.len.result ≡ length c.deref-3.result.now = omega (arith, c.len.ensures, c.deref-3.ensures.len) in
    let front = c.split_at.ensures.front ∙ ap (λ (v : ℕ). take v c.deref-2.result.now) n in
    erasures_of at g.rows g.cols _ _ erased c.split_at.result.0.now le front

pub solve-requires-clause-empty : goal.solve-requires-clause-empty
solve-requires-clause-empty c = λ a y la ly.
    let f = c.args.fti.now in
    let g = c.of-code.result.now.matrix in
    let at = bytes_of_esi c.args.arrivals.now in
    let code = picked_has (IsCodeOf c.args.fti.now) c.args.fti.now c.args.codes.now c.requires.codes c.args.b c.k-k.result c.of-code.result.now c.requires.number c.k-k.ensures.value c.of-code.ensures in
    let k_is : c.k-k.result ≡ c.of-code.result.now.matrix.rows = c.k-k.ensures.value ∙ sym code.rows in
    let enough : c.of-code.result.now.matrix.rows ≤ length (filter (λ j. is_some (bytes_of_esi c.args.arrivals.now j)) (below c.of-code.result.now.matrix.cols)) =
    subst (λ (n : ℕ). c.of-code.result.now.matrix.rows ≤ length (filter (λ j. is_some (bytes_of_esi c.args.arrivals.now j)) (below n))) (sym code.cols) (omega (arith, code.rows, c.requires.enough)) in
    let erased = erased_as at c.k-k.result g.rows (length c.args.arrivals.now) g.cols _ c.deref-3.result.now _ c.deref-2.result.now c.in_ok-erasure.ensures k_is (c.requires.count ∙ sym code.cols) c.deref-3.ensures.value c.deref-2.ensures.value in
    let le = enough_repair at g.rows g.cols _ _ erased enough in
    let esis : length c.deref.result.now ≡ c.of-code.result.now.matrix.rows = ap length c.deref.ensures.value ∙ c.in_ok-source_esis.ensures.len ∙ k_is in
    let placed : (i y : ℕ) → i < c.of-code.result.now.matrix.rows → y < c.from.result → byte_in c.in_ok-rows.rows i y ≡ byte_of (bytes_of_esi c.args.arrivals.now i) y =
    λ i y li ly. c.in_ok-rows.ensures.symbols i y (omega (arith, li, esis)) ly
    ∙ ap (λ (j : ℕ). byte_of (bytes_of_esi c.args.arrivals.now j) y) (ap (λ (l : List ℕ). slice_index l i) c.deref.ensures.value ∙ c.in_ok-source_esis.ensures.all i (omega (arith, li, k_is))) in
    placed (slice_index c.deref-3.result.now a) y (erased.lost.most a la) ly
    ∙ none_byte (at (slice_index c.deref-3.result.now a)) y (erased.lost.pass a la)

pub residuals-requires-clause-few : goal.residuals-requires-clause-few
residuals-requires-clause-few c =
    let f = c.args.fti.now in
    let g = c.of-code.result.now.matrix in
    let at = bytes_of_esi c.args.arrivals.now in
    let code = picked_has (IsCodeOf c.args.fti.now) c.args.fti.now c.args.codes.now c.requires.codes c.args.b c.k-k.result c.of-code.result.now c.requires.number c.k-k.ensures.value c.of-code.ensures in
    let k_is : c.k-k.result ≡ c.of-code.result.now.matrix.rows = c.k-k.ensures.value ∙ sym code.rows in
    let enough : c.of-code.result.now.matrix.rows ≤ length (filter (λ j. is_some (bytes_of_esi c.args.arrivals.now j)) (below c.of-code.result.now.matrix.cols)) =
    subst (λ (n : ℕ). c.of-code.result.now.matrix.rows ≤ length (filter (λ j. is_some (bytes_of_esi c.args.arrivals.now j)) (below n))) (sym code.cols) (omega (arith, code.rows, c.requires.enough)) in
    let erased = erased_as at c.k-k.result g.rows (length c.args.arrivals.now) g.cols _ c.deref-3.result.now _ c.deref-2.result.now c.in_ok-erasure.ensures k_is (c.requires.count ∙ sym code.cols) c.deref-3.ensures.value c.deref-2.ensures.value in
    let le = enough_repair at g.rows g.cols _ _ erased enough in
    omega (arith, ap length c.split_at.ensures.back, length-drop c.len.result c.deref-2.result.now, few_repair at g.rows g.cols _ _ erased, c.cols.ensures.matrix.few_cols)

pub returns-then-not-is_zero-clause-none : goal.returns-then-not-is_zero-clause-none
returns-then-not-is_zero-clause-none c = λ _.
    let f = c.args.fti.now in
    let g = c.of-code.result.now.matrix in
    let at = bytes_of_esi c.args.arrivals.now in
    let code = picked_has (IsCodeOf c.args.fti.now) c.args.fti.now c.args.codes.now c.requires.codes c.args.b c.k-k.result c.of-code.result.now c.requires.number c.k-k.ensures.value c.of-code.ensures in
    let k_is : c.k-k.result ≡ c.of-code.result.now.matrix.rows = c.k-k.ensures.value ∙ sym code.rows in
    let enough : c.of-code.result.now.matrix.rows ≤ length (filter (λ j. is_some (bytes_of_esi c.args.arrivals.now j)) (below c.of-code.result.now.matrix.cols)) =
    subst (λ (n : ℕ). c.of-code.result.now.matrix.rows ≤ length (filter (λ j. is_some (bytes_of_esi c.args.arrivals.now j)) (below n))) (sym code.cols) (omega (arith, code.rows, c.requires.enough)) in
    let erased = erased_as at c.k-k.result g.rows (length c.args.arrivals.now) g.cols _ c.deref-3.result.now _ c.deref-2.result.now c.in_ok-erasure.ensures k_is (c.requires.count ∙ sym code.cols) c.deref-3.ensures.value c.deref-2.ensures.value in
    let le = enough_repair at g.rows g.cols _ _ erased enough in
    let n : c.len.result ≡ length c.deref-3.result.now = omega (arith, c.len.ensures, c.deref-3.ensures.len) in
    let front = c.split_at.ensures.front ∙ ap (λ (v : ℕ). take v c.deref-2.result.now) n in
    let rest = c.split_at.ensures.back ∙ ap (λ (v : ℕ). drop v c.deref-2.result.now) n in
    let esis : length c.deref.result.now ≡ c.of-code.result.now.matrix.rows = ap length c.deref.ensures.value ∙ c.in_ok-source_esis.ensures.len ∙ k_is in
    let placed : (i y : ℕ) → i < c.of-code.result.now.matrix.rows → y < c.from.result → byte_in c.in_ok-rows.rows i y ≡ byte_of (bytes_of_esi c.args.arrivals.now i) y =
    λ i y li ly. c.in_ok-rows.ensures.symbols i y (omega (arith, li, esis)) ly
    ∙ ap (λ (j : ℕ). byte_of (bytes_of_esi c.args.arrivals.now j) y) (ap (λ (l : List ℕ). slice_index l i) c.deref.ensures.value ∙ c.in_ok-source_esis.ensures.all i (omega (arith, li, k_is))) in
    let inside : (j : ℕ) (y : List ℕ) → bytes_of_esi c.args.arrivals.now j ≡ Some y → j < c.of-code.result.now.matrix.cols = λ j y some. (let s = stands_within c.args.arrivals.now j y some in omega (arith, s, c.requires.count, code.cols)) in
    let is : c.from.result ≡ c.args.fti.now.symbol_length = c.from.ensures ∙ c.symbol_length.ensures.value in
    let few : c.of-code.result.now.matrix.rows ≤ 255 = omega (arith, code.rows, c.k-k.ensures.value, c.k-k.ensures.byte) in
    let left = c.in_ok-left.left in
    let o = c.if-not-is_zero.ensures.other refl in
    let lt : o.0 < left.count * left.size = omega (arith, o.1, ap length c.deref-4.ensures.value, left.whole) in
    let q = row_and_column o.0 left.count left.size (some_bytes o.0 left.count left.size lt) lt in
    let lm : q.0 < length c.split_at.result.1.now = omega (arith, q.2, c.in_ok-left.ensures.sizes.rows_are) in
    let ly : q.1 < c.from.result = omega (arith, q.3, c.in_ok-left.ensures.sizes.bytes_are) in
    unexplained f c.args.b at g c.from.result few inside code is
    (none_meets at c.from.result g c.deref-3.result.now c.deref-2.result.now c.split_at.result.0.now c.split_at.result.1.now erased le front rest (byte_in c.in_ok-rows.rows) (byte_in c.solve.new.rows) placed c.in_ok-solve.ensures.solved q.0 q.1 lm ly
    (λ e. o.2 (ap (λ (l : List ℕ). slice_index l o.0) c.deref-4.ensures.value ∙ ap (slice_index left.bytes.items) (sym q.4)
    ∙ c.in_ok-left.ensures.sums q.0 q.1 lm ly
    ∙ ap (sum_of (byte_of (at (slice_index c.split_at.result.1.now q.0)) q.1)) e ∙ sum_itself (byte_of (at (slice_index c.split_at.result.1.now q.0)) q.1))))

pub returns-then-are_padded-clause-rows : goal.returns-then-are_padded-clause-rows
returns-then-are_padded-clause-rows c =
    let f = c.args.fti.now in
    let g = c.of-code.result.now.matrix in
    let at = bytes_of_esi c.args.arrivals.now in
    let code = picked_has (IsCodeOf c.args.fti.now) c.args.fti.now c.args.codes.now c.requires.codes c.args.b c.k-k.result c.of-code.result.now c.requires.number c.k-k.ensures.value c.of-code.ensures in
    let k_is : c.k-k.result ≡ c.of-code.result.now.matrix.rows = c.k-k.ensures.value ∙ sym code.rows in
    let enough : c.of-code.result.now.matrix.rows ≤ length (filter (λ j. is_some (bytes_of_esi c.args.arrivals.now j)) (below c.of-code.result.now.matrix.cols)) =
    subst (λ (n : ℕ). c.of-code.result.now.matrix.rows ≤ length (filter (λ j. is_some (bytes_of_esi c.args.arrivals.now j)) (below n))) (sym code.cols) (omega (arith, code.rows, c.requires.enough)) in
    let erased = erased_as at c.k-k.result g.rows (length c.args.arrivals.now) g.cols _ c.deref-3.result.now _ c.deref-2.result.now c.in_ok-erasure.ensures k_is (c.requires.count ∙ sym code.cols) c.deref-3.ensures.value c.deref-2.ensures.value in
    let le = enough_repair at g.rows g.cols _ _ erased enough in
    let n : c.len.result ≡ length c.deref-3.result.now = omega (arith, c.len.ensures, c.deref-3.ensures.len) in
    let front = c.split_at.ensures.front ∙ ap (λ (v : ℕ). take v c.deref-2.result.now) n in
    let rest = c.split_at.ensures.back ∙ ap (λ (v : ℕ). drop v c.deref-2.result.now) n in
    let esis : length c.deref.result.now ≡ c.of-code.result.now.matrix.rows = ap length c.deref.ensures.value ∙ c.in_ok-source_esis.ensures.len ∙ k_is in
    let placed : (i y : ℕ) → i < c.of-code.result.now.matrix.rows → y < c.from.result → byte_in c.in_ok-rows.rows i y ≡ byte_of (bytes_of_esi c.args.arrivals.now i) y =
    λ i y li ly. c.in_ok-rows.ensures.symbols i y (omega (arith, li, esis)) ly
    ∙ ap (λ (j : ℕ). byte_of (bytes_of_esi c.args.arrivals.now j) y) (ap (λ (l : List ℕ). slice_index l i) c.deref.ensures.value ∙ c.in_ok-source_esis.ensures.all i (omega (arith, li, k_is))) in
    let inside : (j : ℕ) (y : List ℕ) → bytes_of_esi c.args.arrivals.now j ≡ Some y → j < c.of-code.result.now.matrix.cols = λ j y some. (let s = stands_within c.args.arrivals.now j y some in omega (arith, s, c.requires.count, code.cols)) in
    let is : c.from.result ≡ c.args.fti.now.symbol_length = c.from.ensures ∙ c.symbol_length.ensures.value in
    let few : c.of-code.result.now.matrix.rows ≤ 255 = omega (arith, code.rows, c.k-k.ensures.value, c.k-k.ensures.byte) in
    let rows = c.solve.new.rows in
    let rows_are : c.solve.new.rows.count ≡ c.of-code.result.now.matrix.rows = c.in_ok-solve.ensures.sizes.rows_same ∙ c.in_ok-rows.ensures.sizes.rows_are ∙ esis in
    let bytes_are : c.solve.new.rows.size ≡ c.from.result = c.in_ok-solve.ensures.sizes.bytes_same ∙ c.in_ok-rows.ensures.sizes.bytes_are in
    let made_is : (i y : ℕ) → byte_in c.solve.new.rows i y ≡ row_byte c.solve.new.rows.bytes.items c.args.fti.now.symbol_length y i =
    λ i y. ap (λ (s : ℕ). slice_index c.solve.new.rows.bytes.items (i * s + y)) (bytes_are ∙ is) in
    let only : AreOnly (bytes_of_esi c.args.arrivals.now) c.of-code.result.now.matrix c.from.result (byte_in c.solve.new.rows) =
    are_only at c.from.result g c.deref-3.result.now c.deref-2.result.now c.split_at.result.0.now c.split_at.result.1.now erased le front rest (byte_in c.in_ok-rows.rows) (byte_in c.solve.new.rows) placed c.in_ok-solve.ensures.solved
    (λ m y lm ly. sum_none_same (byte_of (at (slice_index c.split_at.result.1.now m)) y) (given g (λ i. byte_in c.solve.new.rows i y) (slice_index c.split_at.result.1.now m))
    (sym (c.in_ok-left.ensures.sums m y lm ly)
    ∙ sym (ap (λ (l : List ℕ). slice_index l (m * c.in_ok-left.left.size + y)) c.deref-4.ensures.value) ∙ c.if-not-is_zero.ensures.zero refl (m * c.in_ok-left.left.size + y))) in
    let bytes : AreBytes c.solve.new.rows.bytes.items = rw c.deref-5.ensures.value at c.are_bytes.ensures in
    rows_from f c.args.b at g c.from.result few inside code is rows.bytes.items (byte_in rows) made_is only bytes
    (rows.whole ∙ products _ _ _ _ (rows_are ∙ code.rows) (bytes_are ∙ is))
    (c.are_padded.ensures.zero c.if-are_padded.true)

pub returns-else-are_padded-clause-none : goal.returns-else-are_padded-clause-none
returns-else-are_padded-clause-none c = λ _.
    let f = c.args.fti.now in
    let g = c.of-code.result.now.matrix in
    let at = bytes_of_esi c.args.arrivals.now in
    let code = picked_has (IsCodeOf c.args.fti.now) c.args.fti.now c.args.codes.now c.requires.codes c.args.b c.k-k.result c.of-code.result.now c.requires.number c.k-k.ensures.value c.of-code.ensures in
    let k_is : c.k-k.result ≡ c.of-code.result.now.matrix.rows = c.k-k.ensures.value ∙ sym code.rows in
    let enough : c.of-code.result.now.matrix.rows ≤ length (filter (λ j. is_some (bytes_of_esi c.args.arrivals.now j)) (below c.of-code.result.now.matrix.cols)) =
    subst (λ (n : ℕ). c.of-code.result.now.matrix.rows ≤ length (filter (λ j. is_some (bytes_of_esi c.args.arrivals.now j)) (below n))) (sym code.cols) (omega (arith, code.rows, c.requires.enough)) in
    let erased = erased_as at c.k-k.result g.rows (length c.args.arrivals.now) g.cols _ c.deref-3.result.now _ c.deref-2.result.now c.in_ok-erasure.ensures k_is (c.requires.count ∙ sym code.cols) c.deref-3.ensures.value c.deref-2.ensures.value in
    let le = enough_repair at g.rows g.cols _ _ erased enough in
    let n : c.len.result ≡ length c.deref-3.result.now = omega (arith, c.len.ensures, c.deref-3.ensures.len) in
    let front = c.split_at.ensures.front ∙ ap (λ (v : ℕ). take v c.deref-2.result.now) n in
    let rest = c.split_at.ensures.back ∙ ap (λ (v : ℕ). drop v c.deref-2.result.now) n in
    let esis : length c.deref.result.now ≡ c.of-code.result.now.matrix.rows = ap length c.deref.ensures.value ∙ c.in_ok-source_esis.ensures.len ∙ k_is in
    let placed : (i y : ℕ) → i < c.of-code.result.now.matrix.rows → y < c.from.result → byte_in c.in_ok-rows.rows i y ≡ byte_of (bytes_of_esi c.args.arrivals.now i) y =
    λ i y li ly. c.in_ok-rows.ensures.symbols i y (omega (arith, li, esis)) ly
    ∙ ap (λ (j : ℕ). byte_of (bytes_of_esi c.args.arrivals.now j) y) (ap (λ (l : List ℕ). slice_index l i) c.deref.ensures.value ∙ c.in_ok-source_esis.ensures.all i (omega (arith, li, k_is))) in
    let inside : (j : ℕ) (y : List ℕ) → bytes_of_esi c.args.arrivals.now j ≡ Some y → j < c.of-code.result.now.matrix.cols = λ j y some. (let s = stands_within c.args.arrivals.now j y some in omega (arith, s, c.requires.count, code.cols)) in
    let is : c.from.result ≡ c.args.fti.now.symbol_length = c.from.ensures ∙ c.symbol_length.ensures.value in
    let few : c.of-code.result.now.matrix.rows ≤ 255 = omega (arith, code.rows, c.k-k.ensures.value, c.k-k.ensures.byte) in
    let rows = c.solve.new.rows in
    let rows_are : c.solve.new.rows.count ≡ c.of-code.result.now.matrix.rows = c.in_ok-solve.ensures.sizes.rows_same ∙ c.in_ok-rows.ensures.sizes.rows_are ∙ esis in
    let bytes_are : c.solve.new.rows.size ≡ c.from.result = c.in_ok-solve.ensures.sizes.bytes_same ∙ c.in_ok-rows.ensures.sizes.bytes_are in
    let made_is : (i y : ℕ) → byte_in c.solve.new.rows i y ≡ row_byte c.solve.new.rows.bytes.items c.args.fti.now.symbol_length y i =
    λ i y. ap (λ (s : ℕ). slice_index c.solve.new.rows.bytes.items (i * s + y)) (bytes_are ∙ is) in
    let only : AreOnly (bytes_of_esi c.args.arrivals.now) c.of-code.result.now.matrix c.from.result (byte_in c.solve.new.rows) =
    are_only at c.from.result g c.deref-3.result.now c.deref-2.result.now c.split_at.result.0.now c.split_at.result.1.now erased le front rest (byte_in c.in_ok-rows.rows) (byte_in c.solve.new.rows) placed c.in_ok-solve.ensures.solved
    (λ m y lm ly. sum_none_same (byte_of (at (slice_index c.split_at.result.1.now m)) y) (given g (λ i. byte_in c.solve.new.rows i y) (slice_index c.split_at.result.1.now m))
    (sym (c.in_ok-left.ensures.sums m y lm ly)
    ∙ sym (ap (λ (l : List ℕ). slice_index l (m * c.in_ok-left.left.size + y)) c.deref-4.ensures.value) ∙ c.if-not-is_zero.ensures.zero refl (m * c.in_ok-left.left.size + y))) in
    let w = c.are_padded.ensures.other c.if-are_padded.false in
    λ explained. w.5 (padding_zero f c.args.b at g c.from.result few inside code is rows.bytes.items (byte_in rows) made_is only explained w.0 w.1 w.2 w.3 w.4)

pub returns-else-are_padded-clause-keeps : goal.returns-else-are_padded-clause-keeps
returns-else-are_padded-clause-keeps c =
    search rules
