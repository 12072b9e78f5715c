use Rattle.std.proofs.Common.{◌≡◌, ◌∙◌, ◌++◌, ◌+◌, ◌-◌, ◌*◌, ℕ, List, length, take, drop, ◌<◌, ap, sym, subst, arith}
use Rattle.std.proofs.Math.Seq.{take-append_seam}
use Rattle.std.proofs.lemmas.List.{length-map, length-take, length-drop}
use borrow.Rule.Slice.PartMut.{put_mid}
use Rattle.gf256.specs.Arithmetic.{point, sum_of, product}
use Rattle.poly.specs.Polynomial.{value, root_product_over}
use Rattle.partition.specs.Fti.{block_bytes, start_of}
use Rattle.partition.proofs.Laws.{counts}
use Rattle.cert.specs.Twins.{different_esis, root_value, IsTwin}
use Rattle.cert.proofs.TwinParts.{put_whole, whole_long, whole_twin, within}
use Rattle.cert.proofs.twins.twin.Goals as goal

pub from_roots-polynomial-requires : goal.from_roots-polynomial-requires
from_roots-polynomial-requires c =
    let k = counts c.args.fti.now c.points_of.ensures.valid c.args.block c.requires.block in
    let n = ap (λ (ps : List ℕ). length ps) (c.as_slice.ensures.value ∙ c.in_ok-points.ensures.points) ∙ length-map (different_esis c.args.arrived_esis.now) point in
    (omega arith, omega (arith, k.1, n, c.requires.few))

pub slice_bounds-add_values-end : goal.slice_bounds-add_values-end
slice_bounds-add_values-end c =
    let w = within c.args.fti.now c.points_of.ensures.valid c.args.block c.requires.block in
    let copy : c.deref_mut.result.now ≡ c.args.object.now = c.deref_mut.ensures.value ∙ c.in_ok-other.ensures.items_if_clones_equal (λ x y e. e) in
    let long : length c.deref_mut.result.now ≡ c.args.fti.now.transfer_length = ap length copy ∙ c.requires.object in
    omega (arith, w.1, long, c.begin_of-from.ensures.place, c.block_bytes.ensures.value)

pub add_values-requires-clause-bytes : goal.add_values-requires-clause-bytes
add_values-requires-clause-bytes c =
    let w = within c.args.fti.now c.points_of.ensures.valid c.args.block c.requires.block in
    let copy : c.deref_mut.result.now ≡ c.args.object.now = c.deref_mut.ensures.value ∙ c.in_ok-other.ensures.items_if_clones_equal (λ x y e. e) in
    let long : length c.deref_mut.result.now ≡ c.args.fti.now.transfer_length = ap length copy ∙ c.requires.object in
    omega (arith, w.1, long, c.begin_of-from.ensures.place, c.block_bytes.ensures.value, length-take {A = ℕ}, length-drop {A = ℕ})

pub returns : goal.returns
returns c =
    let f = c.args.fti.now in
    let valid = c.points_of.ensures.valid in
    let hb = c.requires.block in
    let new = c.add_values.new.bytes in
    let held = c.deref_mut.result.now in
    let copy : c.deref_mut.result.now ≡ c.args.object.now = c.deref_mut.ensures.value ∙ c.in_ok-other.ensures.items_if_clones_equal (λ x y e. e) in
    let long : length c.deref_mut.result.now ≡ c.args.fti.now.transfer_length = ap length copy ∙ c.requires.object in
    let w = within f valid c.args.block hb in
    let begin = c.begin_of-from.ensures.place in
    let count : c.begin_of-from.result + c.block_bytes.result - c.begin_of-from.result ≡ block_bytes c.args.fti.now c.args.block = omega (arith, c.block_bytes.ensures.value) in
    let part : take (c.begin_of-from.result + c.block_bytes.result - c.begin_of-from.result) (drop c.begin_of-from.result c.deref_mut.result.now)
    ≡ take (block_bytes c.args.fti.now c.args.block) (drop (start_of c.args.fti.now c.args.block * c.args.fti.now.symbol_length) c.args.object.now) =
    ap (λ (n : ℕ). take n (drop c.begin_of-from.result c.deref_mut.result.now)) count
    ∙ ap (λ (n : ℕ). take (block_bytes c.args.fti.now c.args.block) (drop n c.deref_mut.result.now)) begin
    ∙ ap (λ (l : List ℕ). take (block_bytes c.args.fti.now c.args.block) (drop (start_of c.args.fti.now c.args.block * c.args.fti.now.symbol_length) l)) copy in
    let size : length c.add_values.new.bytes ≡ block_bytes c.args.fti.now c.args.block =
    omega (arith, c.add_values.ensures.length, w.1, long, begin, count, length-take {A = ℕ}, length-drop {A = ℕ}) in
    let changed = rw part at c.add_values.ensures.bytes in
    let values : (z : ℕ) → z < 256 → value c.from_roots-polynomial.result z ≡ root_value c.args.arrived_esis.now z =
    λ z small. c.from_roots-polynomial.ensures.value z small
    ∙ ap (λ (ps : List ℕ). root_product_over sum_of product 1 ps z) (c.as_slice.ensures.value ∙ c.in_ok-points.ensures.points) in
    let put = put_whole f valid c.args.block hb c.args.object.now held new c.begin_of-from.result (c.begin_of-from.result + c.block_bytes.result - c.begin_of-from.result) copy begin count in
    let other : List ℕ = put_mid c.begin_of-from.result (c.begin_of-from.result + c.block_bytes.result - c.begin_of-from.result) c.deref_mut.result.now c.add_values.new.bytes in
    let same_long : length other ≡ c.in_ok-other.other.len =
    ap length put ∙ whole_long f valid c.args.block hb c.args.object.now new c.requires.object size ∙ sym (ap length copy) ∙ c.deref_mut.ensures.len in
    let same = ap (λ (n : ℕ). take n (other ++ drop (length other) c.in_ok-other.other.items)) (sym same_long) ∙ take-append_seam other (drop (length other) c.in_ok-other.other.items) in
    subst (λ (o : List ℕ). IsTwin c.args.fti.now c.args.block c.args.arrived_esis.now c.args.object.now o) (sym (same ∙ put))
    (whole_twin f valid c.args.block hb c.args.arrived_esis.now c.from_roots-polynomial.result values c.args.object.now new c.requires.object size changed
    (record { count = c.requires.object; bytes = c.are_bytes.ensures }) c.requires.few)
