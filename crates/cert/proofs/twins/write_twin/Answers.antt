use Rattle.std.proofs.Common.{◌≡◌, ◌∙◌, ◌++◌, ◌<◌, ◌+◌, ◌*◌, ℕ, List, length, take, drop, ap, sym, subst, arith}
use Rattle.std.specs.Io.KnownBytes.{Appends}
use Rattle.std.proofs.lemmas.List.{length-map}
use Rattle.std.proofs.lemmas.Result.{IfOk-weaker}
use Rattle.gf256.specs.Arithmetic.{point, sum_of, product}
use Rattle.poly.specs.Polynomial.{value, root_product_over}
use Rattle.partition.specs.Fti.{block_bytes, start_of}
use Rattle.partition.proofs.Laws.{counts}
use Rattle.cert.specs.Twins.{different_esis, root_value}
use Rattle.certificate.proofs.Results.{passed_on}
use Rattle.cert.proofs.TwinObject.{is_twin_bytes}
use Rattle.cert.proofs.TwinParts.{always, any_more, fault_of_more, three_parts, whole_twin_bytes, within}
use Rattle.cert.proofs.twins.write_twin.Goals as goal

pub from_roots-polynomial-requires : goal.from_roots-polynomial-requires
from_roots-polynomial-requires g c =
    let k = counts c.args.fti.now c.points_of.ensures.valid c.args.block c.requires.block in
    let n = ap (λ (ps : List ℕ). length ps) (c.as_slice.ensures.value ∙ c.in_ok-points.ensures.points) ∙ length-map (different_esis c.args.arrived_esis.now) point in
    (omega arith, omega (arith, k.1, n, c.requires.few))

pub returns-in_err-copy_part-clause-fault : goal.returns-in_err-copy_part-clause-fault
returns-in_err-copy_part-clause-fault g c =
    let w = within c.args.fti.now c.points_of.ensures.valid c.args.block c.requires.block in
    passed_on c.from_residual-in_err-copy_part.result c.in_err-copy_part.field-0.0 _ c.from_residual-in_err-copy_part.ensures.1
    (fault_of_more c.begin_of-from.result c.args.fti.now.transfer_length (g.O.ReadAt.content c.args.object.now) (g.O.ReadAt.reliable c.args.object.now) (g.W.Write.failed c.copy_part.new.writer)
    c.in_err-copy_part.field-0.0 c.in_err-copy_part.ensures.fault (omega (arith, w.1, c.begin_of-from.ensures.place)))

pub returns-in_err-write_block-clause-some : goal.returns-in_err-write_block-clause-some
returns-in_err-write_block-clause-some g c = any_more _ _ _ c.in_ok-copy_part.ensures.some c.in_err-write_block.ensures.some

pub copy_part-requires-2-clause-order : goal.copy_part-requires-2-clause-order
copy_part-requires-2-clause-order g c =
    let w = within c.args.fti.now c.points_of.ensures.valid c.args.block c.requires.block in
    omega (arith, w.1, c.begin_of-from.ensures.place, c.block_bytes-size.ensures.value, c.transfer_length.ensures.value)

pub returns-clause-written : goal.returns-clause-written
returns-clause-written g c = λ o told long. (
    let f = c.args.fti.now in
    let valid = c.points_of.ensures.valid in
    let hb = c.requires.block in
    let a = g.W.Write.contents c.args.writer.now in
    let d = g.W.Write.contents c.copy_part-2.new.writer in
    let block = c.in_ok-write_block.ensures.written o told in
    let begin : c.begin_of-from.result ≡ start_of c.args.fti.now c.args.block * c.args.fti.now.symbol_length = c.begin_of-from.ensures.place in
    let end : c.begin_of-from.result + c.block_bytes-size.result ≡ start_of c.args.fti.now c.args.block * c.args.fti.now.symbol_length + block_bytes c.args.fti.now c.args.block =
    omega (arith, begin, c.block_bytes-size.ensures.value) in
    let values : (z : ℕ) → z < 256 → value c.from_roots-polynomial.result z ≡ root_value c.args.arrived_esis.now z =
    λ z small. c.from_roots-polynomial.ensures.value z small
    ∙ ap (λ (ps : List ℕ). root_product_over sum_of product 1 ps z) (c.as_slice.ensures.value ∙ c.in_ok-points.ensures.points) in
    let is = whole_twin_bytes f valid c.args.block hb c.args.arrived_esis.now c.from_roots-polynomial.result values o block.bytes long block.long block.changed in
    let parts : take c.begin_of-from.result o ++ (block.bytes ++ drop (c.begin_of-from.result + c.block_bytes-size.result) o)
    ≡ take (start_of c.args.fti.now c.args.block * c.args.fti.now.symbol_length) o
    ++ (block.bytes ++ drop (start_of c.args.fti.now c.args.block * c.args.fti.now.symbol_length + block_bytes c.args.fti.now c.args.block) o) =
    ap (λ (n : ℕ). take n o ++ (block.bytes ++ drop (c.begin_of-from.result + c.block_bytes-size.result) o)) begin
    ∙ ap (λ (n : ℕ). take (start_of c.args.fti.now c.args.block * c.args.fti.now.symbol_length) o ++ (block.bytes ++ drop n o)) end in
    IfOk-weaker c.copy_part-2.result _ _
    (λ u third.
    subst (λ (l : List ℕ). Appends (g.W.Write.contents c.args.writer.now) (g.W.Write.contents c.copy_part-2.new.writer) l) (parts ∙ is)
    (three_parts a _ _ d c.begin_of-from.result (c.begin_of-from.result + c.block_bytes-size.result) c.transfer_length.result o block.bytes (c.transfer_length.ensures.value ∙ sym long)
    (c.in_ok-copy_part.ensures.copied o told) block.gained third))
    (c.copy_part-2.ensures.copied o told))

pub returns-clause-twin : goal.returns-clause-twin
returns-clause-twin g c = λ o told long. (
    let each = rw told at c.in_ok-write_block.ensures.each in
    always c.copy_part-2.result _
    (is_twin_bytes c.args.fti.now c.points_of.ensures.valid c.args.block c.requires.block c.args.arrived_esis.now o (record { count = long; bytes = each }) c.requires.few))

pub returns-clause-some : goal.returns-clause-some
returns-clause-some g c = any_more _ _ _ (any_more _ _ _ c.in_ok-copy_part.ensures.some c.in_ok-write_block.ensures.some) c.copy_part-2.ensures.some
