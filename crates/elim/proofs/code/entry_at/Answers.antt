use Rattle.std.proofs.Common.{◌≡◌, ℕ, ◌<◌, ◌≤◌, List, length, get_or, map, take, arith, ap, sym, subst, ◌∙◌}
use Rattle.std.proofs.lemmas.List.{get_or_read, get_or-map, length-map}
use Rattle.lists.specs.Bytes.{IsByte}
use Rattle.gf256.specs.Arithmetic.{sum_of, product, point}
use Rattle.gf256.specs.ByteField.{byte_field, point_byte}
use Rattle.elim.specs.CodePoints.{ArePoints}
use Rattle.elim.specs.Lagrange.{differences}
use Rattle.elim.proofs.CodePoints.{points_front, points_bytes, point_read, byte_read}
use Rattle.elim.proofs.Basis.{differences_byte, below_some}
use Rattle.elim.proofs.code.entry_at.Goals as goal

product_at : (points products : List ℕ) (k i r : ℕ) → ArePoints (length points) points → products ≡ map (differences (take k points)) points → i < length points
    → r ≡ get_or products i r → r ≡ differences (take k points) (point i)
product_at points products k i r h e li is =
    let inside : i < length products = omega (arith, ap length e, length-map points (differences (take k points))) in
    get_or_read products i r inside is 0 ∙ ap (λ l. get_or l i 0) e ∙ get_or-map (differences (take k points)) points i 0 0 li
    ∙ ap (differences (take k points)) (h.at i li)

product_byte_at : (points : List ℕ) (k i r : ℕ) → ArePoints (length points) points → k ≤ length points → r ≡ differences (take k points) (point i) → IsByte r
product_byte_at points k i r h le e =
    subst IsByte (sym e) (differences_byte (take k points) (point i) (points_bytes k (take k points) (points_front k (length points) points le h)) (point_byte i))

pub add-requires-clause-left : goal.add-requires-clause-left
add-requires-clause-left c = byte_read c.args.points.now c.args.j c.index-points-j.result c.requires.points c.requires.column c.index-points-j.is

pub add-requires-clause-right : goal.add-requires-clause-right
add-requires-clause-right c = byte_read c.args.points.now c.args.i c.index-points-i.result c.requires.points (omega arith) c.index-points-i.is

pub mul-below-requires-clause-left : goal.mul-below-requires-clause-left
mul-below-requires-clause-left c =
    product_byte_at c.args.points.now c.args.k c.args.i c.index-products-i.result c.requires.points c.requires.wide
    (product_at c.args.points.now c.args.products.now c.args.k c.args.i c.index-products-i.result c.requires.points c.requires.products (omega arith) c.index-products-i.is)

pub mul-requires-clause-left : goal.mul-requires-clause-left
mul-requires-clause-left c =
    product_byte_at c.args.points.now c.args.k c.args.j c.index-products-j.result c.requires.points c.requires.wide
    (product_at c.args.points.now c.args.products.now c.args.k c.args.j c.index-products-j.result c.requires.points c.requires.products c.requires.column c.index-products-j.is)

-- what is divided by, in the field's terms
below_is : (points products : List ℕ) (k i j pi xi xj s b : ℕ) → ArePoints (length points) points → products ≡ map (differences (take k points)) points
    → i < length points → j < length points → pi ≡ get_or products i pi → xi ≡ get_or points i xi → xj ≡ get_or points j xj → s ≡ sum_of xj xi → b ≡ product pi s
    → b ≡ product (differences (take k points) (point i)) (sum_of (point j) (point i))
below_is points products k i j pi xi xj s b h e li lj ip ii ij es eb =
    let e1 = product_at points products k i pi h e li ip in
    let e2 = point_read points i xi h li ii in
    let e3 = point_read points j xj h lj ij in
    (cc)

pub inverse-requires : goal.inverse-requires
inverse-requires c = λ z.
    let li : c.args.i < length c.args.points.now = omega arith in
    let few : c.args.j < 255 = omega arith in
    below_some c.args.k (take c.args.k c.args.points.now) c.requires.few (points_front c.args.k (length c.args.points.now) c.args.points.now c.requires.wide c.requires.points)
    c.args.i c.args.j c.requires.row c.if-j-k.false few
    (sym (below_is c.args.points.now c.args.products.now c.args.k c.args.i c.args.j c.index-products-i.result c.index-points-i.result c.index-points-j.result c.add.result c.mul-below.result
    c.requires.points c.requires.products li c.requires.column c.index-products-i.is c.index-points-i.is c.index-points-j.is c.add.ensures.value c.mul-below.ensures.value) ∙ z)

divided : (a b w v top : ℕ) → IsByte a → IsByte b → IsByte w → product b w ≡ 1 → v ≡ product a w → a ≡ top → product v b ≡ top
divided a b w v top ea eb ew one e same =
    let e1 = byte_field.mul_assoc a w b ea ew eb in
    let e2 = byte_field.mul_comm w b ew eb in
    let e3 = byte_field.mul_one a ea in
    (cc)

pub returns : goal.returns
returns c = record {
  byte = c.mul.ensures.fits;
  front = λ lt. absurd (omega (arith, lt, c.if-j-k.false));
  beyond = λ le.
      let li : c.args.i < length c.args.points.now = omega arith in
      let b = below_is c.args.points.now c.args.products.now c.args.k c.args.i c.args.j c.index-products-i.result c.index-points-i.result c.index-points-j.result c.add.result c.mul-below.result
      c.requires.points c.requires.products li c.requires.column c.index-products-i.is c.index-points-i.is c.index-points-j.is c.add.ensures.value c.mul-below.ensures.value in
      let top = product_at c.args.points.now c.args.products.now c.args.k c.args.j c.index-products-j.result c.requires.points c.requires.products c.requires.column c.index-products-j.is in
      ap (product c.mul.result) (sym b)
      ∙ divided c.index-products-j.result c.mul-below.result c.inverse.result c.mul.result (differences (take c.args.k c.args.points.now) (point c.args.j))
      (product_byte_at c.args.points.now c.args.k c.args.j c.index-products-j.result c.requires.points c.requires.wide top) c.mul-below.ensures.fits c.inverse.ensures.fits c.inverse.ensures.inverse c.mul.ensures.value top;
}
