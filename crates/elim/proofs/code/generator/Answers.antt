use Rattle.std.proofs.Common.{◌≡◌, ◌<◌, ◌≤◌, ◌∙◌, ℕ, List, take, arith, subst}
use Rattle.lists.specs.Bytes.{IsByte}
use Rattle.elim.specs.CodePoints.{ArePoints}
use Rattle.elim.specs.Grid.{Grid, entry, HasElements, HasShape}
use Rattle.elim.specs.Lagrange.{IsEntry}
use Rattle.elim.proofs.Filling.{IsFilledTo, filled_row, filled_more, set_at}
use Rattle.elim.proofs.CodePoints.{points_front}
use Rattle.elim.proofs.Basis.{basis, basis_at, basis_byte, basis_unit, entry_is, inverse_from_values}
use Rattle.elim.proofs.Generating.{GeneratesAll, made_is}
use Rattle.elim.proofs.code.generator.Goals as goal

pub loop-j-preserved : goal.loop-j-preserved
loop-j-preserved c =
    let points : List ℕ = c.in_ok-points.points.items in
    let front : ArePoints c.args.k (take c.args.k c.in_ok-points.points.items) = points_front c.args.k c.args.n points c.requires.wide c.in_ok-points.ensures in
    let few : c.args.k ≤ 255 = omega arith in
    let lj : c.loop-j.j < 255 = omega arith in
    let is : IsEntry c.args.k (take c.args.k c.in_ok-points.points.items) c.loop-i.i c.loop-j.j c.entry_at.result =
    subst (λ (v : List ℕ). IsEntry c.args.k (take c.args.k v) c.loop-i.i c.loop-j.j c.entry_at.result) c.deref-in-loop-j.ensures.value c.entry_at.ensures in
    record {
      shape = record { rows = c.set.ensures.shape.rows ∙ c.loop-j.invariant.shape.rows; cols = c.set.ensures.shape.cols ∙ c.loop-j.invariant.shape.cols };
      elements = c.set.ensures.elements;
      filled = filled_more c.args.n c.loop-i.i c.loop-j.j c.entry_at.result (basis_at c.args.k (take c.args.k c.in_ok-points.points.items)) (entry 0 c.loop-j.made) (entry 0 c.set.new.self) c.loop-j-test.true
          (entry_is c.args.k (take c.args.k c.in_ok-points.points.items) few front c.loop-i.i c.loop-j.j c.entry_at.result c.loop-i-test.true lj is)
          c.loop-j.invariant.filled (set_at c.loop-j.made.cols c.args.n c.loop-i.i c.loop-j.j c.entry_at.result (entry 0 c.loop-j.made) (entry 0 c.set.new.self) c.loop-j.invariant.shape.cols c.set.ensures.entry);
    }

pub loop-i-preserved : goal.loop-i-preserved
loop-i-preserved c =
    let e : c.loop-j.j ≡ c.args.n = omega arith in
    record {
      shape = c.loop-j.invariant.shape;
      elements = c.loop-j.invariant.elements;
      filled = filled_row c.args.n c.loop-i.i _ _ (rw e at c.loop-j.invariant.filled);
    }

generates_all : (k n i : ℕ) (points : List ℕ) (made : Grid ℕ) → k ≤ n → n ≤ 255 → ArePoints n points → k ≤ i → HasShape k n made → HasElements IsByte 0 made
    → IsFilledTo n i 0 (basis_at k (take k points)) (entry 0 made) → GeneratesAll k n made
generates_all k n i points made le few h all shape elements filled =
    let front : ArePoints k (take k points) = points_front k n points le h in
    let low : k ≤ 255 = omega arith in
    made_is k n le (basis (take k points)) (basis_byte k (take k points) low front)
    (inverse_from_values k (take k points) low front (basis (take k points)) (basis_byte k (take k points) low front) (basis_unit k (take k points) low front))
    made shape elements (λ a b la lb. filled.rows a b (omega arith) lb)

pub returns-clause-generator : goal.returns-clause-generator
returns-clause-generator c = (generates_all c.args.k c.args.n c.loop-i.i c.in_ok-points.points.items c.loop-i.made c.requires.wide c.requires.few c.in_ok-points.ensures c.loop-i-test.false c.loop-i.invariant.shape c.loop-i.invariant.elements c.loop-i.invariant.filled).generator

pub returns-clause-systematic : goal.returns-clause-systematic
returns-clause-systematic c = (generates_all c.args.k c.args.n c.loop-i.i c.in_ok-points.points.items c.loop-i.made c.requires.wide c.requires.few c.in_ok-points.ensures c.loop-i-test.false c.loop-i.invariant.shape c.loop-i.invariant.elements c.loop-i.invariant.filled).systematic

pub returns-clause-encodes : goal.returns-clause-encodes
returns-clause-encodes c = (generates_all c.args.k c.args.n c.loop-i.i c.in_ok-points.points.items c.loop-i.made c.requires.wide c.requires.few c.in_ok-points.ensures c.loop-i-test.false c.loop-i.invariant.shape c.loop-i.invariant.elements c.loop-i.invariant.filled).encodes
