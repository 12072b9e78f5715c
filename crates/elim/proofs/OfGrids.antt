-- Inverses of matrices, and of the functions that their entries are.
use Rattle.elim.specs.Grid.{Grid, entry, AreInverse, IsSingular}
use Rattle.elim.specs.Squares.{AreInverseSquares, IsSingularSquare}

module _ {F : Type 0} (add mul : F → F → F) (none one : F) (m w : Grid F) where
  pub as_squares : AreInverse add mul none one m w → AreInverseSquares add mul none one m.rows (entry none m) (entry none w)
  as_squares h = record { left = h.left; right = h.right }

  pub as_grids : AreInverseSquares add mul none one m.rows (entry none m) (entry none w) → AreInverse add mul none one m w
  as_grids h = record { left = h.left; right = h.right }

module _ {F : Type 0} (element : F → Type 0) (add mul : F → F → F) (none : F) (m : Grid F) where
  pub singular_square : IsSingular element add mul none m → IsSingularSquare element add mul none m.rows (entry none m)
  singular_square s = record { row = s.row; elements = s.elements; place = s.place; within = s.within; apart = s.apart; gone = s.gone }

  pub singular_grid : IsSingularSquare element add mul none m.rows (entry none m) → IsSingular element add mul none m
  singular_grid s = record { row = s.row; elements = s.elements; place = s.place; within = s.within; apart = s.apart; gone = s.gone }
