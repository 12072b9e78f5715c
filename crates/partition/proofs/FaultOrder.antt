-- What is told of an FTI's numbers is the first that is wrong with them.
use Rattle.std.specs.Prelude.{◌≡◌, ◌<◌, Some}
use Rattle.std.proofs.Common.{arith}
use Rattle.std.proofs.lemmas.Bool.Decides.{nat_tests}
use Rattle.partition.specs.Fti.{Fti}
use Rattle.partition.specs.FtiFault.{fti_fault}
use Rattle.partition.specs.FaultOrder.{FaultHolds, rank, IsFirstFault, TellsInOrder}
use Rattle.partition.specs.declared.FtiError.{FtiError}
use Rattle.partition.specs.declared.FtiError.TheVariants.{LengthZero, LengthTooGreat, SymbolZero}
use Rattle.partition.specs.declared.FtiError.TheVariants.{BlockZero, MaxBelowBlock, TooManyBlocks}

module _ (f : Fti) where
  holds : (e : FtiError) → fti_fault f ≡ Some e → FaultHolds f e
  holds LengthZero told = grind (arith, nat_tests)
  holds LengthTooGreat told = grind (arith, nat_tests)
  holds SymbolZero told = grind (arith, nat_tests)
  holds BlockZero told = grind (arith, nat_tests)
  holds MaxBelowBlock told = grind (arith, nat_tests)
  holds TooManyBlocks told = grind (arith, nat_tests)

  before : (e x : FtiError) → fti_fault f ≡ Some e → rank x < rank e → FaultHolds f x → ⊥
  before e LengthZero told less h = grind (arith, nat_tests)
  before e LengthTooGreat told less h = grind (arith, nat_tests)
  before e SymbolZero told less h = grind (arith, nat_tests)
  before e BlockZero told less h = grind (arith, nat_tests)
  before e MaxBelowBlock told less h = grind (arith, nat_tests)
  before e TooManyBlocks told less h = grind (arith, nat_tests)

  told : (e : FtiError) → IsFirstFault f e → fti_fault f ≡ Some e
  told LengthZero h = grind (arith, nat_tests, h.holds)
  told LengthTooGreat h = grind (arith, nat_tests, h.holds, h.first LengthZero)
  told SymbolZero h = grind (arith, nat_tests, h.holds, h.first LengthZero, h.first LengthTooGreat)
  told BlockZero h = grind (arith, nat_tests, h.holds, h.first LengthZero, h.first LengthTooGreat, h.first SymbolZero)
  told MaxBelowBlock h = grind (arith, nat_tests, h.holds, h.first LengthZero, h.first LengthTooGreat, h.first SymbolZero, h.first BlockZero)
  told TooManyBlocks h = grind (arith, nat_tests, h.holds, h.first LengthZero, h.first LengthTooGreat, h.first SymbolZero, h.first BlockZero, h.first MaxBelowBlock)

pub tells_in_order : TellsInOrder
tells_in_order f e = (λ is. record { holds = holds f e is; first = λ x less h. before f e x is less h }, told f e)
