-- What a handle owns.
use Rattle.std.specs.Prelude.{Bool, true, false}
use mir.Syntax.{Ty}
use base.Fml.{Fml, ftrue}
use denote.RattleType.{RattleType}
use denote.RawPtr.{Ptr}
use denote.Signature.{static_lft}
use Rattle.std_alloc.specs.Box.Ownership.{box_owns}
use Rattle.std_heap.specs.declared.Global.{Global}
use Rattle.std_heap.specs.contracts.GlobalAllocator.TheImpl.{ghosts}
use Rattle.cert.specs.contracts.checker.Checker as checker
use Rattle.receiver.specs.contracts.receiver.Receiver as receiver

-- the heap, of which there is one
abbrev pub heap : Global
heap = record { memory = record { seal = tt } }

-- the right to free a block of the heap
abbrev pub token : Ty → Ptr → Fml
token = ghosts.dealloc_token heap

-- receivers
abbrev pub receiver_row : RattleType
receiver_row = receiver.the_row

-- checkers that borrow nothing
abbrev pub checker_row : RattleType
checker_row = checker.the_row static_lft

-- a value, and the right to free its block, where there is one
abbrev pub held : (R : RattleType) → Bool → Ptr → R.Denot → Fml
held R true p x = box_owns token R p x
held R false p x = ftrue
