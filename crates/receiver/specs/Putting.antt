-- What becomes of a symbol that is put to those that stand at a block's ESIs.
use Rattle.std.specs.Prelude.{◌≡◌, ◌≢◌, ◌<◌, ◌⊎◌, ℕ, Bool, true, List, length}
use Rattle.std.specs.Prelude.{Option, Some, None, ⊤}
use Rattle.std.specs.Prelude.{Result, OnOk, IfErr}
use Rattle.partition.specs.Fti.{Fti, block_count, encoding_count}
use Rattle.alc.specs.declared.reading.Packet.{Packet}
use Rattle.block_code.specs.Codes.{EachBlockHas}
use Rattle.block_code.specs.CodesOf.{IsCodeOf}
use Rattle.block_recovery.specs.Decoded.{IsEnoughAt, IsUnexplained}
use Rattle.block_recovery.specs.Arrivals.{with_esi, with_symbol}
use Rattle.block_recovery.specs.Recoveries.{IsKeptOf}
use Rattle.block_recovery.specs.declared.fault.DecodeFault.TheVariants.{Clash, NotCode}
use Rattle.block_bytes.specs.Bytes.{Becomes}
use Rattle.receiver.specs.Holds.{HoldsIn}
use Rattle.block_bytes.specs.declared.block_bytes.BlockBytes.{Ghosts}
use Rattle.receiver.specs.declared.solver.Solver.{Solver}
use Rattle.receiver.specs.declared.store.Store.{Store}
use Rattle.receiver.specs.declared.receiver.FeedFault.{FeedFault}
use Rattle.receiver.specs.declared.receiver.FeedFault.TheVariants.{Fault, NoMemory, Failed}

-- the FTI has the packet, the codes are the FTI's, and what recovered a block is of one of them
pub record MayPut (f : Fti) (p : Packet) (solver : Solver) : Type 0 where
  pub number : p.sbn < block_count f
  pub esi : p.esi < encoding_count f p.sbn
  pub symbol : length p.symbol.now ≡ f.symbol_length
  pub codes_are : EachBlockHas (IsCodeOf f) f solver.codes
  pub recovery : IsKeptOf solver.codes solver.recovery

-- the ESI is free, or has this symbol
abbrev pub MayStand : (ℕ → Option (List ℕ)) → ℕ → List ℕ → Type 0
MayStand at j y = (at j ≡ None) ⊎ (at j ≡ Some y)

-- another symbol stands at the ESI
pub record IsClash (at : ℕ → Option (List ℕ)) (j : ℕ) (y : List ℕ) : Type 0 where
  pub other : List ℕ
  pub stands : at j ≡ Some other
  pub differs : other ≢ y

-- the ESI is free, and with this symbol the block has enough, which no polynomials explain
pub record IsNoCode (f : Fti) (b : ℕ) (at : ℕ → Option (List ℕ)) (j : ℕ) (y : List ℕ) : Type 0 where
  pub free : at j ≡ None
  pub enough : IsEnoughAt f b (with_esi at j y)
  pub unexplained : IsUnexplained f b (with_esi at j y)

-- why the symbol of the packet at a place of the datagrams isn't put: a clash is told by its place,
-- and no code by its block
abbrev pub IsPutFault : Fti → ℕ → Packet → (ℕ → Option (List ℕ)) → FeedFault → Type 0
IsPutFault f place p at (Fault (Clash i)) = (i ≡ place) × IsClash at p.esi p.symbol.now
IsPutFault f place p at (Fault (NotCode b)) =
    (b ≡ p.sbn) × IsNoCode f p.sbn at p.esi p.symbol.now
IsPutFault f place p at NoMemory = ⊤
IsPutFault f place p at fault = ⊥

-- so, unless reading or writing has failed
abbrev pub UnlessFailed : Bool → FeedFault → Type 0 → Type 0
UnlessFailed failed Failed So = failed ≡ true
UnlessFailed failed fault So = So

-- What comes of a symbol that is put: this is so where it was, and that where it wasn't, by why, or
-- reading or writing has failed.
abbrev pub Outcome : Bool → Result ⊤ FeedFault → Type 0 → (FeedFault → Type 0) → Type 0
Outcome failed result Put Not =
    OnOk result Put × IfErr result (λ fault. UnlessFailed failed fault (Not fault))

-- the bytes of blocks: what they were, what is told of them now, and whether reading or writing has
-- failed
pub record BytesChange : Type 0 where
  pub before : ℕ → List ℕ
  pub after : Option (ℕ → List ℕ)
  pub failed : Bool

-- the change of the bytes of an object with this FTI, where they were told before
abbrev pub bytes_change : {B : Type 0} → Ghosts B → Fti → (ℕ → List ℕ) → B → BytesChange
bytes_change b f before new =
    record { before = before; after = b.kept new f; failed = b.failed new }

-- a block's stored part and its bytes: they are for these symbols with the packet's (`Is`), which
-- may stand there; or it isn't put (`Why`), and they are for those before (`Was`)
abbrev pub BlockOutcome : Packet → (ℕ → Option (List ℕ)) → BytesChange → Result ⊤ FeedFault
    → (List ℕ → (ℕ → Option (List ℕ)) → Type 0) → (List ℕ → Type 0) → (FeedFault → Type 0)
    → Type 0
BlockOutcome p at bytes result Is Was Why = Outcome bytes.failed result
    (MayStand at p.esi p.symbol.now
    × Becomes bytes.before bytes.after p.sbn (λ x. Is x (with_esi at p.esi p.symbol.now)))
    (λ fault. Why fault × Becomes bytes.before bytes.after p.sbn Was)

-- what is told of an object's bytes now, and whether reading or writing has failed
pub record BytesNow : Type 0 where
  pub told : Fti → Option (ℕ → List ℕ)
  pub failed : Bool

-- those of an object that are kept so
abbrev pub bytes_now : {B : Type 0} → Ghosts B → B → BytesNow
bytes_now b new = record { told = b.kept new; failed = b.failed new }

-- what comes of the symbol of the packet at a place, for what is kept of an object, where the bytes
-- of its blocks are told
abbrev pub StoreOutcome : Fti → ℕ → Packet → (ℕ → ℕ → Option (List ℕ)) → BytesNow
    → Result ⊤ FeedFault → Store → Type 0
StoreOutcome f place p at bytes result store = Outcome bytes.failed result
    (MayStand (at p.sbn) p.esi p.symbol.now
    × HoldsIn store (bytes.told f) (with_symbol at p.sbn p.esi p.symbol.now))
    (λ fault. IsPutFault f place p (at p.sbn) fault × HoldsIn store (bytes.told f) at)
