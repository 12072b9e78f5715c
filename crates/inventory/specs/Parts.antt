-- What is told of each identity.
use Rattle.std.specs.Prelude.{◌≡◌, ℕ, ◌+◌, ◌-◌, ◌<◌, ◌≤◌, List, length, map, filter}
use Rattle.std.specs.Prelude.{count_by, Contains, ⊤, Option, Some, None, Ok, slice_get, slice_index}
use Rattle.std.specs.Ordering.{nat_cmp, ordering_then}
use Rattle.std.specs.declared.cmp.Ordering.{Ordering}
use Rattle.std.specs.List.{AllByRecursion}
use Rattle.std.specs.List.Sorted.{IsStrictlySortedBy}
use Rattle.std.specs.Set.{distinct_count, is_member}
use Rattle.lists.specs.Below.{below}
use Rattle.partition.specs.Fti.{Fti, block_count, source_count, encoding_count}
use Rattle.alc.specs.Packet.{Packet}
use Rattle.alc.specs.Reading.{Reading}
use Rattle.reception.specs.Reception.{same_fti}
use Rattle.reception.specs.declared.scope.Identity.{Identity}
use Rattle.inventory.specs.Packets.{packets_of, places, carried, symbol_ids, same_ids}
use Rattle.inventory.specs.declared.part.FtiCount.{FtiCount}
use Rattle.inventory.specs.declared.part.Part.{Part}

-- how many have this FTI, and some do
pub record IsFtiCount (ftis : List Fti) (counted : FtiCount) : Type 0 where
  pub count : counted.carriers ≡ count_by (same_fti counted.fti) ftis
  pub some : 0 < counted.carriers

-- by the lengths of object and symbol, then by the most symbols of a block
abbrev pub fti_cmp : Fti → Fti → Ordering
fti_cmp a b =
    ordering_then
    (ordering_then (nat_cmp a.transfer_length b.transfer_length)
    (nat_cmp a.symbol_length b.symbol_length))
    (ordering_then (nat_cmp a.block_length b.block_length) (nat_cmp a.max_symbols b.max_symbols))

abbrev pub ftis_of : List FtiCount → List Fti
ftis_of counts = map (λ counted. counted.fti) counts

-- each FTI that occurs, in ascending order, and how many have it
pub record AreFtis (ftis : List Fti) (counts : List FtiCount) : Type 0 where
  pub each : AllByRecursion (IsFtiCount ftis) counts
  pub whole : (f : Fti) → Contains ftis f → Contains (ftis_of counts) f
  pub rising : IsStrictlySortedBy fti_cmp (ftis_of counts)

-- how many different encoding symbols of a block came, by the blocks and ESIs of those that did
abbrev pub have_count : Fti → List (ℕ × ℕ) → ℕ → ℕ
have_count f ids b =
    length (filter (λ j. is_member same_ids ids (b, j)) (below (encoding_count f b)))

-- The block with the fewest symbols beyond its need (have - need, which may be below zero), the
-- first of such blocks.
pub record IsWeakest (f : Fti) (ids : List (ℕ × ℕ)) (block need have : ℕ) : Type 0 where
  pub within : block < block_count f
  pub needs : need ≡ source_count f block
  pub has : have ≡ have_count f ids block
  pub least : (b : ℕ) → b < block_count f → have + source_count f b ≤ have_count f ids b + need
  pub first : (b : ℕ) → b < block → have + source_count f b < have_count f ids b + need

-- where there is an FTI
abbrev pub IsWeakestBy : Option Fti → List (ℕ × ℕ) → Option (ℕ × ℕ × ℕ) → Type 0
IsWeakestBy (Some f) ids (Some (block, need, have)) = IsWeakest f ids block need have
IsWeakestBy None ids None = ⊤
IsWeakestBy fti ids weakest = ⊥

-- The numbers of an identity's packets, of which each has its place. The weakest block is that by
-- the FTI of the first carrier.
pub record IsPartOf (xs : List (ℕ × Packet)) (part : Part) : Type 0 where
  pub some : 0 < length xs
  pub datagrams : part.datagrams ≡ length xs
  pub first : part.first ≡ slice_index (places xs) 0
  pub last : part.last ≡ slice_index (places xs) (length xs - 1)
  pub carriers : part.carriers ≡ length (carried xs)
  pub symbols : part.symbols ≡ distinct_count same_ids (symbol_ids xs)
  pub ftis : AreFtis (carried xs) part.ftis.items
  pub weakest : IsWeakestBy (slice_get (carried xs) 0) (symbol_ids xs) part.weakest

abbrev pub IsPart : List Reading → Part → Type 0
IsPart rs part = IsPartOf (packets_of part.identity rs) part

-- ---- of all identities

-- by TSI, then by TOI
abbrev pub identity_cmp : Identity → Identity → Ordering
identity_cmp a b = ordering_then (nat_cmp a.tsi b.tsi) (nat_cmp a.toi b.toi)

abbrev pub identities : List Part → List Identity
identities parts = map (λ part. part.identity) parts

abbrev pub identity_of : Packet → Identity
identity_of p = record { tsi = p.tsi; toi = p.toi }

-- a part for each identity that a packet has, in ascending order
pub record AreParts (rs : List Reading) (parts : List Part) : Type 0 where
  pub each : AllByRecursion (IsPart rs) parts
  pub whole : (p : Packet) → Contains rs (Ok p) → Contains (identities parts) (identity_of p)
  pub rising : IsStrictlySortedBy identity_cmp (identities parts)
