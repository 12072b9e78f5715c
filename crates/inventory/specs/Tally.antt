-- What the counts of an identity's packets stand for.
use Rattle.std.specs.Prelude.{◌≡◌, ℕ, ◌-◌, List, length, Option, Some, None}
use Rattle.std.specs.Prelude.{count_by, slice_get, slice_index}
use Rattle.std.specs.BTreeMap.{get}
use Rattle.std.specs.BTreeSet.{BTreeSet, contains}
use Rattle.std.specs.Ordering.{nat_cmp, ordering_then}
use Rattle.std.specs.declared.cmp.Ordering.{Ordering}
use Rattle.std.specs.Set.{is_member}
use Rattle.partition.specs.Fti.{Fti, fti_from}
use Rattle.reception.specs.Reception.{same_fti}
use Rattle.alc.specs.Packet.{Packet}
use Rattle.inventory.specs.Packets.{places, carried, symbol_ids, same_ids}
use Rattle.inventory.specs.Parts.{IsFtiCount}
use Rattle.inventory.specs.declared.carriers.Carriers.{Carriers}
use Rattle.inventory.specs.declared.part.FtiCount.{FtiCount}
use Rattle.inventory.specs.declared.tally.Tally.{Tally}

-- by the first number, then by the second
abbrev pub pair_cmp : ℕ × ℕ → ℕ × ℕ → Ordering
pair_cmp x y = ordering_then (nat_cmp x.0 y.0) (nat_cmp x.1 y.1)

-- the numbers of an FTI
abbrev pub Key : Type 0
Key = (ℕ × ℕ) × (ℕ × ℕ)

abbrev pub key_of : Fti → Key
key_of f = ((f.transfer_length, f.symbol_length), (f.block_length, f.max_symbols))

abbrev pub fti_of : Key → Fti
fti_of key = fti_from key.0.0 key.0.1 key.1.0 key.1.1

abbrev pub key_cmp : Key → Key → Ordering
key_cmp x y = ordering_then (pair_cmp x.0 y.0) (pair_cmp x.1 y.1)

-- this FTI was counted, or it doesn't occur
abbrev pub IsCountedAt : List Fti → Fti → Option FtiCount → Type 0
IsCountedAt ftis f None = count_by (same_fti f) ftis ≡ 0
IsCountedAt ftis f (Some counted) = (counted.fti ≡ f) × IsFtiCount ftis counted

-- these FTIs were counted
pub record AreCounted (ftis : List Fti) (carriers : Carriers) : Type 0 where
  pub count : carriers.count ≡ length ftis
  pub first : carriers.first ≡ slice_get ftis 0
  pub counts : (f : Fti) → IsCountedAt ftis f (get key_cmp carriers.counts (key_of f))

-- the set has these blocks and ESIs
abbrev pub AreIds : List (ℕ × ℕ) → BTreeSet (ℕ × ℕ) → Type 0
AreIds ids set = (q : ℕ × ℕ) → contains pair_cmp set q ≡ is_member same_ids ids q

-- these packets were counted, each with its place
pub record IsTally (xs : List (ℕ × Packet)) (tally : Tally) : Type 0 where
  pub datagrams : tally.datagrams ≡ length xs
  pub first : tally.first ≡ slice_index (places xs) 0
  pub last : tally.last ≡ slice_index (places xs) (length xs - 1)
  pub carriers : AreCounted (carried xs) tally.carriers
  pub symbols : AreIds (symbol_ids xs) tally.symbols
