-- One block of a check: the object's bytes there, and its symbols beside those of the datagrams.
use Rattle.std.specs.Prelude.{◌≡◌, ◌<◌, ◌+◌, ◌*◌, ℕ, List, Option, Some, None, Ok, length}
use Rattle.std.specs.Prelude.{slice_index, slice_index_or}
use Rattle.losses.specs.declared.groups.Member.{Member}
use Rattle.losses.specs.Groups.{group_at}
use Rattle.partition.specs.Fti.{Fti, source_count, source_byte}
use Rattle.alc.specs.Packet.{Packet}
use Rattle.reception.specs.Reception.{InRange, look, symbol_of}
use Rattle.reception.specs.declared.scope.Scope.{Scope}
use Rattle.certificate.specs.Certificate.{Certificate}
use Rattle.cert.specs.Tallying.{SaysNothing, Tallied, by_certificate, reading_at}
use Rattle.file_check.specs.declared.blocks.Wrong.{Wrong}

-- source symbols of a block of the object, one behind the other, with zeros for padding
abbrev pub AreSourceOf : Fti → List ℕ → ℕ → List ℕ → Type 0
AreSourceOf f object b bytes = (i c : ℕ) → i < source_count f b → c < f.symbol_length
    → slice_index bytes (i * f.symbol_length + c) ≡ source_byte f object b i c

abbrev pub member_at : Tallied → ℕ → ℕ → Member
member_at t b k = slice_index_or (group_at t.groups b).members k (record { place = 0; esi = 0 })

-- the certificate says nothing against the symbols of a block that came before a place
abbrev pub AreSaid : Certificate → Tallied → List (List ℕ) → ℕ → ℕ → Type 0
AreSaid z t datagrams b limit = (k : ℕ) → k < length (group_at t.groups b).members
    → (member_at t b k).place < limit
    → SaysNothing (by_certificate z) t.scope (reading_at datagrams (member_at t b k).place)

-- in this column a datagram's symbol is wrong
pub record IsWrong (z : Certificate) (scope : Scope) (datagrams : List (List ℕ))
    (wrong : Wrong) : Type 0 where
  pub packet : Packet
  pub place : wrong.place < length datagrams
  pub look : look scope (reading_at datagrams wrong.place) ≡ Ok (InRange packet)
  pub says : by_certificate z (symbol_of packet) ≡ Some wrong.column

-- the place before which no symbol is wrong, of so many
abbrev pub limit_of : Option Wrong → ℕ → ℕ
limit_of None n = n
limit_of (Some wrong) n = wrong.place
