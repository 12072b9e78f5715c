-- What holds of each packet.
use Rattle.std.specs.Prelude.{◌<◌, ◌≤◌, ◌+◌, ◌*◌, ◌^◌, ℕ, List, length, Result, Ok, Err, IfOk, IfSome}
use Rattle.std.proofs.Common.{arith, subst, refl}
use Rattle.std.proofs.Math.Nat.{pow-le-pow_right}
use Rattle.std.proofs.lemmas.List.{drop_at}
use Rattle.lists.specs.Bytes.{AreBytes}
use Rattle.partition.specs.Fti.{IsValidFti}
use Rattle.alc.specs.Packet.{Packet, IsPacket, IsSymbolLength, head_of, spelled}
use Rattle.alc.specs.Reading.{Reads}
use Rattle.alc.specs.Views.{packet_of, reading_of}
use Rattle.alc.specs.declared.reading.Packet.{Packet as CodePacket}
use Rattle.alc.specs.declared.fault.PacketFault.{PacketFault}
use Rattle.alc.proofs.Bytes.{AreBytes-drop}

module _ (d : List ℕ) (p : Packet) (is : IsPacket d p) where
  -- the bytes of its symbol are bytes, and so is its encoding symbol ID
  pub packet_bytes : AreBytes p.bytes × (p.esi < 256)
  packet_bytes =
      let size : ℕ = length (head_of is.form p) in
      let rest = drop_at (head_of is.form p) p.bytes size refl in
      (subst (λ (x : List ℕ). AreBytes x) rest (AreBytes-drop size (spelled is.form p) (subst (λ (x : List ℕ). AreBytes x) is.spelling is.bytes)), is.valid.esi)

  pub packet_valid : IfSome p.fti IsValidFti
  packet_valid = is.valid.fti

  pub packet_symbol : IsSymbolLength p.fti (length p.bytes)
  packet_symbol = is.valid.symbol

  pub packet_block : p.block < 2 ^ 24
  packet_block = is.valid.block

  pub packet_tsi : p.tsi < 2 ^ 48
  packet_tsi =
      let widest : 256 ^ (4 * is.form.s + 2 * is.form.h) ≤ 256 ^ 6 = pow-le-pow_right (omega arith) {j = 6} (omega (arith, is.valid.s, is.valid.h)) in
      omega (arith, is.valid.tsi, widest)

  pub packet_toi : p.toi < 2 ^ 112
  packet_toi =
      let widest : 256 ^ (4 * is.form.o + 2 * is.form.h) ≤ 256 ^ 14 = pow-le-pow_right (omega arith) {j = 14} (omega (arith, is.valid.o, is.valid.h)) in
      omega (arith, is.valid.toi, widest)

-- the same of the packet that the code reads
pub IfOk-packet : (P : Packet → Type 0) (d : List ℕ) (r : Result CodePacket PacketFault) → ((p : Packet) → IsPacket d p → P p) → Reads d (reading_of r) → IfOk r (λ p. P (packet_of p))
IfOk-packet P d (Ok p) of reads = of (packet_of p) reads
IfOk-packet P d (Err e) of reads = tt
