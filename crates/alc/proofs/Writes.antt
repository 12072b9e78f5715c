-- What is written is the packet.
use Rattle.std.proofs.Common.{◌≡◌, ℕ, ◌+◌, ◌^◌, ◌<◌, true, ltb, List, [], ◌∷◌, ◌++◌, length, take, drop, arith, refl, ap, sym, subst, ◌∙◌, append_assoc, Option, Some, None}
use Rattle.std.specs.Prelude.{IfSome}
use Rattle.std.specs.List.{list_all}
use Rattle.std.proofs.lemmas.List.{take_at, drop-drop}
use Rattle.lists.specs.Bytes.{AreBytes}
use Rattle.partition.specs.Fti.{Fti, IsValidFti}
use Rattle.byteorder.specs.Endian.{big_bytes}
use Rattle.alc.specs.Packet.{Packet, IsPacket, IsSymbolLength, written, written_form, header_length}
use Rattle.alc.specs.Written.{IsWritable, header_size, packet_from}
use Rattle.alc.specs.WrittenParts.{fixed_part, header_part, fti_part, payload_id, payload_part}
use Rattle.alc.proofs.Bytes.{AreBytes-cons, AreBytes-append, AreBytes-test, AreBytes-big_bytes}

AreBytes-fixed_part : (words tsi toi : ℕ) → list_all (λ x. ltb x 256) (0x10 ∷ 0xA0 ∷ words ∷ 5 ∷ 0 ∷ 0 ∷ 0 ∷ 0 ∷ []) ≡ true → AreBytes (fixed_part words tsi toi)
AreBytes-fixed_part words tsi toi test =
    AreBytes-append (0x10 ∷ 0xA0 ∷ words ∷ 5 ∷ 0 ∷ 0 ∷ 0 ∷ 0 ∷ []) (big_bytes 4 tsi ++ big_bytes 4 toi) (AreBytes-test (0x10 ∷ 0xA0 ∷ words ∷ 5 ∷ 0 ∷ 0 ∷ 0 ∷ 0 ∷ []) test)
    (AreBytes-append (big_bytes 4 tsi) (big_bytes 4 toi) (AreBytes-big_bytes 4 tsi) (AreBytes-big_bytes 4 toi))

AreBytes-fti_part : (f : Fti) → IsValidFti f → AreBytes (fti_part f)
AreBytes-fti_part f valid =
    let last : AreBytes (f.block_length ∷ f.max_symbols ∷ []) =
    AreBytes-cons f.block_length (f.max_symbols ∷ []) (omega (arith, valid.no_more, valid.max_below)) (AreBytes-cons f.max_symbols [] valid.max_below (AreBytes-test [] refl)) in
    AreBytes-append (64 ∷ 3 ∷ []) (big_bytes 6 f.transfer_length ++ (big_bytes 2 f.symbol_length ++ (f.block_length ∷ f.max_symbols ∷ []))) (AreBytes-test (64 ∷ 3 ∷ []) refl)
    (AreBytes-append (big_bytes 6 f.transfer_length) (big_bytes 2 f.symbol_length ++ (f.block_length ∷ f.max_symbols ∷ [])) (AreBytes-big_bytes 6 f.transfer_length)
    (AreBytes-append (big_bytes 2 f.symbol_length) (f.block_length ∷ f.max_symbols ∷ []) (AreBytes-big_bytes 2 f.symbol_length) last))

AreBytes-payload_id : (block esi : ℕ) → esi < 256 → AreBytes (payload_id block esi)
AreBytes-payload_id block esi le = AreBytes-append (big_bytes 3 block) (esi ∷ []) (AreBytes-big_bytes 3 block) (AreBytes-cons esi [] le (AreBytes-test [] refl))

AreBytes-header_part : (tsi toi : ℕ) (fti : Option Fti) → IfSome fti IsValidFti → AreBytes (header_part tsi toi fti)
AreBytes-header_part tsi toi None valid = AreBytes-fixed_part 4 tsi toi refl
AreBytes-header_part tsi toi (Some f) valid = AreBytes-append (fixed_part 7 tsi toi) (fti_part f) (AreBytes-fixed_part 7 tsi toi refl) (AreBytes-fti_part f valid)

-- the parts are the datagram
pub written_parts : (tsi toi : ℕ) (fti : Option Fti) (block esi : ℕ) (y : List ℕ) → written (packet_from tsi toi fti block esi y) ≡ header_part tsi toi fti ++ payload_part block esi y
written_parts tsi toi None block esi y = refl
written_parts tsi toi (Some f) block esi y = refl

pub length-header_part : (tsi toi : ℕ) (fti : Option Fti) → length (header_part tsi toi fti) + 4 ≡ header_size fti
length-header_part tsi toi None = refl
length-header_part tsi toi (Some f) = refl

pub length-written : (tsi toi : ℕ) (fti : Option Fti) (block esi : ℕ) (y : List ℕ) → length (written (packet_from tsi toi fti block esi y)) ≡ header_size fti + length y
length-written tsi toi None block esi y = omega arith
length-written tsi toi (Some f) block esi y = omega arith

AreBytes-written : (tsi toi : ℕ) (fti : Option Fti) (block esi : ℕ) (y : List ℕ) → IfSome fti IsValidFti → esi < 256 → AreBytes y → AreBytes (written (packet_from tsi toi fti block esi y))
AreBytes-written tsi toi fti block esi y valid le by =
    subst (λ (x : List ℕ). AreBytes x) (sym (written_parts tsi toi fti block esi y))
    (AreBytes-append (header_part tsi toi fti) (payload_part block esi y) (AreBytes-header_part tsi toi fti valid) (AreBytes-append (payload_id block esi) y (AreBytes-payload_id block esi le) by))

few_words : (fti : Option Fti) → header_length written_form fti < 1024
few_words None = omega arith
few_words (Some f) = omega arith

pub below_blocks : (fti : Option Fti) (block esi size : ℕ) → IfSome fti IsValidFti → IsWritable fti block esi size → block < 2 ^ 24
below_blocks None block esi size valid fine = fine.0
below_blocks (Some f) block esi size valid fine = omega (arith, fine.0, valid.blocks)

symbol_length : (fti : Option Fti) (block esi size : ℕ) → IsWritable fti block esi size → IsSymbolLength fti size
symbol_length None block esi size fine = fine.1
symbol_length (Some f) block esi size fine = fine.2

-- what is written is this packet
pub written_packet : (tsi toi : ℕ) (fti : Option Fti) (block esi : ℕ) (y : List ℕ) → tsi < 2 ^ 32 → toi < 2 ^ 32 → IfSome fti IsValidFti → esi < 256 → IsWritable fti block esi (length y) → AreBytes y
    → IsPacket (written (packet_from tsi toi fti block esi y)) (packet_from tsi toi fti block esi y)
written_packet tsi toi fti block esi y lt lu valid le fine by = record {
  form = written_form;
  valid = record {
    c = omega arith;
    s = omega arith;
    o = omega arith;
    h = omega arith;
    low = omega arith;
    some_tsi = omega arith;
    some_toi = omega arith;
    tsi = lt;
    toi = lu;
    control = refl;
    before = refl;
    after = refl;
    words = few_words fti;
    block = below_blocks fti block esi (length y) valid fine;
    esi = le;
    fti = valid;
    symbol = symbol_length fti block esi (length y) fine;
  };
  spelling = refl;
  bytes = AreBytes-written tsi toi fti block esi y valid le by;
}

-- the parts one after the other, and what was behind them
pub buffer_written : (tsi toi : ℕ) (fti : Option Fti) (block esi : ℕ) (y out a b : List ℕ) (size : ℕ) → size ≡ length (header_part tsi toi fti) → a ≡ header_part tsi toi fti → b ≡ payload_part block esi y ++ drop (4 + length y) (drop size out)
    → a ++ b ≡ written (packet_from tsi toi fti block esi y) ++ drop (size + 4 + length y) out
buffer_written tsi toi fti block esi y out a b size long ha hb =
    let left : drop (4 + length y) (drop size out) ≡ drop (size + 4 + length y) out = drop-drop (4 + length y) size out ∙ ap (λ (n : ℕ). drop n out) (omega arith) in
    rw (ha, hb, left) (sym (append_assoc (header_part tsi toi fti) (payload_part block esi y) (drop (size + 4 + length y) out)) ∙ ap (λ (x : List ℕ). x ++ drop (size + 4 + length y) out) (sym (written_parts tsi toi fti block esi y)))

-- the packet at the front of a buffer
pub packet_written : (p : Packet) (rest new : List ℕ) (n : ℕ) → n ≡ length (written p) → new ≡ written p ++ rest → IsPacket (written p) p → IsPacket (take n new) p
packet_written p rest new n size h is =
    let front : take n new ≡ written p = ap (take n) h ∙ take_at (written p) rest n (sym size) in
    subst (λ (x : List ℕ). IsPacket x p) (sym front) is
