-- A datagram that is read again where it stood, and its symbol beside the certified one.
use Rattle.std.proofs.Common.{◌≡◌, ℕ, ◌+◌, ◌*◌, ◌<◌, ◌≤◌, true, List, [], Option, Some, None, Result, Ok, length, take, drop, refl, sym, ap, ◌∙◌, arith, ltb-true}
use Rattle.std.specs.Prelude.{is_some, slice_index, IsNone, IfSome}
use Rattle.std.proofs.lemmas.List.{take_all}
use Rattle.std.proofs.lemmas.Simd.{get_or-chunk}
use Rattle.gf256.proofs.RowPlaces.{row_ends}
use Rattle.streams.specs.Offsets.{StandsAt}
use Rattle.session.specs.Extents.{datagram_in}
use Rattle.session.specs.declared.extent.Extent.{Extent}
use Rattle.alc.specs.Packet.{Packet}
use Rattle.alc.specs.Reading.{Reading}
use Rattle.alc.specs.Computed.{read_of}
use Rattle.alc.proofs.Again.{exact}
use Rattle.partition.specs.Fti.{Fti, encoding_count}
use Rattle.reception.specs.declared.scope.Scope.{Scope}
use Rattle.alc.specs.declared.fault.PacketFault.{PacketFault}
use Rattle.reception.specs.declared.scope.Look.{Look}
use Rattle.reception.specs.Reception.{look, symbol_of}
use Rattle.reception.specs.declared.scope.Look.TheVariants as look_at
use Rattle.alc.specs.declared.reading.Packet.{Packet as ReadPacket}
use Rattle.lists.proofs.Lists.{both}
use Rattle.reception.proofs.Looks.{fti_after, faultless_look, length_look}
use Rattle.reception.specs.Step.{IsLook, looked}
use Rattle.certificate.specs.BlockSymbols.{AreSymbols}
use Rattle.certificate.specs.Certificate.{Certificate, certified_byte}
use Rattle.certified_symbols.specs.CertifiedSymbol.{IsCertifiedSymbol}
use Rattle.certified_symbols.specs.FirstWrong.{IsFirstWrong}
use Rattle.certified_symbols.specs.Differences.{AreSameBelow, IsFirstDifference}
use Rattle.cert.specs.Tallying.{by_certificate}
use Rattle.cert.proofs.Columns.{is_uncertified}
use Rattle.cert.proofs.Knowing.{look_known}

-- what was read is the datagram
pub whole : (x : List ℕ) (e : Extent) (n : ℕ) (buf : List ℕ) → length buf ≡ e.length → length buf ≤ n → StandsAt (Some x) e.offset (take n buf) → buf ≡ datagram_in x e
whole x e n buf long all stands =
    let same : take n buf ≡ buf = take_all n buf all in
    (rw same at stands) ∙ ap (λ (k : ℕ). take k (drop e.offset x)) long

-- what it is where the FTI is known
pub seen : (scope : Scope) (d : List ℕ) (new : Scope) (answer : Result Look PacketFault) → is_some scope.fti ≡ true → IsLook d scope new answer → look scope (read_of d) ≡ looked answer
seen scope d new answer known at =
    let h = look_known d scope new answer known at in
    ap (λ (r : Reading). look scope r) (exact d h.reading h.reads) ∙ sym h.told

pub is_known : (o : Option Fti) (f : Fti) → o ≡ Some f → is_some o ≡ true
is_known o f e = rw e refl

-- the symbol at an ESI among those that were made
pub row_is : (z : Certificate) (b j n width : ℕ) (symbols : List ℕ) → AreSymbols z b 0 n symbols → width ≡ z.fti.symbol_length → j < n
    → IsCertifiedSymbol z b j (take width (drop (j * width) symbols))
row_is z b j n width symbols are is inside = λ c l.
    (let zero : 0 + j ≡ j = omega arith in
    let row : slice_index symbols (j * z.fti.symbol_length + c) ≡ certified_byte z b (0 + j) c = are j c inside l in
    let place : slice_index symbols (j * width + c) ≡ slice_index symbols (j * z.fti.symbol_length + c) = ap (λ (w : ℕ). slice_index symbols (j * w + c)) is in
    get_or-chunk (j * width) width symbols c 0 (omega (arith, l, is)) ∙ place ∙ row ∙ ap (λ (k : ℕ). certified_byte z b k c) zero)

-- what the certificate says of a packet's symbol, by the certified one
pub said_by_row : (z : Certificate) (p : Packet) (row : List ℕ) → length row ≡ z.fti.symbol_length → IsCertifiedSymbol z p.block p.esi row → (told : Option ℕ)
    → (IsNone told → AreSameBelow (length row) row p.bytes) → IfSome told (IsFirstDifference row p.bytes) → by_certificate z (symbol_of p) ≡ told
said_by_row z p row long is told none some =
    sym (is_uncertified z [] (symbol_of p) told
    (λ n c l. sym (none n c (omega (arith, l, long))) ∙ is c l)
    (first told some))
  where
    first : (o : Option ℕ) → IfSome o (IsFirstDifference row p.bytes) → IfSome o (IsFirstWrong z p.block p.esi p.bytes)
    first None h = tt
    first (Some c) h =
        let column : c < z.fti.symbol_length = omega (arith, h.place, long) in
        record {
          column = column;
          wrong = λ e. h.differ (is c column ∙ sym e);
          right_before = λ y l. (let inside : y < z.fti.symbol_length = omega (arith, l, column) in sym (h.same_before y l) ∙ is y inside);
        }

-- a packet's symbol is as long as the FTI tells, and the certified one stands among those that were made
pub row_inside : (scope : Scope) (d : List ℕ) (new : Scope) (p : ReadPacket) (f : Fti) → scope.fti ≡ Some f → IsLook d scope new (Ok (look_at.InRange p))
    → (length p.symbol.now ≡ f.symbol_length) × (p.esi * f.symbol_length + f.symbol_length ≤ encoding_count f p.sbn * f.symbol_length) × (p.esi < encoding_count f p.sbn)
row_inside scope d new p f known at =
    let held = fti_after d scope new (Ok (look_at.InRange p)) at f known in
    let range = (faultless_look d scope new p at f held).range in
    let few = ltb-true p.esi (encoding_count f p.sbn) (both _ _ range).1 in
    (length_look d scope new p at f held, row_ends p.esi (encoding_count f p.sbn) f.symbol_length few, few)
