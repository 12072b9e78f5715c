-- What the reader of the code answers, part by part.
use Rattle.std.proofs.Common.{◌≡◌, ℕ, ◌+◌, ◌-◌, ◌*◌, ◌≤◌, true, false, List, length, take, drop, get_or, arith, refl, ap, sym, ◌∙◌, Option, Some, None, Result, Ok, Err}
use Rattle.std.specs.Prelude.{option_map}
use Rattle.partition.specs.Fti.{Fti}
use Rattle.partition.specs.FtiFault.{fti_fault}
use Rattle.partition.specs.declared.FtiError.{FtiError}
use Rattle.alc.specs.PacketFault.{HasPayload, header_end, extension_bytes, s_of, o_of, h_of}
use Rattle.alc.specs.declared.fault.PacketFault.{PacketFault}
use Rattle.alc.specs.declared.fault.PacketFault.TheVariants.{FtiValue, PayloadLength}
use Rattle.alc.specs.Computed.{read_of, walk, with_extensions, with_fti, with_payload, has_payload, fti_in, packet_with, number_of, part}
use Rattle.byteorder.specs.Endian.{big_from}
use Rattle.std.proofs.lemmas.List.{length-drop, drop-drop, get_or-drop}
use Rattle.alc.specs.Packet.{Packet}
use Rattle.alc.specs.declared.header.Header.{Header}
use Rattle.alc.specs.Layout.{Passed, Lies}
use Rattle.alc.proofs.Digits.{number_is}
use Rattle.alc.proofs.Payloads.{payload_is, payload_isnt}
use Rattle.alc.proofs.Again.{packet_made}
use Rattle.alc.proofs.Walks.{walk_any}
use Rattle.alc.proofs.Stages.{passed_value}
use Rattle.alc.proofs.OneReading.{extension_bytes_few}

pub read_walked : (d ext : List ℕ) (r : Result (Option (List ℕ)) PacketFault) → Passed d → ext ≡ extension_bytes d → walk (length ext) ext None ≡ r → read_of d ≡ with_extensions d r
read_walked d ext r passed is w =
    let few : length ext ≤ length d = omega (arith, ap length is, extension_bytes_few d) in
    let same : walk (length d) (extension_bytes d) None ≡ walk (length ext) ext None =
    ap (λ (x : List ℕ). walk (length d) x None) (sym is) ∙ walk_any (length d) (length ext) ext None few (omega arith) in
    passed_value d passed ∙ ap (with_extensions d) (same ∙ w)

with_fault : (d : List ℕ) (f : Fti) (o : Option FtiError) (r : PacketFault) → option_map FtiValue o ≡ Some r → with_fti d f o ≡ Err r
with_fault d f None r e = absurd cc
with_fault d f (Some x) r e = cc

pub read_invalid : (d ext content : List ℕ) (r : PacketFault) → Passed d → ext ≡ extension_bytes d → walk (length ext) ext None ≡ Ok (Some content) → option_map FtiValue (fti_fault (fti_in content)) ≡ Some r → read_of d ≡ Err r
read_invalid d ext content r passed is w bad = read_walked d ext (Ok (Some content)) passed is w ∙ with_fault d (fti_in content) (fti_fault (fti_in content)) r bad

-- the extensions carry this FTI, or none, and nothing is wrong with it
abbrev pub Finds : List ℕ → Option Fti → Type 0
Finds ext None = walk (length ext) ext None ≡ Ok None
Finds ext (Some f) = (content : List ℕ) × (walk (length ext) ext None ≡ Ok (Some content)) × (fti_in content ≡ f) × (fti_fault f ≡ None)

read_found : (d ext : List ℕ) (fti : Option Fti) → Passed d → ext ≡ extension_bytes d → Finds ext fti → read_of d ≡ with_payload d fti
read_found d ext None passed is w = read_walked d ext (Ok None) passed is w
read_found d ext (Some f) passed is (content, w, here, good) =
    read_walked d ext (Ok (Some content)) passed is w ∙ ap (λ (x : Fti). with_fti d x (fti_fault x)) here ∙ ap (with_fti d f) good

pub read_short : (d ext : List ℕ) (fti : Option Fti) → Passed d → ext ≡ extension_bytes d → Finds ext fti → ¬ HasPayload d fti → read_of d ≡ Err PayloadLength
read_short d ext fti passed is finds wrong =
    let t : has_payload d fti ≡ false = payload_isnt d fti wrong in
    read_found d ext fti passed is finds ∙ (rw t refl)

pub read_whole : (d ext : List ℕ) (fti : Option Fti) → Passed d → ext ≡ extension_bytes d → Finds ext fti → HasPayload d fti → read_of d ≡ Ok (packet_with d fti)
read_whole d ext fti passed is finds payload =
    let t : has_payload d fti ≡ true = payload_is d fti payload in
    read_found d ext fti passed is finds ∙ (rw t refl)

-- the fields as the code reads them
pub fields_are : (d : List ℕ) (h : Header) (f : Option Fti) (tsi toi sbn esi : ℕ) (symbol : List ℕ) → Lies h d → h.end + 4 ≤ length d
    → tsi ≡ big_from 0 (h.toi - h.tsi) (drop h.tsi d) → toi ≡ big_from 0 (h.extensions - h.toi) (drop h.toi d) → sbn ≡ big_from 0 3 (drop h.end d) → esi ≡ get_or (drop h.end d) 3 0 → symbol ≡ drop 4 (drop h.end d)
    → ◌≡◌ {A = Packet} (record { tsi = tsi; toi = toi; fti = f; block = sbn; esi = esi; bytes = symbol }) (packet_with d f)
fields_are d h f tsi toi sbn esi symbol lies size ts to sb es sy =
    let within : h.extensions ≤ length d = omega (arith, lies.passed.words, lies.passed.within, lies.extensions) in
    let n2 : h.toi - h.tsi ≡ 4 * s_of d + 2 * h_of d = omega (arith, lies.tsi, lies.toi) in
    let n3 : h.extensions - h.toi ≡ 4 * o_of d + 2 * h_of d = omega (arith, lies.toi, lies.extensions) in
    let number : (from to : ℕ) → from ≤ to → to ≤ length d → big_from 0 (to - from) (drop from d) ≡ number_of (part from (to - from) d) =
    λ from to rise fits. sym (number_is (to - from) (drop from d) (omega (arith, length-drop from d))) in
    packet_made tsi toi f sbn esi symbol _ _ f _ _ _
    (ts ∙ number h.tsi h.toi (omega (arith, lies.tsi, lies.toi)) (omega (arith, within, lies.toi, lies.extensions)) ∙ (rw (n2, lies.tsi) refl))
    (to ∙ number h.toi h.extensions (omega (arith, lies.toi, lies.extensions)) within ∙ (rw (n3, lies.toi) refl))
    refl
    (sb ∙ sym (number_is 3 (drop h.end d) (omega (arith, length-drop h.end d, size))) ∙ (rw lies.end refl))
    (es ∙ get_or-drop h.end d 3 0 ∙ (rw lies.end refl))
    (sy ∙ drop-drop 4 h.end d ∙ (rw lies.end refl))

-- the extension bytes as the code has them
pub ext_is : (d : List ℕ) (h : Header) → Lies h d → take (h.end - h.extensions) (drop h.extensions d) ≡ extension_bytes d
ext_is d h lies = ap (λ (k : ℕ). take (k - h.extensions) (drop h.extensions d)) lies.end ∙ ap (λ (k : ℕ). take (header_end d - k) (drop k d)) lies.extensions
