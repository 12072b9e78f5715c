-- A datagram without a fault is a packet.
use Rattle.std.proofs.Common.{◌≡◌, ℕ, ◌+◌, ◌-◌, ◌*◌, ◌/◌, ◌%◌, ◌^◌, ◌<◌, ◌≤◌, true, List, [], ◌∷◌, ◌++◌, length, drop, get_or, arith, refl, ap, sym, subst, ◌∙◌, append_assoc, Option}
use Rattle.std.specs.List.{list_all}
use Rattle.std.proofs.lemmas.List.{length-drop, drop_more}
use Rattle.lists.specs.Bytes.{AreBytes}
use Rattle.partition.specs.Fti.{Fti, IsValidFti}
use Rattle.byteorder.specs.Endian.{big_bytes}
use Rattle.std.specs.Prelude.{IfSome}
use Rattle.alc.specs.Packet.{IsPacket, IsSymbolLength, Form, is_other, extensions, header_length}
use Rattle.alc.specs.PacketFault.{HasPayload, c_of, s_of, o_of, h_of, fixed_words, header_end, extension_bytes}
use Rattle.alc.specs.Computed.{part, packet_with, number_of}
use Rattle.alc.proofs.Digits.{number_below}
use Rattle.alc.proofs.Bytes.{AreBytes-part, length-part, cut, four}
use Rattle.alc.proofs.FtiFields.{big_part}
use Rattle.alc.specs.Layout.{Passed}

-- one part more
join : (d a r f f' r' : List ℕ) → d ≡ a ++ r → r ≡ f ++ r' → f' ≡ f → d ≡ (a ++ f') ++ r'
join d a r f f' r' e g h = e ∙ ap (λ (x : List ℕ). a ++ x) (g ∙ ap (λ (x : List ℕ). x ++ r') (sym h)) ∙ sym (append_assoc a f' r')

four_cells : (a b c e a' b' c' e' : ℕ) → a ≡ a' → b ≡ b' → c ≡ c' → e ≡ e' → a ∷ b ∷ c ∷ e ∷ [] ≡ a' ∷ b' ∷ c' ∷ e' ∷ []
four_cells a b c e a' b' c' e' p q r s = cc

flags : (b : ℕ) → b < 256 → 128 * (b / 128) + 32 * (b / 32 % 4) + 16 * (b / 16 % 2) + b % 16 ≡ b
flags b lt = omega arith

first_byte : (a : ℕ) → a / 16 ≡ 1 → a % 4 ≡ 0 → 16 + 4 * (a / 4 % 4) ≡ a
first_byte a v p = omega arith

flag_bounds : (b : ℕ) → b < 256 → b / 128 < 2
flag_bounds b lt = omega arith

abbrev pub form_of : List ℕ → List (List ℕ) → List (List ℕ) → Form
form_of d before behind = record { c = c_of d; s = s_of d; o = o_of d; h = h_of d; low = get_or d 1 0 % 16; control = part 4 (4 * (c_of d + 1)) d; before = before; after = behind }

-- the sizes of the fields, in bytes
abbrev pub control_size : List ℕ → ℕ
control_size d = 4 * (c_of d + 1)

abbrev pub tsi_size : List ℕ → ℕ
tsi_size d = 4 * s_of d + 2 * h_of d

abbrev pub toi_size : List ℕ → ℕ
toi_size d = 4 * o_of d + 2 * h_of d

pub built : (d : List ℕ) (f : Option Fti) (before behind : List (List ℕ)) → AreBytes d → Passed d → extension_bytes d ≡ extensions (form_of d before behind) f → list_all is_other before ≡ true → list_all is_other behind ≡ true
    → IfSome f IsValidFti → HasPayload d f → IsPacket d (packet_with d f)
built d f before behind bytes passed exts hb ha valid payload =
    let form : Form = form_of d before behind in
    let n1 : ℕ = control_size d in
    let n2 : ℕ = tsi_size d in
    let n3 : ℕ = toi_size d in
    let fw : ℕ = fixed_words d in
    let he : ℕ = header_end d in
    let b0 : get_or d 0 0 < 256 = bytes 0 in
    let b1 : get_or d 1 0 < 256 = bytes 1 in
    let b2 : get_or d 2 0 < 256 = bytes 2 in
    let words : fw ≤ get_or d 2 0 = passed.words in
    let within : he + 4 ≤ length d = payload.payload_id in
    let ends : 4 + n1 + n2 + n3 ≡ 4 * fw = omega arith in
    let size : length (extension_bytes d) ≡ he - 4 * fw = length-part (4 * fw) (he - 4 * fw) d (omega arith) in
    let whole : header_length form f ≡ he = omega (arith, ap length exts, size) in
    let esi : drop (he + 3) d ≡ get_or d (he + 3) 0 ∷ drop (he + 4) d =
    drop_more d (he + 3) 0 (omega arith) ∙ ap (λ (k : ℕ). get_or d (he + 3) 0 ∷ drop k d) (omega arith) in
    let rest : drop (4 + n1 + n2 + n3) d ≡ extension_bytes d ++ drop he d =
    ap (λ (k : ℕ). drop k d) ends ∙ cut (4 * fw) (he - 4 * fw) d ∙ ap (λ (k : ℕ). extension_bytes d ++ drop k d) (omega arith) in
    let head = four_cells (16 + 4 * c_of d) (128 * s_of d + 32 * o_of d + 16 * h_of d + get_or d 1 0 % 16) (header_length form f / 4) 5 (get_or d 0 0) (get_or d 1 0) (get_or d 2 0) (get_or d 3 0)
    (first_byte (get_or d 0 0) passed.version passed.psi) (flags (get_or d 1 0) b1) (rw whole (omega arith)) (sym passed.codepoint) in
    let tsi : big_bytes n2 (number_of (part (4 + n1) n2 d)) ≡ part (4 + n1) n2 d = big_part (4 + n1) n2 d (omega arith) bytes in
    let toi : big_bytes n3 (number_of (part (4 + n1 + n2) n3 d)) ≡ part (4 + n1 + n2) n3 d = big_part (4 + n1 + n2) n3 d (omega arith) bytes in
    let block : big_bytes 3 (number_of (part he 3 d)) ≡ part he 3 d = big_part he 3 d (omega arith) bytes in
    let h0 : List ℕ = (16 + 4 * c_of d) ∷ (128 * s_of d + 32 * o_of d + 16 * h_of d + get_or d 1 0 % 16) ∷ header_length form f / 4 ∷ 5 ∷ [] in
    let h1 : List ℕ = h0 ++ part 4 n1 d in
    let h2 : List ℕ = h1 ++ big_bytes n2 (number_of (part (4 + n1) n2 d)) in
    let h3 : List ℕ = h2 ++ big_bytes n3 (number_of (part (4 + n1 + n2) n3 d)) in
    let h4 : List ℕ = h3 ++ extensions form f in
    let h5 : List ℕ = h4 ++ big_bytes 3 (number_of (part he 3 d)) in
    let e0 : d ≡ h0 ++ drop 4 d = four d passed.long ∙ ap (λ (x : List ℕ). x ++ drop 4 d) (sym head) in
    let e1 = join d h0 (drop 4 d) (part 4 n1 d) (part 4 n1 d) (drop (4 + n1) d) e0 (cut 4 n1 d) refl in
    let e2 = join d h1 (drop (4 + n1) d) _ _ (drop (4 + n1 + n2) d) e1 (cut (4 + n1) n2 d) tsi in
    let e3 = join d h2 (drop (4 + n1 + n2) d) _ _ (drop (4 + n1 + n2 + n3) d) e2 (cut (4 + n1 + n2) n3 d) toi in
    let e4 = join d h3 (drop (4 + n1 + n2 + n3) d) _ _ (drop he d) e3 rest (sym exts) in
    let e5 = join d h4 (drop he d) _ _ (drop (he + 3) d) e4 (cut he 3 d) block in
    let e6 = join d h5 (drop (he + 3) d) (get_or d (he + 3) 0 ∷ []) (get_or d (he + 3) 0 ∷ []) (drop (he + 4) d) e5 esi refl in
    let below_tsi : number_of (part (4 + n1) n2 d) < 256 ^ n2 = rw (length-part (4 + n1) n2 d (omega arith)) at (number_below (part (4 + n1) n2 d) (AreBytes-part (4 + n1) n2 d bytes)) in
    let below_toi : number_of (part (4 + n1 + n2) n3 d) < 256 ^ n3 = rw (length-part (4 + n1 + n2) n3 d (omega arith)) at (number_below (part (4 + n1 + n2) n3 d) (AreBytes-part (4 + n1 + n2) n3 d bytes)) in
    let below_block : number_of (part he 3 d) < 256 ^ 3 = rw (length-part he 3 d (omega arith)) at (number_below (part he 3 d) (AreBytes-part he 3 d bytes)) in
    record {
      form = form;
      valid = record {
        c = omega arith;
        s = flag_bounds (get_or d 1 0) b1;
        o = omega arith;
        h = omega arith;
        low = omega arith;
        some_tsi = passed.tsi;
        some_toi = passed.toi;
        tsi = below_tsi;
        toi = below_toi;
        control = length-part 4 n1 d (omega arith);
        before = hb;
        after = ha;
        words = omega (arith, whole, b2);
        block = below_block;
        esi = bytes (he + 3);
        fti = valid;
        symbol = subst (λ (n : ℕ). IsSymbolLength f n) (sym (length-drop (he + 4) d)) payload.symbol;
      };
      spelling = e6;
      bytes = bytes;
    }
