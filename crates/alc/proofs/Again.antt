-- A packet is read, and so a datagram has one reading.
use Rattle.std.proofs.Common.{◌≡◌, ℕ, ◌+◌, ◌-◌, ◌*◌, ◌/◌, ◌%◌, ◌<◌, inl, inr, true, cond, leb, List, [], ◌∷◌, ◌++◌, length, drop, get_or, arith, refl, ap, sym, subst, ◌∙◌, append_assoc, Option, Some, None, Ok, Err}
use Rattle.std.specs.Prelude.{IfSome}
use Rattle.std.specs.List.{list_all}
use Rattle.std.proofs.lemmas.Bool.{and_parts, and_from}
use Rattle.std.proofs.lemmas.Bool.Decides.{nat_tests}
use Rattle.std.proofs.lemmas.List.{append-nil, length-append, get_or_at, drop_at}
use Rattle.std.proofs.lemmas.List.Folds.{list_all-append}
use Rattle.lists.specs.Bytes.{AreBytes}
use Rattle.partition.specs.Fti.{Fti, IsValidFti}
use Rattle.byteorder.specs.Endian.{big_bytes}
use Rattle.alc.specs.Packet.{Packet, IsPacket, IsSymbolLength, IsForm, Form, is_extension, is_other, joined, extensions, header_length, fti_extension}
use Rattle.alc.specs.PacketFault.{IsPacketFault, HasPayload, rank, is_sound, c_of, s_of, o_of, h_of, fixed_words, header_end, extension_bytes, WalkEnds}
use Rattle.alc.specs.declared.fault.PacketFault.{PacketFault}
use Rattle.alc.specs.Computed.{read_of, walk, part, packet_with, with_extensions, with_payload, has_payload, number_of}
use Rattle.alc.specs.Reading.{Reading, Reads}
use Rattle.byteorder.specs.Numbers.{length-bytes_high_first}
use Rattle.alc.proofs.Digits.{number_again}
use Rattle.alc.proofs.Bytes.{part_at}
use Rattle.alc.proofs.Walks.{walked_is}
use Rattle.alc.proofs.Chosen.{sees, others_are, seen_none}
use Rattle.alc.proofs.Payloads.{payload_is}
use Rattle.partition.proofs.Faults.{valid_no_fault}
use Rattle.alc.proofs.FtiFields.{fields_of}
use Rattle.alc.specs.Layout.{Passed}
use Rattle.alc.proofs.Stages.{passed_value}
use Rattle.alc.proofs.Built.{control_size, tsi_size, toi_size}
use Rattle.alc.proofs.OneReading.{Says, says, Hits, hits, walked_end, value_of, joined_around, joined_both, extension_bytes_few}

-- the parts of a datagram that is laid out so
pub record Parts (d : List ℕ) (n1 n2 n3 n4 : ℕ) (t u x b : List ℕ) (j : ℕ) (y : List ℕ) : Type 0 where
  pub tsi : part (4 + n1) n2 d ≡ t
  pub toi : part (4 + n1 + n2) n3 d ≡ u
  pub exts : part (4 + n1 + n2 + n3) n4 d ≡ x
  pub block : part (4 + n1 + n2 + n3 + n4) 3 d ≡ b
  pub esi : get_or d (4 + n1 + n2 + n3 + n4 + 3) 0 ≡ j
  pub rest : drop (4 + n1 + n2 + n3 + n4 + 4) d ≡ y
  pub size : length d ≡ 4 + n1 + n2 + n3 + n4 + 4 + length y

pub parts : (d h c t u x b : List ℕ) (j : ℕ) (y : List ℕ) (n1 n2 n3 n4 : ℕ) → d ≡ ((((((h ++ c) ++ t) ++ u) ++ x) ++ b) ++ (j ∷ [])) ++ y → length h ≡ 4 → length c ≡ n1 → length t ≡ n2 → length u ≡ n3 → length x ≡ n4 → length b ≡ 3
    → Parts d n1 n2 n3 n4 t u x b j y
parts d h c t u x b j y n1 n2 n3 n4 is lh lc lt lu lx lb =
    let l1 : length (h ++ c) ≡ 4 + n1 = omega (arith, length-append h c) in
    let l2 : length ((h ++ c) ++ t) ≡ 4 + n1 + n2 = omega (arith, length-append (h ++ c) t) in
    let l3 : length (((h ++ c) ++ t) ++ u) ≡ 4 + n1 + n2 + n3 = omega (arith, length-append ((h ++ c) ++ t) u) in
    let l4 : length ((((h ++ c) ++ t) ++ u) ++ x) ≡ 4 + n1 + n2 + n3 + n4 = omega (arith, length-append (((h ++ c) ++ t) ++ u) x) in
    let l5 : length (((((h ++ c) ++ t) ++ u) ++ x) ++ b) ≡ 4 + n1 + n2 + n3 + n4 + 3 = omega (arith, length-append ((((h ++ c) ++ t) ++ u) ++ x) b) in
    let l6 : length ((((((h ++ c) ++ t) ++ u) ++ x) ++ b) ++ (j ∷ [])) ≡ 4 + n1 + n2 + n3 + n4 + 4 = omega (arith, length-append (((((h ++ c) ++ t) ++ u) ++ x) ++ b) (j ∷ [])) in
    let at_y = is in
    let at_e = at_y ∙ append_assoc (((((h ++ c) ++ t) ++ u) ++ x) ++ b) (j ∷ []) y in
    let at_b = at_e ∙ append_assoc ((((h ++ c) ++ t) ++ u) ++ x) b _ in
    let at_x = at_b ∙ append_assoc (((h ++ c) ++ t) ++ u) x _ in
    let at_u = at_x ∙ append_assoc ((h ++ c) ++ t) u _ in
    let at_t = at_u ∙ append_assoc (h ++ c) t _ in
    record {
      tsi = ap (part (4 + n1) n2) at_t ∙ part_at (h ++ c) t _ (4 + n1) n2 l1 lt;
      toi = ap (part (4 + n1 + n2) n3) at_u ∙ part_at ((h ++ c) ++ t) u _ (4 + n1 + n2) n3 l2 lu;
      exts = ap (part (4 + n1 + n2 + n3) n4) at_x ∙ part_at (((h ++ c) ++ t) ++ u) x _ (4 + n1 + n2 + n3) n4 l3 lx;
      block = ap (part (4 + n1 + n2 + n3 + n4) 3) at_b ∙ part_at ((((h ++ c) ++ t) ++ u) ++ x) b _ (4 + n1 + n2 + n3 + n4) 3 l4 lb;
      esi = ap (λ (l : List ℕ). get_or l (4 + n1 + n2 + n3 + n4 + 3) 0) at_e ∙ get_or_at (((((h ++ c) ++ t) ++ u) ++ x) ++ b) j y 0 (4 + n1 + n2 + n3 + n4 + 3) l5;
      rest = ap (drop (4 + n1 + n2 + n3 + n4 + 4)) at_y ∙ drop_at ((((((h ++ c) ++ t) ++ u) ++ x) ++ b) ++ (j ∷ [])) y (4 + n1 + n2 + n3 + n4 + 4) l6;
      size = ap length at_y ∙ length-append ((((((h ++ c) ++ t) ++ u) ++ x) ++ b) ++ (j ∷ [])) y ∙ omega (arith, l6);
    }

-- an extension has whole words
whole_words : (t w : ℕ) (rest : List ℕ) → is_extension (t ∷ w ∷ rest) ≡ true → length (t ∷ w ∷ rest) ≡ 4 * cond (leb 128 t) 1 w
whole_words t w rest h = grind (arith, nat_tests)

words_of : (e : List ℕ) → is_extension e ≡ true → (q : ℕ) × (length e ≡ 4 * q)
words_of [] h = absurd cc
words_of (t ∷ []) h = absurd cc
words_of (t ∷ w ∷ rest) h = (cond (leb 128 t) 1 w, whole_words t w rest h)

joined_words : (es : List (List ℕ)) → list_all is_other es ≡ true → (q : ℕ) × (length (joined es) ≡ 4 * q)
joined_words [] h = (0, refl)
joined_words (e ∷ es) h =
    let p = and_parts (is_other e) (list_all is_other es) h in
    let a = words_of e (and_parts _ _ p.0).0 in
    let b = joined_words es p.1 in
    (a.0 + b.0, omega (arith, a.1, b.1, length-append e (joined es)))

fti_twelve : (f : Fti) → length (fti_extension f) ≡ 12
fti_twelve f = refl

fti_sound : (f : Fti) → is_sound (fti_extension f) ≡ true
fti_sound f = refl

extensions_words : (form : Form) (fti : Option Fti) → list_all is_other form.before ≡ true → list_all is_other form.after ≡ true → (q : ℕ) × (length (extensions form fti) ≡ 4 * q)
extensions_words form None hb ha =
    let a = joined_words form.before hb in
    let b = joined_words form.after ha in
    (a.0 + b.0, omega (arith, a.1, b.1, length-append (joined form.before ++ []) (joined form.after), length-append (joined form.before) []))
extensions_words form (Some f) hb ha =
    let a = joined_words form.before hb in
    let b = joined_words form.after ha in
    (a.0 + 3 + b.0, omega (arith, a.1, b.1, fti_twelve f, length-append (joined form.before ++ fti_extension f) (joined form.after), length-append (joined form.before) (fti_extension f)))

pub packet_made : (a b : ℕ) (f : Option Fti) (c e : ℕ) (y : List ℕ) (a' b' : ℕ) (f' : Option Fti) (c' e' : ℕ) (y' : List ℕ) → a ≡ a' → b ≡ b' → f ≡ f' → c ≡ c' → e ≡ e' → y ≡ y'
    → ◌≡◌ {A = Packet} (record { tsi = a; toi = b; fti = f; block = c; esi = e; bytes = y }) (record { tsi = a'; toi = b'; fti = f'; block = c'; esi = e'; bytes = y' })
packet_made a b f c e y a' b' f' c' e' y' h0 h1 h2 h3 h4 h5 = cc

-- what extensions that carry this lead to
extensions_value : (d : List ℕ) (form : Form) (fti : Option Fti) → IfSome fti IsValidFti → list_all is_other form.before ≡ true → list_all is_other form.after ≡ true → extension_bytes d ≡ extensions form fti
    → with_extensions d (walk (length d) (extension_bytes d) None) ≡ with_payload d fti
extensions_value d form None valid hb ha exts =
    let es : List (List ℕ) = form.before ++ form.after in
    let others : list_all is_other es ≡ true = list_all-append is_other form.before form.after ∙ and_from _ _ hb ha in
    let o = others_are es others in
    let ends : WalkEnds d es = (exts ∙ ap (λ (x : List ℕ). x ++ joined form.after) (append-nil (joined form.before)) ∙ sym (joined_both form.before form.after), record { each = o.0; one = omega (arith, o.1) }) in
    let walked = walked_end d es None ends (sym (seen_none es None o.1)) in
    ap (with_extensions d) (walked_is (length d) (extension_bytes d) None (Ok None) (extension_bytes_few d) walked)
extensions_value d form (Some f) valid hb ha exts =
    let fe : List ℕ = fti_extension f in
    let es : List (List ℕ) = form.before ++ fe ∷ form.after in
    let seen = sees form.before form.after fe hb ha (fti_sound f) refl in
    let all : extension_bytes d ≡ joined es = exts ∙ append_assoc (joined form.before) fe (joined form.after) ∙ sym (joined_around form.before fe form.after) in
    let ends : WalkEnds d es = (all, record { each = seen.each; one = omega (arith, seen.one) }) in
    let walked = walked_end d es (Some (part 2 10 fe)) ends (sym seen.seen) in
    ap (with_extensions d) (walked_is (length d) (extension_bytes d) None (Ok (Some (part 2 10 fe))) (extension_bytes_few d) walked)
    ∙ value_of d f None (fields_of f valid) (valid_no_fault f valid)

-- the value, from the parts
value_again : (d : List ℕ) (p : Packet) (form : Form) → IsForm form p → Passed d → extension_bytes d ≡ extensions form p.fti → HasPayload d p.fti → packet_with d p.fti ≡ p → read_of d ≡ Ok p
value_again d p form v passed exts payload made =
    let t : has_payload d p.fti ≡ true = payload_is d p.fti payload in
    passed_value d passed
    ∙ extensions_value d form p.fti v.fti v.before v.after exts
    ∙ (rw t (ap (λ (x : Packet). Ok x) made))

c_is : (a c : ℕ) → a ≡ 16 + 4 * c → c < 4 → (a / 16 ≡ 1) × (a % 4 ≡ 0) × (a / 4 % 4 ≡ c)
c_is a c e lt = (omega arith, omega arith, omega arith)

flags_are : (b s o h low : ℕ) → b ≡ 128 * s + 32 * o + 16 * h + low → s < 2 → o < 4 → h < 2 → low < 16 → (b / 128 ≡ s) × (b / 32 % 4 ≡ o) × (b / 16 % 2 ≡ h)
flags_are b s o h low e ls lo lh ll = (omega arith, omega arith, omega arith)

whole_of : (n c s o h l q : ℕ) → n ≡ 4 + 4 * (c + 1) + (4 * s + 2 * h) + (4 * o + 2 * h) + l → l ≡ 4 * q → 4 * (n / 4) ≡ n
whole_of n c s o h l q e f = omega arith

different : {p : Packet} {r : PacketFault} → ◌≡◌ {A = Reading} (Ok p) (Err r) → ⊥
different e = cc

fault_is : {q r : PacketFault} → ◌≡◌ {A = Reading} (Err q) (Err r) → q ≡ r
fault_is e = cc

earlier : (d : List ℕ) (q r : PacketFault) → rank q < rank r → Hits d q → read_of d ≡ Err r → ⊥
earlier d q r less (x, e, h, inl before) is = omega (arith, less, before, ap rank (fault_is (sym e ∙ is)))
earlier d q r less (x, e, h, inr same) is = omega (arith, less, ap rank (sym same ∙ fault_is (sym e ∙ is)))

is_first : (d : List ℕ) (r : PacketFault) → IsPacketFault d r → Hits d r → read_of d ≡ Err r
is_first d r h (x, e, holds, inr same) = e ∙ ap (λ (q : PacketFault). Err q) same
is_first d r h (x, e, holds, inl before) = absurd (h.first x before holds)

pub again : (d : List ℕ) (p : Packet) → IsPacket d p → read_of d ≡ Ok p
again d p x =
    let form : Form = x.form in
    let v : IsForm form p = x.valid in
    let f : Option Fti = p.fti in
    let n : ℕ = header_length form f in
    let g0 : get_or d 0 0 ≡ 16 + 4 * form.c = ap (λ (l : List ℕ). get_or l 0 0) x.spelling in
    let g1 : get_or d 1 0 ≡ 128 * form.s + 32 * form.o + 16 * form.h + form.low = ap (λ (l : List ℕ). get_or l 1 0) x.spelling in
    let g2 : get_or d 2 0 ≡ n / 4 = ap (λ (l : List ℕ). get_or l 2 0) x.spelling in
    let g3 : get_or d 3 0 ≡ 5 = ap (λ (l : List ℕ). get_or l 3 0) x.spelling in
    let a = c_is (get_or d 0 0) form.c g0 v.c in
    let b = flags_are (get_or d 1 0) form.s form.o form.h form.low g1 v.s v.o v.h v.low in
    let q = extensions_words form f v.before v.after in
    let hl : 4 * (n / 4) ≡ n = whole_of n form.c form.s form.o form.h (length (extensions form f)) q.0 refl q.1 in
    let n1 : ℕ = control_size d in
    let n2 : ℕ = tsi_size d in
    let n3 : ℕ = toi_size d in
    let n4 : ℕ = length (extensions form f) in
    let sc : c_of d ≡ form.c = a.2 in
    let ss : s_of d ≡ form.s = b.0 in
    let so : o_of d ≡ form.o = b.1 in
    let sh : h_of d ≡ form.h = b.2 in
    let e2 : n2 ≡ 4 * form.s + 2 * form.h = omega (arith, ss, sh) in
    let e3 : n3 ≡ 4 * form.o + 2 * form.h = omega (arith, so, sh) in
    let he : header_end d ≡ 4 + n1 + n2 + n3 + n4 = omega (arith, g2, hl, sc, e2, e3) in
    let fw : 4 * fixed_words d ≡ 4 + n1 + n2 + n3 = omega arith in
    let s = parts d ((16 + 4 * form.c) ∷ (128 * form.s + 32 * form.o + 16 * form.h + form.low) ∷ n / 4 ∷ 5 ∷ []) form.control _ _ (extensions form f) _ p.esi p.bytes n1 n2 n3 n4 x.spelling refl (omega (arith, v.control, sc)) (length-bytes_high_first (4 * form.s + 2 * form.h) p.tsi ∙ sym e2) (length-bytes_high_first (4 * form.o + 2 * form.h) p.toi ∙ sym e3) refl (length-bytes_high_first 3 p.block) in
    let passed : Passed d = record {
      long = omega (arith, s.size);
      version = a.0;
      psi = a.1;
      codepoint = g3;
      tsi = omega (arith, v.some_tsi, ss, sh);
      toi = omega (arith, v.some_toi, so, sh);
      words = omega (arith, he, fw);
      within = omega (arith, he, s.size);
    } in
    let exts : extension_bytes d ≡ extensions form f = ap (λ (k : ℕ). part k (header_end d - 4 * fixed_words d) d) fw ∙ ap (λ (k : ℕ). part (4 + n1 + n2 + n3) k d) (omega (arith, he, fw)) ∙ s.exts in
    let block : part (header_end d) 3 d ≡ big_bytes 3 p.block = ap (λ (k : ℕ). part k 3 d) he ∙ s.block in
    let esi : get_or d (header_end d + 3) 0 ≡ p.esi = ap (λ (k : ℕ). get_or d (k + 3) 0) he ∙ s.esi in
    let bytes : drop (header_end d + 4) d ≡ p.bytes = ap (λ (k : ℕ). drop (k + 4) d) he ∙ s.rest in
    let made : packet_with d f ≡ p = packet_made _ _ f _ _ _ p.tsi p.toi f p.block p.esi p.bytes
    (ap number_of s.tsi ∙ number_again (4 * form.s + 2 * form.h) p.tsi v.tsi)
    (ap number_of s.toi ∙ number_again (4 * form.o + 2 * form.h) p.toi v.toi)
    refl
    (ap number_of block ∙ number_again 3 p.block v.block)
    esi
    bytes in
    let size : length p.bytes ≡ length d - (header_end d + 4) = omega (arith, he, s.size) in
    let payload : HasPayload d f = record { payload_id = omega (arith, he, s.size); symbol = subst (λ (k : ℕ). IsSymbolLength f k) size v.symbol } in
    value_again d p form v passed exts payload made

-- what the computing reader answers is the reading
pub reads : (d : List ℕ) → AreBytes d → (r : Reading) → read_of d ≡ r → Reads d r
reads d bytes (Ok p) e = subst (λ (x : Reading). Says d x) e (says d bytes)
reads d bytes (Err r) e = record {
  none = λ p h. different (sym (again d p h) ∙ e);
  holds = subst (λ (x : Reading). Says d x) e (says d bytes);
  first = λ q less h. earlier d q r less (hits d q h) e;
}

-- a reading is what it answers, of any list
pub exact : (d : List ℕ) (r : Reading) → Reads d r → read_of d ≡ r
exact d (Ok p) h = again d p h
exact d (Err r) h = is_first d r h (hits d r h.holds)

pub one_reading : (d : List ℕ) (r s : Reading) → Reads d r → Reads d s → r ≡ s
one_reading d r s h g = sym (exact d r h) ∙ exact d s g
