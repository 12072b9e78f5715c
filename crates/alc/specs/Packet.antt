-- The ALC packet (RFC 5775): LCT header (RFC 5651, section 5.1), header extensions (RFC 5651,
-- section 5.2), EXT_FTI and FEC payload ID for FEC Encoding ID 5 (RFC 5510, section 5), encoding
-- symbol.
use Rattle.std.specs.Prelude.{◌≡◌, ℕ, ◌+◌, ◌*◌, ◌/◌, ◌^◌, ◌<◌, ◌≤◌, Bool, true, false, ◌&&◌, ◌==◌}
use Rattle.std.specs.Prelude.{nat_le, if◌then◌else◌, not, List, [], ◌∷◌, ◌++◌, length, flat_map}
use Rattle.std.specs.Prelude.{Option, Some, None, IfSome}
use Rattle.std.specs.List.{list_all}
use Rattle.byteorder.specs.Endian.{big_bytes}
use Rattle.lists.specs.Bytes.{AreBytes}
use Rattle.partition.specs.FtiBytes.{bytes_of_fti}
use Rattle.partition.specs.Fti.{Fti, IsValidFti}

-- TSI, TOI, the FTI where the packet carries one, source block number, encoding symbol ID, and the
-- symbol's bytes
pub record Packet : Type 0 where
  pub tsi : ℕ
  pub toi : ℕ
  pub fti : Option Fti
  pub block : ℕ
  pub esi : ℕ
  pub bytes : List ℕ

-- the type of an extension
abbrev pub type_of : List ℕ → ℕ
type_of [] = 0
type_of (t ∷ rest) = t

-- one word, or as many as the second byte says
abbrev pub is_extension : List ℕ → Bool
is_extension [] = false
is_extension (t ∷ []) = false
is_extension (t ∷ words ∷ rest) =
    if nat_le 128 t
    then length rest == 2
    else nat_le 1 words && length rest + 2 == 4 * words

-- an extension that isn't EXT_FTI
abbrev pub is_other : List ℕ → Bool
is_other e = is_extension e && not (type_of e == 64)

abbrev pub fti_extension : Fti → List ℕ
fti_extension f = 64 ∷ 3 ∷ bytes_of_fti f

-- where there is no FTI, there is no extension for it
abbrev pub fti_bytes : Option Fti → List ℕ
fti_bytes None = []
fti_bytes (Some f) = fti_extension f

-- a symbol has the length that its packet's FTI tells; without one it has any, but isn't empty
abbrev pub IsSymbolLength : Option Fti → ℕ → Type 0
IsSymbolLength None size = 1 ≤ size
IsSymbolLength (Some f) size = size ≡ f.symbol_length

-- what a header may choose: its flags (low: Res, A and B), its congestion control bytes and its
-- other extensions
pub record Form : Type 0 where
  pub c : ℕ
  pub s : ℕ
  pub o : ℕ
  pub h : ℕ
  pub low : ℕ
  pub control : List ℕ
  pub before : List (List ℕ)
  pub after : List (List ℕ)

abbrev pub joined : List (List ℕ) → List ℕ
joined es = flat_map (λ e. e) es

abbrev pub extensions : Form → Option Fti → List ℕ
extensions form fti = joined form.before ++ fti_bytes fti ++ joined form.after

abbrev pub header_length : Form → Option Fti → ℕ
header_length form fti =
    4 + 4 * (form.c + 1) + (4 * form.s + 2 * form.h) + (4 * form.o + 2 * form.h)
    + length (extensions form fti)

-- all but the symbol, in this form
abbrev pub head_of : Form → Packet → List ℕ
head_of form p =
    ((16 + 4 * form.c) ∷ (128 * form.s + 32 * form.o + 16 * form.h + form.low)
    ∷ header_length form p.fti / 4 ∷ 5 ∷ [])
    ++ form.control
    ++ big_bytes (4 * form.s + 2 * form.h) p.tsi
    ++ big_bytes (4 * form.o + 2 * form.h) p.toi
    ++ extensions form p.fti
    ++ big_bytes 3 p.block
    ++ (p.esi ∷ [])

-- the packet's bytes in this form
abbrev pub spelled : Form → Packet → List ℕ
spelled form p = head_of form p ++ p.bytes

pub record IsForm (form : Form) (p : Packet) : Type 0 where
  pub c : form.c < 4
  pub s : form.s < 2
  pub o : form.o < 4
  pub h : form.h < 2
  pub low : form.low < 16
  pub some_tsi : 1 ≤ form.s + form.h
  pub some_toi : 1 ≤ form.o + form.h
  pub tsi : p.tsi < 256 ^ (4 * form.s + 2 * form.h)
  pub toi : p.toi < 256 ^ (4 * form.o + 2 * form.h)
  pub control : length form.control ≡ 4 * (form.c + 1)
  pub before : list_all is_other form.before ≡ true
  pub after : list_all is_other form.after ≡ true
  pub words : header_length form p.fti < 1024
  pub block : p.block < 2 ^ 24
  pub esi : p.esi < 256
  pub fti : IfSome p.fti IsValidFti
  pub symbol : IsSymbolLength p.fti (length p.bytes)

-- the bytes are this packet, in some form
pub record IsPacket (d : List ℕ) (p : Packet) : Type 0 where
  pub form : Form
  pub valid : IsForm form p
  pub spelling : d ≡ spelled form p
  pub bytes : AreBytes d

-- the form that is written
abbrev pub written_form : Form
written_form =
    record {
      c = 0;
      s = 1;
      o = 1;
      h = 0;
      low = 0;
      control = 0 ∷ 0 ∷ 0 ∷ 0 ∷ [];
      before = [];
      after = [];
    }

abbrev pub written : Packet → List ℕ
written p = spelled written_form p
