-- A block's symbols and the object's, row by row, and the first column in which they differ.
use Rattle.std.proofs.Common.{◌≡◌, ℕ, ◌+◌, ◌-◌, ◌*◌, ◌<◌, ◌≤◌, List, length, get_or, take, drop, length-take-le, length-drop, sym, ap, ◌∙◌, inl, inr, arith}
use Rattle.std.proofs.lemmas.Bool.{cases_lt}
use Rattle.std.proofs.lemmas.Simd.{get_or-chunk}
use Rattle.partition.specs.Fti.{IsValidFti, encoding_count, source_count}
use Rattle.partition.proofs.Laws.{source_encoding}
use Rattle.certificate.specs.BlockSymbols.{AreSymbols}
use Rattle.certificate.specs.Certificate.{Certificate, certified_byte}
use Rattle.certified_symbols.specs.Differences.{AreSameBelow, IsFirstDifference}
use Rattle.cert.specs.NotGiven.{IsFirstInBlock}
use Rattle.cert.specs.Verdict.{GivesAt, GivesBlock}
use Rattle.file_check.specs.Blocks.{AreSourceOf}

-- byte c of row n is the same
abbrev pub IsSame : List ℕ → List ℕ → ℕ → ℕ → ℕ → Type 0
IsSame symbols source width n c = get_or symbols (n * width + c) 0 ≡ get_or source (n * width + c) 0

-- a symbol among the first i is the first that is another in this column
pub record IsFirstOther (symbols source : List ℕ) (width i c s : ℕ) : Type 0 where
  pub symbol : s < i
  pub wrong : ¬ IsSame symbols source width s c
  pub symbols_before : (n : ℕ) → n < s → IsSame symbols source width n c

-- the first i rows are the same in the columns below `right`, and not in the next one
pub record AreCompared (symbols source : List ℕ) (width i right s : ℕ) : Type 0 where
  pub most : right ≤ width
  pub before : (y n : ℕ) → y < right → n < i → IsSame symbols source width n y
  pub first : right < width → IsFirstOther symbols source width i right s

module _ (symbols source : List ℕ) (width : ℕ) where
  pub none_compared : AreCompared symbols source width 0 width 0
  none_compared = record {
    most = omega arith;
    before = λ y n ly ln. absurd (omega (arith, ln));
    first = λ l. absurd (omega (arith, l));
  }

  module _ (i right s : ℕ) (h : AreCompared symbols source width i right s) where
    -- a row that is the same below `right`
    pub same_row : ((y : ℕ) → y < right → IsSame symbols source width i y) → AreCompared symbols source width (i + 1) right s
    same_row same = record {
      most = h.most;
      before = λ y n ly ln. elim (cases_lt n i) [
        | inl l ↦ h.before y n ly l
        | inr g ↦
            let at : n ≡ i = omega (arith, g, ln) in
            rw at (same y ly)
      ];
      first = λ l. (let f = h.first l in record {
        symbol = omega (arith, f.symbol);
        wrong = f.wrong;
        symbols_before = f.symbols_before;
      });
    }

    -- a row that isn't
    pub other_row : (column : ℕ) → column < right → ¬ IsSame symbols source width i column → ((y : ℕ) → y < column → IsSame symbols source width i y)
        → AreCompared symbols source width (i + 1) column i
    other_row column less wrong same = record {
      most = omega (arith, less, h.most);
      before = λ y n ly ln. elim (cases_lt n i) [
        | inl l ↦ h.before y n (omega (arith, ly, less)) l
        | inr g ↦
            let at : n ≡ i = omega (arith, g, ln) in
            rw at (same y ly)
      ];
      first = λ l. record {
        symbol = omega arith;
        wrong = wrong;
        symbols_before = λ n ln. h.before column n less ln;
      };
    }

  -- row i, cut out
  module _ (i : ℕ) where
    abbrev pub row_of : List ℕ → List ℕ
    row_of bytes = take (i * width + width - i * width) (drop (i * width) bytes)

    pub row_byte : (bytes : List ℕ) (c : ℕ) → c < width → get_or (row_of bytes) c 0 ≡ get_or bytes (i * width + c) 0
    row_byte bytes c lc = get_or-chunk (i * width) (i * width + width - i * width) bytes c 0 (omega (arith, lc))

    pub row_long : (bytes : List ℕ) → i * width + width ≤ length bytes → length (row_of bytes) ≡ width
    row_long bytes room =
        let rest = length-drop (i * width) bytes in
        length-take-le (i * width + width - i * width) (drop (i * width) bytes) (omega (arith, rest, room)) ∙ omega arith

    pub same_below : (m : ℕ) → m ≤ width → AreSameBelow m (row_of symbols) (row_of source) → (y : ℕ) → y < m → IsSame symbols source width i y
    same_below m le same y ly =
        let l : y < width = omega (arith, ly, le) in
        sym (row_byte symbols y l) ∙ same y ly ∙ row_byte source y l

    pub other_at : (c : ℕ) → c < width → IsFirstDifference (row_of symbols) (row_of source) c → ¬ IsSame symbols source width i c
    other_at c lc first = λ is. first.differ (row_byte symbols c lc ∙ is ∙ sym (row_byte source c lc))

-- what that says of the object and a certificate
module _ (o : List ℕ) (z : Certificate) (b : ℕ) (valid : IsValidFti z.fti) (symbols source : List ℕ) (are : AreSymbols z b 0 (encoding_count z.fti b) symbols) (of_object : AreSourceOf z.fti o b source) where
  symbol_byte : (c n : ℕ) → c < z.fti.symbol_length → n < source_count z.fti b → get_or symbols (n * z.fti.symbol_length + c) 0 ≡ certified_byte z b n c
  symbol_byte c n lc ln =
      let at : 0 + n ≡ n = omega arith in
      are n c (omega (arith, ln, source_encoding z.fti valid b)) lc ∙ ap (λ (j : ℕ). certified_byte z b j c) at

  same_gives : (c n : ℕ) → c < z.fti.symbol_length → n < source_count z.fti b → IsSame symbols source z.fti.symbol_length n c → GivesAt o z b c n
  same_gives c n lc ln is = sym (symbol_byte c n lc ln) ∙ is ∙ of_object n c ln lc

  gives_same : (c n : ℕ) → c < z.fti.symbol_length → n < source_count z.fti b → GivesAt o z b c n → IsSame symbols source z.fti.symbol_length n c
  gives_same c n lc ln gives = symbol_byte c n lc ln ∙ gives ∙ sym (of_object n c ln lc)

  module _ (i right s : ℕ) (h : AreCompared symbols source z.fti.symbol_length i right s) (all : source_count z.fti b ≤ i) where
    pub gives_block : z.fti.symbol_length ≤ right → GivesBlock o z b
    gives_block le = λ c n lc ln. same_gives c n lc ln (h.before c n (omega (arith, lc, le)) (omega (arith, ln, all)))

    pub first_in_block : i ≤ source_count z.fti b → right < z.fti.symbol_length → IsFirstInBlock o z b right s
    first_in_block most less =
        let f = h.first less in
        record {
          column = less;
          first = record {
            symbol = omega (arith, f.symbol, most);
            wrong = λ gives. f.wrong (gives_same right s less (omega (arith, f.symbol, most)) gives);
            symbols_before = λ n ln. same_gives right n less (omega (arith, ln, f.symbol, most)) (f.symbols_before n ln);
          };
          columns_before = λ y n ly ln. same_gives y n (omega (arith, ly, less)) ln (h.before y n ly (omega (arith, ln, all)));
        }
