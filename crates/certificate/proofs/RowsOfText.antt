-- The rows of coefficients that any bytes tell, so many as an FTI wants.
use Rattle.std.specs.Prelude.{flat_map, slice_index, IfSome}
use Rattle.std.proofs.Common.{◌≡◌, ℕ, zero, suc, ◌+◌, ◌*◌, ◌<◌, List, Option, Some, None, length, refl, sym, ap, ◌∙◌, inl, inr, arith, length-append}
use Rattle.std.proofs.lemmas.Bool.{cases_lt}
use Rattle.std.proofs.lemmas.List.{length-map, get_or_past}
use Rattle.lists.specs.Below.{below}
use Rattle.lists.specs.Bytes.{AreBytes}
use Rattle.lists.proofs.Below.{length_below}
use Rattle.gf256.proofs.RowPlaces.{rows_apart, row_ends}
use Rattle.partition.specs.Fti.{Fti, IsValidFti, block_count, source_count, start_of, source_place}
use Rattle.partition.proofs.Laws.{start_step, start_end}
use Rattle.reception.specs.declared.scope.Identity.{Identity}
use Rattle.certificate.specs.Certificate.{Certificate, IsCertificate, IsIdentity, coefficient_count, coefficients_text}
use Rattle.certificate.specs.CoefficientRows.{text_place}
use Rattle.certificate.specs.InFile.{rows_in, told_block, told_row}
use Rattle.certificate.proofs.Flat.{none_yet, next_part}
use Rattle.certificate.proofs.Polynomials.{listed_at}
use Rattle.certificate.proofs.TextPlaces.{in_part, is_text, place_in_rows}

module _ (f : Fti) (told : List ℕ) where
  abbrev row : ℕ → ℕ → List ℕ
  row = told_row f told

  abbrev block : ℕ → List ℕ
  block = told_block f told

  abbrev rows : List ℕ
  rows = rows_in None f told

  length_row : (b i : ℕ) → length (row b i) ≡ f.symbol_length
  length_row b i = length-map (below f.symbol_length) (λ c. slice_index told (text_place f b c i)) ∙ length_below f.symbol_length

  -- the rows before one
  length_rows : (b n : ℕ) → length (flat_map (row b) (below n)) ≡ n * f.symbol_length
  length_rows b zero = (let none = ap length (none_yet (row b)) in omega (arith, none))
  length_rows b (suc n) =
      let e : n + 1 ≡ suc n = omega arith in
      ap (λ (m : ℕ). length (flat_map (row b) (below m))) (sym e)
      ∙ ap length (next_part (row b) n) ∙ length-append (flat_map (row b) (below n)) (row b n)
      ∙ omega (arith, length_rows b n, length_row b n)

  module _ (valid : IsValidFti f) where
    none_before : start_of f 0 ≡ 0
    unfolding start_of
    none_before = refl

    -- the blocks before one
    length_blocks : (n : ℕ) → length (flat_map block (below n)) ≡ start_of f n * f.symbol_length
    length_blocks zero = (let none = ap length (none_yet block) in let at = ap (λ (n : ℕ). n * f.symbol_length) none_before in omega (arith, none, at))
    length_blocks (suc n) =
        let e : n + 1 ≡ suc n = omega arith in
        let step = ap (λ (m : ℕ). m * f.symbol_length) (start_step f valid n) ∙ rows_apart (start_of f n) (source_count f n) f.symbol_length in
        ap (λ (m : ℕ). length (flat_map block (below m))) (sym e)
        ∙ ap length (next_part block n) ∙ length-append (flat_map block (below n)) (block n)
        ∙ omega (arith, length_blocks n, length_rows n (source_count f n), step)

    length_all : length rows ≡ coefficient_count f
    length_all = length_blocks (block_count f) ∙ ap (λ (n : ℕ). n * f.symbol_length) (start_end f valid)

    pub row_at : (b i c : ℕ) → b < block_count f → i < source_count f b → c < f.symbol_length
        → slice_index rows (source_place f b i c) ≡ slice_index told (text_place f b c i)
    row_at b i c hb hi hc =
        let ends = row_ends i (source_count f b) f.symbol_length hi in
        let place : source_place f b i c ≡ start_of f b * f.symbol_length + (i * f.symbol_length + c) = (let apart = rows_apart (start_of f b) i f.symbol_length in omega (arith, apart)) in
        ap (slice_index rows) place
        ∙ in_part block b (block_count f) (start_of f b * f.symbol_length) (i * f.symbol_length + c) hb (length_blocks b)
        (omega (arith, length_rows b (source_count f b), ends, hc))
        ∙ in_part (row b) i (source_count f b) (i * f.symbol_length) c hi (length_rows b i) (omega (arith, hc, length_row b i))
        ∙ listed_at (λ y. slice_index told (text_place f b y i)) f.symbol_length c hc

    row_bytes : AreBytes told → AreBytes rows
    row_bytes bytes p = elim (cases_lt p (coefficient_count f)) [
      | inl inside ↦
          (let w = place_in_rows f valid p inside in
          let same = ap (slice_index rows) (sym w.is) ∙ row_at w.block w.row w.column w.in_blocks w.in_rows w.in_columns in
          let byte = bytes (text_place f w.block w.column w.row) in
          omega (arith, same, byte))
      | inr past ↦ (let none = get_or_past rows p 0 (omega (arith, past, length_all)) in omega (arith, none))
    ]

pub formed : (name : Option Identity) (f : Fti) (rows : List ℕ) → IsValidFti f → IfSome name IsIdentity → length rows ≡ coefficient_count f → AreBytes rows
    → IsCertificate (record { fti = f; name = name; coefficients = rows })
formed name f rows valid named count bytes = record { fti = valid; name = λ who e. rw e at named; count = count; bytes = bytes }

abbrev pub told_by : Option Identity → Fti → List ℕ → Certificate
told_by name f told = record { fti = f; name = name; coefficients = rows_in name f told }

-- any bytes, so many, are the coefficients of a certificate
module _ (f : Fti) (told : List ℕ) (valid : IsValidFti f) (count : length told ≡ coefficient_count f) where
  pub told_text : (name : Option Identity) → told ≡ coefficients_text name (told_by name f told)
  told_text (Some who) = refl
  told_text None = is_text f valid told (rows f told) count (row_at f told valid)

  told_count : (name : Option Identity) → length (rows_in name f told) ≡ coefficient_count f
  told_count (Some who) = count
  told_count None = length_all f told valid

  told_bytes : (name : Option Identity) → AreBytes told → AreBytes (rows_in name f told)
  told_bytes (Some who) bytes = bytes
  told_bytes None bytes = row_bytes f told valid bytes

  pub told_form : (name : Option Identity) → IfSome name IsIdentity → AreBytes told → IsCertificate (told_by name f told)
  told_form name named bytes = formed name f (rows_in name f told) valid named (told_count name) (told_bytes name bytes)
