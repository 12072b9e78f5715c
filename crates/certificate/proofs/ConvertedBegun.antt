-- What was written of a certificate that wasn't given a name to its end.
use Rattle.std.specs.Prelude.{map, slice_index, IfSome}
use Rattle.std.proofs.Common.{◌≡◌, ℕ, ◌+◌, ◌-◌, ◌*◌, ◌<◌, ◌≤◌, true, List, [], ◌++◌, Option, Some, None, take, drop, length, get_or, get_or-take, refl, sym, ap, subst, ◌∙◌, inl, inr, arith, append_assoc, length-append, length-take-le}
use Rattle.std.proofs.Math.Nat.{mul-le-mul_right}
use Rattle.std.proofs.Math.Seq.{take-append-add, take-append_seam, drop-append_seam}
use Rattle.std.proofs.lemmas.Bool.{cases_lt}
use Rattle.std.proofs.lemmas.Grind.{same_number_lists}
use Rattle.std.proofs.lemmas.List.{take-append-drop, take-append-le, take-take, take_all, drop_at, length-map, get_or_append_left}
use Rattle.std.specs.Io.KnownBytes.{Consumes, Appends}
use Rattle.lists.specs.Below.{below}
use Rattle.lists.specs.Bytes.{AreBytes}
use Rattle.lists.proofs.Below.{length_below}
use Rattle.gf256.proofs.RowPlaces.{rows_apart}
use Rattle.alc.proofs.Bytes.{AreBytes-append, AreBytes-drop, AreBytes-take}
use Rattle.partition.specs.Fti.{Fti, IsValidFti, block_count, start_of}
use Rattle.partition.proofs.Laws.{start_end, rising_to}
use Rattle.streams.proofs.Writes.{front_some, then_some}
use Rattle.session.specs.Pieces.{AppendsSome}
use Rattle.reception.specs.declared.scope.Identity.{Identity}
use Rattle.partition.specs.FtiBytes.{bytes_of_fti}
use Rattle.certificate.specs.Certificate.{Certificate, IsIdentity, is_for, named_as, unnamed, coefficient_count, name_text, head_text, coefficients_text, certificate_text}
use Rattle.certificate.specs.CertificateReading.{told_name}
use Rattle.certificate.specs.CoefficientRows.{text_place}
use Rattle.certificate.specs.Converting.{CanBe, BeginsConverted}
use Rattle.certificate.specs.ConvertingBlocks.{AreSame, Converts, ConvertsSome}
use Rattle.certificate.proofs.Polynomials.{listed_bytes}
use Rattle.certificate.proofs.TextPlaces.{text_at, place_in_rows}
use Rattle.certificate.proofs.OneText.{same_fti, name_back}
use Rattle.certificate.proofs.RowsOfText.{formed, told_by, told_text, told_form}
use Rattle.certificate.proofs.TextsWithoutFault.{length_coefficients}
use Rattle.certificate.proofs.BlockByBlock.{text_before, none_converted}

-- ---- beginnings of lists

shorter : (k n : ℕ) (xs : List ℕ) → k ≤ n → take k (take n xs) ≡ take k xs
shorter k n xs less = take-take k n xs less

-- what two lists that are the same as far as both go begin with
common : (x t : List ℕ) (k : ℕ) → take (length x) t ≡ take (length t) x → k ≤ length x → k ≤ length t → take k t ≡ take k x
common x t k same kx kt = sym (shorter k (length x) t kx) ∙ ap (take k) same ∙ shorter k (length t) x kt

abbrev zeros : ℕ → List ℕ
zeros n = map (λ i. 0) (below n)

length_zeros : (n : ℕ) → length (zeros n) ≡ n
length_zeros n = length-map (below n) (λ i. 0) ∙ length_below n

bytes_zeros : (n : ℕ) → AreBytes (zeros n)
bytes_zeros n = listed_bytes (λ i. 0) n (λ i. omega arith)

-- n of some bytes, with zeros where there are fewer
abbrev padded : ℕ → List ℕ → List ℕ
padded n y = take n (y ++ zeros n)

length_padded : (n : ℕ) (y : List ℕ) → length (padded n y) ≡ n
length_padded n y = length-take-le n (y ++ zeros n) (omega (arith, length-append y (zeros n), length_zeros n))

padded_same : (n : ℕ) (y : List ℕ) → take (length y) (padded n y) ≡ take n y
padded_same n y = elim (cases_lt (length y) n) [
  | inl short ↦ shorter (length y) n (y ++ zeros n) (omega (arith, short)) ∙ take-append_seam y (zeros n) ∙ sym (take_all n y (omega (arith, short)))
  | inr long ↦ ap (take (length y)) (take-append-le n y (zeros n) long) ∙ take_all (length y) (take n y) (omega (arith, length-take-le n y long, long))
]

-- ---- one beginning, one head

module _ (f g : Fti) (x y : List ℕ) (vf : IsValidFti f) (vg : IsValidFti g) where
  one_head : (n m : Option Identity) → IfSome n IsIdentity → IfSome m IsIdentity
      → ((k : ℕ) → k ≤ length (head_text n f) → k ≤ length (head_text m g) → take k (head_text n f ++ x) ≡ take k (head_text m g ++ y)) → (n ≡ m) × (f ≡ g)
  unfolding head_text
  one_head None None hn hm same =
      let heads : head_text None f ≡ head_text None g = sym (take-append_seam (head_text None f) x) ∙ same 14 (omega arith) (omega arith) ∙ take-append_seam (head_text None g) y in
      (refl, (same_fti f g [] [] vf vg (ap (λ (l : List ℕ). drop 4 l ++ []) heads)).0)
  one_head None (Some who) hn hm same = absurd (let e = ap (λ (l : List ℕ). get_or l 3 0) (same 4 (omega arith) (omega arith)) in omega (arith, e))
  one_head (Some who) None hn hm same = absurd (let e = ap (λ (l : List ℕ). get_or l 3 0) (same 4 (omega arith) (omega arith)) in omega (arith, e))
  one_head (Some who) (Some other) hn hm same =
      let heads : head_text (Some who) f ≡ head_text (Some other) g =
      sym (take-append_seam (head_text (Some who) f) x) ∙ same 34 (omega arith) (omega arith) ∙ take-append_seam (head_text (Some other) g) y in
      let behind : name_text who ++ bytes_of_fti f ≡ name_text other ++ bytes_of_fti g = ap (drop 4) heads in
      let rest : bytes_of_fti f ≡ bytes_of_fti g = sym (drop_at (name_text who) _ 20 refl) ∙ ap (drop 20) behind ∙ drop_at (name_text other) _ 20 refl in (
        ap Some (sym (name_back who (bytes_of_fti f) hn) ∙ ap told_name behind ∙ name_back other (bytes_of_fti g) hm),
        (same_fti f g [] [] vf vg (ap (λ (l : List ℕ). l ++ []) rest)).0,
      )

-- ---- one beginning, the same rows

abbrev made : Fti → Option Identity → List ℕ → Certificate
made f name l = record { fti = f; name = name; coefficients = l }

module _ (f : Fti) (valid : IsValidFti f) (blocks : ℕ) (inside : blocks ≤ block_count f) where
  within : start_of f blocks * f.symbol_length ≤ coefficient_count f
  within =
      let most = mul-le-mul_right f.symbol_length (rising_to f valid blocks (block_count f) inside) in
      let whole = ap (λ (n : ℕ). n * f.symbol_length) (start_end f valid) in
      omega (arith, most, whole)

  module _ (told rows coefficients later : List ℕ) (told_long : length told ≡ start_of f blocks * f.symbol_length)
      (rows_long : length rows ≡ start_of f blocks * f.symbol_length) (all_long : length coefficients ≡ coefficient_count f) where
    row_there : AreSame None f blocks told rows → coefficients_text None (unnamed f coefficients) ≡ told ++ later → (p : ℕ) → p < length rows
        → slice_index coefficients p ≡ slice_index rows p
    row_there same text p inside_rows =
        let w = place_in_rows f valid p (omega (arith, inside_rows, rows_long, within)) in
        let apart = rows_apart (start_of f w.block) w.row f.symbol_length in
        let less : w.block < blocks = elim (cases_lt w.block blocks) [
          | inl less ↦ less
          | inr more ↦
              (let rising = mul-le-mul_right f.symbol_length (rising_to f valid blocks w.block more) in
              absurd (omega (arith, rising, apart, w.is, inside_rows, rows_long)))
        ] in
        ap (slice_index coefficients) (sym w.is)
        ∙ sym (text_at (unnamed f coefficients) valid w.block w.column w.row w.in_blocks w.in_columns w.in_rows)
        ∙ ap (λ (l : List ℕ). slice_index l (text_place f w.block w.column w.row)) text
        ∙ get_or_append_left told later 0 (text_place f w.block w.column w.row)
        (omega (arith, told_long, text_before f valid w.block blocks w.row w.column less w.in_rows w.in_columns))
        ∙ sym (same w.block w.row w.column less w.in_rows w.in_columns) ∙ ap (slice_index rows) w.is

    rows_first : (name : Option Identity) → AreSame name f blocks told rows → coefficients_text name (made f name coefficients) ≡ told ++ later
        → coefficients ≡ rows ++ drop (length rows) coefficients
    rows_first (Some who) same text =
        text ∙ ap (λ (l : List ℕ). l ++ later) same
        ∙ ap (λ (l : List ℕ). rows ++ l) (sym (ap (drop (length rows)) (text ∙ ap (λ (l : List ℕ). l ++ later) same) ∙ drop-append_seam rows later))
    rows_first None same text =
        let long : length (take (length rows) coefficients) ≡ length rows = length-take-le (length rows) coefficients (omega (arith, rows_long, all_long, within)) in
        sym (take-append-drop (length rows) coefficients)
        ∙ ap (λ (l : List ℕ). l ++ drop (length rows) coefficients)
        (same_number_lists (take (length rows) coefficients) rows long
        (λ p lp. get_or-take (length rows) coefficients p 0 (omega (arith, lp, long)) ∙ row_there same text p (omega (arith, lp, long))))

name_fits : (name : Option Identity) → ((who : Identity) → name ≡ Some who → IsIdentity who) → IfSome name IsIdentity
name_fits None fits = tt
name_fits (Some who) fits = fits who refl

-- ---- what was written

module _ (who : Identity) (name : Option Identity) (f : Fti) (valid : IsValidFti f) (named : IfSome name IsIdentity) (own : is_for who name ≡ true) (before after : Option (List ℕ)) where
  abbrev Begun : Certificate → Type 0
  Begun z = AppendsSome before after (certificate_text (named_as who z))

  module _ (blocks : ℕ) (inside : blocks ≤ block_count f) (here there : Option (List ℕ)) (done : Converts name f blocks here there None None)
      (gained : AppendsSome before after (head_text (Some who) f ++ done.rows)) where
    few : length done.told ≤ coefficient_count f
    few = omega (arith, done.told_count, within f valid blocks inside)

    -- coefficients that begin with the rows
    rows_begun : (coefficients later : List ℕ) → coefficients ≡ done.rows ++ later → Begun (made f name coefficients)
    rows_begun coefficients later is =
        subst (AppendsSome before after)
        (append_assoc (head_text (Some who) f) done.rows later ∙ ap (λ (l : List ℕ). head_text (Some who) f ++ l) (sym is))
        (front_some before after (head_text (Some who) f ++ done.rows) later gained)

    -- some that have zeros behind them
    some_unknown : (z : Certificate) × CanBe who None z × Begun z
    some_unknown =
        let behind = zeros (coefficient_count f - length done.rows) in
        let long : length (done.rows ++ zeros (coefficient_count f - length done.rows)) ≡ coefficient_count f =
        omega (arith, length-append done.rows (zeros (coefficient_count f - length done.rows)), length_zeros (coefficient_count f - length done.rows), done.rows_count, within f valid blocks inside) in (
          made f name (done.rows ++ behind),
          (formed name f (done.rows ++ behind) valid named long (AreBytes-append done.rows behind done.bytes (bytes_zeros (coefficient_count f - length done.rows))), own, tt),
          rows_begun (done.rows ++ behind) behind refl,
        )

    module _ (x rest : List ℕ) (read : x ≡ head_text name f ++ (done.told ++ rest)) where
      told_first : (coefficients : List ℕ) → CanBe who (Some x) (made f name coefficients) → take (length done.told) (coefficients_text name (made f name coefficients)) ≡ done.told
      told_first coefficients can =
          let h = head_text name f in
          let n = length done.told in
          let text = coefficients_text name (made f name coefficients) in
          let long = length_coefficients name (made f name coefficients) can.0 in
          let x_long : length x ≡ length (head_text name f) + (length done.told + length rest) = ap length read ∙ length-append h (done.told ++ rest) ∙ ap (λ (m : ℕ). length h + m) (length-append done.told rest) in
          let both : take (length h + n) (h ++ text) ≡ take (length h + n) (h ++ (done.told ++ rest)) =
          common x (h ++ text) (length h + n) can.2 (omega (arith, x_long)) (omega (arith, few, long, length-append h text)) ∙ ap (take (length h + n)) read in
          let heads : h ++ take n text ≡ h ++ done.told =
          sym (take-append-add h text n) ∙ both ∙ take-append-add h (done.told ++ rest) n ∙ ap (λ (l : List ℕ). h ++ l) (take-append_seam done.told rest) in
          sym (drop-append_seam h (take n text)) ∙ ap (drop (length h)) heads ∙ drop-append_seam h done.told

      each_made : (coefficients : List ℕ) → CanBe who (Some x) (made f name coefficients) → Begun (made f name coefficients)
      each_made coefficients can =
          let text = coefficients_text name (made f name coefficients) in
          let n = length done.told in
          rows_begun coefficients (drop (length done.rows) coefficients)
          (rows_first f valid blocks inside done.told done.rows coefficients (drop n text) done.told_count done.rows_count can.0.count name done.same
          (sym (take-append-drop n text) ∙ ap (λ (l : List ℕ). l ++ drop n text) (told_first coefficients can)))

      each_known : (z : Certificate) → CanBe who (Some x) z → Begun z
      each_known z can =
          let text = coefficients_text z.name z in
          let z_head = head_text z.name z.fti in
          let heads = one_head z.fti f text (done.told ++ rest) can.0.fti valid z.name name (name_fits z.name can.0.name) named
          (λ k kz kx. common x (z_head ++ text) k can.2 (omega (arith, kx, ap length read, length-append (head_text name f) (done.told ++ rest))) (omega (arith, kz, length-append z_head text)) ∙ ap (take k) read) in
          let is : made f name z.coefficients ≡ z = sym (ap (λ (n : Option Identity). made z.fti n z.coefficients) heads.0 ∙ ap (λ (g : Fti). made g name z.coefficients) heads.1) in
          subst (λ (w : Certificate). CanBe who (Some x) w → Begun w) is (each_made z.coefficients) can

      -- what was left, cut or with zeros behind it
      some_known : AreBytes x → (z : Certificate) × CanBe who (Some x) z × Begun z
      some_known bytes =
          let h = head_text name f in
          let y = done.told ++ rest in
          let n = coefficient_count f in
          let t = padded n y in
          let y_bytes : AreBytes (done.told ++ rest) = subst AreBytes (ap (drop (length h)) read ∙ drop-append_seam h y) (AreBytes-drop (length h) x bytes) in
          let t_bytes : AreBytes (padded n y) = AreBytes-take n (y ++ zeros n) (AreBytes-append y (zeros n) y_bytes (bytes_zeros n)) in
          let long = length_padded n y in
          let text : padded (coefficient_count f) (done.told ++ rest) ≡ coefficients_text name (told_by name f (padded (coefficient_count f) (done.told ++ rest))) = told_text f t valid long name in
          let whole : take (length (h ++ y)) (h ++ t) ≡ take (length (h ++ t)) (h ++ y) =
          ap (λ (m : ℕ). take m (h ++ t)) (length-append h y) ∙ take-append-add h t (length y) ∙ ap (λ (l : List ℕ). h ++ l) (padded_same n y)
          ∙ ap (λ (m : ℕ). h ++ take m y) (sym long) ∙ sym (take-append-add h y (length t)) ∙ ap (λ (m : ℕ). take m (h ++ y)) (sym (length-append h t)) in
          let same = subst (λ (l : List ℕ). take (length (h ++ y)) (h ++ l) ≡ take (length (h ++ l)) (h ++ y)) text whole in
          let can : CanBe who (Some x) (told_by name f t) = (
            told_form f t valid long name named t_bytes,
            own,
            subst (λ (l : List ℕ). take (length l) (h ++ coefficients_text name (told_by name f t)) ≡ take (length (h ++ coefficients_text name (told_by name f t))) l) (sym read) same,
          ) in
          (told_by name f t, can, each_known (told_by name f t) can)

  pub begun : (blocks : ℕ) → blocks ≤ block_count f → (left here there : Option (List ℕ)) → Consumes left here (head_text name f) → (done : Converts name f blocks here there None None)
      → AppendsSome before after (head_text (Some who) f ++ done.rows) → BeginsConverted who left before after
  begun blocks inside None here there head done gained = record { some = inr (λ _. some_unknown blocks inside here there done gained); each = tt }
  begun blocks inside (Some x) None there head done gained = absurd head
  begun blocks inside (Some x) (Some y) None head done gained = absurd done.consumed
  begun blocks inside (Some x) (Some y) (Some rest) head done gained =
      let read : x ≡ head_text name f ++ (done.told ++ rest) = head ∙ ap (λ (l : List ℕ). head_text name f ++ l) done.consumed in
      record {
        some = inr (some_known blocks inside (Some y) (Some rest) done gained x rest read);
        each = each_known blocks inside (Some y) (Some rest) done gained x rest read;
      }

-- a beginning of the head was written, or all of it and a beginning of the rows
module _ (who : Identity) (name : Option Identity) (f : Fti) (valid : IsValidFti f) (named : IfSome name IsIdentity) (left here : Option (List ℕ)) (head : Consumes left here (head_text name f))
    (own : is_for who name ≡ true) (before after : Option (List ℕ)) where
  pub head_begun : AppendsSome before after (head_text (Some who) f) → BeginsConverted who left before after
  head_begun some =
      let none = none_converted name f here None in
      begun who name f valid named own before after 0 (omega arith) left here here head none (front_some before after (head_text (Some who) f) none.rows some)

  pub blocks_begun : (between : Option (List ℕ)) → Appends before between (head_text (Some who) f) → ConvertsSome name f here between after → BeginsConverted who left before after
  blocks_begun between wrote some =
      begun who name f valid named own before after some.blocks some.inside left here some.here head some.read (then_some before between after (head_text (Some who) f) some.read.rows wrote some.gained)
