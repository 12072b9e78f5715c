-- Where a block is short, another object fits what came.
use Rattle.std.specs.Prelude.{◌≡◌, ◌≢◌, ◌<◌, ◌≤◌, ◌+◌, ◌-◌, ◌/◌, ◌%◌, ◌==◌, nat_le, nat_lt, Bool, true, false, ◌&&◌, cond, ℕ, zero, suc, List, [], ◌∷◌, ◌++◌, length, map, replicate, slice_index, get_or, refl}
use Rattle.std.specs.List.{AllByRecursion}
use Rattle.std.proofs.Common.{◌∙◌, sym, ap, subst, arith, leb-true, ltb-true, length-append}
use Rattle.std.proofs.lemmas.Bool.{eqb-true, eq-eqb, le-leb}
use Rattle.std.proofs.lemmas.List.{length-replicate}
use Rattle.std.proofs.lemmas.Nat.{div-mul-add, mod-mul-add}
use Rattle.std.proofs.Math.ListN.{get_or-eq_default}
use Rattle.lists.specs.Bytes.{IsByte, AreBytes}
use Rattle.gf256.specs.Arithmetic.{sum_of, product, point}
use Rattle.poly.specs.Polynomial.{value, root_product_over, IsPolynomial}
use Rattle.partition.specs.Fti.{Fti, IsValidFti, source_count, block_count, start_of, source_byte, source_place}
use Rattle.reception.specs.Symbols.{Symbol, has_arrived, Agrees, ColumnAgrees, IsObject}
use Rattle.cert.specs.TwinBytes.{is_first_of}
use Rattle.gf256.specs.ByteField.{byte_field, point_byte, point_apart}
use Rattle.poly.proofs.Roots.{sums_over, sums_elements, sums_length, value_of_sums, value_element}
use Rattle.poly.proofs.Product.{roots_over, roots_elements, roots_length, are_roots, not_a_root, value_of_padded, value_is_product}
use Rattle.partition.proofs.Laws.{counts, apart_blocks, in_object}
use Rattle.lists.proofs.Lists.{both}
use Rattle.poly.proofs.Bytes.{bytes_by_recursion, bytes_from_recursion, points_bytes}
use Rattle.std.proofs.lemmas.List.{length-map}

-- each member changed by its place
abbrev pub with_places : (ℕ → ℕ → ℕ) → ℕ → List ℕ → List ℕ
with_places g i [] = []
with_places g i (x ∷ xs) = g i x ∷ with_places g (i + 1) xs

pub length_with_places : (g : ℕ → ℕ → ℕ) (i : ℕ) (xs : List ℕ) → length (with_places g i xs) ≡ length xs
length_with_places g i [] = refl
length_with_places g i (x ∷ xs) = ap suc (length_with_places g (i + 1) xs)

pub at_place : (g : ℕ → ℕ → ℕ) (i : ℕ) (xs : List ℕ) (n : ℕ) → n < length xs → get_or (with_places g i xs) n 0 ≡ g (i + n) (get_or xs n 0)
at_place g i [] n l = absurd (omega arith)
at_place g i (x ∷ xs) zero l = let e : i ≡ i + 0 = omega arith in ap (λ (k : ℕ). g k x) e
at_place g i (x ∷ xs) (suc n) l =
    let e : (i + 1) + n ≡ i + suc n = omega arith in
    at_place g (i + 1) xs n (omega arith) ∙ ap (λ (k : ℕ). g k (get_or xs n 0)) e

-- the first column of a source symbol of this block
abbrev pub is_first_column : Fti → ℕ → ℕ → Bool
is_first_column f b x = is_first_of f.symbol_length (start_of f b) (source_count f b) x

abbrev pub twin_byte : Fti → ℕ → List ℕ → ℕ → ℕ → ℕ
twin_byte f b q x y = cond (is_first_column f b x) (sum_of y (value q (point (x / f.symbol_length - start_of f b)))) y

-- the object, with the values of q added in the first column of block b
abbrev pub twin_of : Fti → ℕ → List ℕ → List ℕ → List ℕ
twin_of f b q object = with_places (twin_byte f b q) 0 object

-- a polynomial that is nothing at the points held and not at another one
pub vanishing : (k i : ℕ) (js : List ℕ) → length js < k → i < 255 → AllByRecursion (λ j. j < 255) js → AllByRecursion (λ j. j ≢ i) js
    → (q : List ℕ) × IsPolynomial k q × AllByRecursion (λ j. value q (point j) ≡ 0) js × (value q (point i) ≢ 0)
    × ((z : ℕ) → z < 256 → value q z ≡ root_product_over sum_of product 1 (map point js) z)
vanishing k i js few hi small apart =
    let ps = map point js in
    let r = roots_over sum_of product 0 1 (map point js) in
    let eps = points_bytes js in
    let er = roots_elements IsByte sum_of product 0 1 byte_field (map point js) eps in
    let q = roots_over sum_of product 0 1 (map point js) ++ replicate (k - suc (length js)) 0 in
    let len : length (roots_over sum_of product 0 1 (map point js)) ≡ suc (length js) = roots_length IsByte sum_of product 0 1 byte_field (map point js) ∙ ap suc (length-map js point) in
    let same = λ (z : ℕ) (ez : z < 256). value_of_padded IsByte sum_of product 0 1 byte_field (roots_over sum_of product 0 1 (map point js)) (k - suc (length js)) z er ez in
    let roots = are_roots IsByte sum_of product 0 1 byte_field (map point js) eps in (
      q,
      record {
        count = omega (arith, len, length-append (roots_over sum_of product 0 1 (map point js)) (replicate (k - suc (length js)) 0), length-replicate {A = ℕ} (k - suc (length js)) 0);
        bytes = bytes_from_recursion q (elements_padded _ (k - suc (length js)) er);
      },
      back (roots_over sum_of product 0 1 (map point js)) q js small (λ j l. same (point j) (point_byte j)) roots,
      λ h. not_a_root IsByte sum_of product 0 1 byte_field (map point js) (point i) eps (point_byte i) (others js small apart) (sym (same (point i) (point_byte i)) ∙ h),
      λ z ez. same z ez ∙ value_is_product IsByte sum_of product 0 1 byte_field (map point js) z eps ez,
    )
  where
    elements_padded : (p : List ℕ) (n : ℕ) → AllByRecursion IsByte p → AllByRecursion IsByte (p ++ replicate n 0)
    elements_padded [] zero h = tt
    elements_padded [] (suc n) h = (omega arith, elements_padded [] n tt)
    elements_padded (x ∷ xs) n h = (h.0, elements_padded xs n h.1)

    others : (ls : List ℕ) → AllByRecursion (λ j. j < 255) ls → AllByRecursion (λ j. j ≢ i) ls → AllByRecursion (λ p. p ≢ point i) (map point ls)
    others [] s a = tt
    others (l ∷ ls) s a = (λ e. a.0 (point_apart l i s.0 hi e), others ls s.1 a.1)

    back : (r q ls : List ℕ) → AllByRecursion (λ j. j < 255) ls → ((j : ℕ) → j < 255 → value q (point j) ≡ value r (point j))
        → AllByRecursion (λ p. value r p ≡ 0) (map point ls) → AllByRecursion (λ j. value q (point j) ≡ 0) ls
    back r q [] s e h = tt
    back r q (l ∷ ls) s e h = (e l s.0 ∙ h.0, back r q ls s.1 e h.1)

module _ (f : Fti) (valid : IsValidFti f) where
  -- a place of another block or column isn't changed
  elsewhere : (b d i c : ℕ) → b < block_count f → d < block_count f → i < source_count f d → c < f.symbol_length → ((d ≡ b) × (c ≡ 0) → ⊥)
      → is_first_column f b (source_place f d i c) ≡ false
  elsewhere b d i c hb hd hi hc other =
      elim (is_first_column f b (source_place f d i c)) as (λ v. is_first_column f b (source_place f d i c) ≡ v → v ≡ false) [
        | false ↦ λ e. refl
        | true ↦ λ e.
            (let w = both _ _ e in
            let u = both _ _ w.1 in
            let row = div-mul-add (start_of f d + i) f.symbol_length c hc in
            let column = mod-mul-add (start_of f d + i) f.symbol_length c hc in
            let zero_column : c ≡ 0 = sym column ∙ eqb-true _ _ w.0 in
            let low : start_of f b ≤ source_place f d i c / f.symbol_length = leb-true _ _ u.0 in
            let high : source_place f d i c / f.symbol_length < start_of f b + source_count f b = ltb-true _ _ u.1 in
            let one : d ≡ b = apart_blocks f valid b d i hb hd hi (omega (arith, row, low)) (omega (arith, row, high)) in
            absurd (other (one, zero_column)))
      ] refl

  here : (b i : ℕ) → i < source_count f b → is_first_column f b (source_place f b i 0) ≡ true
  here b i hi =
      let row = div-mul-add (start_of f b + i) f.symbol_length 0 valid.some_symbol in
      let column = mod-mul-add (start_of f b + i) f.symbol_length 0 valid.some_symbol in
      let x : (source_place f b i 0 % f.symbol_length == 0) ≡ true = eq-eqb _ _ column in
      let y : nat_le (start_of f b) (source_place f b i 0 / f.symbol_length) ≡ true = le-leb _ _ (omega (arith, row)) in
      let z : nat_lt (source_place f b i 0 / f.symbol_length) (start_of f b + source_count f b) ≡ true = le-leb _ _ (omega (arith, row)) in
      rw (x, y, z)

  module _ (object q : List ℕ) (form : IsObject f object) (b : ℕ) (hb : b < block_count f) where
    pub unchanged : (d i c : ℕ) → d < block_count f → i < source_count f d → c < f.symbol_length → ((d ≡ b) × (c ≡ 0) → ⊥)
        → source_byte f (twin_of f b q object) d i c ≡ source_byte f object d i c
    unchanged d i c hd hi hc other =
        let x = source_place f d i c in
        elim (nat_lt (source_place f d i c) (length object)) as (λ v. nat_lt (source_place f d i c) (length object) ≡ v → source_byte f (twin_of f b q object) d i c ≡ source_byte f object d i c) [
          | true ↦ λ e.
              (let l = ltb-true _ _ e in
              let no = elsewhere b d i c hb hd hi hc other in
              at_place (twin_byte f b q) 0 object (source_place f d i c) l
              ∙ (let z : 0 + source_place f d i c ≡ source_place f d i c = omega arith in rw (z, no)))
          | false ↦ λ e.
              (let past : length object ≤ source_place f d i c = omega (arith, λ (l : source_place f d i c < length object). (let y = le-leb _ _ l in let g : ⊥ = cc in g)) in
              get_or-eq_default (twin_of f b q object) 0 (omega (arith, length_with_places (twin_byte f b q) 0 object)) ∙ sym (get_or-eq_default object 0 past))
        ] refl

    pub changed : (i : ℕ) → i < source_count f b → source_byte f (twin_of f b q object) b i 0 ≡ sum_of (source_byte f object b i 0) (value q (point i))
    changed i hi =
        let l : source_place f b i 0 < length object = omega (arith, in_object f valid b i hb hi, form.count) in
        let is = here b i hi in
        let row : source_place f b i 0 / f.symbol_length - start_of f b ≡ i = omega (arith, div-mul-add (start_of f b + i) f.symbol_length 0 valid.some_symbol) in
        let z : 0 + source_place f b i 0 ≡ source_place f b i 0 = omega arith in
        at_place (twin_byte f b q) 0 object (source_place f b i 0) l
        ∙ rw (z, is, row)

    module _ (hq : IsPolynomial (source_count f b) q) where
      column : (d j c y : ℕ) → d < block_count f → c < f.symbol_length → j < 255 → (d ≡ b → value q (point j) ≡ 0) → y < 256
          → ColumnAgrees f object d j c y → ColumnAgrees f (twin_of f b q object) d j c y
      column d j c y hd hc hj root ey a =
          elim (d == b && c == 0) as (λ v. (d == b && c == 0) ≡ v → ColumnAgrees f (twin_of f b q object) d j c y) [
            | false ↦ λ e.
                (let other : (d ≡ b) × (c ≡ 0) → ⊥ = λ w.
                (let x : (d == b) ≡ true = eq-eqb d b w.0 in
                let z : (c == 0) ≡ true = eq-eqb c 0 w.1 in
                let g : ⊥ = cc in g) in
                record {
                  polynomial = a.polynomial;
                  form = a.form;
                  source = λ i hi. a.source i hi ∙ sym (unchanged d i c hd hi hc other);
                  symbol = a.symbol;
                })
            | true ↦ λ e.
                (let w = both _ _ e in
                let db = eqb-true d b w.0 in
                let cz = eqb-true c 0 w.1 in
                let k : length a.polynomial ≡ length q = a.form.count ∙ ap (source_count f) db ∙ sym hq.count in
                let ep = bytes_by_recursion a.polynomial a.form.bytes in
                let eq = bytes_by_recursion q hq.bytes in
                let sums = λ (z : ℕ) (ez : z < 256). value_of_sums IsByte sum_of product 0 1 byte_field a.polynomial q z k ep eq ez in
                record {
                  polynomial = sums_over sum_of a.polynomial q;
                  form = record {
                    count = sums_length IsByte sum_of product 0 1 byte_field a.polynomial q k ∙ a.form.count;
                    bytes = bytes_from_recursion _ (sums_elements IsByte sum_of product 0 1 byte_field a.polynomial q ep eq);
                  };
                  source = λ i hi.
                      let hib : i < source_count f b = subst (λ (x : ℕ). i < source_count f x) db hi in
                      let small : i < 255 = omega (arith, (counts f valid b hb).1) in
                      sums (point i) (point_byte i) ∙ ap (λ (x : ℕ). sum_of x (value q (point i))) (a.source i hi)
                      ∙ ap (λ (x : ℕ). sum_of (source_byte f object x i c) (value q (point i))) db
                      ∙ ap (λ (x : ℕ). sum_of (source_byte f object b i x) (value q (point i))) cz
                      ∙ sym (changed i hib)
                      ∙ sym (ap (λ (x : ℕ). source_byte f (twin_of f b q object) b i x) cz)
                      ∙ sym (ap (λ (x : ℕ). source_byte f (twin_of f b q object) x i c) db);
                  symbol =
                      sums (point j) (point_byte j) ∙ ap (λ (x : ℕ). sum_of x (value q (point j))) a.symbol ∙ ap (λ (x : ℕ). sum_of y x) (root db)
                      ∙ byte_field.add_zero y ey;
                })
          ] refl

      pub agrees : (arrivals : List Symbol) → AllByRecursion (λ s. AreBytes s.bytes × (s.block ≡ b → value q (point s.esi) ≡ 0)) arrivals
          → AllByRecursion (Agrees f object) arrivals → AllByRecursion (Agrees f (twin_of f b q object)) arrivals
      agrees [] h a = tt
      agrees (s ∷ ss) h a = (
        record {
          block = a.0.block;
          esi = a.0.esi;
          count = a.0.count;
          columns = λ c hc.
              let n = (counts f valid s.block a.0.block).2 in
              let e = a.0.esi in
              column s.block s.esi c (slice_index s.bytes c) a.0.block hc (omega arith) h.0.1 (h.0.0 c) (a.0.columns c hc);
        },
        agrees ss h.1 a.1,
      )

      pub twin_form : IsObject f (twin_of f b q object)
      twin_form = record {
        count = length_with_places (twin_byte f b q) 0 object ∙ form.count;
        bytes = λ x.
            elim (nat_lt x (length object)) as (λ v. nat_lt x (length object) ≡ v → slice_index (twin_of f b q object) x < 256) [
              | false ↦ λ e.
                  (let past : length object ≤ x = omega (arith, λ (l : x < length object). (let y = le-leb _ _ l in let g : ⊥ = cc in g)) in
                  let z : slice_index (twin_of f b q object) x ≡ 0 = get_or-eq_default (twin_of f b q object) 0 (omega (arith, length_with_places (twin_byte f b q) 0 object)) in
                  rw z (omega arith))
              | true ↦ λ e.
                  (let at : slice_index (twin_of f b q object) x ≡ twin_byte f b q (0 + x) (slice_index object x) = at_place (twin_byte f b q) 0 object x (ltb-true _ _ e) in
                  rw at
                  (elim (is_first_column f b (0 + x)) as (λ v. is_first_column f b (0 + x) ≡ v → cond v (sum_of (slice_index object x) (value q (point ((0 + x) / f.symbol_length - start_of f b)))) (slice_index object x) < 256) [
                    | false ↦ λ g. form.bytes x
                    | true ↦ λ g.
                        (let u = both _ _ (both _ _ g).1 in
                        let low : start_of f b ≤ (0 + x) / f.symbol_length = leb-true _ _ u.0 in
                        let high : (0 + x) / f.symbol_length < start_of f b + source_count f b = ltb-true _ _ u.1 in
                        let small : (0 + x) / f.symbol_length - start_of f b < 255 = omega (arith, (counts f valid b hb).1) in
                        byte_field.add_element _ _ (form.bytes x) (value_element IsByte sum_of product 0 1 byte_field q _ (bytes_by_recursion q hq.bytes) (point_byte _)))
                  ] refl))
            ] refl;
      }

      pub differs : (i : ℕ) → i < source_count f b → value q (point i) ≢ 0 → object ≢ twin_of f b q object
      differs i hi apart same =
          let small : i < 255 = omega (arith, (counts f valid b hb).1) in
          let ev = value_element IsByte sum_of product 0 1 byte_field q (point i) (bytes_by_recursion q hq.bytes) (point_byte i) in
          let y = source_byte f object b i 0 in
          let ey : source_byte f object b i 0 < 256 = form.bytes _ in
          let e0 : source_byte f object b i 0 ≡ sum_of (source_byte f object b i 0) (value q (point i)) =
          ap (λ (o : List ℕ). source_byte f o b i 0) same ∙ changed i hi in
          let e1 = byte_field.add_assoc (source_byte f object b i 0) (source_byte f object b i 0) (value q (point i)) ey ey ev in
          let e2 = byte_field.add_self (source_byte f object b i 0) ey in
          let e3 = byte_field.add_comm 0 (value q (point i)) byte_field.zero_element ev in
          let e4 = byte_field.add_zero (value q (point i)) ev in
          apart (cc)

  -- a symbol of a short block is a root
  pub roots_held : (b : ℕ) (q : List ℕ) (arrivals all : List Symbol) → ((j : ℕ) → j < 256 → has_arrived all b j ≡ true → value q (point j) ≡ 0)
      → AllByRecursion (λ s. AreBytes s.bytes × (s.esi < 256) × (has_arrived all s.block s.esi ≡ true)) arrivals
      → AllByRecursion (λ s. AreBytes s.bytes × (s.block ≡ b → value q (point s.esi) ≡ 0)) arrivals
  roots_held b q [] all h g = tt
  roots_held b q (s ∷ ss) all h g =
      ((g.0.0, λ e. h s.esi g.0.1 (subst (λ (x : ℕ). has_arrived all x s.esi ≡ true) e g.0.2)), roots_held b q ss all h g.1)
