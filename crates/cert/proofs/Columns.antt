-- The least column in which a symbol isn't the certified one: what is found is what the definition
-- says.
use Rattle.std.proofs.Common.{◌≡◌, ◌≢◌, ℕ, zero, suc, ◌+◌, ◌<◌, ◌≤◌, true, false, not, cond, List, [], ◌∷◌, ◌++◌, length, Option, Some, None, refl, sym, ap, subst, ◌∙◌, arith}
use Rattle.std.specs.Prelude.{slice_index, find, ◌==◌, IsNone, IfSome}
use Rattle.std.specs.List.{range_with_len}
use Rattle.lists.specs.Below.{below}
use Rattle.std.proofs.lemmas.Bool.{eqb-true, eqb-false, eq-eqb}
use Rattle.reception.specs.Symbols.{Symbol}
use Rattle.partition.specs.Fti.{block_count, source_count}
use Rattle.certificate.specs.Certificate.{Certificate, certified_byte}
use Rattle.certificate.specs.CoefficientRows.{IsSourceSymbol}
use Rattle.certified_symbols.specs.CertifiedSymbol.{IsCertifiedSymbol}
use Rattle.cert.specs.Columns.{TellsFirstWrong}
use Rattle.certified_symbols.specs.FirstWrong.{IsFirstWrong}
use Rattle.certified_symbols.specs.Differences.{AreSameBelow, IsFirstDifference}
use Rattle.cert.specs.Verdict.{GivesObject, uncertified}
use Rattle.cert.specs.WrongColumns.{wrong_column}

range_more : (a n : ℕ) → range_with_len a (suc n) ≡ range_with_len a n ++ (a + n) ∷ []
range_more a zero = let e : a ≡ a + 0 = omega arith in ap (λ (k : ℕ). k ∷ []) e
range_more a (suc n) =
    let e : a + 1 + n ≡ a + suc n = omega arith in
    ap (λ (xs : List ℕ). a ∷ xs) (range_more (a + 1) n ∙ ap (λ (k : ℕ). range_with_len (a + 1) n ++ k ∷ []) e)

below_range : (n : ℕ) → below n ≡ range_with_len 0 n
unfolding below
below_range zero = refl
below_range (suc n) =
    let e : 0 + n ≡ n = omega arith in
    ap (λ (xs : List ℕ). xs ++ n ∷ []) (below_range n) ∙ sym (ap (λ (k : ℕ). range_with_len 0 n ++ k ∷ []) e) ∙ sym (range_more 0 n)

module _ (z : Certificate) (s : Symbol) where
  -- columns that are all right
  none_wrong : (c n : ℕ) → ((x : ℕ) → c ≤ x → x < c + n → slice_index s.bytes x ≡ certified_byte z s.block s.esi x) → wrong_column z s c n ≡ None
  none_wrong c zero h = refl
  none_wrong c (suc n) h =
      let t = eq-eqb (slice_index s.bytes c) (certified_byte z s.block s.esi c) (h c (omega arith) (omega arith)) in
      rw t (none_wrong (c + 1) n (λ x low high. h x (omega arith) (omega arith)))

  all_right : (c n : ℕ) → wrong_column z s c n ≡ None → (x : ℕ) → c ≤ x → x < c + n → slice_index s.bytes x ≡ certified_byte z s.block s.esi x
  all_right c zero h x low high = absurd (omega arith)
  all_right c (suc n) h x low high =
      elim (slice_index s.bytes c == certified_byte z s.block s.esi c) as (λ v. (slice_index s.bytes c == certified_byte z s.block s.esi c) ≡ v → cond v (wrong_column z s (c + 1) n) (Some c) ≡ None → slice_index s.bytes x ≡ certified_byte z s.block s.esi x) [
        | true ↦ λ e g.
            (elim (x == c) as (λ v. (x == c) ≡ v → slice_index s.bytes x ≡ certified_byte z s.block s.esi x) [
              | true ↦ λ q. subst (λ (y : ℕ). slice_index s.bytes y ≡ certified_byte z s.block s.esi y) (sym (eqb-true x c q)) (eqb-true _ _ e)
              | false ↦ λ q. all_right (c + 1) n g x (let ne = eqb-false x c q in omega arith) (omega arith)
            ] refl)
        | false ↦ λ e g. absurd (cc)
      ] refl h

  -- the first of n columns from column c on that is wrong
  record IsFirstFrom (c n x : ℕ) : Type 0 where
    from : c ≤ x
    below : x < c + n
    wrong : slice_index s.bytes x ≢ certified_byte z s.block s.esi x
    right_before : (y : ℕ) → c ≤ y → y < x → slice_index s.bytes y ≡ certified_byte z s.block s.esi y

  first_told : (c n x : ℕ) → IsFirstFrom c n x → wrong_column z s c n ≡ Some x
  first_told c zero x h = absurd (let a = h.from in let b = h.below in omega arith)
  first_told c (suc n) x h =
      elim (c == x) as (λ v. (c == x) ≡ v → wrong_column z s c (suc n) ≡ Some x) [
        | true ↦ λ q.
            (let e = eqb-true c x q in
            elim (slice_index s.bytes c == certified_byte z s.block s.esi c) as (λ v. (slice_index s.bytes c == certified_byte z s.block s.esi c) ≡ v → cond v (wrong_column z s (c + 1) n) (Some c) ≡ Some x) [
              | true ↦ λ t. absurd (h.wrong (subst (λ (y : ℕ). slice_index s.bytes y ≡ certified_byte z s.block s.esi y) e (eqb-true _ _ t)))
              | false ↦ λ t. ap (λ (y : ℕ). Some y) e
            ] refl)
        | false ↦ λ q.
            (let ne = eqb-false c x q in
            let low = h.from in
            let high = h.below in
            let t = eq-eqb (slice_index s.bytes c) (certified_byte z s.block s.esi c) (h.right_before c (omega arith) (omega arith)) in
            rw t (first_told (c + 1) n x (record { from = omega arith; below = omega arith; wrong = h.wrong; right_before = λ y l m. h.right_before y (omega arith) m })))
      ] refl

  told_first : (c n x : ℕ) → wrong_column z s c n ≡ Some x → IsFirstFrom c n x
  told_first c zero x h = absurd (cc)
  told_first c (suc n) x h =
      elim (slice_index s.bytes c == certified_byte z s.block s.esi c) as (λ v. (slice_index s.bytes c == certified_byte z s.block s.esi c) ≡ v → cond v (wrong_column z s (c + 1) n) (Some c) ≡ Some x → IsFirstFrom c (suc n) x) [
        | true ↦ λ e g.
            (let w = told_first (c + 1) n x g in
            let low = w.from in
            let high = w.below in
            record {
              from = omega arith;
              below = omega arith;
              wrong = w.wrong;
              right_before = λ y l m.
                  elim (y == c) as (λ v. (y == c) ≡ v → slice_index s.bytes y ≡ certified_byte z s.block s.esi y) [
                    | true ↦ λ q. subst (λ (k : ℕ). slice_index s.bytes k ≡ certified_byte z s.block s.esi k) (sym (eqb-true y c q)) (eqb-true _ _ e)
                    | false ↦ λ q. w.right_before y (let ne = eqb-false y c q in omega arith) m
                  ] refl;
            })
        | false ↦ λ e g.
            (let same : c ≡ x = cc in
            record {
              from = omega arith;
              below = omega arith;
              wrong = subst (λ (k : ℕ). slice_index s.bytes k ≢ certified_byte z s.block s.esi k) same (eqb-false _ _ e);
              right_before = λ y l m. absurd (omega arith);
            })
      ] refl h

  -- the columns from c on, as the definition lists them
  from_range : (c n : ℕ) → find (λ x. not (slice_index s.bytes x == certified_byte z s.block s.esi x)) (range_with_len c n) ≡ wrong_column z s c n
  from_range c zero = refl
  from_range c (suc n) =
      elim (slice_index s.bytes c == certified_byte z s.block s.esi c) as (λ v. cond (not v) (Some c) (find (λ x. not (slice_index s.bytes x == certified_byte z s.block s.esi x)) (range_with_len (c + 1) n)) ≡ cond v (wrong_column z s (c + 1) n) (Some c)) [
        | true ↦ from_range (c + 1) n
        | false ↦ refl
      ]

  pub found_is : uncertified z [] s ≡ wrong_column z s 0 z.fti.symbol_length
  found_is =
      ap (find (λ x. not (slice_index s.bytes x == certified_byte z s.block s.esi x))) (below_range z.fti.symbol_length) ∙ from_range 0 z.fti.symbol_length

  pub first_is : (c : ℕ) → IsFirstWrong z s.block s.esi s.bytes c → uncertified z [] s ≡ Some c
  first_is c h = found_is ∙ first_told 0 z.fti.symbol_length c (let inside = h.column in record { from = omega arith; below = omega arith; wrong = h.wrong; right_before = λ y l m. h.right_before y m })

  pub none_is : IsCertifiedSymbol z s.block s.esi s.bytes → uncertified z [] s ≡ None
  none_is h = found_is ∙ none_wrong 0 z.fti.symbol_length (λ x low high. h x (omega arith))

  pub certified_where_none : uncertified z [] s ≡ None → IsCertifiedSymbol z s.block s.esi s.bytes
  certified_where_none h = λ c l. all_right 0 z.fti.symbol_length (sym found_is ∙ h) c (omega arith) (omega arith)

  first_where_told : (c : ℕ) → uncertified z [] s ≡ Some c → IsFirstWrong z s.block s.esi s.bytes c
  first_where_told c h =
      let w = told_first 0 z.fti.symbol_length c (sym found_is ∙ h) in
      let high = w.below in
      record { column = omega arith; wrong = w.wrong; right_before = λ y m. w.right_before y (omega arith) m }

  pub tells_first_wrong : (earlier : List Symbol) → TellsFirstWrong z earlier s
  tells_first_wrong earlier = record { some = λ c. (first_where_told c, first_is c); none = (certified_where_none, none_is) }

-- what is answered by the definition is what the definition says
pub is_uncertified : (z : Certificate) (earlier : List Symbol) (s : Symbol) (told : Option ℕ) → (IsNone told → IsCertifiedSymbol z s.block s.esi s.bytes)
    → IfSome told (IsFirstWrong z s.block s.esi s.bytes) → told ≡ uncertified z earlier s
is_uncertified z earlier s None none some = sym (none_is z s (none refl))
is_uncertified z earlier s (Some c) none some = sym (first_is z s c some)

-- ---- a source symbol against the object

module _ (z : Certificate) (object : List ℕ) (gives : GivesObject object z) (b i : ℕ) (hb : b < block_count z.fti) (hi : i < source_count z.fti b) (symbol part : List ℕ)
    (long : length symbol ≡ z.fti.symbol_length) (is : IsSourceSymbol z.fti object b i part) where
  part_certified : IsCertifiedSymbol z b i part
  part_certified = λ c l. is c l ∙ sym (gives b c i hb l hi)

  pub none_from_part : AreSameBelow (length symbol) symbol part → IsCertifiedSymbol z b i symbol
  none_from_part same = λ c l. same c (omega (arith, l, long)) ∙ part_certified c l

  first_from_part : (c : ℕ) → IsFirstDifference symbol part c → IsFirstWrong z b i symbol c
  first_from_part c h =
      let inside = h.place in
      let l : c < z.fti.symbol_length = omega (arith, inside, long) in
      record {
        column = l;
        wrong = λ e. h.differ (e ∙ sym (part_certified c l));
        right_before = λ y m. h.same_before y m ∙ part_certified y (omega (arith, m, l));
      }

  pub some_from_part : (told : Option ℕ) → IfSome told (IsFirstDifference symbol part) → IfSome told (IsFirstWrong z b i symbol)
  some_from_part None h = h
  some_from_part (Some c) h = first_from_part c h
