-- A block's rows, made of the symbols that came: they are the only ones that can have all of them.
use Rattle.std.specs.Prelude.{slice_index, is_some, not}
use Rattle.std.proofs.Common.{◌≡◌, ◌≢◌, ℕ, ◌+◌, ◌-◌, ◌<◌, ◌≤◌, true, List, Option, Some, None, length, get_or, take, drop, arith, ap, ◌∙◌, sym, refl, inl, inr, get_or-take, length-take-le, subst}
use Rattle.std.proofs.lemmas.Bool.{cases_lt, cases_Bool}
use Rattle.std.proofs.lemmas.List.{get_or-drop, length-drop}
use Rattle.lists.specs.Bytes.{IsByte}
use Rattle.elim.specs.Matrices.{AreElements}
use Rattle.elim.specs.Grid.{Grid, entry}
use Rattle.block_recovery.specs.Blocks.{byte_of, given, Meets, CanBeMet, AreOnly}
use Rattle.block_recovery.specs.Erasures.{AreErased, AreSolved}
use Rattle.block_recovery.proofs.Erased.{row_same}

-- an option that isn't none
pub some_of : (o : Option (List ℕ)) → is_some o ≡ true → (y : List ℕ) × (o ≡ Some y)
some_of None h = absurd (cc)
some_of (Some y) h = (y, refl)

module _ (at : ℕ → Option (List ℕ)) (size : ℕ) (g : Grid ℕ) (missing repair used left : List ℕ) (erased : AreErased at g.rows g.cols missing repair)
    (enough : length missing ≤ length repair) (front : used ≡ take (length missing) repair) (rest : left ≡ drop (length missing) repair) (old new : ℕ → ℕ → ℕ)
    (placed : (i c : ℕ) → i < g.rows → c < size → old i c ≡ byte_of (at i) c)
    (solved : AreSolved at missing used size g old new) where
  -- a symbol that came isn't missing
  apart : (i : ℕ) (y : List ℕ) → at i ≡ Some y → (a : ℕ) → a < length missing → slice_index missing a ≢ i
  apart i y some a la e =
      let none : not (is_some (at i)) ≡ true = subst (λ (n : ℕ). not (is_some (at n)) ≡ true) e (erased.lost.pass a la) in
      let yes : is_some (at i) ≡ true = ap is_some some in
      absurd (cc)

  source_is : (i c : ℕ) (y : List ℕ) → i < g.rows → c < size → at i ≡ Some y → new i c ≡ slice_index y c
  source_is i c y li lc some = solved.kept i c (apart i y some) lc ∙ placed i c li lc ∙ ap (λ (o : Option (List ℕ)). byte_of o c) some

  used_count : length used ≡ length missing
  used_count = ap length front ∙ length-take-le (length missing) repair enough

  used_at : (m : ℕ) → m < length missing → slice_index used m ≡ slice_index repair m
  used_at m lt = ap (λ (l : List ℕ). get_or l m 0) front ∙ get_or-take (length missing) repair m 0 lt

  left_at : (m : ℕ) → slice_index left m ≡ slice_index repair (length missing + m)
  left_at m = ap (λ (l : List ℕ). get_or l m 0) rest ∙ get_or-drop (length missing) repair m 0

  left_count : length left ≡ length repair - length missing
  left_count = ap length rest ∙ length-drop (length missing) repair

  -- where the repair symbols that weren't used are given, too, all that came is met
  meet : ((m c : ℕ) → m < length left → c < size → given g (λ i. new i c) (slice_index left m) ≡ byte_of (at (slice_index left m)) c)
      → (c : ℕ) → c < size → Meets at g c (λ i. new i c)
  meet rest_given c lc = record {
    source = λ i y li some. source_is i c y li lc some;
    repair = λ j y past lj some.
        let w = erased.arrivals.all j past lj (ap is_some some) in
        let here : byte_of (at j) c ≡ slice_index y c = ap (λ (o : Option (List ℕ)). byte_of o c) some in
        elim (cases_lt w.0 (length missing)) [
          | inl lt ↦
              subst (λ (n : ℕ). given g (λ i. new i c) n ≡ byte_of (at n) c) (used_at w.0 lt ∙ w.2) (solved.gives w.0 c (omega (arith, lt, used_count)) lc) ∙ here
          | inr more ↦
              (let back : length missing + (w.0 - length missing) ≡ w.0 = omega (arith, more) in
              let place : slice_index left (w.0 - length missing) ≡ j = left_at (w.0 - length missing) ∙ ap (slice_index repair) back ∙ w.2 in
              subst (λ (n : ℕ). given g (λ i. new i c) n ≡ byte_of (at n) c) place (rest_given (w.0 - length missing) c (omega (arith, more, w.1, left_count)) lc) ∙ here)
        ];
  }

  -- what came at an ESI
  arrivals : (i : ℕ) → is_some (at i) ≡ true → (y : List ℕ) × (at i ≡ Some y)
  arrivals i yes_some = some_of (at i) yes_some

  only : (c : ℕ) (x : ℕ → ℕ) → c < size → AreElements IsByte x → Meets at g c x → (i : ℕ) → i < g.rows → new i c ≡ x i
  only c x lc ex meets i li = elim (cases_Bool (is_some (at i))) [
    | inl some ↦ (let w = arrivals i some in source_is i c w.0 li lc w.1 ∙ sym (meets.source i w.0 li w.1))
    | inr none ↦
        (let w = erased.lost.all i (omega (arith)) li (rw none refl) in
        subst (λ (n : ℕ). new n c ≡ x n) w.2
        (solved.only c x lc ex
        (λ n ln others. elim (cases_Bool (is_some (at n))) [
          | inl some ↦ (let v = arrivals n some in meets.source n v.0 ln v.1 ∙ sym (placed n c ln lc ∙ ap (λ (o : Option (List ℕ)). byte_of o c) v.1))
          | inr gone ↦ (let v = erased.lost.all n (omega (arith)) ln (rw gone refl) in absurd (others v.0 v.1 v.2))
        ])
        (λ m lm.
        let lt : m < length missing = omega (arith, lm, used_count) in
        let inside : m < length repair = omega (arith, lt, enough) in
        let v = arrivals (slice_index repair m) (erased.arrivals.pass m inside) in
        subst (λ (n : ℕ). byte_of (at n) c ≡ given g x n) (sym (used_at m lt))
        (ap (λ (o : Option (List ℕ)). byte_of o c) v.1 ∙ sym (meets.repair (slice_index repair m) v.0 (erased.arrivals.least m inside) (erased.arrivals.most m inside) v.1)))
        w.0 w.1))
  ]

  pub are_only : ((m c : ℕ) → m < length left → c < size → given g (λ i. new i c) (slice_index left m) ≡ byte_of (at (slice_index left m)) c) → AreOnly at g size new
  are_only rest_given = record { meet = meet rest_given; only = only }

  -- where one of them isn't given, no rows have all that came
  pub none_meets : (m c : ℕ) → m < length left → c < size → given g (λ i. new i c) (slice_index left m) ≢ byte_of (at (slice_index left m)) c
      → CanBeMet at g size → ⊥
  none_meets m c lm lc ne can =
      let x = can c lc in
      let inside : length missing + m < length repair = omega (arith, lm, left_count) in
      let v = arrivals (slice_index repair (length missing + m)) (erased.arrivals.pass (length missing + m) inside) in
      ne (subst (λ (n : ℕ). given g (λ i. new i c) n ≡ byte_of (at n) c) (sym (left_at m))
      (row_same (λ i. new i c) x.row (entry 0 g) g.rows (slice_index repair (length missing + m)) (λ i li. only c x.row lc x.bytes x.meets i li)
      ∙ x.meets.repair (slice_index repair (length missing + m)) v.0 (erased.arrivals.least (length missing + m) inside) (erased.arrivals.most (length missing + m) inside) v.1
      ∙ sym (ap (λ (o : Option (List ℕ)). byte_of o c) v.1)))
