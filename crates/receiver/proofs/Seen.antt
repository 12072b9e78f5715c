-- Which symbols came of a solved block.
use Rattle.std.specs.Prelude.{is_some, filter, drop}
use Rattle.std.proofs.Common.{◌≡◌, ℕ, ◌+◌, ◌*◌, ◌<◌, ◌≤◌, true, false, List, [], ◌∷◌, ◌++◌, Option, Some, None, length, length-append, take, refl, sym, ap, subst, ◌∙◌, inl, inr, arith}
use Rattle.lists.specs.Below.{below}
use Rattle.partition.specs.Fti.{Fti, source_count, encoding_count}
use Rattle.block_recovery.specs.Decoded.{IsEnoughAt, AreRows}
use Rattle.block_recovery.specs.Giving.{GivesSymbol}
use Rattle.block_recovery.specs.Arrivals.{with_esi}
use Rattle.block_recovery.proofs.GivenSymbols.{gives_one, gives_arrived, rows_with, unexplained_with}
use Rattle.block_recovery.proofs.Kept.{with_here, with_other, with_same, count_more}
use Rattle.receiver.specs.Putting.{MayStand, IsClash, IsNoCode}
use Rattle.receiver.specs.Stored.{is_among, IsSolved}
use Rattle.receiver.proofs.Among.{among_with, of_more}
use Rattle.receiver.proofs.Pending.{enough_count}

-- with a symbol at a free ESI, one more stands
one_more_stands : (at : ℕ → Option (List ℕ)) (n j : ℕ) (y : List ℕ) → j < n → at j ≡ None
    → length (filter (λ i. is_some (with_esi at j y i)) (below n)) ≡ length (filter (λ i. is_some (at i)) (below n)) + 1
one_more_stands at n j y lj free =
    count_more (λ i. is_some (at i)) (λ i. is_some (with_esi at j y i)) n j lj (ap is_some free) (ap is_some (with_here at j j y refl))
    (λ i ne. ap is_some (with_other at j i y ne))

-- where enough stand, they still do with one more
enough_more : (f : Fti) (b : ℕ) (at : ℕ → Option (List ℕ)) (j : ℕ) (y : List ℕ) → j < encoding_count f b → at j ≡ None → IsEnoughAt f b at → IsEnoughAt f b (with_esi at j y)
enough_more f b at j y lj free enough = omega (arith, enough, one_more_stands at (encoding_count f b) j y lj free)

may_stand : (at : ℕ → Option (List ℕ)) (j : ℕ) (y : List ℕ) (o : Option (List ℕ)) → at j ≡ o → ((z : List ℕ) → at j ≡ Some z → z ≡ y) → MayStand at j y
may_stand at j y None is one = inl is
may_stand at j y (Some z) is one = inr (is ∙ ap Some (one z is))

clashes : (at : ℕ → Option (List ℕ)) (j : ℕ) (y : List ℕ) (o : Option (List ℕ)) → at j ≡ o → is_some o ≡ true → (at j ≡ Some y → ⊥) → IsClash at j y
clashes at j y None is some other = absurd (cc)
clashes at j y (Some z) is some other = record { other = z; stands = is; differs = λ e. other (is ∙ ap Some e) }

some_of : (o : Option (List ℕ)) → is_some o ≡ true → (y : List ℕ) × (o ≡ Some y)
some_of None e = absurd (cc)
some_of (Some y) e = (y, refl)

none_of : (o : Option (List ℕ)) → is_some o ≡ false → o ≡ None
none_of None e = refl
none_of (Some y) e = absurd (cc)

-- ---- a block

-- its rows, as they were read
module _ (f : Fti) (b : ℕ) (x esis : List ℕ) (at : ℕ → Option (List ℕ)) (h : IsSolved f b x esis at) (rows : List ℕ)
    (len : length rows ≡ source_count f b * f.symbol_length) (read : rows ≡ take (length rows) (drop 0 x)) (few : source_count f b ≤ 255) (j : ℕ) (y : List ℕ) where
  are : AreRows f b at rows
  are =
      let own : take (source_count f b * f.symbol_length) x ≡ rows = ap (λ (k : ℕ). take k x) (sym len) ∙ sym read in
      subst (λ (l : List ℕ). AreRows f b at l) own h.rows

  -- a symbol that they give may stand
  pub given_may : ((i : ℕ) (z : List ℕ) → at i ≡ Some z → length z ≡ f.symbol_length) → length y ≡ f.symbol_length → GivesSymbol f b rows j y → MayStand at j y
  given_may lengths size gives =
      may_stand at j y (at j) refl (λ z some. gives_one f b few rows j z y (lengths j z some) size (gives_arrived f b at rows are j z some) gives)

  -- so it does where its ESI came
  pub given_same : ((i : ℕ) (z : List ℕ) → at i ≡ Some z → length z ≡ f.symbol_length) → length y ≡ f.symbol_length → GivesSymbol f b rows j y → is_among esis j ≡ true
      → IsSolved f b x esis (with_esi at j y)
  given_same lengths size gives came =
      let some = some_of (at j) (sym (h.seen j) ∙ came) in
      let is : some.0 ≡ y = gives_one f b few rows j some.0 y (lengths j some.0 some.1) size (gives_arrived f b at rows are j some.0 some.1) gives in
      subst (λ (g : ℕ → Option (List ℕ)). IsSolved f b x esis g) (sym (with_same at j y (some.1 ∙ ap Some is))) h

  -- and is noted where it didn't
  pub given_now : is_among esis j ≡ false → j < encoding_count f b → GivesSymbol f b rows j y → IsSolved f b x (esis ++ j ∷ []) (with_esi at j y)
  given_now free lj gives = record {
    of = of_more f b esis j h.of lj free;
    enough = let n = length-append esis (j ∷ []) in omega (arith, n, h.enough);
    rows =
        (let own : rows ≡ take (source_count f b * f.symbol_length) x = sym (ap (λ (k : ℕ). take k x) (sym len) ∙ sym read) in
        subst (λ (l : List ℕ). AreRows f b (with_esi at j y) l) own
        (rows_with f b at rows are j y (with_esi at j y) (with_here at j j y refl) (λ i ne. with_other at j i y (λ z. ne (sym z))) few gives));
    seen = among_with at esis j y (λ i. sym (h.seen i));
  }

  -- one that they don't give clashes with the one that came
  pub seen_clash : is_among esis j ≡ true → (GivesSymbol f b rows j y → ⊥) → IsClash at j y
  seen_clash seen other = clashes at j y (at j) refl (sym (h.seen j) ∙ seen) (λ here. other (gives_arrived f b at rows are j y here))

  -- or is of no code
  pub unseen_no_code : encoding_count f b ≤ 255 → j < encoding_count f b → is_among esis j ≡ false → (GivesSymbol f b rows j y → ⊥) → IsNoCode f b at j y
  unseen_no_code most lj unseen other =
      let free : at j ≡ None = none_of (at j) (sym (h.seen j) ∙ unseen) in
      let enough : IsEnoughAt f b at = omega (arith, h.enough, enough_count f b x esis at h) in
      record {
        free = free;
        enough = enough_more f b at j y lj free enough;
        unexplained = unexplained_with f b at rows are j y (with_esi at j y) (with_here at j j y refl) (λ i ne. with_other at j i y (λ z. ne (sym z))) free most enough other;
      }
