-- Places in a session of order Rounds: they rise from block to block and from round to round.
use Rattle.std.proofs.Common.{◌≡◌, ℕ, zero, suc, ◌+◌, ◌-◌, ◌*◌, ◌^◌, ◌<◌, ◌≤◌, List, ◌∷◌, ◌++◌, length, get_or, refl, ap, sym, ◌∙◌, inl, inr, arith, append_assoc, length-append}
use Rattle.std.specs.Prelude.{flat_map, min}
use Rattle.std.proofs.lemmas.Bool.{cases_lt}
use Rattle.std.proofs.Math.Nat.{mul-le-mul_right}
use Rattle.std.proofs.lemmas.List.{get_or_at}
use Rattle.lists.specs.Below.{below}
use Rattle.partition.specs.Fti.{Fti, IsValidFti, block_count, source_count, encoding_count, large_blocks}
use Rattle.partition.proofs.Laws.{large_count, other_count, some_block, encoding_most, shares, small_count}
use Rattle.partition.specs.declared.order.Order.TheVariants.{Rounds}
use Rattle.encoder.specs.Sending.{pairs, pair_with, pairs_of_round}
use Rattle.encoder.specs.RoundPlaces.{sent_before, place_of, run_of_round}
use Rattle.encoder.proofs.Sent.{flat_later, flat_parts, length_next, with_pair, without_pair}
use Rattle.encoder.proofs.InPasses.{first_most}

longer : (xs ys zs : List (ℕ × ℕ)) → xs ≡ ys ++ zs → length ys ≤ length xs
longer xs ys zs e = omega (arith, ap length e, length-append ys zs)

module _ (f : Fti) where
  one_more : (j b : ℕ) → j < encoding_count f b → sent_before f j (b + 1) ≡ sent_before f j b + 1
  one_more j b has = length_next (pair_with f j) b ∙ ap (λ (l : List (ℕ × ℕ)). sent_before f j b + length l) (with_pair f j b has)

  no_more : (j b : ℕ) → encoding_count f b ≤ j → sent_before f j (b + 1) ≡ sent_before f j b
  no_more j b none =
      let e : sent_before f j b + 0 ≡ sent_before f j b = omega arith in
      length_next (pair_with f j) b ∙ ap (λ (l : List (ℕ × ℕ)). sent_before f j b + length l) (without_pair f j b none) ∙ e

  pub place_here : (j b : ℕ) → j < encoding_count f b → place_of f j (b + 1) ≡ place_of f j b + 1
  place_here j b has = omega (arith, one_more j b has)

  pub place_none : (j b : ℕ) → encoding_count f b ≤ j → place_of f j (b + 1) ≡ place_of f j b
  place_none j b none = omega (arith, no_more j b none)

  before_rising : (j b d : ℕ) → b ≤ d → sent_before f j b ≤ sent_before f j d
  before_rising j b d le =
      let r = flat_later (pair_with f j) b d le in
      longer (flat_map (pair_with f j) (below d)) (flat_map (pair_with f j) (below b)) r.0 r.1

  pub place_rising : (j b d : ℕ) → b ≤ d → place_of f j b ≤ place_of f j d
  place_rising j b d le = omega (arith, before_rising j b d le)

  -- a round's places begin where those of the round before end
  pub round_start : (j : ℕ) → place_of f j 0 ≡ length (flat_map (pairs_of_round f) (below j))
  unfolding below
  round_start j = omega arith

  pub round_end : (j : ℕ) → place_of f j (block_count f) ≡ place_of f (j + 1) 0
  round_end j = sym (length_next (pairs_of_round f) j) ∙ sym (round_start (j + 1))

  rounds_rising : (j l : ℕ) → j ≤ l → place_of f j 0 ≤ place_of f l 0
  rounds_rising j l le =
      let r = flat_later (pairs_of_round f) j l le in
      omega (arith, round_start j, round_start l, longer (flat_map (pairs_of_round f) (below l)) (flat_map (pairs_of_round f) (below j)) r.0 r.1)

  pub round_before : (j l b d : ℕ) → j < l → b ≤ block_count f → place_of f j b ≤ place_of f l d
  round_before j l b d lt le =
      omega (arith, place_rising j b (block_count f) le, round_end j, rounds_rising (j + 1) l (omega arith), place_rising l 0 d (omega arith))

  pub last_place : place_of f f.max_symbols 0 ≡ length (pairs Rounds f)
  last_place = round_start f.max_symbols

  -- places are few
  pub before_few : (j b : ℕ) → sent_before f j b ≤ b
  unfolding below
  before_few j zero = omega arith
  before_few j (suc b) =
      let e : b + 1 ≡ suc b = omega arith in
      let g : sent_before f j (b + 1) ≤ b + 1 = elim (cases_lt j (encoding_count f b)) [
        | inl has ↦ omega (arith, one_more j b has, before_few j b)
        | inr none ↦ omega (arith, no_more j b none, before_few j b)
      ] in
      rw e at g

  pub rounds_few : (j : ℕ) → place_of f j 0 ≤ j * block_count f
  unfolding below
  rounds_few zero = omega arith
  rounds_few (suc j) =
      let e : j + 1 ≡ suc j = omega arith in
      let g : place_of f (j + 1) 0 ≤ (j + 1) * block_count f = omega (arith, round_start j, round_end j, before_few j (block_count f), rounds_few j) in
      rw e at g

  pub places_few : (j b : ℕ) → place_of f j b ≤ j * block_count f + b
  places_few j b = omega (arith, round_start j, rounds_few j, before_few j b)

module _ (f : Fti) (valid : IsValidFti f) where
  pub place_within : (j b : ℕ) → j < f.max_symbols → b ≤ block_count f → place_of f j b ≤ length (pairs Rounds f)
  place_within j b lt le = omega (arith, round_before f j f.max_symbols b 0 lt le, last_place f)

  -- in 32 bits
  pub place_fits : (j b : ℕ) → j < f.max_symbols → b ≤ block_count f → place_of f j b ≤ 2 ^ 32
  place_fits j b lt le =
      let most : j * block_count f ≤ 254 * block_count f = mul-le-mul_right (block_count f) (omega (arith, lt, valid.max_below)) in
      omega (arith, places_few f j b, most, valid.blocks, le)

  pub pairs_fit : length (pairs Rounds f) ≤ 2 ^ 32
  pairs_fit =
      let most : f.max_symbols * block_count f ≤ 255 * block_count f = mul-le-mul_right (block_count f) (omega (arith, valid.max_below)) in
      omega (arith, last_place f, rounds_few f f.max_symbols, most, valid.blocks)

  pub place_inside : (j b : ℕ) → b < block_count f → j < encoding_count f b → place_of f j b < length (pairs Rounds f)
  place_inside j b hb hj =
      omega (arith, place_here f j b hj, place_within j (b + 1) (omega (arith, hj, encoding_most f valid b)) (omega (arith, hb)))

-- ---- how many blocks have an encoding symbol with an ESI

module _ (f : Fti) (j : ℕ) where
  all_before : ((b : ℕ) → j < encoding_count f b) → (b : ℕ) → sent_before f j b ≡ b
  unfolding below
  all_before has zero = refl
  all_before has (suc b) =
      let e : b + 1 ≡ suc b = omega arith in
      let g : sent_before f j (b + 1) ≡ b + 1 = omega (arith, one_more f j b (has b), all_before has b) in
      rw e at g

  none_before : ((b : ℕ) → encoding_count f b ≤ j) → (b : ℕ) → sent_before f j b ≡ 0
  unfolding below
  none_before none zero = refl
  none_before none (suc b) =
      let e : b + 1 ≡ suc b = omega arith in
      let g : sent_before f j (b + 1) ≡ 0 = omega (arith, no_more f j b (none b), none_before none b) in
      rw e at g

  some_before : (n : ℕ) → ((b : ℕ) → b < n → j < encoding_count f b) → ((b : ℕ) → n ≤ b → encoding_count f b ≤ j) → (b : ℕ) → sent_before f j b ≡ min b n
  unfolding below
  some_before n has none zero = omega arith
  some_before n has none (suc b) =
      let e : b + 1 ≡ suc b = omega arith in
      let g : sent_before f j (b + 1) ≡ min (b + 1) n = elim (cases_lt b n) [
        | inl lt ↦ omega (arith, one_more f j b (has b lt), some_before n has none b)
        | inr ge ↦ omega (arith, no_more f j b (none b ge), some_before n has none b)
      ] in
      rw e at g

module _ (f : Fti) (valid : IsValidFti f) where
  -- as many encoding symbols as another block with as many source symbols
  same_count : (b d : ℕ) → source_count f b ≡ source_count f d → encoding_count f b ≡ encoding_count f d
  unfolding encoding_count
  same_count b d e = rw e refl

  -- the last block is a small one
  pub last_small : source_count f (block_count f - 1) ≡ small_count f
  last_small = other_count f valid (block_count f - 1) (omega (arith, shares f valid, some_block f valid))

  large_first : (b : ℕ) → b < large_blocks f → encoding_count f b ≡ encoding_count f 0
  large_first b lt = same_count b 0 (large_count f valid b lt ∙ sym (large_count f valid 0 (omega (arith, lt))))

  small_last : (b : ℕ) → large_blocks f ≤ b → encoding_count f b ≡ encoding_count f (block_count f - 1)
  small_last b ge = same_count b (block_count f - 1) (other_count f valid b ge ∙ sym last_small)

  last_least : (b : ℕ) → encoding_count f (block_count f - 1) ≤ encoding_count f b
  last_least b = elim (cases_lt b (large_blocks f)) [
    | inl lt ↦ omega (arith, large_first b lt, first_most f valid (block_count f - 1))
    | inr ge ↦ omega (arith, small_last b ge)
  ]

  pub in_all : (j b : ℕ) → j < encoding_count f (block_count f - 1) → sent_before f j b ≡ b
  in_all j b lt = all_before f j (λ d. omega (arith, last_least d)) b

  pub in_large : (j b : ℕ) → encoding_count f (block_count f - 1) ≤ j → j < encoding_count f 0 → sent_before f j b ≡ min b (large_blocks f)
  in_large j b ge lt =
      some_before f j (large_blocks f) (λ d l. omega (arith, large_first d l)) (λ d l. omega (arith, small_last d l)) b

  pub in_none : (j b : ℕ) → encoding_count f 0 ≤ j → sent_before f j b ≡ 0
  in_none j b ge = none_before f j (λ d. omega (arith, first_most f valid d)) b

-- ---- the places of a group's encoding symbols in a round

module _ (f : Fti) (j first : ℕ) where
  pub run_next : (i : ℕ) → place_of f j (first + i) + length (pair_with f j (first + i)) ≡ place_of f j (first + (i + 1))
  run_next i =
      let e : first + i + 1 ≡ first + (i + 1) = omega arith in
      let g = length_next (pair_with f j) (first + i) in
      let h : sent_before f j (first + (i + 1)) ≡ sent_before f j (first + i) + length (pair_with f j (first + i)) = ap (sent_before f j) (sym e) ∙ g in
      omega (arith, h)

  pub run_place : (i : ℕ) → place_of f j first + length (run_of_round f j first i) ≡ place_of f j (first + i)
  unfolding below
  run_place zero = let e : first ≡ first + 0 = omega arith in let g = ap (place_of f j) e in omega (arith, g)
  run_place (suc i) =
      let e : i + 1 ≡ suc i = omega arith in
      let more = length_next (λ k. pair_with f j (first + k)) i in
      let g : place_of f j first + length (run_of_round f j first (i + 1)) ≡ place_of f j (first + (i + 1)) = omega (arith, run_next i, run_place i, more) in
      rw e at g

  -- which encoding symbol stands where in the run
  pub run_at : (count i : ℕ) → i < count → j < encoding_count f (first + i)
      → get_or (run_of_round f j first count) (length (run_of_round f j first i)) (0, 0) ≡ (first + i, j)
  run_at count i lt has =
      let part = λ (k : ℕ). pair_with f j (first + k) in
      let parts = flat_parts part i count lt in
      let one = with_pair f j (first + i) has in
      let whole : run_of_round f j first count ≡ run_of_round f j first i ++ (first + i, j) ∷ parts.0 =
      parts.1 ∙ append_assoc (run_of_round f j first i) (part i) parts.0 ∙ ap (λ (l : List (ℕ × ℕ)). run_of_round f j first i ++ (l ++ parts.0)) one in
      ap (λ (l : List (ℕ × ℕ)). get_or l (length (run_of_round f j first i)) (0, 0)) whole
      ∙ get_or_at (run_of_round f j first i) (first + i, j) parts.0 (0, 0) (length (run_of_round f j first i)) refl
