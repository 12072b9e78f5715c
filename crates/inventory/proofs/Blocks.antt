-- The symbols that came of blocks.
use Rattle.std.specs.Prelude.{filter}
use Rattle.std.specs.BTreeSet.{BTreeSet, contains}
use Rattle.std.proofs.Common.{below_more, ◌≡◌, ◌<◌, ◌≤◌, ◌∙◌, ◌+◌, ℕ, suc, Bool, true, false, List, [], ◌∷◌, length, length-append, refl, ap, inl, inr, arith, add-zero}
use Rattle.std.proofs.lemmas.Bool.{cases_lt}
use Rattle.std.proofs.lemmas.List.Elements.{filter-append}
use Rattle.lists.specs.Below.{below}
use Rattle.partition.specs.Fti.{Fti, IsValidFti, block_count, source_count, encoding_count, large_blocks}
use Rattle.partition.proofs.Laws.{large_count, other_count}
use Rattle.inventory.specs.Parts.{have_count, IsWeakest}
use Rattle.inventory.specs.Tally.{pair_cmp, AreIds}

-- how many came of a block, by the set
abbrev pub had : Fti → BTreeSet (ℕ × ℕ) → ℕ → ℕ
had f set b = length (filter (λ j. contains pair_cmp set (b, j)) (below (encoding_count f b)))

parts_count : (t : ℕ → Bool) (n : ℕ) → length (filter t (below (suc n))) ≡ length (filter t (below n)) + length (filter t (n ∷ []))
unfolding below
parts_count t n = ap length (filter-append t (below n) (n ∷ [])) ∙ length-append (filter t (below n)) (filter t (n ∷ []))

-- one number more that passes
pub one_more : (t : ℕ → Bool) (n : ℕ) → t n ≡ true → length (filter t (below (suc n))) ≡ length (filter t (below n)) + 1
one_more t n h = parts_count t n ∙ rw h refl

-- one number more, which doesn't
pub none_more : (t : ℕ → Bool) (n : ℕ) → t n ≡ false → length (filter t (below (suc n))) ≡ length (filter t (below n))
none_more t n h = parts_count t n ∙ rw h (add-zero (length (filter t (below n))))

-- no block needs more than one before it
pub needs_fall : (f : Fti) → IsValidFti f → (a b : ℕ) → a ≤ b → source_count f b ≤ source_count f a
needs_fall f valid a b up = elim (cases_lt b (large_blocks f)) [
  | inl l ↦
      let other = large_count f valid b l in
      let one = large_count f valid a (omega (arith, up, l)) in
      omega (arith, other, one)
  | inr l ↦
      let other = other_count f valid b l in
      elim (cases_lt a (large_blocks f)) [
        | inl m ↦ (let one = large_count f valid a m in omega (arith, other, one))
        | inr m ↦ (let one = other_count f valid a m in omega (arith, other, one))
      ]
]

pub had_is : (f : Fti) (ids : List (ℕ × ℕ)) (set : BTreeSet (ℕ × ℕ)) → AreIds ids set → (b : ℕ) → had f set b ≡ have_count f ids b
had_is f ids set are b = ap (λ (t : ℕ → Bool). length (filter t (below (encoding_count f b)))) (λ i j. are (b, j) i)

-- ---- the least so far, by what each block needs and has

module _ (k h : ℕ → ℕ) (lk lh i n m : ℕ) (need : n ≡ k i) (have : m ≡ h i) (least : (b : ℕ) → b < i → lh + k b ≤ h b + lk) where
  pub better_first : m + lk < lh + n → (b : ℕ) → b < i → m + k b < h b + n
  better_first less b l = let before = least b l in omega (arith, before, less)

  pub better_least : m + lk < lh + n → (b : ℕ) → b < i + 1 → m + k b ≤ h b + n
  better_least less =
      below_more (λ b. m + k b ≤ h b + n) i (λ b l. let before = least b l in omega (arith, before, less)) (omega (arith, need, have))

  pub kept_least : lh + n ≤ m + lk → (b : ℕ) → b < i + 1 → lh + k b ≤ h b + lk
  kept_least no_less = below_more (λ b. lh + k b ≤ h b + lk) i least (omega (arith, need, have, no_less))

-- nothing came of a block: none behind it is weaker
pub none_weaker : (k h : ℕ → ℕ) (lk lh i : ℕ) → ((a b : ℕ) → a ≤ b → k b ≤ k a) → h i ≡ 0 → ((b : ℕ) → b < i + 1 → lh + k b ≤ h b + lk) → (b : ℕ) → lh + k b ≤ h b + lk
none_weaker k h lk lh i fall none least b = elim (cases_lt b (i + 1)) [
  | inl l ↦ least b l
  | inr l ↦
      (let here = least i (omega arith) in
      let less = fall i b (omega (arith, l)) in
      omega (arith, here, less, none))
]

pub found : (f : Fti) (set : BTreeSet (ℕ × ℕ)) (ids : List (ℕ × ℕ)) (w need have : ℕ) → AreIds ids set → w < block_count f → need ≡ source_count f w → have ≡ had f set w
    → ((b : ℕ) → b < block_count f → have + source_count f b ≤ had f set b + need) → ((b : ℕ) → b < w → have + source_count f b < had f set b + need) → IsWeakest f ids w need have
found f set ids w need have are within needs has least first = record {
  within = within;
  needs = needs;
  has = has ∙ had_is f ids set are w;
  least = λ b l. let same = had_is f ids set are b in let before = least b l in omega (arith, same, before);
  first = λ b l. let same = had_is f ids set are b in let before = first b l in omega (arith, same, before);
}

-- the weakest of the blocks before this one
pub record IsBest (f : Fti) (set : BTreeSet (ℕ × ℕ)) (i w need have : ℕ) : Type 0 where
  pub within : w < block_count f
  pub needs : need ≡ source_count f w
  pub has : have ≡ had f set w
  pub small : (need ≤ 255) × (have ≤ 255)
  pub least : (b : ℕ) → b < i → have + source_count f b ≤ had f set b + need
  pub first : (b : ℕ) → b < w → have + source_count f b < had f set b + need

module _ (f : Fti) (set : BTreeSet (ℕ × ℕ)) (i w n h : ℕ) (best : IsBest f set i w n h) (m g : ℕ) (need : m ≡ source_count f i) (have : g ≡ had f set i) where
  pub better : i < block_count f → (m ≤ 255) × (g ≤ 255) → g + n < h + m → IsBest f set (i + 1) i m g
  better within small less = record {
    within = within;
    needs = need;
    has = have;
    small = small;
    least = better_least (source_count f) (had f set) n h i m g need have best.least less;
    first = better_first (source_count f) (had f set) n h i m g need have best.least less;
  }

  pub kept : h + m ≤ g + n → IsBest f set (i + 1) w n h
  kept no_less = record {
    within = best.within;
    needs = best.needs;
    has = best.has;
    small = best.small;
    least = kept_least (source_count f) (had f set) n h i m g need have best.least no_less;
    first = best.first;
  }

module _ (f : Fti) (set : BTreeSet (ℕ × ℕ)) (i w n h : ℕ) (best : IsBest f set i w n h) (ids : List (ℕ × ℕ)) (are : AreIds ids set) where
  pub best_of_all : block_count f ≤ i → IsWeakest f ids w n h
  best_of_all all = found f set ids w n h are best.within best.needs best.has (λ b l. best.least b (omega (arith, all, l))) best.first

pub best_at_gap : (f : Fti) (set : BTreeSet (ℕ × ℕ)) (i w n h : ℕ) → IsBest f set (i + 1) w n h → IsValidFti f → had f set i ≡ 0 → (ids : List (ℕ × ℕ)) → AreIds ids set → IsWeakest f ids w n h
best_at_gap f set i w n h best valid none ids are =
    found f set ids w n h are best.within best.needs best.has (λ b l. none_weaker (source_count f) (had f set) n h i (needs_fall f valid) none best.least b) best.first
