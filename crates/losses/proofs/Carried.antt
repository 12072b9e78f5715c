-- The carriers as one more block, which needs one symbol and has one, of which each carrier is a
-- copy: what the blocks can lose with it is what a list can lose.
use Rattle.std.specs.Prelude.{◌≡◌, ℕ, suc, ◌+◌, ◌<◌, ◌≤◌, Bool, true, false, ◌&&◌, ◌||◌, ◌==◌, not, nat_le, nat_lt, cond, List, [], ◌∷◌, length, filter, Option, Some, None, refl}
use Rattle.std.specs.List.{list_any, AllByRecursion}
use Rattle.std.proofs.Common.{◌∙◌, sym, ap, subst, arith, ltb-true, leb-true}
use Rattle.std.proofs.lemmas.Bool.{lt-ltb, le-ltb, ltb-false, leb-false}
use Rattle.lists.specs.Below.{below}
use Rattle.lists.specs.Selection.{rest_from, rest, is_among, is_run}
use Rattle.losses.specs.Losses.{Blocks, places_from, carrier_places, is_enough, taken_wholly, IsHarmless, IsMargin, IsBurst, IsKill, LeavesShort, IsBefore}
use Rattle.losses.specs.Runs.{Lacks}
use Rattle.losses.proofs.BlockLosses.{KeepsBlocks, IsBlockMargin, IsBlockBurst, IsBlockKill}
use Rattle.losses.proofs.Places.{marks_places, marks_rest, marks_size, places_count, places_rise}
use Rattle.losses.proofs.Rising.{sub_same}

abbrev pub carried : {X : Type 0} → Blocks X → Blocks X
carried blocks = record {
  count = suc blocks.count;
  need = λ b. cond (nat_lt b blocks.count) (blocks.need b) 1;
  has_symbol = λ xs b j. cond (nat_lt b blocks.count) (blocks.has_symbol xs b j) (0 == j && list_any blocks.is_carrier xs);
  is_carrier = blocks.is_carrier;
}

all_lost : {X : Type 0} (g : X → Bool) (lost : ℕ → Bool) (i : ℕ) (xs : List X) → list_any g (rest_from i lost xs) ≡ false → AllByRecursion (λ p. lost p ≡ true) (places_from g i xs)
all_lost g lost i [] h = tt
all_lost g lost i (x ∷ xs) h =
    elim (lost i) as (λ v. lost i ≡ v → list_any g (cond v (rest_from (i + 1) lost xs) (x ∷ rest_from (i + 1) lost xs)) ≡ false → AllByRecursion (λ p. lost p ≡ true) (places_from g i (x ∷ xs))) [
      | true ↦ λ e k. gone (g x) e (all_lost g lost (i + 1) xs k)
      | false ↦ λ e k. here (g x) k (λ l. all_lost g lost (i + 1) xs l)
    ] refl h
  where
    gone : (v : Bool) → lost i ≡ true → AllByRecursion (λ p. lost p ≡ true) (places_from g (i + 1) xs)
        → AllByRecursion (λ p. lost p ≡ true) (cond v (i ∷ places_from g (i + 1) xs) (places_from g (i + 1) xs))
    gone true e k = (e, k)
    gone false e k = k

    here : (v : Bool) → (v || list_any g (rest_from (i + 1) lost xs)) ≡ false → (list_any g (rest_from (i + 1) lost xs) ≡ false → AllByRecursion (λ p. lost p ≡ true) (places_from g (i + 1) xs))
        → AllByRecursion (λ p. lost p ≡ true) (cond v (i ∷ places_from g (i + 1) xs) (places_from g (i + 1) xs))
    here true e k = absurd (cc)
    here false e k = k e

none_left : {X : Type 0} (g : X → Bool) (xs : List X) → list_any g (filter (λ x. not (g x)) xs) ≡ false
none_left g [] = refl
none_left g (x ∷ xs) =
    elim (g x) as (λ v. g x ≡ v → list_any g (cond (not v) (x ∷ filter (λ y. not (g y)) xs) (filter (λ y. not (g y)) xs)) ≡ false) [
      | true ↦ λ e. none_left g xs
      | false ↦ λ e. rw e (none_left g xs)
    ] refl

last_enough : (v : Bool) → nat_le 1 (length (filter (λ j. 0 == j && v) (below 256))) ≡ v
unfolding below
last_enough true = refl
last_enough false = refl

module _ {X : Type 0} (blocks : Blocks X) where
  enough_block : (xs : List X) (b : ℕ) → b < blocks.count → is_enough (carried blocks) xs b ≡ is_enough blocks xs b
  enough_block xs b hb =
      ap (λ (v : Bool). nat_le (cond v (blocks.need b) 1) (length (filter (λ j. cond v (blocks.has_symbol xs b j) (0 == j && list_any blocks.is_carrier xs)) (below 256)))) (lt-ltb b blocks.count hb)

  enough_last : (xs : List X) → is_enough (carried blocks) xs blocks.count ≡ list_any blocks.is_carrier xs
  enough_last xs =
      ap (λ (v : Bool). nat_le (cond v (blocks.need blocks.count) 1) (length (filter (λ j. cond v (blocks.has_symbol xs blocks.count j) (0 == j && list_any blocks.is_carrier xs)) (below 256)))) (le-ltb blocks.count blocks.count (omega arith))
      ∙ last_enough (list_any blocks.is_carrier xs)

  module _ (xs : List X) where
    harmless_from : (lost : ℕ → Bool) → KeepsBlocks (carried blocks) xs lost → IsHarmless blocks xs lost
    harmless_from lost h = record {
      full = λ b hb. sym (enough_block (rest lost xs) b hb) ∙ h b (omega (arith, hb));
      carrier = sym (enough_last (rest lost xs)) ∙ h blocks.count (omega arith);
    }

    harmless_to : (lost : ℕ → Bool) → IsHarmless blocks xs lost → KeepsBlocks (carried blocks) xs lost
    harmless_to lost h b hb =
        elim (nat_lt b blocks.count) as (λ v. nat_lt b blocks.count ≡ v → is_enough (carried blocks) (rest lost xs) b ≡ true) [
          | true ↦ λ e. (let l = ltb-true b blocks.count e in enough_block (rest lost xs) b l ∙ h.full b l)
          | false ↦ λ e.
              (let n = ltb-false b blocks.count e in
              let is : blocks.count ≡ b = omega (arith, n, hb) in
              subst (λ (x : ℕ). is_enough (carried blocks) (rest lost xs) x ≡ true) is (enough_last (rest lost xs) ∙ h.carrier))
        ] refl

    pub margin_with_carriers : (m : ℕ) → IsBlockMargin (carried blocks) xs m → IsMargin blocks xs m
    margin_with_carriers m h = record {
      bears = λ lost l. harmless_from lost (h.bears lost l);
      greatest = λ n bears. h.greatest n (λ lost l. harmless_to lost (bears lost l));
    }

    pub burst_with_carriers : (m : ℕ) → IsBlockBurst (carried blocks) xs m → IsBurst blocks xs m
    burst_with_carriers m h = record {
      within = h.within;
      bears = λ a l. harmless_from (is_run a m) (h.bears a l);
      greatest = λ n l bears. h.greatest n l (λ a k. harmless_to (is_run a n) (bears a k));
    }

    short_block : (n b : ℕ) (lost : ℕ → Bool) → b < blocks.count → LeavesShort (carried blocks) xs n b lost → LeavesShort blocks xs n b lost
    short_block n b lost hb h = record { size = h.size; block = hb; short = sym (enough_block (rest lost xs) b hb) ∙ h.short }

    short_group : (n b : ℕ) (lost : ℕ → Bool) → LeavesShort blocks xs n b lost → LeavesShort (carried blocks) xs n b lost
    short_group n b lost h = record { size = h.size; block = (let l = h.block in omega (arith, l)); short = enough_block (rest lost xs) b h.block ∙ h.short }

    taken_block : (lost : ℕ → Bool) (b : ℕ) → b < blocks.count → taken_wholly (carried blocks) xs lost b ≡ taken_wholly blocks xs lost b
    taken_block lost b hb =
        ap (λ (v : Bool). filter (λ j. not (cond v (blocks.has_symbol (rest lost xs) b j) (0 == j && list_any blocks.is_carrier (rest lost xs)))) (filter (λ j. cond v (blocks.has_symbol xs b j) (0 == j && list_any blocks.is_carrier xs)) (below 256)))
        (lt-ltb b blocks.count hb)

    -- where a loss of so many places leaves a block short
    pub kill_with_block : (n block : ℕ) (ps : List ℕ) → block < blocks.count → IsBlockKill (carried blocks) xs n block ps → IsKill blocks xs n ps (Some block)
    kill_with_block n block ps here k = record {
      count = k.count;
      within = (k.rising, k.within);
      kills = record {
        short = short_block n block (is_among ps) here k.short;
        least = λ c x s. k.least c x (short_group n c x s);
        first = λ x s before.
            k.first x (short_group n block x s)
            (subst (λ (js : List ℕ). IsBefore (taken_wholly (carried blocks) xs x block) js) (sym (taken_block (is_among ps) block here))
            (subst (λ (js : List ℕ). IsBefore js (taken_wholly blocks xs (is_among ps) block)) (sym (taken_block x block here)) before));
      };
    }

    all_gone : list_any blocks.is_carrier (rest (is_among (carrier_places blocks xs)) xs) ≡ false
    all_gone =
        let g = blocks.is_carrier in
        let all = is_among (places_from g 0 xs) in
        let left : rest all xs ≡ filter (λ x. not (g x)) xs = marks_rest g all 0 xs (marks_places g 0 xs) in
        ap (λ (ys : List X). list_any g ys) left ∙ none_left g xs

    all_taken : (m : ℕ) (ps : List ℕ) → IsBlockMargin (carried blocks) xs m → IsBlockKill (carried blocks) xs (m + 1) blocks.count ps → ps ≡ carrier_places blocks xs
    all_taken m ps margin k =
        let g = blocks.is_carrier in
        let gone : list_any g (rest (is_among ps) xs) ≡ false = sym (enough_last (rest (is_among ps) xs)) ∙ k.short.short in
        let sub = all_lost g (is_among ps) 0 xs gone in
        let all = is_among (places_from g 0 xs) in
        let size = marks_size g all 0 xs (marks_places g 0 xs) in
        let long = places_count g 0 xs in
        let dead = all_gone in
        let many : m + 1 ≤ length (places_from g 0 xs) =
        elim (nat_le (length (places_from g 0 xs)) m) as (λ v. nat_le (length (places_from g 0 xs)) m ≡ v → m + 1 ≤ length (places_from g 0 xs)) [
          | true ↦ λ e.
              (let l = leb-true _ _ e in
              let h = (harmless_from all (margin.bears all (omega (arith, l, size, long)))).carrier in
              absurd (cc))
          | false ↦ λ e. (let l = leb-false _ _ e in omega (arith, l))
        ] refl in
        let n = k.count in
        sym (sub_same (places_from g 0 xs) ps (places_rise g 0 xs) k.rising sub (omega (arith, n, many)))

    -- and where none does: the carriers' block is the last
    pub kill_with_carriers : (m : ℕ) (ps : List ℕ) → IsBlockMargin (carried blocks) xs m → IsBlockKill (carried blocks) xs (m + 1) blocks.count ps → IsKill blocks xs (m + 1) ps None
    kill_with_carriers m ps margin k = record {
      count = k.count;
      within = (k.rising, k.within);
      kills = (
        all_taken m ps margin k,
        λ b lost s.
            (let low = k.least b lost (short_group (m + 1) b lost s) in
            let l = s.block in
            absurd (omega (arith, low, l))),
      );
    }

    -- what a kill leaves short
    pub lacks_of_kill : (n : ℕ) (ps : List ℕ) (o : Option ℕ) → IsKill blocks xs n ps o → Lacks blocks (rest (is_among ps) xs) o
    lacks_of_kill n ps None k = subst (λ (qs : List ℕ). list_any blocks.is_carrier (rest (is_among qs) xs) ≡ false) (sym k.kills.0) all_gone
    lacks_of_kill n ps (Some block) k = (k.kills.short.block, k.kills.short.short)
