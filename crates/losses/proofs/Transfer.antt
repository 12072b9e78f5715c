-- Two lists of which each loss leaves the same symbols can lose the same.
use Rattle.std.specs.Prelude.{◌≡◌, ℕ, ◌+◌, ◌<◌, ◌≤◌, Bool, not, nat_le, List, length, filter, Option, Some, None}
use Rattle.std.specs.List.{AllByRecursion, list_any}
use Rattle.std.proofs.Common.{◌∙◌, sym, ap, subst, arith}
use Rattle.lists.specs.Selection.{rest, loss_size, lost_from, is_run, is_among}
use Rattle.lists.specs.Below.{below}
use Rattle.losses.specs.Losses.{Blocks, esis_in, is_enough, carrier_places, IsHarmless, IsMargin, IsBurst, IsBefore, taken_wholly, LeavesShort, KillsBlock, Kills, IsKill}
use Rattle.losses.specs.declared.longest.Run.{Run}
use Rattle.losses.specs.Runs.{Lacks, IsEnoughBefore, IsLongestRun, IsFirstBurst, IsRunFrom, run_at, AreRuns}
use Rattle.losses.proofs.BlockLosses.{KeepsBlocks, IsBlockMargin, IsBlockBurst, IsBlockKill}
use Rattle.lists.proofs.Lists.{filter_same, all_of, all_to}

module _ {X Y : Type 0} (these : Blocks X) (those : Blocks Y) (xs : List X) (ys : List Y)
    (count : those.count ≡ these.count) (need : (b : ℕ) → b < these.count → those.need b ≡ these.need b) (len : length ys ≡ length xs)
    (whole : (b j : ℕ) → b < these.count → those.has_symbol ys b j ≡ these.has_symbol xs b j)
    (left : (lost : ℕ → Bool) (b j : ℕ) → b < these.count → those.has_symbol (rest lost ys) b j ≡ these.has_symbol (rest lost xs) b j) where
  size_same : (lost : ℕ → Bool) → loss_size lost ys ≡ loss_size lost xs
  size_same lost = ap (lost_from 0 lost) len

  enough_same : (lost : ℕ → Bool) (b : ℕ) → b < these.count → is_enough those (rest lost ys) b ≡ is_enough these (rest lost xs) b
  enough_same lost b l =
      ap (λ (k : ℕ). nat_le k (length (esis_in those (rest lost ys) b))) (need b l)
      ∙ ap (λ (js : List ℕ). nat_le (these.need b) (length js)) (filter_same (those.has_symbol (rest lost ys) b) (these.has_symbol (rest lost xs) b) (below 256) (all_of _ (λ j. left lost b j l) (below 256)))

  keeps_to : (lost : ℕ → Bool) → KeepsBlocks these xs lost → KeepsBlocks those ys lost
  keeps_to lost h b l = let here : b < these.count = omega (arith, l, count) in enough_same lost b here ∙ h b here

  keeps_from : (lost : ℕ → Bool) → KeepsBlocks those ys lost → KeepsBlocks these xs lost
  keeps_from lost h b l = sym (enough_same lost b l) ∙ h b (omega (arith, l, count))

  pub block_margin_same : (m : ℕ) → IsBlockMargin these xs m → IsBlockMargin those ys m
  block_margin_same m h = record {
    bears = λ lost l. keeps_to lost (h.bears lost (let s = size_same lost in omega (arith, l, s)));
    greatest = λ n bears. h.greatest n (λ lost l. keeps_from lost (bears lost (let s = size_same lost in omega (arith, l, s))));
  }

  pub block_burst_same : (m : ℕ) → IsBlockBurst these xs m → IsBlockBurst those ys m
  block_burst_same m h = record {
    within = (let w = h.within in omega (arith, w, len));
    bears = λ a l. keeps_to (is_run a m) (h.bears a (omega (arith, l, len)));
    greatest = λ n l bears. h.greatest n (omega (arith, l, len)) (λ a g. keeps_from (is_run a n) (bears a (omega (arith, g, len))));
  }

  taken_same : (lost : ℕ → Bool) (b : ℕ) → b < these.count → taken_wholly those ys lost b ≡ taken_wholly these xs lost b
  taken_same lost b l =
      ap (filter (λ j. not (those.has_symbol (rest lost ys) b j))) (filter_same (those.has_symbol ys b) (these.has_symbol xs b) (below 256) (all_of _ (λ j. whole b j l) (below 256)))
      ∙ filter_same (λ j. not (those.has_symbol (rest lost ys) b j)) (λ j. not (these.has_symbol (rest lost xs) b j)) (esis_in these xs b)
      (all_of _ (λ j. ap not (left lost b j l)) (esis_in these xs b))

  short_to : (n b : ℕ) (lost : ℕ → Bool) → LeavesShort these xs n b lost → LeavesShort those ys n b lost
  short_to n b lost h = record {
    size = size_same lost ∙ h.size;
    block = (let l = h.block in omega (arith, l, count));
    short = enough_same lost b h.block ∙ h.short;
  }

  short_from : (n b : ℕ) (lost : ℕ → Bool) → LeavesShort those ys n b lost → LeavesShort these xs n b lost
  short_from n b lost h =
      let here : b < these.count = (let l = h.block in omega (arith, l, count)) in
      record {
        size = sym (size_same lost) ∙ h.size;
        block = here;
        short = sym (enough_same lost b here) ∙ h.short;
      }

  within_same : (places : List ℕ) → AllByRecursion (λ p. p < length xs) places → AllByRecursion (λ p. p < length ys) places
  within_same places h = all_to (λ p. p < length xs) (λ p. p < length ys) (λ p l. omega (arith, l, len)) places h

  module _ (n : ℕ) (places : List ℕ) (block : ℕ) (here : block < these.count) where
    least_same : ((b : ℕ) (lost : ℕ → Bool) → LeavesShort these xs n b lost → block ≤ b) → (b : ℕ) (lost : ℕ → Bool) → LeavesShort those ys n b lost → block ≤ b
    least_same h b lost s = h b lost (short_from n b lost s)

    first_same : ((lost : ℕ → Bool) → LeavesShort these xs n block lost → ¬ IsBefore (taken_wholly these xs lost block) (taken_wholly these xs (is_among places) block))
        → (lost : ℕ → Bool) → LeavesShort those ys n block lost → ¬ IsBefore (taken_wholly those ys lost block) (taken_wholly those ys (is_among places) block)
    first_same h lost s before =
        h lost (short_from n block lost s)
        (subst (λ (js : List ℕ). IsBefore (taken_wholly these xs lost block) js) (taken_same (is_among places) block here)
        (subst (λ (js : List ℕ). IsBefore js (taken_wholly those ys (is_among places) block)) (taken_same lost block here) before))

  pub block_kill_same : (n block : ℕ) (places : List ℕ) → IsBlockKill these xs n block places → IsBlockKill those ys n block places
  block_kill_same n block places h = record {
    rising = h.rising;
    count = h.count;
    within = within_same places h.within;
    short = short_to n block (is_among places) h.short;
    least = least_same n places block h.short.block h.least;
    first = first_same n places block h.short.block h.first;
  }

  killed_same : (n block : ℕ) (places : List ℕ) → KillsBlock these xs n block places → KillsBlock those ys n block places
  killed_same n block places h = record {
    short = short_to n block (is_among places) h.short;
    least = least_same n places block h.short.block h.least;
    first = first_same n places block h.short.block h.first;
  }

  -- and each loss of which leaves a carrier, or none
  module _ (carrier : (lost : ℕ → Bool) → list_any those.is_carrier (rest lost ys) ≡ list_any these.is_carrier (rest lost xs))
      (carriers : carrier_places those ys ≡ carrier_places these xs) where
    harmless_to : (lost : ℕ → Bool) → IsHarmless these xs lost → IsHarmless those ys lost
    harmless_to lost h = record { full = keeps_to lost h.full; carrier = carrier lost ∙ h.carrier }

    harmless_from : (lost : ℕ → Bool) → IsHarmless those ys lost → IsHarmless these xs lost
    harmless_from lost h = record { full = keeps_from lost h.full; carrier = sym (carrier lost) ∙ h.carrier }

    pub margin_same : (m : ℕ) → IsMargin these xs m → IsMargin those ys m
    margin_same m h = record {
      bears = λ lost l. harmless_to lost (h.bears lost (let s = size_same lost in omega (arith, l, s)));
      greatest = λ n bears. h.greatest n (λ lost l. harmless_from lost (bears lost (let s = size_same lost in omega (arith, l, s))));
    }

    pub burst_same : (m : ℕ) → IsBurst these xs m → IsBurst those ys m
    burst_same m h = record {
      within = (let w = h.within in omega (arith, w, len));
      bears = λ a l. harmless_to (is_run a m) (h.bears a (omega (arith, l, len)));
      greatest = λ n l bears. h.greatest n (omega (arith, l, len)) (λ a g. harmless_from (is_run a n) (bears a (omega (arith, g, len))));
    }

    kills_same : (n : ℕ) (places : List ℕ) (o : Option ℕ) → Kills these xs n places o → Kills those ys n places o
    kills_same n places None h = (h.0 ∙ sym carriers, λ b lost s. h.1 b lost (short_from n b lost s))
    kills_same n places (Some block) h = killed_same n block places h

    pub kill_same : (n : ℕ) (places : List ℕ) (o : Option ℕ) → IsKill these xs n places o → IsKill those ys n places o
    kill_same n places o h = record {
      count = h.count;
      within = (h.within.0, within_same places h.within.1);
      kills = kills_same n places o h.kills;
    }

    before_same : (lost : ℕ → Bool) (o : Option ℕ) → Lacks these (rest lost xs) o → IsEnoughBefore these (rest lost xs) o → IsEnoughBefore those (rest lost ys) o
    before_same lost None lacks h = λ a l. let here : a < these.count = omega (arith, l, count) in enough_same lost a here ∙ h a here
    before_same lost (Some b) lacks h = λ a l. (let up = lacks.0 in enough_same lost a (omega (arith, l, up))) ∙ h a l

    pub lacks_same : (lost : ℕ → Bool) (o : Option ℕ) → Lacks these (rest lost xs) o → Lacks those (rest lost ys) o
    lacks_same lost None h = carrier lost ∙ h
    lacks_same lost (Some b) h = (let l = h.0 in omega (arith, l, count), enough_same lost b h.0 ∙ h.1)

    lacks_from : (lost : ℕ → Bool) (o : Option ℕ) → Lacks those (rest lost ys) o → Lacks these (rest lost xs) o
    lacks_from lost None h = sym (carrier lost) ∙ h
    lacks_from lost (Some b) h =
        let l = h.0 in
        let here : b < these.count = omega (arith, l, count) in
        (here, sym (enough_same lost b here) ∙ h.1)

    longest_same : (s : ℕ) (run : Run) → IsLongestRun these xs s run → IsLongestRun those ys s run
    longest_same s run h = record {
      within = (let w = h.within in omega (arith, w, len));
      harmless = harmless_to (is_run s run.length) h.harmless;
      lacks = lacks_same (is_run s (run.length + 1)) run.block h.lacks;
    }

    longest_from : (s : ℕ) (run : Run) → IsLongestRun those ys s run → IsLongestRun these xs s run
    longest_from s run h = record {
      within = (let w = h.within in omega (arith, w, len));
      harmless = harmless_from (is_run s run.length) h.harmless;
      lacks = lacks_from (is_run s (run.length + 1)) run.block h.lacks;
    }

    pub first_burst_same : (size place : ℕ) (o : Option ℕ) → IsFirstBurst these xs size place o → IsFirstBurst those ys size place o
    first_burst_same size place o h = record {
      run = longest_same place (record { length = size; block = o }) h.run;
      first = λ p other l r. h.first p other l (longest_from p other r);
      before = before_same (is_run place (size + 1)) o h.run.lacks h.before;
    }

    run_same : (s : ℕ) (o : Option Run) → IsRunFrom these xs s o → IsRunFrom those ys s o
    run_same s None h = λ m l. harmless_to (is_run s m) (h m (omega (arith, l, len)))
    run_same s (Some run) h = longest_same s run h

    pub runs_same : (runs : List (Option Run)) → AreRuns these xs runs → AreRuns those ys runs
    runs_same runs h = record {
      count = h.count ∙ sym len;
      each = λ s l. run_same s (run_at runs s) (h.each s (omega (arith, l, len)));
    }
