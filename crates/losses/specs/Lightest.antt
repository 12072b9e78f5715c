-- The group whose loss costs least, and the first of the narrowest windows.
use Rattle.std.specs.Prelude.{ℕ, ◌+◌, ◌-◌, ◌<◌, ◌≤◌, List, length}
use Rattle.losses.specs.Costs.{IsWeighed}
use Rattle.losses.specs.Starts.{HaveWindow}
use Rattle.losses.specs.Windows.{IsLeastGap, IsShortWindow, place_at}
use Rattle.losses.specs.Groups.{Group, group_at}
use Rattle.losses.specs.declared.report.Lightest.{Lightest}

-- a group costs no less than the least, and more before group `at`
pub record IsHeavyGroup (b : ℕ) (g : Group) (least at : ℕ) : Type 0 where
  pub t : ℕ
  pub last : ℕ
  pub price : ℕ
  pub weighed : IsWeighed g.members g.need price t last
  pub low : least ≤ price
  pub early : b < at → least < price

-- a group's least gap is no less than the least
pub record IsWideGroup (g : Group) (least : ℕ) : Type 0 where
  pub gap : ℕ
  pub is : IsLeastGap g.members g.need gap
  pub low : least ≤ gap

-- some group below n has this gap
pub record IsNarrowGroup (groups : List Group) (n gap : ℕ) : Type 0 where
  pub at : ℕ
  pub within : at < n
  pub is : IsLeastGap (group_at groups at).members (group_at groups at).need gap

-- of the groups below n, the first that costs least, and the narrowest gap
pub record AreLeast (groups : List Group) (n at cost most_copies last_esi burst : ℕ) : Type 0 where
  pub within : at < n
  pub weighed : IsWeighed (group_at groups at).members
      (group_at groups at).need cost most_copies last_esi
  pub heavy : (b : ℕ) → b < n → IsHeavyGroup b (group_at groups b) cost at
  pub narrow : IsNarrowGroup groups n burst
  pub wide : (b : ℕ) → b < n → IsWideGroup (group_at groups b) burst

abbrev pub IsLightest : List Group → Lightest → Type 0
IsLightest groups l =
    AreLeast groups
    (length groups) l.at l.threshold.cost l.threshold.most_copies l.threshold.last_esi l.gap.length

-- of the groups below n, the first place of a window that goes no further than the gap, and the
-- first group that it leaves short
pub record AreNarrowest (groups : List Group) (n at place gap : ℕ) : Type 0 where
  pub within : at < n
  pub window : HaveWindow (group_at groups at).members (group_at groups at).need place (place + gap)
  pub first : (b x y : ℕ) → b < n
      → IsShortWindow (group_at groups b).members (group_at groups b).need x y
      → place_at (group_at groups b).members (y - 1) ≤ place_at (group_at groups b).members x + gap
      → place ≤ place_at (group_at groups b).members x
  pub early : (b x y : ℕ) → b < at
      → IsShortWindow (group_at groups b).members (group_at groups b).need x y
      → place_at (group_at groups b).members (y - 1) ≤ place_at (group_at groups b).members x + gap
      → place < place_at (group_at groups b).members x

abbrev pub IsNarrowest : List Group → Lightest → Type 0
IsNarrowest groups l = AreNarrowest groups (length groups) l.gap_at l.gap.place l.gap.length
