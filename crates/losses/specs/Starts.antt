-- Runs as they are made: from each place on the shortest that is known to be too long.
use Rattle.std.specs.Prelude.{◌≡◌, ℕ, ◌+◌, ◌-◌, ◌<◌, ◌≤◌, ◌⊎◌, nat_lt, cond, List, length}
use Rattle.std.specs.Prelude.{slice_index, Option, Some, None}
use Rattle.losses.specs.declared.groups.Member.{Member}
use Rattle.losses.specs.declared.longest.Run.{Run}
use Rattle.losses.specs.declared.window.Window.{Window}
use Rattle.losses.specs.Groups.{Group, group_at}
use Rattle.losses.specs.Members.{outside, different_outside}
use Rattle.losses.specs.Runs.{run_at}
use Rattle.losses.specs.Windows.{IsShortWindow, filled, place_at}

-- a window on the members, with what is left outside it; without its last member it leaves k
pub record IsWindow (qs : List Member) (k : ℕ) (w : Window) : Type 0 where
  pub size : length w.copies ≡ 256
  pub copies : (j : ℕ) → j < 256 → slice_index w.copies j ≡ outside qs w.start w.end j
  pub left : w.left ≡ filled w.copies
  pub order : w.start ≤ w.end
  pub within : w.end ≤ length qs
  pub before : (y : ℕ) → y < w.end → k ≤ different_outside qs w.start y

-- the places from a to e have those of a window that leaves fewer than k
pub record HaveWindow (qs : List Member) (k a e : ℕ) : Type 0 where
  pub start : ℕ
  pub end : ℕ
  pub is : IsShortWindow qs k start end
  pub from : a ≤ place_at qs start
  pub to : place_at qs (end - 1) ≤ e

-- the first of the windows that leave fewer than k and go no further than the gap
pub record IsFirstGap (qs : List Member) (k place gap : ℕ) : Type 0 where
  pub window : HaveWindow qs k place (place + gap)
  pub first : (x y : ℕ) → IsShortWindow qs k x y → place_at qs (y - 1) ≤ place_at qs x + gap
      → place ≤ place_at qs x

-- the shorter of two runs
abbrev pub shorter : Option Run → Run → Run
shorter None run = run
shorter (Some old) run = cond (nat_lt run.length old.length) run old

-- a run that isn't longer than m
abbrev pub IsUpTo : Option Run → ℕ → Type 0
IsUpTo None m = ⊥
IsUpTo (Some run) m = run.length ≤ m

-- the group's windows were added that start with the members before x
pub record AreMarked (qs : List Member) (k block x : ℕ) (old new : List (Option Run)) : Type 0 where
  pub count : length new ≡ length old
  pub sound : (s : ℕ) (run : Run) → run_at new s ≡ Some run
      → (run_at old s ≡ Some run)
      ⊎ ((run.block ≡ Some block) × HaveWindow qs k s (s + run.length)
      × (s + run.length < length old))
  pub kept : (s m : ℕ) → IsUpTo (run_at old s) m → IsUpTo (run_at new s) m
  pub seen : (i y : ℕ) → i < x → IsShortWindow qs k i y
      → IsUpTo (run_at new (place_at qs i)) (place_at qs (y - 1) - place_at qs i)

-- a run that ends where one ends that begins behind it
pub record IsFromBehind (runs : List (Option Run)) (s : ℕ) (run : Run) : Type 0 where
  pub by : ℕ
  pub behind : Run
  pub is : run_at runs (s + by) ≡ Some behind
  pub size : run.length ≡ behind.length + by
  pub block : run.block ≡ behind.block

-- from place p on each run ends no later than those that begin behind it
pub record AreSpread (p : ℕ) (old new : List (Option Run)) : Type 0 where
  pub count : length new ≡ length old
  pub sound : (s : ℕ) (run : Run) → run_at new s ≡ Some run → IsFromBehind old s run
  pub kept : (s : ℕ) → s < p → run_at new s ≡ run_at old s
  pub seen : (s by m : ℕ) → p ≤ s → s + by < length old → IsUpTo (run_at old (s + by)) m
      → IsUpTo (run_at new s) (m + by)

-- the places from a to e have those of a window that leaves this group short, or of all carriers
abbrev pub AreShort : List Group → List ℕ → ℕ → ℕ → Option ℕ → Type 0
AreShort groups carriers a e (Some b) =
    (b < length groups) × HaveWindow (group_at groups b).members (group_at groups b).need a e
AreShort groups carriers a e None =
    (a ≤ slice_index carriers 0) × (slice_index carriers (length carriers - 1) ≤ e)

-- the windows of the groups below n were added
pub record AreGroupsMarked (groups : List Group) (carriers : List ℕ) (len n : ℕ)
    (runs : List (Option Run)) : Type 0 where
  pub count : length runs ≡ len
  pub sound : (s : ℕ) (run : Run) → run_at runs s ≡ Some run
      → (s + run.length < len) × AreShort groups carriers s (s + run.length) run.block
  pub seen : (b i y : ℕ) → b < n
      → IsShortWindow (group_at groups b).members (group_at groups b).need i y
      → IsUpTo (run_at runs (place_at (group_at groups b).members i))
      (place_at (group_at groups b).members (y - 1) - place_at (group_at groups b).members i)

-- the windows of all groups and the carriers' run, each from its start on and from places before it
pub record AreFilled (groups : List Group) (carriers : List ℕ) (len : ℕ)
    (runs : List (Option Run)) : Type 0 where
  pub made : List (Option Run)
  pub marked : AreGroupsMarked groups carriers len (length groups) made
  pub taken : IsUpTo (run_at made (slice_index carriers 0))
      (slice_index carriers (length carriers - 1) - slice_index carriers 0)
  pub spread : AreSpread 0 made runs
