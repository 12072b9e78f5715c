-- What a scan over the datagrams finds.
use Rattle.std.specs.Prelude.{◌≡◌, ◌≢◌, ℕ, ◌<◌, ◌≤◌, ◌==◌, cond, List, [], ◌∷◌, ◌++◌, length, true}
use Rattle.std.specs.Prelude.{Option, Some, None, map}
use Rattle.std.specs.List.{list_any}
use Rattle.losses.specs.declared.groups.Member.{Member}
use Rattle.losses.specs.Groups.{Group, group_at, different}
use Rattle.partition.specs.Fti.{Fti, block_count, source_count}
use Rattle.reception.specs.declared.scope.Identity.{Identity}
use Rattle.reception.specs.Symbols.{Symbol, arrived_count}
use Rattle.reception.specs.Reception.{Placed, symbols_in, is_carrier, Suffices}
use Rattle.reception.specs.Walks.{readings_of}
use Rattle.cert.specs.declared.verdict.Verdict.{Verdict}
use Rattle.cert.specs.declared.verdict.Verdict.TheVariants.{Yes, No}
use Rattle.certificate.specs.Certificate.{Certificate}
use Rattle.cert.specs.Verdict.{IsAgainst, AreCertified}
use Rattle.lists.specs.Below.{below}

-- the symbols of block b among these, which stand at place i
abbrev pub members_at : ℕ → ℕ → List Symbol → List Member
members_at b i [] = []
members_at b i (s ∷ ss) =
    cond (s.block == b) (record { place = i; esi = s.esi } ∷ members_at b i ss) (members_at b i ss)

-- the places and ESIs of the symbols of block b
abbrev pub members_of : ℕ → List Placed → List Member
members_of b [] = []
members_of b (x ∷ xs) = members_at b x.place (symbols_in x.reading) ++ members_of b xs

-- a group for each block: its source symbols and where its symbols stand
pub record AreGroupsOf (f : Fti) (xs : List Placed) (groups : List Group) : Type 0 where
  pub count : length groups ≡ block_count f
  pub need : (b : ℕ) → b < block_count f → (group_at groups b).need ≡ source_count f b
  pub members : (b : ℕ) → b < block_count f → (group_at groups b).members ≡ members_of b xs

-- the symbol at a place stands behind the others of its block, and all else is as it was
pub record IsPut (old : List Group) (place : ℕ) (s : Symbol) (new : List Group) : Type 0 where
  pub count : length new ≡ length old
  pub need : (b : ℕ) → b < length old → (group_at new b).need ≡ (group_at old b).need
  pub here : (group_at new s.block).members ≡ (group_at old s.block).members
      ++ record { place = place; esi = s.esi } ∷ []
  pub elsewhere : (b : ℕ) → b < length old → b ≢ s.block
      → (group_at new b).members ≡ (group_at old b).members

-- the places of the carriers, and with them that of a packet which carries an FTI
abbrev pub with_carrier : List ℕ → ℕ → Option Fti → List ℕ
with_carrier carriers place (Some f) = carriers ++ place ∷ []
with_carrier carriers place None = carriers

-- how many different symbols a group has
abbrev pub different_in : List Group → ℕ → ℕ
different_in groups b = different (group_at groups b).members

-- how many symbols a group needs, and how many different ones it has
abbrev pub line_in : List Group → ℕ → ℕ × ℕ
line_in groups b = ((group_at groups b).need, different_in groups b)

-- each group has as many different symbols as it needs
abbrev pub AreEnough : List Group → Type 0
AreEnough groups = (b : ℕ) → b < length groups → (group_at groups b).need ≤ different_in groups b

-- the least group that hasn't
pub record IsFirstShortGroup (groups : List Group) (b have need : ℕ) : Type 0 where
  pub block : b < length groups
  pub have_is : have ≡ different_in groups b
  pub need_is : need ≡ (group_at groups b).need
  pub few : have < need
  pub blocks_before : (a : ℕ) → a < b → (group_at groups a).need ≤ different_in groups a

-- what a yes says of the datagrams
pub record AreEnoughCertified (who : Identity) (datagrams : List (List ℕ))
    (z : Certificate) : Type 0 where
  pub all : AreCertified who (readings_of datagrams) z
  pub full : Suffices who z.fti (readings_of datagrams)
  pub carrier : list_any (is_carrier who) (readings_of datagrams) ≡ true

-- the verdict on datagrams, where the certificate has the identity's name and gives the object
abbrev pub VerdictWhereGiven : Identity → List (List ℕ) → Certificate → Verdict → Type 0
VerdictWhereGiven who datagrams z (Yes report) = AreEnoughCertified who datagrams z
VerdictWhereGiven who datagrams z (No reason) = IsAgainst who (readings_of datagrams) z reason

-- for each block below n its source symbols, and how many different ESIs of it came
abbrev pub block_lines : Fti → List Symbol → ℕ → List (ℕ × ℕ)
block_lines f arrivals n = map (λ b. (source_count f b, arrived_count arrivals b)) (below n)
