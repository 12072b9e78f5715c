-- The ESIs of a block that came, as its group has them.
use Rattle.std.proofs.Common.{◌≡◌, ◌<◌, ◌++◌, true, false, cond, ℕ, List, [], ◌∷◌, length, map, refl, sym, ap, ◌∙◌}
use Rattle.std.specs.Prelude.{◌==◌}
use Rattle.std.proofs.lemmas.List.{map-append}
use Rattle.losses.specs.Groups.{Group, group_at}
use Rattle.losses.specs.declared.groups.Member.{Member}
use Rattle.partition.specs.Fti.{Fti, block_count, source_count}
use Rattle.reception.specs.Symbols.{Symbol}
use Rattle.reception.specs.declared.scope.Identity.{Identity}
use Rattle.reception.specs.Reception.{Placed, counted, symbols, symbols_in}
use Rattle.reception.specs.Walks.{readings_of}
use Rattle.cert.specs.Scan.{members_at, members_of, AreGroupsOf, IsFirstShortGroup}
use Rattle.cert.specs.Twins.{different_esis, esis_of}
use Rattle.cert.proofs.Bridge.{short_group}
use Rattle.cert.proofs.Short.{esis_more, few_held}

esis_at : (b i : ℕ) (ss : List Symbol) → map (λ (q : Member). q.esi) (members_at b i ss) ≡ esis_of b ss
esis_at b i [] = refl
esis_at b i (s ∷ ss) =
    elim (s.block == b) as (λ v. map (λ (q : Member). q.esi) (cond v (record { place = i; esi = s.esi } ∷ members_at b i ss) (members_at b i ss)) ≡ cond v (s.esi ∷ []) [] ++ esis_of b ss) [
      | true ↦ ap (λ (js : List ℕ). s.esi ∷ js) (esis_at b i ss)
      | false ↦ esis_at b i ss
    ]

esis_of_placed : (b : ℕ) (xs : List Placed) → map (λ (q : Member). q.esi) (members_of b xs) ≡ esis_of b (symbols xs)
esis_of_placed b [] = refl
esis_of_placed b (x ∷ xs) =
    map-append (λ (q : Member). q.esi) (members_at b x.place (symbols_in x.reading)) (members_of b xs)
    ∙ ap (λ (js : List ℕ). js ++ map (λ (q : Member). q.esi) (members_of b xs)) (esis_at b x.place (symbols_in x.reading))
    ∙ ap (λ (js : List ℕ). esis_of b (symbols_in x.reading) ++ js) (esis_of_placed b xs)
    ∙ sym (esis_more b (symbols_in x.reading) (symbols xs))

pub held_esis : (f : Fti) (xs : List Placed) (groups : List Group) (b : ℕ) → AreGroupsOf f xs groups → b < block_count f
    → map (λ (q : Member). q.esi) (group_at groups b).members ≡ esis_of b (symbols xs)
held_esis f xs groups b are within = ap (map (λ (q : Member). q.esi)) (are.members b within) ∙ esis_of_placed b xs

-- a tally's least short block is one of the FTI's, and fewer different ESIs of it came than it needs
pub few_in_group : (who : Identity) (f : Fti) (ds : List (List ℕ)) (groups : List Group) → AreGroupsOf f (counted who (readings_of ds)) groups → (b have need : ℕ) → IsFirstShortGroup groups b have need
    → (b < block_count f) × (length (different_esis (map (λ (q : Member). q.esi) (group_at groups b).members)) < source_count f b)
few_in_group who f ds groups are b have need h =
    let w = short_group who f (readings_of ds) groups are b have need h in (
      w.0.in_range,
      rw (held_esis f (counted who (readings_of ds)) groups b are w.0.in_range) (few_held f b (symbols (counted who (readings_of ds))) w.0),
    )
