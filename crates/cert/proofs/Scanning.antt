-- A scan over the datagrams, one by one.
use Rattle.std.proofs.Common.{◌≡◌, ◌∙◌, ℕ, ◌<◌, true, List, Some, take, sym, ap, arith, ltb-true}
use Rattle.lists.proofs.Lists.{both}
use Rattle.partition.specs.Fti.{Fti, IsValidFti, block_count, encoding_count}
use Rattle.partition.proofs.Laws.{counts}
use Rattle.alc.specs.Packet.{Packet}
use Rattle.reception.specs.Reception.{counted, with_fti}
use Rattle.reception.specs.declared.scope.Identity.{Identity}
use Rattle.reception.specs.declared.scope.Scope.{Scope}
use Rattle.reception.specs.Walks.{readings_of, in_range}
use Rattle.reception.proofs.Stepping.{stays}
use Rattle.reception.proofs.Walking.{Walked}
use Rattle.certificate.specs.Certificate.{Certificate}
use Rattle.cert.specs.Verdict.{uncertified}

-- an ESI in range is below 255
pub in_range_small : (f : Fti) (p : Packet) → IsValidFti f → in_range p f ≡ true → p.esi < 255
in_range_small f p valid range =
    let w = both _ _ range in
    let b = ltb-true p.block (block_count f) w.0 in
    let e = ltb-true p.esi (encoding_count f p.block) w.1 in
    omega (arith, e, counts f valid p.block b)

-- the datagrams before a place have no reason against them
abbrev pub Scanned : Identity → Certificate → List (List ℕ) → ℕ → Scope → Type 0
Scanned who z ds place scope = Walked (uncertified z) (with_fti who z.fti) ds place scope

-- the certificate's FTI holds
pub scanned_fti : (who : Identity) (z : Certificate) (ds : List (List ℕ)) (place : ℕ) (scope : Scope) → Scanned who z ds place scope → scope.fti ≡ Some z.fti
scanned_fti who z ds place scope h =
    sym (ap (λ (s : Scope). s.fti) h.holds) ∙ ap (λ (s : Scope). s.fti) (stays who z.fti (counted who (take place (readings_of ds))))
