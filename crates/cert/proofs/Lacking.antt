-- What a tally says of its datagrams where nothing lacks.
use Rattle.std.proofs.Common.{◌≡◌, ◌∙◌, ℕ, List, true, false, length, sym, ap, subst, arith}
use Rattle.std.specs.Prelude.{nat_lt}
use Rattle.std.specs.List.{list_any}
use Rattle.std.proofs.lemmas.Bool.{lt-ltb, le-ltb}
use Rattle.std.proofs.lemmas.List.{length-map}
use Rattle.losses.specs.Groups.{groups_of, AreCarriers, AreGroups}
use Rattle.losses.proofs.CarrierPlaces.{are_carriers}
use Rattle.partition.specs.Fti.{Fti}
use Rattle.alc.specs.Computed.{read_of}
use Rattle.reception.specs.Reception.{counted, symbols, is_carrier}
use Rattle.reception.specs.Walks.{readings_of}
use Rattle.certificate.specs.Certificate.{Certificate}
use Rattle.cert.specs.Scan.{AreEnoughCertified}
use Rattle.cert.specs.Tallying.{IsTally, LacksNothing, Says, by_certificate, tallied_of}
use Rattle.cert.specs.declared.tally.Tally.{Tally}
use Rattle.cert.proofs.Bridge.{enough_full}
use Rattle.cert.proofs.CarrierPlaces.{any_place}
use Rattle.cert.proofs.DatagramSteps.{all_sound}
use Rattle.cert.proofs.Judging.{are_certified, some_came}
use Rattle.cert.proofs.Losing.{are_groups}

module _ (says : Says) (f : Fti) (tally : Tally) (datagrams : List (List ℕ)) (h : IsTally says f tally datagrams) where
  -- whether a carrier came
  any_carrier : list_any (is_carrier tally.scope.identity) (readings_of datagrams) ≡ nat_lt 0 (length tally.carriers.items)
  any_carrier = any_place (is_carrier tally.scope.identity) 0 (readings_of datagrams) ∙ ap (λ (ps : List ℕ). nat_lt 0 (length ps)) (sym h.tallied.placed)

  pub no_carrier : length tally.carriers.items ≡ 0 → list_any (is_carrier tally.scope.identity) (readings_of datagrams) ≡ false
  no_carrier none = any_carrier ∙ le-ltb 0 (length tally.carriers.items) (omega (arith, none))

  pub many : length (readings_of datagrams) ≡ tally.count
  many = length-map datagrams read_of ∙ h.tallied.many

  module _ (all : LacksNothing tally) where
    pub carrier_came : list_any (is_carrier tally.scope.identity) (readings_of datagrams) ≡ true
    carrier_came = any_carrier ∙ lt-ltb 0 (length tally.carriers.items) all.carrier

    -- the groups' and the carriers' places are those of so many datagrams
    pub groups_there : AreGroups (groups_of tally.groups) (length (readings_of datagrams))
    groups_there =
        are_groups tally.scope.identity f h.valid (readings_of datagrams) (all_sound says f (tallied_of tally) datagrams h.tallied) (groups_of tally.groups) h.tallied.grouped all.enough

    pub carriers_there : AreCarriers tally.carriers.items (length (readings_of datagrams))
    carriers_there =
        subst (λ (ps : List ℕ). AreCarriers ps (length (readings_of datagrams))) (sym h.tallied.placed)
        (are_carriers (is_carrier tally.scope.identity) (readings_of datagrams) carrier_came)

-- all of them are as certified
pub enough_certified : (z : Certificate) (tally : Tally) (datagrams : List (List ℕ)) → IsTally (by_certificate z) z.fti tally datagrams → LacksNothing tally
    → AreEnoughCertified tally.scope.identity datagrams z
enough_certified z tally datagrams h all = record {
  all =
      are_certified tally.scope.identity z (readings_of datagrams) h.tallied.clean
      (some_came (symbols (counted tally.scope.identity (readings_of datagrams))) tally.taken h.tallied.counts all.some);
  full = enough_full tally.scope.identity z.fti (readings_of datagrams) (groups_of tally.groups) h.tallied.grouped all.enough;
  carrier = carrier_came (by_certificate z) z.fti tally datagrams h all;
}
