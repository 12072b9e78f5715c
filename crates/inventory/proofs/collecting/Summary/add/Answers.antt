use Rattle.std.proofs.Common.{◌∙◌, ◌++◌, ◌∷◌, [], List, ℕ, Err, sym, subst, ap, arith}
use Rattle.std.specs.BTreeMap.{get}
use Rattle.std.proofs.lemmas.List.{length_push}
use Rattle.alc.specs.Packet.{Packet}
use Rattle.alc.specs.Reading.{Reading}
use Rattle.alc.specs.declared.fault.PacketFault.{PacketFault}
use Rattle.inventory.specs.Tally.{pair_cmp}
use Rattle.inventory.specs.Tallies.{IsTallyAt}
use Rattle.inventory.specs.Tells.{named_by}
use Rattle.inventory.proofs.Steps.{faults_more, packets_with_fault}
use Rattle.inventory.proofs.collecting.Summary.add.Goals as goal

pub invariant_of-self : goal.invariant_of-self
invariant_of-self c = record { few = λ key tally is. let small = c.args.self.now.few key tally is in omega (arith, small) }

pub returns-in_ok-push-in-Err : goal.returns-in_ok-push-in-Err
returns-in_ok-push-in-Err c = λ rs told.
    let longer = length_push {X = Reading} rs (Err c.in-Err.fault) in
    let read = told.read in (
      Err c.in-Err.fault,
      c.in-Err.ensures.reads,
      record {
        read = omega (arith, longer, read);
        tallies = λ q. subst (λ (xs : List (ℕ × Packet)). IsTallyAt xs (get pair_cmp c.args.self.now.tallies q)) (sym (packets_with_fault (named_by q) rs c.in-Err.fault)) (told.tallies q);
        faults = c.in_ok-push-in-Err.ensures.items ∙ ap (λ (es : List PacketFault). es ++ c.in-Err.fault ∷ []) told.faults ∙ sym (faults_more rs (Err c.in-Err.fault));
      },
    )
