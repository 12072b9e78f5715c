use Rattle.std.proofs.Common.{◌∙◌, List, ap, sym, get_or, ◌++◌}
use Rattle.std.proofs.lemmas.List.{take_all}
use Rattle.std.specs.Prelude.{flat_map}
use Rattle.alc.specs.declared.fault.PacketFault.{PacketFault}
use Rattle.alc.specs.declared.fault.PacketFault.TheVariants.{TooShort}
use Rattle.inventory.specs.Faults.{count_of, fault_counts}
use Rattle.inventory.specs.declared.faults.TheConstants.{FAULTS}
use Rattle.inventory.proofs.Told.{faults_are, one_fault_more}
use Rattle.inventory.proofs.collecting.Summary.fault_counts.Goals as goal

pub loop-fault-preserved : goal.loop-fault-preserved
loop-fault-preserved c =
    one_fault_more c.args.self.now.faults.items FAULTS c.loop-fault.fault-index TooShort c.loop-fault.counts.items c.put_count.new.counts.items c.loop-fault-test.true c.loop-fault.invariant
    (c.in_ok-put_count.ensures ∙ ap (λ (fs : List PacketFault). c.loop-fault.counts.items ++ count_of fs (get_or FAULTS c.loop-fault.fault-index TooShort)) c.deref.ensures.value)

pub returns : goal.returns
returns c = λ rs told.
    c.loop-fault.invariant
    ∙ ap (flat_map (count_of c.args.self.now.faults.items)) (take_all c.loop-fault.fault-index FAULTS c.loop-fault-test.false ∙ sym faults_are)
    ∙ ap fault_counts told.faults
