use Rattle.std.proofs.Common.{refl, ap, ◌∙◌, Some}
use Rattle.std.specs.Option.{option_map}
use Rattle.host.specs.Files.{after_files}
use Rattle.host.proofs.Found.{found_here, found_before}
use Rattle.host.proofs.memory.MemoryHost.get.Goals as goal
use Rattle.host.proofs.memory.MemoryHost.get.Goals.{then-eq, else-eq}

pub loop-known-init : goal.loop-known-init
unfolding after_files
loop-known-init c = refl

pub loop-known-preserved : goal.loop-known-preserved
loop-known-preserved c =
    elim c.if-eq.branch [
      | then-eq w ↦
          ap (option_map (λ bytes. bytes.now)) w.found-is ∙ ap Some w.as_slice.ensures.value
          ∙ found_here c.deref-known-items.result.now c.loop-known.known-index c.loop-known-item.result c.args.name.now c.as_str.result.now c.eq.result
          c.loop-known-test.true c.loop-known-item.is c.as_str.ensures.value c.eq.ensures w.if-eq.true
      | else-eq w ↦
          ap (option_map (λ bytes. bytes.now)) w.found-is ∙ c.loop-known.invariant
          ∙ found_before c.deref-known-items.result.now c.loop-known.known-index c.loop-known-item.result c.args.name.now c.as_str.result.now c.eq.result
          c.loop-known-test.true c.loop-known-item.is c.as_str.ensures.value c.eq.ensures w.if-eq.false
    ]
