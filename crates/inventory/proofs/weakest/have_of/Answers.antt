use Rattle.std.proofs.Common.{◌∙◌, ◌+◌, ℕ, sym, ap, arith, add-one, refl}
use Rattle.std.specs.BTreeSet.{contains}
use Rattle.lists.specs.Below.{below}
use Rattle.inventory.specs.Tally.{pair_cmp}
use Rattle.inventory.proofs.Blocks.{one_more, none_more}
use Rattle.inventory.proofs.weakest.have_of.Goals as goal
use Rattle.inventory.proofs.weakest.have_of.Goals.{then-contains, else-contains}

pub loop-esi-init : goal.loop-esi-init
unfolding below
loop-esi-init c = record { few = omega arith; counts = refl }

pub loop-esi-preserved : goal.loop-esi-preserved
loop-esi-preserved c =
    let t = λ (j : ℕ). contains pair_cmp c.args.symbols.now (c.args.block, j) in
    elim c.if-contains.branch [
      | then-contains w ↦
          (let is = w.have-is in
          let before = c.loop-esi.invariant.few in
          record {
            few = omega (arith, is, before);
            counts = rw add-one (w.have-is ∙ ap (λ (x : ℕ). x + 1) c.loop-esi.invariant.counts ∙ sym (one_more t c.loop-esi.esi (sym c.contains.ensures ∙ w.if-contains.true)));
          })
      | else-contains w ↦
          (let is = w.have-is in
          let before = c.loop-esi.invariant.few in
          record {
            few = omega (arith, is, before);
            counts = rw add-one (w.have-is ∙ c.loop-esi.invariant.counts ∙ sym (none_more t c.loop-esi.esi (sym c.contains.ensures ∙ w.if-contains.false)));
          })
    ]
