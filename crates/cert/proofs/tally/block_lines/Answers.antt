use Rattle.std.proofs.Common.{◌∙◌, ◌++◌, ◌∷◌, [], ℕ, List, map, sym, ap}
use Rattle.lists.specs.Below.{below}
use Rattle.losses.specs.Groups.{groups_of, group_at}
use Rattle.cert.specs.Scan.{line_in}
use Rattle.cert.proofs.Bridge.{map_below_more}
use Rattle.cert.proofs.tally.block_lines.Goals as goal

pub loop-block-init : goal.loop-block-init
unfolding below
loop-block-init c = record { lines = c.new-blocks.ensures.items }

pub loop-block-preserved : goal.loop-block-preserved
loop-block-preserved c = record {
  lines =
      c.in_ok-push.ensures.items
      ∙ ap (λ (ls : List (ℕ × ℕ)). ls ++ (c.need.result, c.different.result) ∷ []) c.loop-block.invariant.lines
      ∙ ap (λ (n : ℕ). map (line_in (groups_of c.args.groups.now)) (below c.loop-block.block) ++ (n, c.different.result) ∷ []) c.need.ensures
      ∙ ap (λ (n : ℕ). map (line_in (groups_of c.args.groups.now)) (below c.loop-block.block) ++ ((group_at (groups_of c.args.groups.now) c.loop-block.block).need, n) ∷ []) c.different.ensures
      ∙ sym (map_below_more (line_in (groups_of c.args.groups.now)) c.loop-block.block);
}
