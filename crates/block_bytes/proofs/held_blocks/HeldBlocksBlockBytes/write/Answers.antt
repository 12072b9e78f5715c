use Rattle.std.specs.BTreeMap.{get}
use Rattle.std.specs.Ordering.{nat_cmp}
use Rattle.std.proofs.Common.{◌≡◌, Some, sym, rules}
use Rattle.block_bytes.proofs.Held.{was_in, put_in, other_number}
use Rattle.block_bytes.proofs.held_blocks.HeldBlocksBlockBytes.write.Goals as goal

pub returns-in-Ok-clause-put : goal.returns-in-Ok-clause-put
returns-in-Ok-clause-put c =
    let b = c.args.block in
    let now = c.get_or_insert_with-blocks.result.now in
    let was : get nat_cmp c.get_or_insert_with-blocks.result.now c.args.block ≡ Some c.in-Some.held.now = sym c.in-Some.ensures.value in
    let updates = (c.get_mut.follows.holds c.put.new.held).3 (search rules) in
    put_in c.args.self.now.blocks now (c.get_mut.follows.lender c.put.new.held) b c.args.from c.args.bytes.now c.in-Some.held.now c.put.new.held
    (was_in c.args.self.now.blocks now (λ p a. search rules) c.get_or_insert_with-blocks.ensures.cases)
    (λ a ne. updates.2 a (other_number b a ne))
    was updates.1 c.in-Ok.ensures.put
