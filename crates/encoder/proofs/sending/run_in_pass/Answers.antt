use Rattle.std.proofs.Common.{◌<◌, ◌≤◌, ◌∙◌, sym, arith}
use Rattle.partition.specs.Fti.{encoding_count}
use Rattle.encoder.proofs.InPasses.{one_run, no_run, first_most}
use Rattle.encoder.proofs.Sent.{with_pair, without_pair}
use Rattle.encoder.proofs.sending.run_in_pass.Goals as goal

pub returns-in-Blocks-clause-most : goal.returns-in-Blocks-clause-most
returns-in-Blocks-clause-most c =
    let most = first_most c.args.fti.now c.requires.valid c.args.block in
    rw c.in-Blocks.is (omega (arith, most, c.n-n.ensures.value))

pub returns-then-esi-n-clause-pairs : goal.returns-then-esi-n-clause-pairs
returns-then-esi-n-clause-pairs c =
    let has : c.args.pass < encoding_count c.args.fti.now c.args.block = omega (arith, c.if-esi-n.true, c.from-esi.ensures, c.n-n.ensures.value) in
    rw (c.in-Rounds.is, c.from-esi.ensures) (one_run c.args.block c.args.pass ∙ sym (with_pair c.args.fti.now c.args.pass c.args.block has))

pub returns-else-esi-n-clause-pairs : goal.returns-else-esi-n-clause-pairs
returns-else-esi-n-clause-pairs c =
    let none : encoding_count c.args.fti.now c.args.block ≤ c.args.pass = omega (arith, c.if-esi-n.false, c.from-esi.ensures, c.n-n.ensures.value) in
    rw c.in-Rounds.is (no_run c.args.block 0 ∙ sym (without_pair c.args.fti.now c.args.pass c.args.block none))
