use Rattle.std.proofs.Common.{◌≡◌, ◌+◌, ◌-◌, ◌*◌, ◌∙◌, length, ap, arith}
use Rattle.partition.specs.Fti.{Fti, source_count}
use Rattle.certificate.specs.BlockSymbols.{AreSymbols}
use Rattle.certificate.proofs.GreatestBlock.{few_symbols, with_repair}
use Rattle.certified_symbols.proofs.RepairSymbols.{next_kept}
use Rattle.certified_symbols.proofs.repair_symbols.RepairSymbols.make_next.Goals as goal

pub overflow_add-k : goal.overflow_add-k
overflow_add-k c =
    let z = c.args.latest.now.certificate in
    let s = c.args.self.now in
    let kept = c.requires.kept in
    let k_is = c.k-k.ensures.value ∙ ap (λ (f : Fti). source_count f s.blocks) c.fti.ensures.value in
    let few = few_symbols z.fti kept.valid.fti (c.k-k.result + s.count) (with_repair z.fti kept.valid.fti s.blocks c.k-k.result s.count k_is kept.most) in
    omega (arith, few)

pub make-requires-clause-few : goal.make-requires-clause-few
make-requires-clause-few c =
    let z = c.args.latest.now.certificate in
    let s = c.args.self.now in
    let kept = c.requires.kept in
    let k_is = c.k-k.ensures.value ∙ ap (λ (f : Fti). source_count f s.blocks) c.fti.ensures.value in
    with_repair z.fti kept.valid.fti s.blocks c.k-k.result s.count k_is kept.most

pub returns-in-Ok-clause-kept : goal.returns-in-Ok-clause-kept
returns-in-Ok-clause-kept c =
    let z = c.args.latest.now.certificate in
    let s = c.args.self.now in
    let k_is = c.k-k.ensures.value ∙ ap (λ (f : Fti). source_count f s.blocks) c.fti.ensures.value in
    let here : AreSymbols z s.blocks (0 + c.k-k.result) (c.k-k.result + s.count - c.k-k.result) c.symbols_from.result.now = rw c.make.ensures at c.symbols_from.ensures.certified in
    let whole : length c.symbols_from.result.now ≡ (c.k-k.result + s.count - c.k-k.result) * z.fti.symbol_length = rw c.make.ensures at c.symbols_from.ensures.len in
    rw c.in-Ok.ensures.items
    (next_kept z s.count s.blocks c.k-k.result s.bytes.items c.symbols_from.result.now c.requires.kept c.requires.block k_is here whole)
